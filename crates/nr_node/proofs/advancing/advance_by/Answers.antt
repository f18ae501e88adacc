use Rattle.std.proofs.Common.{◌≡◌, true, false, arith}
use Rattle.nr_node.proofs.Advances.{went_none, went_more, met_on, stopped_then}
use Rattle.nr_node.proofs.advancing.advance_by.Goals as goal

pub loop-init : goal.loop-init
loop-init g c = (went_none c.args.end.now c.args.replica.now c.args.next.now c.args.accounts.now c.requires.idle, λ some. absurd (omega (arith, some)))

pub loop-preserved : goal.loop-preserved
loop-preserved g c =
    let one = c.advance_unless_held in
    let went : one.result ≡ true = search (c.if-not-advance_unless_held.false) in (
      went_more c.loop.counter c.args.end.now c.loop.end one.new.end c.args.replica.now c.loop.replica one.new.replica c.args.next.now c.loop.next one.new.next
          c.args.accounts.now c.loop.accounts one.new.accounts c.loop.invariant.0 one.ensures.idle one.ensures.met (one.ensures.some went),
      λ _. one.ensures.log went,
    )

pub returns-then-not-advance_unless_held-clause-met : goal.returns-then-not-advance_unless_held-clause-met
returns-then-not-advance_unless_held-clause-met g c =
    met_on c.args.end.now c.loop.end c.advance_unless_held.new.end (c.loop.invariant.0.seen, c.loop.invariant.0.looks) c.advance_unless_held.ensures.met

pub returns-then-not-advance_unless_held-clause-stopped : goal.returns-then-not-advance_unless_held-clause-stopped
returns-then-not-advance_unless_held-clause-stopped g c = λ _.
    let stopped : c.advance_unless_held.result ≡ false = search (c.if-not-advance_unless_held.true) in
    stopped_then c.args.end.now.looks c.loop.end.looks c.advance_unless_held.new.end c.advance_unless_held.new.replica c.loop.invariant.0.looks
    (c.advance_unless_held.ensures.stopped stopped)
