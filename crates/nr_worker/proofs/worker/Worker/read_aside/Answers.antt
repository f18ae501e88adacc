use Rattle.std.proofs.Common.{◌≡◌, ◌≤◌, ◌++◌, List, [], take, drop, length, refl, ap, sym, ◌∙◌, subst, arith}
use Rattle.std.specs.Prelude.{IfSome}
use Rattle.nr_entry.specs.declared.job.Job.{Job}
use Rattle.nr_log_end.specs.declared.standing.Standing.{Standing}
use Rattle.nr_slots.specs.Seats.{one_if}
use Rattle.nr_worker.proofs.Beside.{came_back, kept_goes, read_by, read_kept}
use Rattle.nr_worker.proofs.worker.Worker.read_aside.Goals as goal

pub take_in-requires-clause-node : goal.take_in-requires-clause-node
take_in-requires-clause-node g c =
    subst (λ n. IfSome c.self.inside.mark.standing (λ (s : Standing). s.node ≡ n)) (sym c.in-Ok-read.ensures.read.node) c.self.invariant.0.mark

pub invariant_of-self-in-Ok-read : goal.invariant_of-self-in-Ok-read
invariant_of-self-in-Ok-read g c =
    let none : c.self.inside.returned.items ≡ [] = c.are_none.ensures c.if-not-are_none.false in
    let one = ap one_if c.if-self.false in
    let waits = c.self.invariant.0.waits in
    let counted = c.take_in.ensures.count in
    let room = c.self.invariant.2 in
    let kept = c.take_front.ensures.room in (
      read_kept g.B.LogName.places c.args.most c.in-Ok-read.turned c.self.inside.batches _ c.read.new.self c.take_in.new.seats c.take_in.new.mark.standing
          c.in-Ok-read.token.standing c.in-Ok.jobs.items c.self.inside.returned.items c.take_front.new.self.jobs c.take_front.new.self.late c.self.inside.pieces.items
          c.read.new.taken.items c.self.invariant.0 none (omega (arith, waits, one)) c.in-Ok-read.ensures.read c.take_in.ensures.adopted,
      c.take_in.ensures.none,
      omega (arith, counted, room, kept),
    )

pub returns-in-Err-clause-goes : goal.returns-in-Err-clause-goes
returns-in-Err-clause-goes g c =
    let none : c.self.inside.returned.items ≡ [] = c.are_none.ensures c.if-not-are_none.false in
    let all = ap (λ (js : List Job). js ++ c.self.inside.due.jobs) (sym none) in
    kept_goes c.args.self.now _
    (came_back c.args.count c.args.self.now _ c.read.new.self c.in-Err.back.items c.take_front.new.self.jobs c.take_front.new.self.late c.self.view_is
    c.in-Err.ensures.unchanged.0 (c.in-Err.ensures.back ∙ c.in-Ok.ensures.front ∙ ap (λ (js : List Job). take c.args.count js) all)
    (c.in-Ok.ensures.behind ∙ ap (λ (js : List Job). drop c.args.count js) all))

pub returns-in-Ok-read-clause-read : goal.returns-in-Ok-read-clause-read
returns-in-Ok-read-clause-read g c =
    let none : c.self.inside.returned.items ≡ [] = c.are_none.ensures c.if-not-are_none.false in
    let all = ap (λ (js : List Job). js ++ c.self.inside.due.jobs) (sym none) in
    let one = ap one_if c.if-self.false in
    let waits = c.self.invariant.0.waits in
    read_by g.B.LogName.places c.args.count c.args.most c.in-Ok-read.turned c.args.self.now _ c.read.new.self c.take_in.new.seats c.take_in.new.mark.standing
    c.in-Ok-read.token.standing c.in-Ok.jobs.items c.self.inside.returned.items c.take_front.new.self.jobs c.take_front.new.self.late c.self.inside.pieces.items
    c.read.new.taken.items c.self.view_is refl none c.if-self.false c.requires.some
    (subst (λ (js : List Job). c.args.count ≤ length js) all c.in_ok-prepared.ensures.there)
    (c.in-Ok.ensures.front ∙ ap (λ (js : List Job). take c.args.count js) all) (c.in-Ok.ensures.behind ∙ ap (λ (js : List Job). drop c.args.count js) all)
    (omega (arith, waits, one)) c.self.invariant.1 c.in-Ok-read.ensures.read c.take_in.ensures.adopted c.take_in.ensures.met c.take_in.ensures.accepts
