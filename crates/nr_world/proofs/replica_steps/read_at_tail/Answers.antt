use Rattle.std.proofs.Common.{sym, ◌∙◌, subst}
use Rattle.nr_world.specs.Served.{node_seen}
use Rattle.nr_world.specs.Whole.{IsWhole}
use Rattle.nr_world.proofs.Joined.{looked_down}
use Rattle.nr_world.proofs.Kept.{paired_long}
use Rattle.nr_world.proofs.Replayed.{read_looked}
use Rattle.nr_world.proofs.replica_steps.read_at_tail.Goals as goal

pub returns-then-is_down-clause-looked : goal.returns-then-is_down-clause-looked
returns-then-is_down-clause-looked c = λ all is.
    looked_down c.args.node.now.replica.node _ all (node_seen c.args.node.now) (node_seen c.catch_up.new.node) (c.catch_up.ensures.ahead all is)
    c.requires.tail (sym c.is_down.ensures ∙ c.if-is_down.true)

pub run_reads-requires-clause-clients : goal.run_reads-requires-clause-clients
run_reads-requires-clause-clients c =
    paired_long c.catch_up.new.node.replica.node 0 c.catch_up.new.node.sessions c.catch_up.new.node.replica.members c.catch_up.ensures.within.whole.pairs

pub returns-clause-looked : goal.returns-clause-looked
returns-clause-looked c = λ all is.
    read_looked c.args.log.now c.args.node.now c.catch_up.new.node c.run_reads.new.self all c.catch_up.ensures.number c.requires.tail
    (c.catch_up.ensures.ahead all is) (sym c.is_down.ensures ∙ c.if-is_down.false) (c.in_ok-run_reads.ensures.run _)

pub returns-clause-whole : goal.returns-clause-whole
returns-clause-whole c =
    c.in_ok-run_reads.ensures.whole c.args.node.now.replica.node
    (subst (λ k. IsWhole k c.catch_up.new.node) c.catch_up.ensures.number c.catch_up.ensures.within.whole)
