use Rattle.std.proofs.Common.{rules, arith}
use Rattle.nr_node.proofs.Collected.{none_yet, one_further, next_opened, next_waits, next_behind, none_further, all_passed, stopped}
use Rattle.nr_node.proofs.node_core.Core.collect.Goals as goal

pub loop-from-init : goal.loop-from-init
loop-from-init g c = search (rules, none_yet)

pub loop-from-preserved : goal.loop-from-preserved
loop-from-preserved g c = search (rules, one_further)

pub loop-from-smaller : goal.loop-from-smaller
loop-from-smaller g c = omega (arith, next_behind c.args.worker c.loop-from.from c.in-Some.conn.serial c.loop-from.self.replica.members c.in-Some.ensures.some, c.loop-from-test.true)

pub hand_over-requires-clause-opened : goal.hand_over-requires-clause-opened
hand_over-requires-clause-opened g c = search (rules, next_opened)

pub hand_over-requires-clause-waiting : goal.hand_over-requires-clause-waiting
hand_over-requires-clause-waiting g c = search (rules, next_waits)

pub returns-in_default : goal.returns-in_default
returns-in_default g c = search (rules, none_further, c.in_default.ensures.none)

pub returns : goal.returns
returns g c = search (rules, all_passed)

pub returns-in_err-hand_over : goal.returns-in_err-hand_over
returns-in_err-hand_over g c =
    stopped c.args.worker c.args.most c.loop-from.from c.in-Some.conn.serial c.args.taken.now.items c.loop-from.taken.items c.hand_over.new.taken.items c.args.self.now
    c.loop-from.self c.hand_over.new.self c.from_residual.result c.loop-from.invariant c.in-Some.ensures.some c.in_err-hand_over.ensures.same c.from_residual.ensures.0
