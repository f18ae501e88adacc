use Rattle.std.proofs.Common.{arith}
use Rattle.nr_emission.proofs.Sent.{on_err}
use Rattle.nr_machine.proofs.Transactions.{none_yet, one_further, so_far}
use Rattle.nr_machine.proofs.running.run_all.Goals as goal

pub returns-in_err-run_next-clause-partly : goal.returns-in_err-run_next-clause-partly
returns-in_err-run_next-clause-partly g c =
    on_err c.from_residual.result _
    (so_far g.S.Sink.after c.args.node c.args.answered _ c.args.now c.args.commands.now c.args.keyspace.now c.args.database.now c.args.watches.now c.args.out.now c.loop-cmd.cmd-index c.cmd-item.result
    _ _ _ _ c.run_next.new.out _ (omega arith) c.cmd-item.is c.loop-cmd.invariant c.in_err-run_next.ensures.partly)

pub loop-cmd-init : goal.loop-cmd-init
loop-cmd-init g c = rw c.new-replies.ensures.items (none_yet g.S.Sink.after c.args.node c.args.answered _ c.args.now c.args.commands.now c.args.keyspace.now c.args.database.now c.args.watches.now c.args.out.now)

pub loop-cmd-preserved : goal.loop-cmd-preserved
loop-cmd-preserved g c =
    one_further g.S.Sink.after c.args.node c.args.answered _ c.args.now c.args.commands.now c.args.keyspace.now c.args.database.now c.args.watches.now c.args.out.now c.loop-cmd.cmd-index c.cmd-item.result
    _ _ _ _ _ _ _ _ _ _ (omega arith) c.cmd-item.is c.loop-cmd.invariant c.in_ok-run_next.ensures.ran
