use Rattle.nr_entry.specs.Jobs.{connection_of}
use Rattle.nr_entry.proofs.Choosing.{one_run_behind, or_from, or_else}
use Rattle.nr_entry.proofs.runs.is_behind.Goals as goal
use Rattle.nr_entry.proofs.runs.is_behind.Goals.{then-found, else-found}

pub loop-run-preserved : goal.loop-run-preserved
loop-run-preserved c =
    one_run_behind c.args.updates (connection_of c.args.conn) c.args.before.now c.loop-run.run-index c.run-item.result c.loop-run.found c.if-found.found c.loop-run-test.true c.run-item.is c.loop-run.invariant
    (elim c.if-found.branch [
      | then-found w ↦ or_from _ _ _ w.if-found.true w.found-is
      | else-found w ↦ or_else _ _ _ _ w.if-found.false w.found-is w.blocks-found.ensures
    ])
