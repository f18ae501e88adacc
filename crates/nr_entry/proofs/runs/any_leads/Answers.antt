use Rattle.nr_entry.proofs.Choosing.{one_run_more, or_from, or_else}
use Rattle.nr_entry.proofs.runs.any_leads.Goals as goal
use Rattle.nr_entry.proofs.runs.any_leads.Goals.{then-found, else-found}

pub loop-index-preserved : goal.loop-index-preserved
loop-index-preserved c =
    one_run_more c.args.updates c.args.runs.now c.loop-index.index c.index-runs-index.result c.loop-index.found c.if-found.found c.loop-index-test.true c.index-runs-index.is c.loop-index.invariant
    (elim c.if-found.branch [
      | then-found w ↦ or_from _ _ _ w.if-found.true w.found-is
      | else-found w ↦ or_else _ _ _ _ w.if-found.false w.found-is w.leads-found.ensures
    ])
