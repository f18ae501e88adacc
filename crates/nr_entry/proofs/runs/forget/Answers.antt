use Rattle.std.proofs.Common.{refl, sym, ap, ◌∙◌, arith}
use Rattle.nr_entry.specs.declared.run.Run.{Run}
use Rattle.nr_entry.specs.Runs.{jobs_in}
use Rattle.nr_entry.proofs.Fronts.{forgets_more}
use Rattle.nr_entry.proofs.runs.forget.Goals as goal

pub loop-index-preserved : goal.loop-index-preserved
loop-index-preserved c =
    let f = forgets_more (jobs_in c.args.runs.now) c.loop-index.runs _ c.loop-index.index c.index-runs-index.result _ (record { here = omega arith; is_was = c.index-runs-index.is; is_new = refl }) (c.settle.ensures.jobs ∙ ap (λ (r : Run). r.jobs.items) (sym c.index-runs-index.is)) c.settle.ensures.lent (record { jobs = c.loop-index.invariant.jobs; settled = c.loop-index.invariant.settled }) in
    record { jobs = f.jobs; settled = f.settled }
