use Rattle.nr_session.proofs.Fronts.{on_err}
use Rattle.nr_session.proofs.Going.{going_refused}
use Rattle.nr_session.proofs.jobs.push_jobs.Goals as goal

pub returns-in_err-push_job-clause-err : goal.returns-in_err-push_job-clause-err
returns-in_err-push_job-clause-err c =
    on_err c.from_residual.result _
    (rw (c.in_err-push_job.ensures.err, c.in_err-push_job.ensures.numbered) (going_refused _ _ _ _ _ _ _ _ _ _ c.loop-frame.invariant))
