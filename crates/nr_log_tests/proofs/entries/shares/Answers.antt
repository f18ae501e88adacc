use Rattle.std.proofs.Common.{List, [], ◌∷◌, ◌++◌, ap, ◌∙◌}
use Rattle.nr_entry.specs.declared.job.Job.{Job}
use Rattle.nr_log_tests.proofs.entries.shares.Goals as goal

pub returns-in-Ok : goal.returns-in-Ok
returns-in-Ok c =
    let jobs = c.new.ensures.jobs ∙ c.in_ok-push.ensures.items ∙ ap (λ (js : List Job). js ++ c.close.result ∷ []) c.in_ok-jobs.ensures.items in
    (c.new.result, c.in-Ok.ensures.ok, c.new.ensures.node, (c.close.result, jobs, c.close.ensures.number))
