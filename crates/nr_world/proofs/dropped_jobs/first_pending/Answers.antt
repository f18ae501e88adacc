use Rattle.std.proofs.Common.{rules, ◌≡◌, ◌<◌, ◌≤◌, List, get_or, length, None, Some, ap, ◌∙◌}
use Rattle.nr_model.specs.Entries.{Jobs}
use Rattle.nr_model.specs.Asked.{own_jobs, first_number}
use Rattle.nr_entry.specs.declared.job.Job.{Job}
use Rattle.nr_entry.specs.Jobs.{connection_of, items_of}
use Rattle.nr_world.specs.declared.worker.WorldWorker.{WorldWorker}
use Rattle.nr_world.proofs.Dropped.{first_at, none_at, none_left}
use Rattle.nr_world.proofs.dropped_jobs.first_pending.Goals as goal

abbrev jobs_at : WorldWorker → Jobs
jobs_at worker = items_of worker.pending.items

pub returns-in-Some : goal.returns-in-Some
returns-in-Some c =
    let at : c.worker-item.result ≡ get_or c.args.workers.now c.loop-worker.worker-index c.worker-item.result = search rules in
    let within : c.loop-worker.worker-index < length c.args.workers.now = search rules in
    let first : Some c.in-Some.number ≡ first_number (own_jobs (connection_of c.args.conn) (jobs_at c.worker-item.result)) =
    c.in-Some.ensures ∙ ap (λ (jobs : List Job). first_number (own_jobs (connection_of c.args.conn) (items_of jobs))) c.deref.ensures.value in
    first_at (connection_of c.args.conn) jobs_at c.args.workers.now c.loop-worker.worker-index c.worker-item.result c.in-Some.number within at
    first ∙ c.loop-worker.invariant

pub loop-worker-preserved : goal.loop-worker-preserved
loop-worker-preserved c =
    let at : c.worker-item.result ≡ get_or c.args.workers.now c.loop-worker.worker-index c.worker-item.result = search rules in
    let within : c.loop-worker.worker-index < length c.args.workers.now = search rules in
    let none : None ≡ first_number (own_jobs (connection_of c.args.conn) (jobs_at c.worker-item.result)) =
    c.in_default.ensures ∙ ap (λ (jobs : List Job). first_number (own_jobs (connection_of c.args.conn) (items_of jobs))) c.deref.ensures.value in
    none_at (connection_of c.args.conn) jobs_at c.args.workers.now c.loop-worker.worker-index c.worker-item.result within at none ∙ c.loop-worker.invariant

pub returns : goal.returns
returns c =
    let past : length c.args.workers.now ≤ c.loop-worker.worker-index = search rules in
    none_left (connection_of c.args.conn) jobs_at c.args.workers.now c.loop-worker.worker-index past ∙ c.loop-worker.invariant
