use Rattle.std.proofs.Common.{rules, ◌≡◌, ◌<◌, ◌≤◌, get_or, length, None, ◌∙◌}
use Rattle.nr_model.specs.Entries.{Jobs}
use Rattle.nr_model.specs.Nodes.Steps.{posted_jobs}
use Rattle.nr_entry.specs.Jobs.{connection_of}
use Rattle.nr_world.specs.declared.worker.WorldWorker.{WorldWorker}
use Rattle.nr_world.specs.Workers.{slot_seen}
use Rattle.nr_world.proofs.Dropped.{first_at, none_at, none_left}
use Rattle.nr_world.proofs.dropped_jobs.first_posted.Goals as goal

abbrev jobs_at : WorldWorker → Jobs
jobs_at worker = posted_jobs (slot_seen worker.slot None)

pub returns-in-Some : goal.returns-in-Some
returns-in-Some c =
    let at : c.worker-item.result ≡ get_or c.args.workers.now c.loop-worker.worker-index c.worker-item.result = search rules in
    let within : c.loop-worker.worker-index < length c.args.workers.now = search rules in
    first_at (connection_of c.args.conn) jobs_at c.args.workers.now c.loop-worker.worker-index c.worker-item.result c.in-Some.number within at
    (c.in-Some.ensures None) ∙ c.loop-worker.invariant

pub loop-worker-preserved : goal.loop-worker-preserved
loop-worker-preserved c =
    let at : c.worker-item.result ≡ get_or c.args.workers.now c.loop-worker.worker-index c.worker-item.result = search rules in
    let within : c.loop-worker.worker-index < length c.args.workers.now = search rules in
    none_at (connection_of c.args.conn) jobs_at c.args.workers.now c.loop-worker.worker-index c.worker-item.result within at
    (c.in_default.ensures None) ∙ c.loop-worker.invariant

pub returns : goal.returns
returns c =
    let past : length c.args.workers.now ≤ c.loop-worker.worker-index = search rules in
    none_left (connection_of c.args.conn) jobs_at c.args.workers.now c.loop-worker.worker-index past ∙ c.loop-worker.invariant
