-- Batches are lifted and answered: what a combiner keeps.
use Rattle.std.proofs.Common.{◌≡◌, ℕ, ◌≤◌, true, List, [], ◌∷◌, ◌++◌, length, arith}
use Rattle.std.specs.List.{AllByRecursion}
use Rattle.std.proofs.lemmas.Bool.{and_parts, eqb-true}
use Rattle.std.specs.Prelude.{◌==◌}
use Rattle.std.specs.FinMap as finmap
use Rattle.nr_model.specs.Items.{Item, Sequence}
use Rattle.nr_model.specs.Entries.{Jobs}
use Rattle.nr_entry.specs.Jobs.{items_of}
use Rattle.nr_entry.specs.declared.batch.Batch.{Batch}
use Rattle.nr_entry.specs.declared.batch.Answer.{Answer}
use Rattle.nr_entry.specs.declared.batch.Outcome.TheVariants.{Executed}
use Rattle.nr_job_numbers.specs.Stored.{Held, takes_by, takes_one, takes_all, taken_one}
use Rattle.nr_combiner.specs.Served.{StandIn, AreExecuted}

-- ---- jobs that were taken are of connections of the node
pub all_of_node : (node worker : ℕ) (held : Held) (jobs : Jobs) → takes_all node worker held jobs ≡ true → AllByRecursion (λ (job : Item). job.connection.node ≡ node) jobs
all_of_node node worker held [] all = tt
all_of_node node worker held (job ∷ jobs) all =
    let parts = and_parts (takes_one node worker held job) (takes_all node worker (taken_one held job) jobs) all in
    let own = (and_parts (job.connection.node == node) (takes_by worker job (finmap.get held job.connection.serial)) parts.0).0 in
    (eqb-true job.connection.node node own, all_of_node node worker (taken_one held job) jobs parts.1)

-- ---- answers behind batches
pub executed_more : (r : Sequence) (batches : List Batch) (b : Batch) (answers : List Answer) → length answers ≤ length batches
    → AreExecuted r batches answers → AreExecuted r (batches ++ b ∷ []) answers
executed_more r [] b [] h all = tt
executed_more r [] b (a ∷ answers) h all = absurd (omega arith)
executed_more r (x ∷ batches) b [] h all = tt
executed_more r (x ∷ batches) b (a ∷ answers) h all = (all.0, executed_more r batches b answers (omega arith) all.1)

pub executed_front : (r : Sequence) (batches : List Batch) (b : Batch) (answers : List Answer) → length answers ≤ length batches
    → AreExecuted r (batches ++ b ∷ []) answers → AreExecuted r batches answers
executed_front r [] b [] h all = tt
executed_front r [] b (a ∷ answers) h all = absurd (omega arith)
executed_front r (x ∷ batches) b [] h all = tt
executed_front r (x ∷ batches) b (a ∷ answers) h all = (all.0, executed_front r batches b answers (omega arith) all.1)

pub executed_answered : (r : Sequence) (batches : List Batch) (b : Batch) (answers : List Answer) (a : Answer) → length answers ≡ length batches
    → (a.outcome ≡ Executed → StandIn r (items_of b.jobs.items)) → AreExecuted r batches answers → AreExecuted r (batches ++ b ∷ []) (answers ++ a ∷ [])
executed_answered r [] b [] a h stand all = (stand, tt)
executed_answered r [] b (x ∷ answers) a h stand all = absurd (omega (arith, h))
executed_answered r (y ∷ batches) b [] a h stand all = absurd (omega (arith, h))
executed_answered r (y ∷ batches) b (x ∷ answers) a h stand all = (all.0, executed_answered r batches b answers a (omega (arith, h)) stand all.1)
