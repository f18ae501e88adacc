-- What is owed of batches, by the node's clients and by its replica's members.
use Rattle.std.proofs.Common.{◌≡◌, ℕ, zero, suc, cond, List, [], ◌∷◌, length, get_or, refl, ap, sym, ◌∙◌, arith, Option, Some, None}
use Rattle.std.specs.Prelude.{◌==◌}
use Rattle.nr_model.specs.Items.{Connection}
use Rattle.nr_model.specs.Entries.{Jobs}
use Rattle.nr_model.specs.Nodes as nodes
use Rattle.nr_model.specs.Nodes.Steps as steps
use Rattle.nr_session.specs.SessionState.{SessionState}
use Rattle.nr_replica.specs.Members.{Member, fresh_member, jobs_of_worker}
use Rattle.nr_replica.specs.Replicas.{owing_less, owed_from}
use Rattle.nr_world.specs.declared.worker.Slot.{Slot}
use Rattle.nr_world.specs.declared.worker.Slot.TheVariants.{Empty, Posted, Lifted, Answered}
use Rattle.nr_world.specs.declared.worker.WorldWorker.{WorldWorker}
use Rattle.nr_world.specs.Workers.{slot_seen, worker_seen}
use Rattle.nr_world.specs.Served.{clients_seen, workers_seen}

who : (sessions : List SessionState) (members : List Member) (i : ℕ) (c : Connection) → length sessions ≡ length members
    → (get_or (clients_seen sessions members) i (nodes.fresh_client 0 0 c)).worker ≡ (get_or members i (fresh_member c 0 0)).worker
who [] [] i c h = refl
who [] (m ∷ members) i c h = absurd (omega arith)
who (s ∷ sessions) [] i c h = absurd (omega arith)
who (s ∷ sessions) (m ∷ members) zero c h = refl
who (s ∷ sessions) (m ∷ members) (suc i) c h = who sessions members i c (omega arith)

same_jobs : (w : ℕ) (sessions : List SessionState) (members : List Member) (jobs : Jobs) → length sessions ≡ length members
    → steps.jobs_of_worker w (clients_seen sessions members) jobs ≡ jobs_of_worker w members jobs
same_jobs w sessions members [] h = refl
same_jobs w sessions members (job ∷ jobs) h =
    let more = same_jobs w sessions members jobs h in
    let first = who sessions members job.connection.serial job.connection h in
    λ i. cond (first i == w) (job ∷ more i) (more i)

less : (n : ℕ) (slot : Slot) (owed : Option ℕ) → slot_seen slot (owing_less n owed) ≡ steps.owing_less n (slot_seen slot owed)
less n Empty owed = refl
less n (Posted jobs) owed = refl
less n Lifted None = ap nodes.Lifted (omega arith)
less n Lifted (Some owed) = refl
less n (Answered executed) owed = refl

pub executed_is : (w : ℕ) (sessions : List SessionState) (members : List Member) (jobs : Jobs) (workers : List WorldWorker) (owed : List (Option ℕ)) → length sessions ≡ length members
    → workers_seen workers (owed_from w members jobs owed) ≡ steps.executed_from w (clients_seen sessions members) jobs (workers_seen workers owed)
executed_is w sessions members jobs [] owed h = refl
executed_is w sessions members jobs (worker ∷ workers) [] h = refl
executed_is w sessions members jobs (worker ∷ workers) (o ∷ owed) h =
    let more = executed_is (suc w) sessions members jobs workers owed h in
    let first : worker_seen worker (owing_less (length (jobs_of_worker w members jobs)) o) ≡ record (worker_seen worker o) { slot = steps.owing_less (length (steps.jobs_of_worker w (clients_seen sessions members) jobs)) (slot_seen worker.slot o) } =
    ap (λ (slot : nodes.Slot). record (worker_seen worker o) { slot = slot }) (less (length (jobs_of_worker w members jobs)) worker.slot o)
    ∙ ap (λ (js : Jobs). record (worker_seen worker o) { slot = steps.owing_less (length js) (slot_seen worker.slot o) }) (sym (same_jobs w sessions members jobs h)) in
    λ i. first i ∷ more i
