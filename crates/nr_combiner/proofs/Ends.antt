-- Connections of which a node has a job.
use Rattle.std.proofs.Common.{◌≡◌, ℕ, ◌<◌, inl, inr, Bool, true, cond, List, [], ◌∷◌, ◌++◌, map, length, Contains, ap, sym, ◌∙◌, subst, arith, get_or}
use Rattle.std.specs.Prelude.{◌==◌}
use Rattle.std.specs.List.{AllByRecursion, range_with_len}
use Rattle.std.proofs.lemmas.Bool.{cases_Bool, and_parts, eqb-true}
use Rattle.std.proofs.lemmas.List.FromFn.{length-range_with_len}
use Rattle.std.proofs.lemmas.List.Elements.{Contains-append_left}
use Rattle.nr_model.specs.Bytes.{IsBeginningOf}
use Rattle.nr_model.specs.Items.{Connection, Item, same_connection}
use Rattle.nr_model.specs.Entries.{Jobs}
use Rattle.nr_model.specs.Asked.{own_jobs}
use Rattle.nr_model.proofs.JobLists.{All-append}
use Rattle.nr_model.proofs.NodesExecutedLists.{in_middle}
use Rattle.nr_entry.specs.Jobs.{items_of}
use Rattle.nr_entry.specs.declared.batch.Batch.{Batch}
use Rattle.nr_log_end.specs.declared.standing.Standing.{Standing}
use Rattle.nr_log_end.specs.Standings.{record_of}
use Rattle.nr_job_numbers.specs.Stored.{numbers_in}
use Rattle.nr_replica.specs.Members.{worker_of}
use Rattle.nr_slots.specs.declared.view.CombinerPast.{CombinerPast}
use Rattle.nr_slots.specs.declared.view.WorkerPast.{WorkerPast}
use Rattle.nr_slots.specs.Names.{IsTold}
use Rattle.nr_slots.specs.Rule.{no_desk}
use Rattle.nr_node.specs.Level.{NodeState, jobs_reserved, unpassed}
use Rattle.nr_node.specs.Sound.{ServesOpened}
use Rattle.nr_combiner.specs.Heard.{KnowsUnended}
use Rattle.nr_combiner.specs.Pieces.{HasExecuted, HasJobOf, HasOwn}
use Rattle.nr_combiner.specs.Served.{jobs_of, IsLifted, IsOfBatch, IsOwnOfBatch, AllJobs}
use Rattle.nr_combiner.proofs.Handed.{knows_by}

same_is : (a b : Connection) → same_connection a b ≡ true → a ≡ b
same_is a b same =
    let parts = and_parts (a.node == b.node) (a.serial == b.serial) same in
    λ i. record { node = eqb-true a.node b.node parts.0 i; serial = eqb-true a.serial b.serial parts.1 i }

-- one of these is of the connection
pub record OneOf (P : Item → Type 0) (c : Connection) : Type 0 where
  pub job : Item
  pub own : job.connection ≡ c
  pub holds : P job

one_of : (P : Item → Type 0) (c : Connection) (jobs : Jobs) → 0 < length (numbers_in c jobs) → AllByRecursion P jobs → OneOf P c
one_of P c [] some all = absurd (omega (arith, some))
one_of P c (job ∷ jobs) some all = elim (cases_Bool (same_connection job.connection c)) [
  | inl same ↦ record { job = job; own = same_is job.connection c same; holds = all.0 }
  | inr other ↦ one_of P c jobs
      (subst (λ (b : Bool). 0 < length (map (λ (x : Item). x.number) (cond b (job ∷ own_jobs c jobs) (own_jobs c jobs)))) other some) all.1
]

-- what holds of all jobs of a node
all_of : (P : Item → Type 0) (n : NodeState) → AllJobs P n → AllByRecursion P (jobs_of n)
all_of P n a =
    let done = record_of n.seat.standing.history in
    let reserved = jobs_reserved (unpassed n.seat.standing) in
    All-append P (done ++ reserved) (items_of n.next ++ items_of n.replica.waiting) (All-append P done reserved a.done a.reserved)
    (All-append P (items_of n.next) (items_of n.replica.waiting) a.due a.waits)

-- a batch that has a job of the connection lay in the slot of the worker that serves it
is_there : (desks : List CombinerPast) (worker : ℕ) (batch : Batch) → IsLifted desks worker batch → Contains (get_or desks worker no_desk).lifted batch
is_there desks worker batch h = subst (λ (bs : List Batch). Contains bs batch) (sym h.lifted) (in_middle batch h.before h.after)

of_batch : (n : NodeState) (desks : List CombinerPast) (worker : ℕ) (c : Connection) (job : Item) → job.connection ≡ c → worker_of n.replica.members c ≡ worker
    → IsOfBatch n desks job → HasJobOf c (get_or desks worker no_desk).lifted
of_batch n desks worker c job own served b =
    let mine : b.worker ≡ worker = sym b.own.served.1 ∙ ap (worker_of n.replica.members) own ∙ served in
    record {
      batch = b.batch;
      there = is_there desks worker b.batch (subst (λ (w : ℕ). IsLifted desks w b.batch) mine b.lifted);
      job = b.has.item;
      has = b.has.there;
      own = b.has.connection ∙ own;
    }

-- so does one of which a node has a job, where the connection is its own
pub job_lifted : (n : NodeState) (desks : List CombinerPast) (worker next : ℕ) (c : Connection) → c.node ≡ n.book.node → worker_of n.replica.members c ≡ worker
    → numbers_in c (jobs_of n) ≡ range_with_len 0 next → 0 < next → AllJobs (IsOwnOfBatch n desks) n → HasJobOf c (get_or desks worker no_desk).lifted
job_lifted n desks worker next c node served numbers some all =
    let count : length (numbers_in c (jobs_of n)) ≡ next = ap length numbers ∙ length-range_with_len 0 next in
    let one = one_of (IsOwnOfBatch n desks) c (jobs_of n) (omega (arith, count, some)) (all_of (IsOwnOfBatch n desks) n all) in
    of_batch n desks worker c one.job one.own served (one.holds (ap (λ (d : Connection). d.node) one.own ∙ node))

-- of the batches that were posted the first were lifted
job_posted : (c : Connection) (lifted posted : List Batch) → IsBeginningOf lifted posted → HasJobOf c lifted → HasJobOf c posted
job_posted c lifted posted front h = record {
  batch = h.batch;
  there = subst (λ (bs : List Batch). Contains bs h.batch) front.1 (Contains-append_left lifted front.0 h.batch h.there);
  job = h.job;
  has = h.has;
  own = h.own;
}

-- so a worker knows of one, told of a note
pub knows_unended : (c : Connection) (s : Standing) (lane : WorkerPast) (desks : List CombinerPast) (worker seat : ℕ) (desk : CombinerPast) → worker ≡ seat → desk ≡ get_or desks seat no_desk
    → IsTold (get_or desks seat no_desk) lane → HasExecuted (get_or desks worker no_desk) s → HasOwn worker (get_or desks worker no_desk) s → ServesOpened s worker c
    → HasJobOf c (get_or desks worker no_desk).lifted → KnowsUnended seat c desk s lane
knows_unended c s lane desks worker seat desk is kept told executed own serves job = record {
  knows = knows_by s lane desks worker seat desk is kept told executed own;
  serves = subst (λ (k : ℕ). ServesOpened s k c) is serves;
  posted = job_posted c (get_or desks seat no_desk).lifted lane.posted told.0 (subst (λ (k : ℕ). HasJobOf c (get_or desks k no_desk).lifted) is job);
}
