-- What the updates that lead come to: an entry that is taken, and a place for it in the log.
use Rattle.std.specs.Prelude.{◌≡◌, ◌≢◌, ◌⊎◌, ℕ, ◌≤◌, List, [], ◌∷◌, Option, None}
use Rattle.std.specs.List.{AllByRecursion}
use Rattle.nr_model.specs.Items.{Connection, Item}
use Rattle.nr_model.specs.Entries.{Jobs, entry_jobs, left_by_entry}
use Rattle.nr_entry.specs.Jobs.{items_of}
use Rattle.nr_entry.specs.Shares.{shares_of}
use Rattle.nr_entry.specs.declared.entry.Entry.{Entry}
use Rattle.nr_entry.specs.declared.job.Job.{Job}
use Rattle.nr_log_end.specs.declared.standing.Standing.{Standing}
use Rattle.nr_log_end.specs.Standings.{IsAllFilled, reserved_as}
use Rattle.nr_job_numbers.specs.Stored.{numbers_in}
use Rattle.nr_replica.specs.Replicas.{ReplicaState}
use Rattle.nr_node.specs.declared.next.Next.{Next}
use Rattle.nr_node.specs.Next.{jobs_next}

-- of each connection these have the same jobs, in the same order
abbrev pub AreAlike : Jobs → Jobs → Type 0
AreAlike jobs others = (c : Connection) → numbers_in c jobs ≡ numbers_in c others

-- each is of a connection of the node
abbrev pub AreOfNode : ℕ → Jobs → Type 0
AreOfNode node jobs = AllByRecursion (λ (job : Item). job.connection.node ≡ node) jobs

-- the jobs of the next entry: those of one that found no place before, else the first updates that lead; and what goes on waiting
abbrev pub due_jobs : List Job → List Job → Jobs
due_jobs [] waiting = entry_jobs (items_of waiting)
due_jobs (job ∷ next) waiting = items_of (job ∷ next)

abbrev pub left_jobs : List Job → List Job → Jobs
left_jobs [] waiting = left_by_entry (items_of waiting)
left_jobs (job ∷ next) waiting = items_of waiting

-- what waits is so, and nothing else changed in a replica
pub record LeavesWaiting (left : Jobs) (old new : ReplicaState) : Type 0 where
  pub waiting : items_of new.waiting ≡ left
  pub replica : new ≡ record old { waiting = new.waiting }

-- these are the jobs of the next entry, of which there is one, and it isn't due any more
pub record AreTaken (jobs : List Job) (next : Option Next) (old : ReplicaState) (after : Option Next) (new : ReplicaState) : Type 0 where
  pub due : items_of jobs ≡ due_jobs (jobs_next next) old.waiting
  pub some : due_jobs (jobs_next next) old.waiting ≢ []
  pub none : after ≡ None
  pub left : LeavesWaiting (left_jobs (jobs_next next) old.waiting) old new

-- nothing leads
abbrev pub AreNone : Option Next → ReplicaState → Option Next → ReplicaState → Type 0
AreNone next old after new = (after ≡ None) × (due_jobs (jobs_next next) old.waiting ≡ []) × LeavesWaiting (left_jobs (jobs_next next) old.waiting) old new

-- nothing changed, or there is a next entry, and it is due
abbrev pub AreDue : Option Next → ReplicaState → Option Next → ReplicaState → Type 0
AreDue next old after new = ((after ≡ next) × (new ≡ old))
    ⊎ ((items_of (jobs_next after) ≡ due_jobs (jobs_next next) old.waiting) × LeavesWaiting (left_jobs (jobs_next next) old.waiting) old new
    × (due_jobs (jobs_next next) old.waiting ≢ []))

-- a tail was met that is no less, and nothing else changed
pub record HasMet (s t : Standing) : Type 0 where
  pub seen : s.seen ≤ t.seen
  pub standing : t ≡ record s { seen = t.seen }

-- the number was reserved for the entry of these shares
pub record IsReserved (at : ℕ) (shares : List (Option Entry)) (s t : Standing) : Type 0 where
  pub seen : s.seen ≤ at
  pub standing : t ≡ record (reserved_as at shares s) { unfilled = t.unfilled }

-- the number was reserved just now, for so many nodes
abbrev pub IsFresh : ℕ → ℕ → Standing → Type 0
IsFresh at nodes s = (at ≡ s.at) × ((entry : Entry) × (s.unfilled ≡ shares_of entry nodes))

-- all cells are filled, and nothing else changed
abbrev pub IsFilled : Standing → Standing → Type 0
IsFilled s t = (t ≡ record s { unfilled = t.unfilled }) × IsAllFilled t
