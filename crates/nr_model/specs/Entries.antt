-- Entries of the operation log, and which of the waiting jobs the next one takes (Calciu et al. 2017: the combiner appends a batch of updates).
use Rattle.std.specs.Prelude.{ℕ, zero, suc, Bool, true, false, not, ◌&&◌, cond, max, List, [], ◌∷◌, ◌++◌, map, take, fold}
use Rattle.std.specs.List.{list_any}
use Rattle.nr_model.specs.Items.{Connection, same_connection, Item, is_update}

-- a job: a deed that waits to be executed; its moment is its own
abbrev pub Jobs : Type 0
Jobs = List Item

abbrev pub most_entry_jobs : ℕ
most_entry_jobs = 1024

-- one of the jobs is a read of that connection, or an update of it
abbrev pub has_read_of : Connection → Jobs → Bool
has_read_of c jobs = list_any (λ job. same_connection job.connection c && not (is_update job.deed)) jobs

abbrev pub has_update_of : Connection → Jobs → Bool
has_update_of c jobs = list_any (λ job. same_connection job.connection c && is_update job.deed) jobs

-- An update leads where no read of its connection waits before it, and a read where no update of its connection does.
abbrev pub leads_as_update : Jobs → Item → Bool
leads_as_update before job = is_update job.deed && not (has_read_of job.connection before)

abbrev pub leads_as_read : Jobs → Item → Bool
leads_as_read before job = not (is_update job.deed) && not (has_update_of job.connection before)

-- the jobs that lead, and the others, in the order in which they wait behind what was before them
abbrev pub leading : (Jobs → Item → Bool) → Jobs → Jobs → Jobs
leading leads before [] = []
leading leads before (job ∷ jobs) =
    let more = leading leads (before ++ job ∷ []) jobs in cond (leads before job) (job ∷ more) more

abbrev pub not_leading : (Jobs → Item → Bool) → Jobs → Jobs → Jobs
not_leading leads before [] = []
not_leading leads before (job ∷ jobs) =
    let more = not_leading leads (before ++ job ∷ []) jobs in cond (leads before job) more (job ∷ more)

-- the jobs of the next entry: the first 1,024 updates that lead
abbrev pub entry_jobs : Jobs → Jobs
entry_jobs waiting = take most_entry_jobs (leading leads_as_update [] waiting)

-- the jobs that go on waiting after at most so many that lead were taken
abbrev pub left_after : (Jobs → Item → Bool) → ℕ → Jobs → Jobs → Jobs
left_after leads room before [] = []
left_after leads zero before (job ∷ jobs) = job ∷ jobs
left_after leads (suc room) before (job ∷ jobs) =
    elim (leads before job) [
      | true ↦ left_after leads room (before ++ job ∷ []) jobs
      | false ↦ job ∷ left_after leads (suc room) (before ++ job ∷ []) jobs
    ]

abbrev pub left_by_entry : Jobs → Jobs
left_by_entry waiting = left_after leads_as_update most_entry_jobs [] waiting

-- the reads that a look runs: all that lead
abbrev pub read_jobs : Jobs → Jobs
read_jobs waiting = leading leads_as_read [] waiting

abbrev pub left_by_reads : Jobs → Jobs
left_by_reads waiting = not_leading leads_as_read [] waiting

-- the moment of an entry: the greatest of its jobs' moments
abbrev pub entry_moment : Jobs → ℕ
entry_moment jobs = fold (λ m job. max m job.moment) 0 jobs

-- what an entry puts into the sequence: its jobs in their order, each at the entry's moment
abbrev pub entry_items : Jobs → List Item
entry_items jobs = map {A = Item} (λ job. record job { moment = entry_moment jobs }) jobs
