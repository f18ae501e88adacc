-- Runs of jobs, each of one connection.
use Rattle.std.specs.Prelude.{ℕ, zero, suc, ◌+◌, ◌-◌, ◌≤◌, Bool, true, false, not, ◌||◌, ◌==◌, Option, Some, None, List}
use Rattle.std.specs.Prelude.{[], ◌∷◌, ◌++◌, length, take, drop, replicate}
use Rattle.std.specs.List.{list_any}
use Rattle.std.specs.BTreeSet.{contains}
use Rattle.std.specs.VecDeque.{deque_len}
use mathlib.Core.Bool.{beq}
use Rattle.nr_model.specs.Items.{Connection, same_connection, is_update}
use Rattle.nr_model.specs.Entries.{Jobs}
use Rattle.nr_entry.specs.declared.blocked.Blocked.{Blocked}
use Rattle.nr_entry.specs.declared.conn.ConnId.{ConnId}
use Rattle.nr_entry.specs.declared.job.Job.{Job}
use Rattle.nr_entry.specs.declared.run.Run.{Run}
use Rattle.nr_entry.specs.Jobs.{connection_of, conn_cmp, items_of}

-- the jobs that are here, in order
abbrev pub jobs_in : List Run → List Job
jobs_in [] = []
jobs_in (run ∷ runs) = run.jobs.items ++ jobs_in runs

-- so many jobs are lent
abbrev pub lent_in : List Run → ℕ
lent_in [] = 0
lent_in (run ∷ runs) = run.lent + lent_in runs

-- the first ones of a run have a mark, the others none
abbrev pub spread : ℕ → ℕ → List Bool
spread first others = replicate first true ++ replicate others false

-- for each job whether it is lent: in each run the first ones are
abbrev pub gaps_in : List Run → List Bool
gaps_in [] = []
gaps_in (run ∷ runs) = spread run.lent (length run.jobs.items) ++ gaps_in runs

-- the connections of the lent ones
abbrev pub owners_in : List Run → List Connection
owners_in [] = []
owners_in (run ∷ runs) = replicate run.lent (connection_of run.conn) ++ owners_in runs

abbrev pub gaps_where : ℕ → List Run → List Bool
gaps_where zero runs = []
gaps_where (suc lent) runs = gaps_in runs

-- the first so many of each run, their connections, the others, and the marks
abbrev pub owners_of : List ℕ → List Run → List Connection
owners_of [] runs = []
owners_of (count ∷ counts) [] = []
owners_of (count ∷ counts) (run ∷ runs) = replicate count (connection_of run.conn) ++ owners_of counts runs

abbrev pub first_of : List ℕ → List Run → List Job
first_of [] runs = []
first_of (count ∷ counts) [] = []
first_of (count ∷ counts) (run ∷ runs) = take count run.jobs.items ++ first_of counts runs

abbrev pub others_of : List ℕ → List Run → List Job
others_of [] runs = []
others_of (count ∷ counts) [] = []
others_of (count ∷ counts) (run ∷ runs) = drop count run.jobs.items ++ others_of counts runs

abbrev pub marks_of : List ℕ → List Run → List Bool
marks_of [] runs = []
marks_of (count ∷ counts) [] = []
marks_of (count ∷ counts) (run ∷ runs) = spread count (length run.jobs.items - count) ++ marks_of counts runs

-- how many jobs of a kind stand in front, at most so many of them
abbrev pub front : Bool → ℕ → Jobs → ℕ
front updates zero jobs = 0
front updates (suc most) [] = 0
front updates (suc most) (job ∷ jobs) = elim (beq (is_update job.deed) updates) [ true ↦ suc (front updates most jobs) | false ↦ 0 ]

-- the job at a place is of a kind
abbrev pub is_kind_at : Bool → ℕ → Jobs → Bool
is_kind_at updates index [] = false
is_kind_at updates zero (job ∷ jobs) = beq (is_update job.deed) updates
is_kind_at updates (suc index) (job ∷ jobs) = is_kind_at updates index jobs

-- a run begins with a job of a kind
abbrev pub any_begins : Bool → List Run → Bool
any_begins updates runs = list_any (λ run. is_kind_at updates 0 (items_of run.jobs.items)) runs

-- there is a count for each run, and each run has so many jobs
abbrev pub IsWithin : List ℕ → List Run → Type 0
IsWithin [] [] = Unit {0}
IsWithin [] (run ∷ runs) = ⊥
IsWithin (count ∷ counts) [] = ⊥
IsWithin (count ∷ counts) (run ∷ runs) = (count ≤ length run.jobs.items) × IsWithin counts runs

-- there is a job of the other kind
abbrev pub has_other : Bool → Jobs → Bool
has_other updates jobs = list_any (λ job. not (beq (is_update job.deed) updates)) jobs

abbrev pub sum_of : List ℕ → ℕ
sum_of [] = 0
sum_of (count ∷ counts) = count + sum_of counts

-- a job of the run is here
abbrev pub has_jobs : Run → Bool
has_jobs run = not (deque_len run.jobs == 0)

-- the connection is the last one that was blocked, or one of the others
abbrev pub is_last : Option ConnId → ConnId → Bool
is_last None conn = false
is_last (Some last) conn = same_connection (connection_of last) (connection_of conn)

abbrev pub holds : Blocked → ConnId → Bool
holds blocked conn = is_last blocked.last conn || contains conn_cmp blocked.others conn
