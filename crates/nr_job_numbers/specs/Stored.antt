-- The accounts of a node's connections, by serial: which jobs are taken, one after the other, and with which of them an account goes.
use Rattle.std.specs.Prelude.{◌≡◌, ℕ, ◌<◌, Bool, true, false, not, ◌&&◌, ◌||◌, ◌==◌, nat_lt, cond, List, [], ◌∷◌, ◌++◌, map, length, Option, Some, None}
use Rattle.std.specs.declared.ops.Bound.{Bound}
use Rattle.std.specs.declared.ops.Bound.TheVariants.{Excluded, Unbounded}
use Rattle.std.specs.List.{list_any, range_with_len}
use Rattle.std.specs.Ordering.{nat_cmp}
use Rattle.std.specs.FinMap as finmap
use Rattle.std.specs.Coded.{Coded, coded_ℕ}
use Rattle.nr_model.specs.Items.{Connection, same_connection, Item, is_end}
use Rattle.nr_model.specs.Entries.{Jobs}
use Rattle.nr_model.specs.Asked.{own_jobs, first_number}
use Rattle.nr_job_numbers.specs.declared.account.Account.{Account}
use Rattle.nr_job_numbers.specs.contracts.account.Account as of_account
use Rattle.nr_job_numbers.specs.Account.{is_of, takes, taken, noted, reopened, ends_with, back_by}

abbrev pub Held : Type 0
Held = finmap.FinMap nat_cmp Account

abbrev pub coded_held : Coded Held
coded_held = finmap.code coded_ℕ of_account.the_row.coded

-- the account under a serial, where there is one, is another
abbrev pub put_at : (Account → Account) → ℕ → Option Account → Held → Held
put_at f serial None held = held
put_at f serial (Some account) held = finmap.insert held serial (f account)

abbrev pub changed : (Account → Account) → ℕ → Held → Held
changed f serial held = put_at f serial (finmap.get held serial) held

-- whether a job of a worker is taken next, and what is held then
abbrev pub takes_by : ℕ → Item → Option Account → Bool
takes_by worker job None = false
takes_by worker job (Some account) = takes worker job account

abbrev pub takes_one : ℕ → ℕ → Held → Item → Bool
takes_one node worker held job = job.connection.node == node && takes_by worker job (finmap.get held job.connection.serial)

abbrev pub taken_one : Held → Item → Held
taken_one held job = changed (taken job) job.connection.serial held

-- jobs one after the other
abbrev pub takes_all : ℕ → ℕ → Held → Jobs → Bool
takes_all node worker held [] = true
takes_all node worker held (job ∷ jobs) = takes_one node worker held job && takes_all node worker (taken_one held job) jobs

abbrev pub taken_all : Held → Jobs → Held
taken_all held [] = held
taken_all held (job ∷ jobs) = taken_all (taken_one held job) jobs

-- a connection wasn't opened for this worker, or its end was taken
abbrev pub is_strange : ℕ → Option Account → Bool
is_strange worker None = true
is_strange worker (Some account) = not (is_of worker account)

abbrev pub is_stranger : ℕ → ℕ → Held → Connection → Bool
is_stranger node worker held c = not (c.node == node) || is_strange worker (finmap.get held c.serial)

-- the end of a connection is among these
abbrev pub has_end_of : Connection → Jobs → Bool
has_end_of c jobs = list_any (λ job. same_connection job.connection c && is_end job.deed) jobs

-- one of the jobs behind these is of a connection that wasn't opened for this worker, or the end of which was taken before it
abbrev pub has_stranger : ℕ → ℕ → Held → Jobs → Jobs → Bool
has_stranger node worker held before [] = false
has_stranger node worker held before (job ∷ jobs) =
    (is_stranger node worker held job.connection || has_end_of job.connection before) || has_stranger node worker held (before ++ job ∷ []) jobs

-- whether a job is its connection's end is noted in the account; and the connections whose ends are among jobs go on again, the last of them first
abbrev pub noted_one : Held → Item → Held
noted_one held job = changed (noted job) job.connection.serial held

abbrev pub reopened_one : Held → Item → Held
reopened_one held job = cond (is_end job.deed) (changed reopened job.connection.serial held) held

abbrev pub reopened_all : Held → Jobs → Held
reopened_all held [] = held
reopened_all held (job ∷ jobs) = reopened_one (reopened_all held jobs) job

-- a job is its connection's end, which was taken last of it: then its account goes
abbrev pub ends_by : Item → Option Account → Bool
ends_by job None = false
ends_by job (Some account) = ends_with job account

abbrev pub closed_one : ℕ → Held → Item → Held
closed_one node held job =
    let serial = job.connection.serial in cond (job.connection.node == node && ends_by job (finmap.get held serial)) (finmap.remove held serial) held

abbrev pub closed_all : ℕ → Held → Jobs → Held
closed_all node held [] = held
closed_all node held (job ∷ jobs) = closed_all node (closed_one node held job) jobs

-- The jobs of each connection that were taken have the numbers 0, 1, 2 and so on, in this order: as many as its account says, where it has one.
abbrev pub numbers_in : Connection → Jobs → List ℕ
numbers_in c jobs = map (λ (job : Item). job.number) (own_jobs c jobs)

abbrev pub CountsTo : (Account → ℕ) → Option Account → List ℕ → Type 0
CountsTo count None numbers = numbers ≡ range_with_len 0 (length numbers)
CountsTo count (Some account) numbers = numbers ≡ range_with_len 0 (count account)

abbrev pub AreCounted : (Account → ℕ) → ℕ → Held → Jobs → Type 0
AreCounted count node held jobs = (serial : ℕ) → CountsTo count (finmap.get held serial) (numbers_in (record { node = node; serial = serial }) jobs)

abbrev pub AreTaken : ℕ → Held → Jobs → Type 0
AreTaken node held jobs = AreCounted (λ account. account.next) node held jobs

-- Jobs are dropped: the account of a connection goes back to the first of its jobs among them, where one is there.
abbrev pub gone_back : Jobs → Connection → Account → Account
gone_back dropped c account = back_by (first_number (own_jobs c dropped)) account

-- a job of a connection that this worker serves was taken, and its end wasn't
abbrev pub is_unended : ℕ → Option Account → Bool
is_unended worker None = false
is_unended worker (Some account) = is_of worker account && nat_lt 0 account.next

-- a serial that comes after one, where there is one
abbrev pub ComesAfter : Option ℕ → ℕ → Type 0
ComesAfter None serial = Unit {0}
ComesAfter (Some last) serial = last < serial

abbrev pub start_after : Option ℕ → Bound ℕ
start_after None = Unbounded
start_after (Some last) = Excluded last
