-- What a node's accounts say of a batch.
use Rattle.std.specs.Prelude.{◌≡◌, ℕ, Bool, true, not, ◌&&◌, ◌||◌, ◌==◌, nat_lt, if◌then◌else◌, List, [], length, Option, Some, None, option_map, slice_index_or, slice_set, refl}
use Rattle.std.specs.FinMap as finmap
use Rattle.std.specs.Coded.{Coded, code_by, coded×, coded_ℕ, coded_list, coded_option}
use Rattle.nr_model.specs.Entries.{Jobs}
use Rattle.nr_entry.specs.Jobs.{items_of}
use Rattle.nr_entry.specs.declared.batch.Batch.{Batch}
use Rattle.nr_entry.specs.declared.batch.Refusal.{Refusal}
use Rattle.nr_entry.specs.declared.batch.Refusal.TheVariants.{Stranger, WrongNumber}
use Rattle.nr_job_numbers.specs.Stored.{Held, coded_held, takes_all, taken_all, has_stranger, closed_all, gone_back, AreTaken}

-- the node, the accounts of its connections, and for each worker the number of the last batch that was taken
pub record Book : Type 0 where
  pub node : ℕ
  pub held : Held
  pub last : List (Option ℕ)

abbrev pub coded_book : Coded Book
coded_book =
    code_by (ℕ × (Held × List (Option ℕ))) (coded× coded_ℕ (coded× coded_held (coded_list (coded_option coded_ℕ)))) (λ b. (b.node, (b.held, b.last)))
    (λ p. record { node = p.0; held = p.1.0; last = p.1.1 }) (λ _. refl)

-- a number above that of the worker's last batch
abbrev pub is_above : ℕ → Option ℕ → Bool
is_above number None = true
is_above number (Some last) = nat_lt last number

abbrev pub last_of : Book → ℕ → Option ℕ
last_of book worker = slice_index_or book.last worker None

-- a batch names another node, or a worker that there isn't, or has a job of a connection that this worker doesn't serve, or whose end was taken before
abbrev pub is_strange_batch : Book → ℕ → ℕ → Jobs → Bool
is_strange_batch book node worker jobs =
    (not (node == book.node) || not (nat_lt worker (length book.last))) || has_stranger book.node worker book.held [] jobs

-- its number is above that of the worker's last one, and that of each job is its connection's next one
abbrev pub is_in_order : Book → ℕ → ℕ → Jobs → Bool
is_in_order book worker number jobs = is_above number (last_of book worker) && takes_all book.node worker book.held jobs

-- why a batch isn't taken
abbrev pub refusal_by : Book → ℕ → ℕ → ℕ → Jobs → Option Refusal
refusal_by book node worker number jobs =
    if is_strange_batch book node worker jobs then Some Stranger else if is_in_order book worker number jobs then None else Some WrongNumber

abbrev pub refusal_of : Book → Batch → Option Refusal
refusal_of book batch = refusal_by book batch.node batch.worker batch.number (items_of batch.jobs.items)

-- a batch of these jobs was taken
abbrev pub with_jobs : ℕ → ℕ → Jobs → Book → Book
with_jobs worker number jobs book = record book { held = taken_all book.held jobs; last = slice_set book.last worker (Some number) }

abbrev pub with_batch : Batch → Book → Book
with_batch batch book = with_jobs batch.worker batch.number (items_of batch.jobs.items) book

-- without the account of each of the node's connections whose end is among these jobs, and was taken last of it
abbrev pub without_ended : Jobs → Book → Book
without_ended jobs book = record book { held = closed_all book.node book.held jobs }

-- these are the jobs that were taken
abbrev pub HasTaken : Book → Jobs → Type 0
HasTaken book jobs = AreTaken book.node book.held jobs

-- Jobs were dropped: each account went back to the first of its connection's jobs among them, and is as it was where none is there. Nothing else changed.
pub record HasGoneBack (dropped : Jobs) (old new : Book) : Type 0 where
  pub node : new.node ≡ old.node
  pub last : new.last ≡ old.last
  pub accounts : (serial : ℕ)
      → finmap.get new.held serial ≡ option_map (gone_back dropped (record { node = old.node; serial = serial })) (finmap.get old.held serial)
