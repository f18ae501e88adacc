-- Workers that have handed in nothing yet.
use Rattle.std.specs.Prelude.{◌≡◌, ℕ, List, length}
use Rattle.std.specs.List.{AllByRecursion}
use Rattle.nr_combiner.specs.Workers.{NodeHandleState, fresh_worker, shared_of}

abbrev pub IsFresh : NodeHandleState → Type 0
IsFresh worker = worker ≡ fresh_worker (shared_of worker) worker.seat.worker

-- these are so many workers, none of which has handed in anything yet
abbrev pub AreFresh : ℕ → List NodeHandleState → Type 0
AreFresh count workers = AllByRecursion IsFresh workers × (length workers ≡ count)
