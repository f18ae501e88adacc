use Rattle.std.proofs.Common.{◌≡◌, ℕ, true, take}
use Rattle.nr_entry.specs.Jobs.{items_of}
use Rattle.nr_job_numbers.specs.Stored.{Held, takes_all, taken_all}
use Rattle.nr_job_numbers.proofs.taking.give_back.Given as goal

abbrev pub invariant-loop-index : goal.invariant-loop-index
invariant-loop-index l =
    (node worker : ℕ) (before : Held) → takes_all node worker before (items_of l.jobs) ≡ true → l.fn.held ≡ taken_all before (items_of l.jobs)
    → (takes_all node worker before (items_of (take l.index l.jobs)) ≡ true) × (l.held ≡ taken_all before (items_of (take l.index l.jobs)))
