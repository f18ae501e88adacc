use Rattle.std.proofs.Common.{◌≡◌, ◌++◌, map}
use Rattle.nr_test_parts.proofs.station.add_each.Given as goal

-- the workers that were added, and those that are left
abbrev pub invariant-loop-worker : goal.invariant-loop-worker
invariant-loop-worker g l =
    map (λ station. station.worker) l.all.items ++ l.worker-iterator.rest.items ≡ map (λ station. station.worker) l.fn.all.items ++ l.fn.workers.items
