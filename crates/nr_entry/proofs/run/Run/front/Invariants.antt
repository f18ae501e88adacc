use Rattle.std.proofs.Common.{◌≡◌, ◌≤◌, ◌+◌, ◌-◌, drop}
use Rattle.nr_entry.specs.Jobs.{items_of}
use Rattle.nr_entry.specs.Runs.{front}
use Rattle.nr_entry.proofs.run.Run.front.Given as goal

abbrev pub invariant-loop-count : goal.invariant-loop-count
invariant-loop-count l = let jobs = items_of l.self.jobs.items in record {
  so_far : l.count + front l.updates (l.most - l.count) (drop l.count jobs) ≡ front l.updates l.most jobs;
  within : l.count ≤ l.most;
}

abbrev pub decreases-loop-count : goal.decreases-loop-count
decreases-loop-count l = l.most - l.count
