use Rattle.std.proofs.Common.{◌≡◌, length}
use Rattle.nr_combiner.specs.Opened.{AreOfWorkers}
use Rattle.nr_combiner.proofs.opened.open_all.Given as goal

-- so many were opened, each of so many workers
abbrev pub invariant-loop : goal.invariant-loop
invariant-loop l = (length l.all.items ≡ l.counter) × AreOfWorkers l.workers l.all.items
