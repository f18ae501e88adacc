use Rattle.std.proofs.Common.{◌≡◌, ◌<◌, length, get_or, map}
use Rattle.std.specs.FinSet as set
use Rattle.nr_sets.specs.Lent.{lent}
use Rattle.nr_sets.proofs.Common.{IsLeastOf}
use Rattle.nr_sets.proofs.several.smallest.Given as goal

-- one of them, and the least of those before
abbrev pub invariant-loop-place : goal.invariant-loop-place
invariant-loop-place l = record {
  within : l.least.0 < length l.sets;
  at : get_or (map lent l.sets) l.least.0 set.empty ≡ l.least.1.now;
  least : IsLeastOf lent l.sets l.least.1.now l.place;
}
