use Rattle.std.proofs.Common.{◌≡◌, [], drop, map}
use Rattle.std.specs.Map.Iter.{deref}
use Rattle.nr_sets.specs.Lent.{lent}
use Rattle.nr_sets.proofs.Joined.{joined_with}
use Rattle.nr_sets.proofs.several.union.Given as goal

-- what is joined, joined with those left, is all
abbrev pub invariant-loop-set : goal.invariant-loop-set
invariant-loop-set l = joined_with (map deref l.joined.keys) (map lent (drop l.set-index l.sets)) ≡ joined_with [] (map lent l.sets)
