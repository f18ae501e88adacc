use Rattle.std.proofs.Common.{◌≡◌, map}
use Rattle.std.specs.Map.Iter.{deref}
use Rattle.nr_model.specs.Sets.{listed}
use Rattle.nr_sets.specs.Lent.{lent}
use Rattle.nr_sets.proofs.Joined.{puts}
use Rattle.nr_sets.proofs.several.join.Given as goal

-- what is in, with what is left, is all
abbrev pub invariant-loop-member : goal.invariant-loop-member
invariant-loop-member l = puts l.member-iterator (map deref l.joined.keys) ≡ puts (listed (lent l.fn.set)) (map deref l.fn.joined.keys)
