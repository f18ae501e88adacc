use Rattle.std.proofs.Common.{◌≡◌, drop, map}
use Rattle.std.specs.FinSet as set
use Rattle.std.specs.Map.Iter.{deref}
use Rattle.nr_model.specs.Commands.Sets.{with_each}
use Rattle.nr_sets.proofs.set.Set.collect.Given as goal

-- what is in, with what is left, is all
abbrev pub invariant-loop-member : goal.invariant-loop-member
invariant-loop-member l = with_each l.collected (map deref (drop l.member-index l.members)) ≡ with_each set.empty (map deref l.members)
