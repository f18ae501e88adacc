use Rattle.std.proofs.Common.{◌≡◌, drop}
use Rattle.nr_model.specs.Commands.Sets.{without_each}
use Rattle.nr_sets.proofs.set.Set.remove_each.Given as goal

-- what is there, without what is left, is what stays
abbrev pub invariant-loop-member : goal.invariant-loop-member
invariant-loop-member l = without_each l.self (drop l.member-index l.members) ≡ without_each l.fn.self l.members
