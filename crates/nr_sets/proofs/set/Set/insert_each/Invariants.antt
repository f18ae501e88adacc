use Rattle.std.proofs.Common.{◌≡◌, drop}
use Rattle.nr_model.specs.Commands.Sets.{with_each}
use Rattle.nr_sets.proofs.set.Set.insert_each.Given as goal

-- what is in, with what is left, is all
abbrev pub invariant-loop-member : goal.invariant-loop-member
invariant-loop-member l = with_each l.self (drop l.member-index l.members) ≡ with_each l.fn.self l.members
