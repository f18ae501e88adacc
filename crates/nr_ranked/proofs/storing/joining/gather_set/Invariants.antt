use Rattle.std.proofs.Common.{◌≡◌, pos, map}
use Rattle.std.specs.Prelude.{fold}
use Rattle.nr_model.specs.Sets.{listed}
use Rattle.nr_model.specs.SortedSets.{gathered_one}
use Rattle.nr_ranked.specs.Sums.{sums_of}
use Rattle.nr_ranked.proofs.storing.joining.gather_set.Given as goal

-- what is gathered, with what is left, is all
abbrev pub invariant-loop-member : goal.invariant-loop-member
invariant-loop-member l =
    fold (gathered_one l.aggregate l.weight) (sums_of l.sums) (map (λ member. (member, pos 1)) l.member-iterator)
    ≡ fold (gathered_one l.aggregate l.weight) (sums_of l.fn.sums) (map (λ member. (member, pos 1)) (listed l.fn.set))
