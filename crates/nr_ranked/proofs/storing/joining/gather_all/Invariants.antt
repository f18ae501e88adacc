use Rattle.std.proofs.Common.{◌≡◌, drop, map}
use Rattle.std.specs.Prelude.{fold}
use Rattle.nr_model.specs.SortedSets.{gathered_one}
use Rattle.nr_zsets.specs.Lists.{shown}
use Rattle.nr_ranked.specs.Sums.{sums_of}
use Rattle.nr_ranked.proofs.storing.joining.gather_all.Given as goal

-- what is gathered, with what is left, is all
abbrev pub invariant-loop-member : goal.invariant-loop-member
invariant-loop-member l =
    fold (gathered_one l.aggregate l.weight) (sums_of l.sums) (map shown (drop l.member-index l.members))
    ≡ fold (gathered_one l.aggregate l.weight) (sums_of l.fn.sums) (map shown l.members)
