use Rattle.std.proofs.Common.{◌≡◌, drop, map}
use Rattle.std.specs.Prelude.{fold}
use Rattle.std.specs.FinMap as finmap
use Rattle.nr_model.specs.SortedSets.{gathered, weighted}
use Rattle.nr_ranked.specs.Storing.{scores_in}
use Rattle.nr_ranked.specs.Sums.{sums_of}
use Rattle.nr_ranked.proofs.storing.joining.gathered.Given as goal

-- what is gathered, with what is left, is all
abbrev pub invariant-loop-source : goal.invariant-loop-source
invariant-loop-source l =
    fold (gathered l.aggregate) (sums_of l.sums) (weighted (map scores_in (drop l.source-index l.held)) l.left)
    ≡ fold (gathered l.aggregate) finmap.empty (weighted (map scores_in l.held) l.fn.weights)
