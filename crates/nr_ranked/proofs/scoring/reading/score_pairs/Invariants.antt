use Rattle.std.proofs.Common.{◌≡◌, length, map}
use Rattle.nr_model.specs.Commands.SortedSets as sorted_sets
use Rattle.nr_zsets.specs.Lists.{shown}
use Rattle.nr_ranked.specs.Reading.{with_front}
use Rattle.nr_ranked.proofs.scoring.reading.score_pairs.Given as goal

-- what was read, in front of what is left to read
abbrev pub invariant-loop-pairs : goal.invariant-loop-pairs
invariant-loop-pairs l = with_front (map shown l.pairs.items) (sorted_sets.score_pairs l.left) ≡ sorted_sets.score_pairs l.fn.words

abbrev pub decreases-loop-pairs : goal.decreases-loop-pairs
decreases-loop-pairs l = length l.left
