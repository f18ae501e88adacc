use Rattle.std.proofs.Common.{◌≡◌, length}
use Rattle.nr_model.specs.Commands.SortedSets.{add_options, no_options}
use Rattle.nr_ranked.proofs.scoring.reading.options_in.Given as goal

abbrev pub invariant-loop-word : goal.invariant-loop-word
invariant-loop-word l = add_options l.options l.left ≡ add_options no_options l.fn.words

abbrev pub decreases-loop-word : goal.decreases-loop-word
decreases-loop-word l = length l.left
