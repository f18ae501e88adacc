use Rattle.std.proofs.Common.{◌≡◌, length}
use Rattle.nr_model.specs.Commands.SortedSets.{store_options, plain_store}
use Rattle.nr_ranked.specs.Storing.{options_of}
use Rattle.nr_ranked.proofs.storing.reading.options_in.Given as goal

-- what was read, read on from what is left, is all
abbrev pub invariant-loop-word : goal.invariant-loop-word
invariant-loop-word l = store_options l.keys (options_of l.options) l.missing l.left ≡ store_options l.keys plain_store 0 l.fn.words

abbrev pub decreases-loop-word : goal.decreases-loop-word
decreases-loop-word l = length l.left
