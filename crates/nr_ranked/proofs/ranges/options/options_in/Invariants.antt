use Rattle.std.proofs.Common.{◌≡◌, length}
use Rattle.nr_model.specs.Commands.SortedSets.{range_options, said_by}
use Rattle.nr_ranked.specs.Options.{options_of}
use Rattle.nr_ranked.proofs.ranges.options.options_in.Given as goal

abbrev pub invariant-loop-word : goal.invariant-loop-word
invariant-loop-word l = range_options l.form (options_of l.options) l.left ≡ range_options l.form (said_by l.form) l.fn.words

abbrev pub decreases-loop-word : goal.decreases-loop-word
decreases-loop-word l = length l.left
