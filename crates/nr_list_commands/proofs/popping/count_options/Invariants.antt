use Rattle.std.proofs.Common.{◌≡◌, length}
use Rattle.nr_model.specs.Commands.Reading.{read_options}
use Rattle.nr_model.specs.Commands.Lists.{count_option}
use Rattle.nr_list_commands.proofs.popping.count_options.Given as goal

abbrev pub invariant-loop-word : goal.invariant-loop-word
invariant-loop-word l = read_options count_option l.count l.left ≡ read_options count_option 1 l.fn.words

abbrev pub decreases-loop-word : goal.decreases-loop-word
decreases-loop-word l = length l.left
