use Rattle.std.proofs.Common.{◌≡◌, length}
use Rattle.nr_model.specs.Commands.Reading.{read_options}
use Rattle.nr_model.specs.Commands.Lists.{place_option, first_place}
use Rattle.nr_list_commands.proofs.places.place_options.Given as goal

abbrev pub invariant-loop-word : goal.invariant-loop-word
invariant-loop-word l = read_options place_option l.options l.left ≡ read_options place_option first_place l.fn.words

abbrev pub decreases-loop-word : goal.decreases-loop-word
decreases-loop-word l = length l.left
