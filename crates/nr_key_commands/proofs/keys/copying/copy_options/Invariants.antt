use Rattle.std.proofs.Common.{◌≡◌, false, length}
use Rattle.nr_model.specs.Commands.Reading.{read_options}
use Rattle.nr_model.specs.Commands.Keys.{copy_option}
use Rattle.nr_key_commands.proofs.keys.copying.copy_options.Given as goal

abbrev pub invariant-loop-word : goal.invariant-loop-word
invariant-loop-word l = read_options copy_option l.options l.left ≡ read_options copy_option (record { database = l.fn.database; replace = false }) l.fn.words

abbrev pub decreases-loop-word : goal.decreases-loop-word
decreases-loop-word l = length l.left
