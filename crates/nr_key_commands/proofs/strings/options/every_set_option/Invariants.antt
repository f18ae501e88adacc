use Rattle.std.proofs.Common.{◌≡◌, ◌+◌, ◌≤◌, length}
use Rattle.nr_model.specs.Commands.Reading.{read_options}
use Rattle.nr_model.specs.Commands.Strings.{set_option, no_options}
use Rattle.nr_key_commands.proofs.strings.options.every_set_option.Given as goal

abbrev pub invariant-loop-word : goal.invariant-loop-word
invariant-loop-word l = record {
  same : read_options (set_option l.now) l.options l.left ≡ read_options (set_option l.now) no_options l.words;
  few : l.options.times + length l.left ≤ length l.words;
}

abbrev pub decreases-loop-word : goal.decreases-loop-word
decreases-loop-word l = length l.left
