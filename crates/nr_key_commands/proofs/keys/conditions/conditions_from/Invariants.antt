use Rattle.std.proofs.Common.{◌≡◌, drop}
use Rattle.nr_model.specs.Commands.Keys.{conditions_from, unconditional}
use Rattle.nr_key_commands.proofs.keys.conditions.conditions_from.Given as goal

abbrev pub invariant-loop-word : goal.invariant-loop-word
invariant-loop-word l = conditions_from l.conditions (drop l.word-index l.words) ≡ conditions_from unconditional l.words
