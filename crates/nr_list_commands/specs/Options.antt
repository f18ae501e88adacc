-- Options that each have a value.
use Rattle.nr_model.specs.Bytes.{Bytes}
use Rattle.nr_model.specs.Commands.Reading.{Read, fault, OptionWord, Unknown, Flag, Valued}
use Rattle.nr_model.specs.declared.refused.Refused.TheVariants.{Syntax}

-- what an option comes to with its value
abbrev pub valued : {O : Type 0} → OptionWord O → Bytes → Read O
valued Unknown value = fault Syntax
valued (Flag options) value = fault Syntax
valued (Valued read) value = read value

-- it is none without a value
abbrev pub IsNoFlag : {O : Type 0} → OptionWord O → Type 0
IsNoFlag Unknown = Unit {0}
IsNoFlag (Flag options) = ⊥
IsNoFlag (Valued read) = Unit {0}
