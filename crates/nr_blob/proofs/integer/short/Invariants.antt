use Rattle.std.proofs.Common.{◌≡◌, true, take}
use Rattle.std.specs.List.{list_all}
use Rattle.nr_model.specs.Numbers.{is_digit, digits_value}
use Rattle.nr_blob.proofs.integer.short.Given as goal

abbrev pub invariant-loop-digit : goal.invariant-loop-digit
invariant-loop-digit l = (list_all is_digit (take l.digit-index l.digits) ≡ true) × (l.value ≡ digits_value (take l.digit-index l.digits))
