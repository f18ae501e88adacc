-- What some texts are as integers.
use Rattle.std.specs.Prelude.{◌≡◌, [], codes, Some, None, pos, negsuc}
use Rattle.nr_model.specs.Numbers.{int_value}

-- both ends of the range, the numbers round 0, and texts that are no integers
pub record IntegerRows : Type 0 where
  pub greatest : int_value (codes "9223372036854775807") ≡ Some (pos 9223372036854775807)
  pub least : int_value (codes "-9223372036854775808") ≡ Some (negsuc 9223372036854775807)
  pub nought : int_value (codes "0") ≡ Some (pos 0)
  pub minus_one : int_value (codes "-1") ≡ Some (negsuc 0)
  pub above : int_value (codes "9223372036854775808") ≡ None
  pub below : int_value (codes "-9223372036854775809") ≡ None
  pub minus_nought : int_value (codes "-0") ≡ None
  pub plus_one : int_value (codes "+1") ≡ None
  pub leading_zero : int_value (codes "05") ≡ None
  pub minus_leading_zero : int_value (codes "-05") ≡ None
  pub space_before : int_value (codes " 1") ≡ None
  pub space_after : int_value (codes "1 ") ≡ None
  pub empty : int_value [] ≡ None
  pub minus_alone : int_value (codes "-") ≡ None
  pub letter_after : int_value (codes "1a") ≡ None
