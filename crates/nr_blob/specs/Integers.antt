-- How the text of an integer begins, and the value of a short one.
use Rattle.std.specs.Prelude.{ℕ, ◌&&◌, ◌||◌, ◌==◌, nat_le, if◌then◌else◌, Bool, List, Option, Some, None, ℤ, pos, slice_index}
use Rattle.std.specs.List.{list_all}
use Rattle.nr_model.specs.Numbers.{is_digit, digits_value}

-- 1 to 9
abbrev pub is_leading_digit : ℕ → Bool
is_leading_digit c = nat_le 49 c && nat_le c 57

-- a digit from 1 to 9, or one behind a `-`
abbrev pub begins_nonzero : List ℕ → Bool
begins_nonzero text = is_leading_digit (slice_index text 0) || (slice_index text 0 == 45 && is_leading_digit (slice_index text 1))

-- the number that digits write, if they are digits
abbrev pub short_value : List ℕ → Option ℤ
short_value digits = if list_all is_digit digits then Some (pos (digits_value digits)) else None
