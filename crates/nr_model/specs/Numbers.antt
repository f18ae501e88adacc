-- Whole numbers as texts: the only form that Redis reads, and the one that it writes.
use Rattle.std.specs.Prelude.{◌≡◌, ℕ, ◌+◌, ◌*◌, ◌-◌, ◌^◌, Bool, false, ◌&&◌, ◌==◌, nat_le, nat_lt, if◌then◌else◌, [], ◌∷◌, Option, Some, None, ℤ, pos, negsuc, fold, bytes_eq, FitsSigned}
use Rattle.std.specs.Int.{w64}
use Rattle.std.specs.Fmt.{signed_decimal}
use Rattle.std.specs.List.{list_all}
use Rattle.nr_model.specs.Bytes.{Bytes}

-- `0` to `9`
abbrev pub is_digit : ℕ → Bool
is_digit c = nat_le 48 c && nat_le c 57

-- a row of decimal digits that begins with 1 to 9
abbrev pub is_numeral : Bytes → Bool
is_numeral [] = false
is_numeral (d ∷ ds) = nat_lt 48 d && (nat_le d 57 && list_all is_digit ds)

-- the number that a row of decimal digits writes
abbrev pub digits_value : Bytes → ℕ
digits_value ds = fold (λ n d. 10 * n + (d - 48)) 0 ds

-- the integer -(n + 1) or n, where it has 64 bits
abbrev pub in_i64 : ℤ → Option ℤ
in_i64 (pos n) = if nat_lt n (2 ^ 63) then Some (pos n) else None
in_i64 (negsuc n) = if nat_lt n (2 ^ 63) then Some (negsuc n) else None

-- The value of an integer's text: `0`, or an optional `-` and a numeral, in the range of a signed 64 bit integer. `-0`, `+1`, `05`, spaces
-- and the empty text are none (Redis, string2ll)
abbrev pub int_value : Bytes → Option ℤ
int_value [] = None
int_value (c ∷ t) =
    if bytes_eq (c ∷ t) (48 ∷ []) then Some (pos 0)
    else if is_numeral (c ∷ t) then in_i64 (pos (digits_value (c ∷ t)))
    else if c == 45 && is_numeral t then in_i64 (negsuc (digits_value t - 1))
    else None

-- the same, said by the text that each integer has: its decimal digits, behind a `-` where it is negative
abbrev pub IsIntText : Bytes → ℤ → Type 0
IsIntText t z = FitsSigned w64 z × (t ≡ signed_decimal z)
