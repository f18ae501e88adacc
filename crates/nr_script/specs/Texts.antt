-- Bytes as scripts spell them, and as they are shown.
use Rattle.std.specs.Prelude.{ℕ, ◌+◌, ◌-◌, ◌*◌, ◌/◌, ◌%◌, ◌&&◌, ◌==◌, nat_le, nat_lt, true, false, if◌then◌else◌, [], ◌∷◌, ◌++◌, Option, Some, None, flat_map}
use Rattle.nr_model.specs.Bytes.{Bytes}

-- `0` to `9`, `a` to `f` and `A` to `F`
abbrev pub hex_value : ℕ → Option ℕ
hex_value c =
    if nat_le 48 c && nat_le c 57 then Some (c - 48)
    else if nat_le 97 c && nat_le c 102 then Some (c - 87)
    else if nat_le 65 c && nat_le c 70 then Some (c - 55)
    else None

-- what a byte behind a backslash spells, but for `x`: `r` is CR, `n` is LF, and a backslash is itself
abbrev pub escaped_value : ℕ → Option ℕ
escaped_value c = if c == 114 then Some 13 else if c == 110 then Some 10 else if c == 92 then Some 92 else None

-- where a text is read: between the bytes that it spells, behind a backslash, behind `\x`, and behind `\x` and a digit
pub data Place : Type 0 where
  Between : Place
  Escape : Place
  Hex : Place
  Digit : ℕ → Place

-- bytes in front of what the others spell
abbrev pub put_before : Bytes → Option Bytes → Option Bytes
put_before front None = None
put_before front (Some others) = Some (front ++ others)

unfoldable pub text_from : Place → Bytes → Option Bytes
text_from Between [] = Some []
text_from Between (c ∷ rest) = elim (c == 92) [ true ↦ text_from Escape rest | false ↦ put_before (c ∷ []) (text_from Between rest) ]
text_from Escape [] = None
text_from Escape (c ∷ rest) =
    elim (c == 120) [
      | true ↦ text_from Hex rest
      | false ↦ elim (escaped_value c) [ Some byte ↦ put_before (byte ∷ []) (text_from Between rest) | None ↦ None ]
    ]
text_from Hex [] = None
text_from Hex (c ∷ rest) = elim (hex_value c) [ Some high ↦ text_from (Digit high) rest | None ↦ None ]
text_from (Digit high) [] = None
text_from (Digit high) (c ∷ rest) = elim (hex_value c) [ Some low ↦ put_before ((16 * high + low) ∷ []) (text_from Between rest) | None ↦ None ]

-- the bytes that a text spells
unfoldable pub text_of : Bytes → Option Bytes
text_of text = text_from Between text

-- a hexadecimal digit, in lower case
abbrev pub hex_digit : ℕ → ℕ
hex_digit n = if nat_lt n 10 then 48 + n else 87 + n

-- a byte on a line: CR, LF and the backslash by their escapes, a space and printable ASCII as they are, the others in hexadecimal
abbrev pub shown_byte : ℕ → Bytes
shown_byte c =
    if c == 13 then 92 ∷ 114 ∷ []
    else if c == 10 then 92 ∷ 110 ∷ []
    else if c == 92 then 92 ∷ 92 ∷ []
    else if nat_le 32 c && nat_le c 126 then c ∷ []
    else 92 ∷ 120 ∷ hex_digit (c / 16) ∷ hex_digit (c % 16) ∷ []

abbrev pub shown : Bytes → Bytes
shown bytes = flat_map shown_byte bytes
