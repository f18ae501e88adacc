-- What spells bytes in a script, said of the whole text.
use Rattle.std.specs.Prelude.{◌≡◌, ◌≢◌, ℕ, ◌+◌, ◌*◌, ◌<◌, [], ◌∷◌, ◌++◌, Some}
use Rattle.std.specs.List.{AllByRecursion}
use Rattle.nr_model.specs.Bytes.{Bytes}
use Rattle.nr_script.specs.Texts.{hex_value, escaped_value, text_of, shown}

-- a byte but the backslash is itself; behind a backslash one byte spells another, and `x` and two hexadecimal digits spell any
pub data SpellsByte (byte : ℕ) : Bytes → Type 0 where
  itself : byte ≢ 92 → SpellsByte byte (byte ∷ [])
  escape : (c : ℕ) → escaped_value c ≡ Some byte → SpellsByte byte (92 ∷ c ∷ [])
  hex : (c d high low : ℕ) → hex_value c ≡ Some high → hex_value d ≡ Some low → 16 * high + low ≡ byte → SpellsByte byte (92 ∷ 120 ∷ c ∷ d ∷ [])

-- a text spells bytes: its pieces spell them, one behind the other
abbrev pub Spells : Bytes → Bytes → Type 0
Spells text [] = text ≡ []
Spells text (byte ∷ bytes) = (piece : Bytes) × (rest : Bytes) × (text ≡ piece ++ rest) × SpellsByte byte piece × Spells rest bytes

-- what is read is what the text spells, and it is read wherever it spells bytes
abbrev pub ReadIsSpelled : Type 0
ReadIsSpelled = (text bytes : Bytes) → text_of text ≡ Some bytes → Spells text bytes

abbrev pub SpelledIsRead : Type 0
SpelledIsRead = (text bytes : Bytes) → Spells text bytes → text_of text ≡ Some bytes

-- bytes are shown by a text that spells them
abbrev pub ShownIsSpelled : Type 0
ShownIsSpelled = (bytes : Bytes) → AllByRecursion (λ c. c < 256) bytes → Spells (shown bytes) bytes
