-- Places in a text.
use Rattle.std.specs.Prelude.{◌≡◌, ◌≤◌, ◌+◌, ◌-◌, ◌^◌, ℕ, List, [], ◌∷◌, ◌++◌, ◌&&◌, ◌==◌, if◌then◌else◌, nat_le, min, length, take, codes}
use Rattle.std.specs.Fmt.{decimal}
use Rattle.nr_config.specs.declared.place.TextPlace.{TextPlace}

-- where a text begins
abbrev pub start : TextPlace
start = record { line = 1; column = 1 }

-- the number behind this one, up to the largest
abbrev pub after : ℕ → ℕ
after n = min (n + 1) (2 ^ 64 - 1)

-- the place behind a byte at a place: a line ends with a line feed, and the further bytes of a character have no column
abbrev pub next : TextPlace → ℕ → TextPlace
next place byte =
    if byte == 10 then record { line = after place.line; column = 1 }
    else if nat_le 128 byte && nat_le byte 191 then place
    else record { line = place.line; column = after place.column }

-- the place behind these bytes
abbrev pub place_from : TextPlace → List ℕ → TextPlace
place_from place [] = place
place_from place (byte ∷ rest) = place_from (next place byte) rest

-- the place lies in the text, or at its end
pub record IsPlaceIn (text : List ℕ) (place : TextPlace) : Type 0 where
  pub at : ℕ
  pub within : at ≤ length text
  pub behind : place ≡ place_from start (take at text)

abbrev pub place_text : TextPlace → List ℕ
place_text place = codes "line " ++ (decimal place.line ++ (codes ", column " ++ decimal place.column))
