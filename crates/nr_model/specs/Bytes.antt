-- Bytes: what requests, replies, names and values are made of.
use Rattle.std.specs.Prelude.{◌≡◌, ℕ, ◌||◌, ◌==◌, if◌then◌else◌, List, [], ◌∷◌, ◌++◌, map, take}

-- a text, each of whose bytes is a number below 256
abbrev pub Bytes : Type 0
Bytes = List ℕ

-- CR LF, the end of a line (RESP2 specification)
abbrev pub crlf : Bytes
crlf = 13 ∷ 10 ∷ []

-- a byte on one line: CR and LF are shown as spaces (own)
abbrev pub on_one_line : ℕ → ℕ
on_one_line c = if c == 13 || c == 10 then 32 else c

-- a word as an error quotes it: its first 128 bytes, on one line (own)
abbrev pub quoted : Bytes → Bytes
quoted word = map on_one_line (take 128 word)

-- x is a beginning of y (own)
abbrev pub IsBeginningOf : {A : Type 0} → List A → List A → Type 0
IsBeginningOf {A} x y = (rest : List A) × (x ++ rest ≡ y)
