-- Patterns, as KEYS and PSUBSCRIBE take them (Redis, glob-style patterns).
use Rattle.std.specs.Prelude.{◌≡◌, ℕ, Bool, true, false, not, ◌&&◌, ◌||◌, ◌==◌, nat_le, min, max, if◌then◌else◌, List, [], ◌∷◌, ◌++◌}
use Rattle.nr_model.specs.Bytes.{Bytes}

-- what one byte of a pattern stands for inside a class: itself, even where it is `-` (escaped), or as it is (plain)
pub record Mark : Type 0 where
  pub byte : ℕ
  pub escaped : Bool

abbrev pub escaped : ℕ → Mark
escaped c = record { byte = c; escaped = true }

abbrev pub plain : ℕ → Mark
plain c = record { byte = c; escaped = false }

-- a byte lies between two others, in either order
abbrev pub is_between : ℕ → ℕ → ℕ → Bool
is_between x y c = nat_le (min x y) c && nat_le c (max x y)

-- an unescaped `-`
abbrev pub is_dash : Mark → Bool
is_dash mark = not mark.escaped && mark.byte == 45

-- the byte is of the class with these marks: a range `x-y`, or one of them
abbrev pub in_class : List Mark → ℕ → Bool
in_class [] c = false
in_class (x ∷ []) c = x.byte == c
in_class (x ∷ y ∷ []) c = x.byte == c || y.byte == c
in_class (x ∷ y ∷ z ∷ marks) c =
    if is_dash y then is_between x.byte z.byte c || in_class marks c
    else x.byte == c || in_class (y ∷ z ∷ marks) c

-- a part of a pattern: any bytes, any one byte, this byte, a byte of a class, a byte not of it
pub data Part : Type 0 where
  Star : Part
  AnyByte : Part
  Byte : ℕ → Part
  Class : List Mark → Part
  NotClass : List Mark → Part

-- the part consumes the bytes
abbrev pub Consumes : Part → Bytes → Type 0
Consumes Star bytes = Unit {0}
Consumes AnyByte bytes = (c : ℕ) × (bytes ≡ c ∷ [])
Consumes (Byte b) bytes = bytes ≡ b ∷ []
Consumes (Class marks) bytes = (c : ℕ) × (bytes ≡ c ∷ []) × (in_class marks c ≡ true)
Consumes (NotClass marks) bytes = (c : ℕ) × (bytes ≡ c ∷ []) × (in_class marks c ≡ false)

-- where a pattern is read: outside of classes, right behind a `[`, and in a class behind these marks
pub data Place : Type 0 where
  Outside : Place
  Opened : Place
  Inside : Bool → List Mark → Place

abbrev pub class_part : Bool → List Mark → Part
class_part true marks = NotClass marks
class_part false marks = Class marks

abbrev pub one_part : ℕ → Part
one_part c = if c == 42 then Star else if c == 63 then AnyByte else Byte c

-- The parts of a pattern. A class goes to its first unescaped `]`, or to the pattern's end; a `\` that ends the pattern is itself.
unfoldable pub parts_from : Place → Bytes → List Part
parts_from Outside [] = []
parts_from Outside (c ∷ []) = if c == 91 then Class [] ∷ [] else one_part c ∷ []
parts_from Outside (c ∷ d ∷ rest) =
    elim (c == 92) [
      | true ↦ Byte d ∷ parts_from Outside rest
      | false ↦ elim (c == 91) [ true ↦ parts_from Opened (d ∷ rest) | false ↦ one_part c ∷ parts_from Outside (d ∷ rest) ]
    ]
parts_from Opened [] = Class [] ∷ []
parts_from Opened (c ∷ []) = if c == 94 then NotClass [] ∷ [] else if c == 93 then Class [] ∷ [] else Class (plain c ∷ []) ∷ []
parts_from Opened (c ∷ d ∷ rest) =
    elim (c == 94) [
      | true ↦ parts_from (Inside true []) (d ∷ rest)
      | false ↦ elim (c == 93) [
        | true ↦ Class [] ∷ parts_from Outside (d ∷ rest)
        | false ↦ elim (c == 92) [
          | true ↦ parts_from (Inside false (escaped d ∷ [])) rest
          | false ↦ parts_from (Inside false (plain c ∷ [])) (d ∷ rest)
        ]
      ]
    ]
parts_from (Inside negated marks) [] = class_part negated marks ∷ []
parts_from (Inside negated marks) (c ∷ []) = if c == 93 then class_part negated marks ∷ [] else class_part negated (marks ++ plain c ∷ []) ∷ []
parts_from (Inside negated marks) (c ∷ d ∷ rest) =
    elim (c == 93) [
      | true ↦ class_part negated marks ∷ parts_from Outside (d ∷ rest)
      | false ↦ elim (c == 92) [
        | true ↦ parts_from (Inside negated (marks ++ escaped d ∷ [])) rest
        | false ↦ parts_from (Inside negated (marks ++ plain c ∷ [])) (d ∷ rest)
      ]
    ]

unfoldable pub parts : Bytes → List Part
parts pattern_text = parts_from Outside pattern_text

-- The parts match a text: the first consumes a front of it, and the others match the rest.
abbrev pub PartsMatch : List Part → Bytes → Type 0
PartsMatch [] text = text ≡ []
PartsMatch (part ∷ others) text = (front : Bytes) × (rest : Bytes) × (text ≡ front ++ rest) × Consumes part front × PartsMatch others rest

abbrev pub Matches : Bytes → Bytes → Type 0
Matches pattern_text text = PartsMatch (parts pattern_text) text

-- The same as a test that computes.
abbrev pub some_rest : (Bytes → Bool) → Bytes → Bool
some_rest test [] = test []
some_rest test (c ∷ cs) = test (c ∷ cs) || some_rest test cs

abbrev pub one_byte : (ℕ → Bool) → (Bytes → Bool) → Bytes → Bool
one_byte test rest [] = false
one_byte test rest (c ∷ cs) = test c && rest cs

abbrev pub parts_match : List Part → Bytes → Bool
parts_match [] [] = true
parts_match [] (c ∷ cs) = false
parts_match (Star ∷ others) text = some_rest (parts_match others) text
parts_match (AnyByte ∷ others) text = one_byte (λ c. true) (parts_match others) text
parts_match (Byte b ∷ others) text = one_byte (λ c. c == b) (parts_match others) text
parts_match (Class marks ∷ others) text = one_byte (in_class marks) (parts_match others) text
parts_match (NotClass marks ∷ others) text = one_byte (λ c. not (in_class marks c)) (parts_match others) text

abbrev pub matches : Bytes → Bytes → Bool
matches pattern_text text = parts_match (parts pattern_text) text
