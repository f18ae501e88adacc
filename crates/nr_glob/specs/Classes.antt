-- Classes as a pattern spells them.
use Rattle.std.specs.Prelude.{◌≡◌, ℕ, true, false, ◌==◌, ◌||◌, List, [], ◌∷◌, drop}
use Rattle.nr_model.specs.Bytes.{Bytes}
use Rattle.nr_model.specs.Patterns.{Mark, escaped, plain, in_class, is_between}
use Rattle.nr_glob.specs.declared.classes.ByteMark.{ByteMark}

-- The marks of the class whose bytes begin here: to its first unescaped `]`, or to the end.
unfoldable pub class_marks : Bytes → List Mark
class_marks [] = []
class_marks (c ∷ []) = elim (c == 93) [ true ↦ [] | false ↦ plain c ∷ [] ]
class_marks (c ∷ d ∷ rest) =
    elim (c == 93) [
      | true ↦ []
      | false ↦ elim (c == 92) [ true ↦ escaped d ∷ class_marks rest | false ↦ plain c ∷ class_marks (d ∷ rest) ]
    ]

-- what stands behind the class
unfoldable pub class_rest : Bytes → Bytes
class_rest [] = []
class_rest (c ∷ []) = []
class_rest (c ∷ d ∷ rest) =
    elim (c == 93) [
      | true ↦ d ∷ rest
      | false ↦ elim (c == 92) [ true ↦ class_rest rest | false ↦ class_rest (d ∷ rest) ]
    ]

-- the mark that a byte of the program stands for
abbrev pub mark_seen : ByteMark → Mark
mark_seen mark = record { byte = mark.byte; escaped = mark.escaped }

-- the class ends here
pub record IsClassEnd (class : Bytes) : Type 0 where
  pub marks : class_marks class ≡ []
  pub rest : class_rest class ≡ drop 1 class

-- this mark is the class's first, and the class goes on behind it
pub record IsMarkFront (class : Bytes) (mark : Mark) (behind : Bytes) : Type 0 where
  pub marks : class_marks class ≡ mark ∷ class_marks behind
  pub rest : class_rest class ≡ class_rest behind

-- a mark in front of these bytes begins no range
abbrev pub IsNoRange : Bytes → Type 0
IsNoRange behind = (x : Mark) (c : ℕ) → in_class (x ∷ class_marks behind) c ≡ (x.byte == c || in_class (class_marks behind) c)

-- a mark in front of these bytes begins a range to this byte, and the class goes on behind it
abbrev pub IsRangeEnd : Bytes → ℕ → Bytes → Type 0
IsRangeEnd behind last rest = (x : Mark) (c : ℕ) → in_class (x ∷ class_marks behind) c ≡ (is_between x.byte last c || in_class (class_marks rest) c)
