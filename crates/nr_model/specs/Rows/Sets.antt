-- Several sets as one, at some sets.
use Rattle.std.specs.Prelude.{◌≡◌, Bool, true, false, List, [], ◌∷◌, map}
use Rattle.std.specs.FinSet as set
use Rattle.nr_model.specs.Bytes.{Bytes}
use Rattle.nr_model.specs.Sets.{Members, intersection_of, union_of, difference_of}

-- members of one byte
abbrev pub a : Bytes
a = 97 ∷ []

abbrev pub b : Bytes
b = 98 ∷ []

abbrev pub c : Bytes
c = 99 ∷ []

abbrev pub first : Members
first = set.from_list (c ∷ a ∷ b ∷ [])

abbrev pub second : Members
second = set.from_list (c ∷ b ∷ [])

abbrev pub third : Members
third = set.from_list (b ∷ [])

-- which of a, b and c are members
abbrev pub which : Members → List Bool
which members = map (set.contains members) (a ∷ b ∷ c ∷ [])

pub record SetRows : Type 0 where
  pub common : which (intersection_of (first ∷ second ∷ [])) ≡ false ∷ true ∷ true ∷ []
  pub common_to_three : which (intersection_of (first ∷ second ∷ third ∷ [])) ≡ false ∷ true ∷ false ∷ []
  pub common_to_none : which (intersection_of []) ≡ false ∷ false ∷ false ∷ []
  pub joined : which (union_of (third ∷ second ∷ [])) ≡ false ∷ true ∷ true ∷ []
  pub joined_none : which (union_of []) ≡ false ∷ false ∷ false ∷ []
  pub less : which (difference_of (first ∷ third ∷ [])) ≡ true ∷ false ∷ true ∷ []
  pub less_two : which (difference_of (first ∷ third ∷ second ∷ [])) ≡ true ∷ false ∷ false ∷ []
  pub less_the_first : which (difference_of (third ∷ first ∷ [])) ≡ false ∷ false ∷ false ∷ []
  pub alone : which (difference_of (third ∷ [])) ≡ false ∷ true ∷ false ∷ []
