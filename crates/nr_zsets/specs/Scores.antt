-- The scores of members, as a map keeps them, and as items in order.
use Rattle.std.specs.Prelude.{◌≡◌, ◌≤◌, ◌<◌, ℕ, ℤ, not, Bool, if◌then◌else◌, Option, None, Some, List, [], ◌∷◌, length, filter, slice_get}
use Rattle.std.specs.List.{AllByRecursion}
use Rattle.std.specs.FinMap as finmap
use Rattle.std.specs.Ordering.{is_lt, int_cmp}
use Rattle.nr_model.specs.SortedSets.{Scored, Scores, scored_cmp, ranked, Bound, Bounds, ByScore, ByBytes, is_from, is_between}

-- the finite map of these entries
abbrev pub scores_of : List Scored → Scores
scores_of entries = finmap.from_entries entries

-- the map beside these items, which are few where there is none
abbrev pub IsIndexOf : Option Scores → List Scored → Type 0
IsIndexOf None xs = length xs ≤ 128
IsIndexOf (Some scores) xs = scores ≡ scores_of xs

-- one more may stand among them
abbrev pub HasRoom : Option Scores → List Scored → Type 0
HasRoom None xs = length xs < 128
HasRoom (Some scores) xs = scores ≡ scores_of xs

-- items in their order, each member once, and the map beside them
pub record IsSorted (index : Option Scores) (xs : List Scored) : Type 0 where
  pub ordered : xs ≡ ranked (scores_of xs)
  pub indexed : IsIndexOf index xs

-- the item at a place was put into a map
pub record IsPutAt (xs : List Scored) (place : ℕ) (old new : Scores) : Type 0 where
  pub item : Scored
  pub stands : slice_get xs place ≡ Some item
  pub put : new ≡ finmap.insert old item.0 item.1

-- whether one stands before another
abbrev pub is_before : Scored → Scored → Bool
is_before at scored = is_lt (scored_cmp scored at)

-- where one stands among others in order, or would stand
abbrev pub place_in : List Scored → Scored → ℕ
place_in xs at = length (filter (is_before at) xs)

-- all have the score of the first
abbrev pub HaveOneScore : List Scored → Type 0
HaveOneScore [] = Unit {0}
HaveOneScore (x ∷ xs) = AllByRecursion (λ y. y.1 ≡ x.1) xs

-- those between the bounds are known to stand behind one another
abbrev pub StandTogether : Bounds → List Scored → Type 0
StandTogether (ByScore min max) xs = Unit {0}
StandTogether (ByBytes min max) xs = HaveOneScore xs

-- one that is between the bounds
abbrev pub held : Bounds → Option Scored → Option Scored
held bounds None = None
held bounds (Some scored) = if is_between bounds scored then Some scored else None

abbrev pub held_at : Bounds → ℕ → List Scored → Option Scored
held_at bounds place xs = held bounds (slice_get xs place)

-- those before a lower end of scores
abbrev pub before : Bound ℤ → List Scored → List Scored
before min xs = filter (λ scored. not (is_from int_cmp min scored.1)) xs
