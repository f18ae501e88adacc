-- Ends, indexes, pivots, counts and ranks of lists, at some lists.
use Rattle.std.specs.Prelude.{◌≡◌, List, [], ◌∷◌, pos, negsuc, Some, None, fold}
use Rattle.nr_model.specs.Bytes.{Bytes}
use Rattle.nr_model.specs.Strings.{range}
use Rattle.nr_model.specs.declared.command.End.TheVariants.{Left, Right}
use Rattle.nr_model.specs.declared.command.Side.TheVariants.{Before, After}
use Rattle.nr_model.specs.Lists.{pushed, popped, item_at, with_item_at, inserted, removed, places_of}

-- items of one byte
abbrev a : Bytes
a = 97 ∷ []

abbrev b : Bytes
b = 98 ∷ []

abbrev c : Bytes
c = 99 ∷ []

abbrev some : List Bytes
some = a ∷ b ∷ c ∷ []

-- a b c a b a a
abbrev many : List Bytes
many = a ∷ b ∷ c ∷ a ∷ b ∷ a ∷ a ∷ []

pub record ListRows : Type 0 where
  pub pushed_one_by_one : fold (λ items item. pushed Left item items) [] some ≡ c ∷ b ∷ a ∷ []
  pub pushed_right : pushed Right c (a ∷ b ∷ []) ≡ some
  pub popped_left : popped Left some ≡ b ∷ c ∷ []
  pub popped_right : popped Right some ≡ a ∷ b ∷ []
  pub popped_none : popped {A = Bytes} Right [] ≡ []
  pub item_first : item_at (pos 0) some ≡ Some a
  pub item_last : item_at (negsuc 0) some ≡ Some c
  pub item_past : item_at (pos 3) some ≡ None
  pub item_before : item_at (negsuc 3) some ≡ None
  pub set_from_the_end : with_item_at (negsuc 1) a some ≡ a ∷ a ∷ c ∷ []
  pub set_outside : with_item_at (pos 3) a some ≡ some
  pub range_last_two : range (negsuc 1) (negsuc 0) some ≡ b ∷ c ∷ []
  pub range_clamped : range (negsuc 99) (pos 99) some ≡ some
  pub range_reversed : range (pos 2) (pos 1) some ≡ []
  pub inserted_before : inserted Before b c some ≡ a ∷ c ∷ b ∷ c ∷ []
  pub inserted_after_the_first : inserted After a c (a ∷ b ∷ a ∷ []) ≡ a ∷ c ∷ b ∷ a ∷ []
  pub inserted_nowhere : inserted After c b (a ∷ b ∷ []) ≡ a ∷ b ∷ []
  pub removed_from_the_front : removed (pos 2) a many ≡ b ∷ c ∷ b ∷ a ∷ a ∷ []
  pub removed_from_the_end : removed (negsuc 1) a many ≡ a ∷ b ∷ c ∷ a ∷ b ∷ []
  pub removed_all : removed (pos 0) a many ≡ b ∷ c ∷ b ∷ []
  pub place_first : places_of (pos 1) 1 0 a many ≡ 0 ∷ []
  pub place_second : places_of (pos 2) 1 0 a many ≡ 3 ∷ []
  pub place_last : places_of (negsuc 0) 1 0 a many ≡ 6 ∷ []
  pub places_from_the_end : places_of (negsuc 1) 2 0 a many ≡ 5 ∷ 3 ∷ []
  pub places_all : places_of (pos 1) 0 0 a many ≡ 0 ∷ 3 ∷ 5 ∷ 6 ∷ []
  pub places_among_four : places_of (pos 1) 0 4 a many ≡ 0 ∷ 3 ∷ []
  pub places_of_the_last_two : places_of (negsuc 0) 0 2 b many ≡ []
