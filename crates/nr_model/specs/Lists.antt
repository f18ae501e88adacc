-- What the commands on lists read and write: ends, places, ranges and matches (Redis command reference, list; ranges as those of strings).
use Rattle.std.specs.Prelude.{ℕ, zero, suc, ◌+◌, ◌-◌, nat_lt, if◌then◌else◌, ◌&&◌, bytes_eq, ℤ, pos, negsuc, List, [], ◌∷◌, ◌++◌, length, take, drop, map, filter, reverse, slice_get, slice_set, Option, Some, None}
use Rattle.std.specs.List.{insert, position, enumerate_from}
use Rattle.std.specs.Option.{option_map, option_and_then, unwrap_or}
use Rattle.nr_model.specs.Bytes.{Bytes}
use Rattle.nr_model.specs.declared.command.End.{End}
use Rattle.nr_model.specs.declared.command.End.TheVariants.{Left, Right}
use Rattle.nr_model.specs.declared.command.Side.{Side}
use Rattle.nr_model.specs.declared.command.Side.TheVariants.{Before, After}

-- with one more at an end
abbrev pub pushed : {A : Type 0} → End → A → List A → List A
pushed Left item items = item ∷ items
pushed Right item items = items ++ item ∷ []

-- without the one at an end
abbrev pub popped : {A : Type 0} → End → List A → List A
popped Left items = drop 1 items
popped Right items = take (length items - 1) items

-- the place of an index, where there is one: an index below 0 counts from the end
abbrev pub place_of : ℕ → ℤ → Option ℕ
place_of n (pos i) = if nat_lt i n then Some i else None
place_of n (negsuc i) = if nat_lt i n then Some (n - suc i) else None

-- the item at an index, and the list with another in its place
abbrev pub item_at : {A : Type 0} → ℤ → List A → Option A
item_at index items = option_and_then (slice_get items) (place_of (length items) index)

abbrev pub with_item_at : {A : Type 0} → ℤ → A → List A → List A
with_item_at index item items = unwrap_or (option_map (λ place. slice_set items place item) (place_of (length items) index)) items

-- the index of the item at an end
abbrev pub index_of : End → ℤ
index_of Left = pos 0
index_of Right = negsuc 0

-- where the first pivot stands
abbrev pub pivot_of : Bytes → List Bytes → Option ℕ
pivot_of pivot items = position (λ other. bytes_eq other pivot) items

-- with an item beside the first pivot, and as it was without one
abbrev pub beside : Side → ℕ → ℕ
beside Before place = place
beside After place = place + 1

abbrev pub inserted : Side → Bytes → Bytes → List Bytes → List Bytes
inserted side pivot item items = unwrap_or (option_map (λ place. insert items (beside side place) item) (pivot_of pivot items)) items

-- the items in the order in which they are looked at from an end
abbrev pub seen_from : {A : Type 0} → End → List A → List A
seen_from Left items = items
seen_from Right items = reverse items

-- a count below 0 goes from the end
abbrev pub end_of : ℤ → End
end_of (pos n) = Left
end_of (negsuc n) = Right

-- without the first so many that are this one
abbrev pub without_first : ℕ → Bytes → List Bytes → List Bytes
without_first most item [] = []
without_first most item (other ∷ items) =
    let goes = nat_lt 0 most && bytes_eq other item in
    let left = without_first (if goes then most - 1 else most) item items in
    if goes then left else other ∷ left

-- how many a count takes: 0 takes all
abbrev pub how_many : ℤ → ℕ → ℕ
how_many (pos zero) all = all
how_many (pos (suc n)) all = suc n
how_many (negsuc n) all = suc n

-- without as many of this one as a count takes, looked at from its end
abbrev pub removed : ℤ → Bytes → List Bytes → List Bytes
removed count item items = seen_from (end_of count) (without_first (how_many count (length items)) item (seen_from (end_of count) items))

-- at most so many of them, 0 being no limit
abbrev pub limited : {A : Type 0} → ℕ → List A → List A
limited zero xs = xs
limited (suc n) xs = take (suc n) xs

-- how many matches a rank passes over: rank 1 is the first from the front, -1 the first from the end
abbrev pub passed_over : ℤ → ℕ
passed_over (pos n) = n - 1
passed_over (negsuc n) = n

-- where an item stands, in the order found from the rank's match on: at most so many places, among so many items looked at
abbrev pub places_of : ℤ → ℕ → ℕ → Bytes → List Bytes → List ℕ
places_of rank count most item items =
    let looked_at = limited most (seen_from (end_of rank) (enumerate_from 0 items)) in
    let matches = filter (λ numbered. bytes_eq numbered.1 item) looked_at in
    map (λ numbered. numbered.0) (limited count (drop (passed_over rank) matches))
