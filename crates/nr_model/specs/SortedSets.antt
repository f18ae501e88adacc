-- What the commands on sorted sets read and write: members with whole scores, in the order of the scores and then of the bytes (Redis command
-- reference, sorted set; whole scores, their texts and their range own).
use Rattle.std.specs.Prelude.{ℕ, ◌+◌, ◌^◌, ◌&&◌, ◌||◌, ◌==◌, not, Bool, true, false, nat_le, nat_lt, if◌then◌else◌, List, [], ◌∷◌, take, drop, filter, fold, reverse, Option, Some, None, ℤ, pos, negsuc, ◌+ℤ◌, ◌*ℤ◌, int_lt, bytes_eq, codes}
use Rattle.std.specs.List.{list_all, position}
use Rattle.std.specs.Option.{option_or, option_map, option_and_then}
use Rattle.std.specs.Ordering.{int_cmp, ordering_then, is_lt}
use Rattle.std.specs.declared.cmp.Ordering.{Ordering}
use Rattle.std.specs.FinMap as finmap
use Rattle.std.specs.Coded.{Coded, coded_ℤ}
use Rattle.nr_model.specs.Bytes.{Bytes}
use Rattle.nr_model.specs.Numbers.{int_value}
use Rattle.nr_model.specs.Keyspace.{byte_cmp, coded_bytes}
use Rattle.nr_model.specs.Names.{in_order}
use Rattle.nr_model.specs.Strings.{range}
use Rattle.nr_model.specs.Sets.{Members, listed}
use Rattle.nr_model.specs.declared.command.Aggregate.{Aggregate}
use Rattle.nr_model.specs.declared.command.Aggregate.TheVariants.{Sum, Min, Max}
use Rattle.nr_model.specs.declared.command.Joining.{Joining}
use Rattle.nr_model.specs.declared.command.Joining.TheVariants.{Union, Intersection}
use Rattle.nr_model.specs.declared.command.Direction.{Direction}
use Rattle.nr_model.specs.declared.command.Direction.TheVariants.{Ascending, Descending}

-- members, each with its score
abbrev pub Scores : Type 0
Scores = finmap.FinMap byte_cmp ℤ

abbrev pub coded_scores : Coded Scores
coded_scores = finmap.code coded_bytes coded_ℤ

-- one of them
abbrev pub Scored : Type 0
Scored = Bytes × ℤ

-- by score, and of equal scores by the bytes of the members
abbrev pub scored_cmp : Scored → Scored → Ordering
scored_cmp a b = ordering_then (int_cmp a.1 b.1) (byte_cmp a.0 b.0)

-- all of them, in that order
abbrev pub ranked : Scores → List Scored
ranked scores = in_order scored_cmp (finmap.entries scores)

-- from the least score on, or from the greatest
abbrev pub told_in : {A : Type 0} → Direction → List A → List A
told_in Ascending xs = xs
told_in Descending xs = reverse xs

-- the place of a member, counted from 0
abbrev pub rank_of : Direction → Scores → Bytes → Option ℕ
rank_of direction scores member = position (λ scored. bytes_eq scored.0 member) (told_in direction (ranked scores))

-- scores are whole numbers from -2^53 to 2^53
abbrev pub greatest_score : ℕ
greatest_score = 2 ^ 53

abbrev pub is_score : ℤ → Bool
is_score (pos n) = nat_le n greatest_score
is_score (negsuc n) = nat_lt n greatest_score

abbrev pub as_score : ℤ → Option ℤ
as_score z = if is_score z then Some z else None

-- the text of a score: an integer's, behind which a point and zeros may stand
abbrev pub are_zeros : Bytes → Bool
are_zeros [] = false
are_zeros (c ∷ cs) = list_all (λ d. d == 48) (c ∷ cs)

abbrev pub whole_text : Bytes → Option ℕ → Option Bytes
whole_text text None = Some text
whole_text text (Some point) = if are_zeros (drop (point + 1) text) then Some (take point text) else None

abbrev pub score_value : Bytes → Option ℤ
score_value text = option_and_then as_score (option_and_then int_value (whole_text text (position (λ c. c == 46) text)))

-- an end of a range: below all, above all, or at one that belongs to the range or doesn't
pub data Bound (A : Type 0) : Type 0 where
  Lowest : Bound A
  Highest : Bound A
  Including : A → Bound A
  Excluding : A → Bound A

-- `-inf`, `+inf` and `inf`
abbrev pub endless : Bytes → Option (Bound ℤ)
endless text =
    if bytes_eq text (codes "-inf") then Some Lowest
    else if bytes_eq text (codes "+inf") || bytes_eq text (codes "inf") then Some Highest
    else None

-- the text of a bound of scores: one of these or a score's, behind a `(` where it doesn't belong to the range
abbrev pub bound_by : (ℤ → Bound ℤ) → Bytes → Option (Bound ℤ)
bound_by at text = option_or (endless text) (option_map at (score_value text))

abbrev pub score_bound : Bytes → Option (Bound ℤ)
score_bound [] = None
score_bound (c ∷ text) = if c == 40 then bound_by Excluding text else bound_by Including (c ∷ text)

-- the text of a bound of members: `-`, `+`, or bytes behind `[` or, where they don't belong to the range, behind `(`
abbrev pub byte_bound : Bytes → Option (Bound Bytes)
byte_bound [] = None
byte_bound (c ∷ text) =
    if bytes_eq (c ∷ text) (codes "-") then Some Lowest
    else if bytes_eq (c ∷ text) (codes "+") then Some Highest
    else if c == 91 then Some (Including text)
    else if c == 40 then Some (Excluding text)
    else None

-- whether one stands at or behind the lower end of a range
abbrev pub is_from : {A : Type 0} → (A → A → Ordering) → Bound A → A → Bool
is_from cmp Lowest a = true
is_from cmp Highest a = false
is_from cmp (Including low) a = not (is_lt (cmp a low))
is_from cmp (Excluding low) a = is_lt (cmp low a)

-- and at or before the upper end
abbrev pub is_up_to : {A : Type 0} → (A → A → Ordering) → Bound A → A → Bool
is_up_to cmp Lowest a = false
is_up_to cmp Highest a = true
is_up_to cmp (Including high) a = not (is_lt (cmp high a))
is_up_to cmp (Excluding high) a = is_lt (cmp a high)

abbrev pub is_within : {A : Type 0} → (A → A → Ordering) → Bound A → Bound A → A → Bool
is_within cmp min max a = is_from cmp min a && is_up_to cmp max a

-- what bounds are set on: scores, or the bytes of members whatever their scores are (own where scores differ)
pub data Bounds : Type 0 where
  ByScore : Bound ℤ → Bound ℤ → Bounds
  ByBytes : Bound Bytes → Bound Bytes → Bounds

abbrev pub is_between : Bounds → Scored → Bool
is_between (ByScore min max) scored = is_within int_cmp min max scored.1
is_between (ByBytes min max) scored = is_within byte_cmp min max scored.0

-- those between two bounds, in order
abbrev pub between : Bounds → List Scored → List Scored
between bounds scored = filter (is_between bounds) scored

-- without some of them
abbrev pub without : List Scored → Scores → Scores
without gone scores = fold (λ left scored. finmap.remove left scored.0) scores gone

-- so many of a list, some being passed over (Redis LIMIT): below 0 passed over there are none, and a count below 0 takes all
pub record Limit : Type 0 where
  pub offset : ℤ
  pub count : ℤ

abbrev pub counted : {A : Type 0} → ℤ → List A → List A
counted (pos n) xs = take n xs
counted (negsuc n) xs = xs

abbrev pub windowed : {A : Type 0} → ℤ → ℤ → List A → List A
windowed (pos n) count xs = counted count (drop n xs)
windowed (negsuc n) count xs = []

abbrev pub limited_to : {A : Type 0} → Option Limit → List A → List A
limited_to None xs = xs
limited_to (Some limit) xs = windowed limit.offset limit.count xs

-- the ends of a range: places, of which those below 0 count from the end, or bounds
pub data Ends : Type 0 where
  Places : ℤ → ℤ → Ends
  Within : Bounds → Ends

-- the members of a range, in the direction in which they are told
abbrev pub told_range : Ends → Direction → Option Limit → Scores → List Scored
told_range (Places first last) direction limit scores = range first last (told_in direction (ranked scores))
told_range (Within bounds) direction limit scores = limited_to limit (told_in direction (between bounds (ranked scores)))

-- the members of a set, each with score 1
abbrev pub of_members : Members → Scores
of_members members = fold (λ scores member. finmap.insert scores member (pos 1)) finmap.empty (listed members)

-- two scores of one member as one, where it had one before
abbrev pub aggregated : Aggregate → Option ℤ → ℤ → ℤ
aggregated aggregate None score = score
aggregated Sum (Some before) score = before +ℤ score
aggregated Min (Some before) score = if int_lt score before then score else before
aggregated Max (Some before) score = if int_lt before score then score else before

-- several sorted sets, each with the weight that its scores are multiplied by; where no weight is given it is 1
pub record Source : Type 0 where
  pub scores : Scores
  pub weight : ℤ

abbrev pub weighted : List Scores → List ℤ → List Source
weighted [] weights = []
weighted (scores ∷ others) [] = record { scores = scores; weight = pos 1 } ∷ weighted others []
weighted (scores ∷ others) (weight ∷ weights) = record { scores = scores; weight = weight } ∷ weighted others weights

-- what each member has with one source more
abbrev pub gathered_one : Aggregate → ℤ → Scores → Scored → Scores
gathered_one aggregate weight sums scored = finmap.insert sums scored.0 (aggregated aggregate (finmap.get sums scored.0) (weight *ℤ scored.1))

abbrev pub gathered : Aggregate → Scores → Source → Scores
gathered aggregate sums source = fold (gathered_one aggregate source.weight) sums (finmap.entries source.scores)

-- several as one: exact, whatever the scores become
abbrev pub are_in_all : List Source → Bytes → Bool
are_in_all sources member = list_all (λ source. finmap.contains_key source.scores member) sources

abbrev pub joined : Joining → Aggregate → List Source → Scores
joined Union aggregate sources = fold (gathered aggregate) finmap.empty sources
joined Intersection aggregate sources = finmap.retain_keys (fold (gathered aggregate) finmap.empty sources) (are_in_all sources)

-- all of the scores are such as sorted sets may have
abbrev pub are_scores : Scores → Bool
are_scores scores = list_all is_score (finmap.values scores)
