-- The members of a range, as places among all and as windows of them.
use Rattle.std.proofs.Common.{◌≡◌, ℕ, ◌-◌, ◌≤◌, min, ℤ, pos, negsuc, Bool, true, List, [], Option, None, Some, false, length, take, drop, refl, ap, sym, ◌∙◌, arith, length-take, length-drop}
use Rattle.std.proofs.lemmas.List.{length-reverse, nil_from_length}
use Rattle.std.proofs.Math.Seq.{take-nil, drop-nil}
use Rattle.std.specs.FinMap as finmap
use Rattle.nr_model.specs.Keyspace.{byte_cmp}
use Rattle.nr_model.specs.Replies.{array, Int}
use Rattle.nr_model.specs.SortedSets.{Scores, Scored, ranked, told_in, windowed, limited_to, Limit, Bounds, between, Ends, Places, Within, told_range}
use Rattle.nr_model.specs.Commands.SortedSets.{members_array, EndsRequest, ends_request, RangeOptions, RangeRequest, range_request, direction_of, sorted_at, count}
use Rattle.nr_model.specs.Commands.SortedSets as sorted_sets
use Rattle.nr_model.specs.Commands.Shape.{answered}
use Rattle.nr_model.specs.Commands.Reading.{Read}
use Rattle.nr_model.specs.Keyspace.{Keyspace}
use Rattle.nr_model.specs.Bytes.{Bytes}
use Rattle.nr_model.specs.declared.command.RangeBy.{RangeBy}
use Rattle.nr_model.specs.declared.command.RangeForm.{RangeForm}
use Rattle.std.specs.Prelude.{Ok}
use Rattle.nr_model.specs.Strings.{range, range_start, range_end}
use Rattle.nr_model.specs.declared.command.Direction.{Direction}
use Rattle.nr_model.specs.declared.command.Direction.TheVariants.{Ascending, Descending}
use Rattle.nr_zsets.specs.Lists.{part}
use Rattle.nr_zsets.proofs.Parts.{part_is}
use Rattle.nr_zsets.proofs.Ranked.{length-ranked}

pub length_told : (direction : Direction) (scores : Scores) → length (told_in direction (ranked scores)) ≡ finmap.len scores
length_told Ascending scores = length-ranked scores
length_told Descending scores = length-reverse (ranked scores) ∙ length-ranked scores

-- the places of a range among so many
pub told_places : (direction : Direction) (scores : Scores) (len from to : ℕ) (first last : ℤ) → len ≡ finmap.len scores → from ≡ range_start len first → to ≡ range_end len last
    → part from to (told_in direction (ranked scores)) ≡ range first last (told_in direction (ranked scores))
told_places direction scores len from to first last all starts ends =
    let xs = told_in direction (ranked scores) in
    let same : len ≡ length xs = all ∙ sym (length_told direction scores) in
    part_is from to xs
    ∙ ap (λ n. take (to - n) (drop n xs)) (starts ∙ ap (λ n. range_start n first) same)
    ∙ ap (λ n. take (n - range_start (length xs) first) (drop (range_start (length xs) first) xs)) (ends ∙ ap (λ n. range_end n last) same)

pub count_places : (scores : Scores) (len from to : ℕ) (first last : ℤ) → len ≡ finmap.len scores → from ≡ range_start len first → to ≡ range_end len last → to ≤ len
    → to - from ≡ length (range first last (ranked scores))
count_places scores len from to first last all starts ends within =
    let least : min to (length (ranked scores)) ≡ to = omega (arith, within, all, length-ranked scores) in
    let size : length (part from to (ranked scores)) ≡ min to (length (ranked scores)) - from =
    omega (arith, length-drop from (take to (ranked scores)), length-take to (ranked scores)) in
    sym (ap (λ n. n - from) least) ∙ sym size ∙ ap length (told_places Ascending scores len from to first last all starts ends)

pub end_within : (len to : ℕ) (last : ℤ) → to ≡ range_end len last → to ≤ len
end_within len to (pos n) is = omega (arith, is)
end_within len to (negsuc n) is = omega (arith, is)

-- of no members none is told
none_ranked : ranked finmap.empty ≡ []
none_ranked = nil_from_length _ (length-ranked finmap.empty ∙ finmap.len-empty byte_cmp ℤ)

pub nobody_told : (direction : Direction) → told_in direction (ranked finmap.empty) ≡ []
nobody_told Ascending = none_ranked
nobody_told Descending = ap (λ xs. told_in Descending xs) none_ranked

none_between : (direction : Direction) (bounds : Bounds) → told_in direction (between bounds (ranked finmap.empty)) ≡ []
none_between Ascending bounds = ap (between bounds) none_ranked
none_between Descending bounds = ap (λ xs. told_in Descending (between bounds xs)) none_ranked

windowed_nil : (offset count : ℤ) → windowed {A = Scored} offset count [] ≡ []
windowed_nil (pos n) (pos m) = ap (take m) (drop-nil n) ∙ take-nil m
windowed_nil (pos n) (negsuc m) = drop-nil n
windowed_nil (negsuc n) count = refl

limited_nil : (limit : Option Limit) → limited_to {A = Scored} limit [] ≡ []
limited_nil None = refl
limited_nil (Some limit) = windowed_nil limit.offset limit.count

range_nil : (first last : ℤ) → range {A = Scored} first last [] ≡ []
range_nil first last =
    ap (take (range_end 0 last - range_start 0 first)) (drop-nil (range_start 0 first)) ∙ take-nil (range_end 0 last - range_start 0 first)

pub nothing_told : (ends : Ends) (direction : Direction) (limit : Option Limit) → told_range ends direction limit finmap.empty ≡ []
nothing_told (Places first last) direction limit = ap (range first last) (nobody_told direction) ∙ range_nil first last
nothing_told (Within bounds) direction limit = ap (limited_to limit) (none_between direction bounds) ∙ limited_nil limit

nothing_shown : (with_scores : Bool) → array [] ≡ members_array with_scores []
nothing_shown false = refl
nothing_shown true = refl

pub shows_nothing : (with_scores : Bool) (ends : Ends) (direction : Direction) (limit : Option Limit)
    → array [] ≡ members_array with_scores (told_range ends direction limit finmap.empty)
shows_nothing with_scores ends direction limit =
    nothing_shown with_scores ∙ ap (members_array with_scores) (sym (nothing_told ends direction limit))

-- a missing key, in the answers of both commands
pub none_counted : (by : RangeBy) (keyspace : Keyspace) (database : ℕ) (words : List Bytes) (name : Bytes) (ends : Ends)
    → ends_request by words ≡ Ok (record { name = name; ends = ends }) → sorted_at keyspace database name ≡ Ok finmap.empty → Int (pos 0) ≡ count by keyspace database words
none_counted by keyspace database words name ends is missing =
    ap (λ (told : List Scored). Int (pos (length told))) (sym (nothing_told ends Ascending None))
    ∙ sym (ap (λ (read : Read EndsRequest). answered read (λ request. answered (sorted_at keyspace database request.name) (λ scores. Int (pos (length (told_range request.ends Ascending None scores)))))) is
    ∙ ap (λ (read : Read Scores). answered read (λ scores. Int (pos (length (told_range ends Ascending None scores))))) missing)

pub none_ranged : (form : RangeForm) (keyspace : Keyspace) (database : ℕ) (words : List Bytes) (name : Bytes) (ends : Ends) (options : RangeOptions)
    → range_request form words ≡ Ok (record { name = name; ends = ends; options = options }) → sorted_at keyspace database name ≡ Ok finmap.empty
    → array [] ≡ sorted_sets.range form keyspace database words
none_ranged form keyspace database words name ends options is missing =
    let told = λ (request : RangeRequest) (scores : Scores).
    members_array request.options.with_scores (told_range request.ends (direction_of request.options.reversed) request.options.limit scores) in
    shows_nothing options.with_scores ends (direction_of options.reversed) options.limit
    ∙ sym (ap (λ (read : Read RangeRequest). answered read (λ request. answered (sorted_at keyspace database request.name) (told request))) is
    ∙ ap (λ (read : Read Scores). answered read (told (record { name = name; ends = ends; options = options }))) missing)
