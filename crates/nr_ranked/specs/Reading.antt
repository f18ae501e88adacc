-- What commands on sorted sets read, as the definitions have it.
use Rattle.std.specs.Prelude.{ℕ, List, ◌∷◌, ◌++◌, Option, None, Some, Ok, map, ℤ, pos, negsuc}
use Rattle.nr_model.specs.SortedSets as model
use Rattle.nr_model.specs.Commands.Reading.{Read, read_then}
use Rattle.nr_model.specs.Commands.SortedSets as sorted_sets
use Rattle.nr_zbounds.specs.Ranges.{seen_bounds}
use Rattle.nr_zsets.specs.Lists.{shown}
use Rattle.nr_ranked.specs.declared.scoring.reading.AddRequest.{AddRequest}
use Rattle.nr_ranked.specs.declared.ranges.ends.RangeEnds.{RangeEnds}
use Rattle.nr_ranked.specs.declared.ranges.ends.RangeEnds.TheVariants.{Places, Within}

-- what is read behind one item, or behind several
abbrev pub with_first : {A : Type 0} → A → Read (List A) → Read (List A)
with_first first read = read_then read (λ others. Ok (first ∷ others))

abbrev pub with_front : {A : Type 0} → List A → Read (List A) → Read (List A)
with_front front read = read_then read (λ others. Ok (front ++ others))

abbrev pub add_request_of : AddRequest → sorted_sets.AddRequest
add_request_of request = record { name = request.name.now; options = request.options; pairs = map shown request.pairs.items }

-- the ends of a range
abbrev pub ends_of : RangeEnds → model.Ends
ends_of (Places first last) = model.Places first last
ends_of (Within bounds) = model.Within (seen_bounds bounds)

-- how many are told at most: a count below 0 is no limit
abbrev pub most_of : ℤ → Option ℕ
most_of (pos n) = Some n
most_of (negsuc n) = None
