-- The two ends of a range, each by itself.
use Rattle.std.specs.Prelude.{Bool}
use Rattle.std.specs.Ordering.{int_cmp}
use Rattle.nr_model.specs.Keyspace.{byte_cmp}
use Rattle.nr_model.specs.SortedSets as model
use Rattle.nr_model.specs.SortedSets.{Scored}
use Rattle.nr_zbounds.specs.Seen.{seen_score, seen_bytes}
use Rattle.nr_zbounds.specs.declared.bounds.Bounds.{Bounds}
use Rattle.nr_zbounds.specs.declared.bounds.Bounds.TheVariants as bounds

-- the bounds of a range, as those of the definitions
abbrev pub seen_bounds : Bounds → model.Bounds
seen_bounds (bounds.ByScore min max) = model.ByScore (seen_score min) (seen_score max)
seen_bounds (bounds.ByBytes min max) = model.ByBytes (seen_bytes min) (seen_bytes max)

-- whether a member stands at or behind the lower end
abbrev pub is_from : model.Bounds → Scored → Bool
is_from (model.ByScore min max) scored = model.is_from int_cmp min scored.1
is_from (model.ByBytes min max) scored = model.is_from byte_cmp min scored.0

-- and at or before the upper end
abbrev pub is_up_to : model.Bounds → Scored → Bool
is_up_to (model.ByScore min max) scored = model.is_up_to int_cmp max scored.1
is_up_to (model.ByBytes min max) scored = model.is_up_to byte_cmp max scored.0
