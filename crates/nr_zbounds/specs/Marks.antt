-- What stands behind the mark of a bound of members.
use Rattle.std.specs.Prelude.{ℕ, ◌==◌, if◌then◌else◌, Option, Some, None}
use Rattle.nr_model.specs.Bytes.{Bytes}
use Rattle.nr_model.specs.SortedSets.{Bound, Including, Excluding}

-- bytes behind `[`, or behind `(` where they don't belong to the range
abbrev pub marked : ℕ → Bytes → Option (Bound Bytes)
marked mark bytes = if mark == 91 then Some (Including bytes) else if mark == 40 then Some (Excluding bytes) else None
