-- The bounds of the code as those of the definitions.
use Rattle.std.specs.Prelude.{ℤ}
use Rattle.std.specs.Borrow.{Bor}
use Rattle.nr_model.specs.Bytes.{Bytes}
use Rattle.nr_model.specs.SortedSets as model
use Rattle.nr_zbounds.specs.declared.bound.Bound.{Bound}
use Rattle.nr_zbounds.specs.declared.bound.Bound.TheVariants as ends

-- a bound, where each value is seen so
abbrev pub seen_by : {A B : Type 0} → (A → B) → Bound A → model.Bound B
seen_by seen ends.Lowest = model.Lowest
seen_by seen ends.Highest = model.Highest
seen_by seen (ends.Including at) = model.Including (seen at)
seen_by seen (ends.Excluding at) = model.Excluding (seen at)

abbrev pub seen_score : Bound ℤ → model.Bound ℤ
seen_score = seen_by (λ score. score)

abbrev pub seen_bytes : Bound (Bor Bytes) → model.Bound Bytes
seen_bytes = seen_by (λ bytes. bytes.now)
