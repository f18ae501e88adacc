-- Nothing that contracts see changed, and each mark before this place met those behind it.
use Rattle.std.proofs.Common.{◌≡◌, ℕ, ◌<◌}
use Rattle.nr_taps.specs.Marks.{MeetsOthers}
use Rattle.nr_taps.proofs.mark.meet_marks.Given as goal

abbrev pub invariant-loop-place : goal.invariant-loop-place
invariant-loop-place g l = record {
  same : l.marks ≡ l.fn.marks;
  met : (place : ℕ) → place < l.place → MeetsOthers place l.fn.marks;
}
