-- Nothing that contracts see changed, and the mark met those that were passed.
use Rattle.std.proofs.Common.{◌≡◌}
use Rattle.nr_taps.specs.Marks.{HasMetFrom}
use Rattle.nr_taps.proofs.mark.meet_from.Given as goal

abbrev pub invariant-loop-other : goal.invariant-loop-other
invariant-loop-other g l = record {
  one : l.one ≡ l.fn.one;
  same : l.marks ≡ l.fn.marks;
  met : HasMetFrom l.fn.from l.other l.fn.one l.fn.marks;
}
