use Rattle.std.proofs.Common.{◌≡◌, [], length}
use Rattle.nr_script.specs.Lines.{lines_of}
use Rattle.nr_script.proofs.Printed.{SoFar}
use Rattle.nr_script.proofs.playing.script_on.Given as goal

abbrev pub invariant-loop-number : goal.invariant-loop-number
invariant-loop-number g l = record {
  so_far : SoFar (lines_of l.fn.text) l.lines.lines l.lines.passed l.player (g.W.Write.contents l.fn.writer) (g.W.Write.contents l.writer);
  empty : l.out.items ≡ [];
}

abbrev pub decreases-loop-number : goal.decreases-loop-number
decreases-loop-number g l = length l.lines.lines
