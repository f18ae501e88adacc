use Rattle.std.proofs.Common.{◌≤◌, length}
use Rattle.nr_glob.proofs.Walking.{IsWalked}
use Rattle.nr_glob.proofs.walk_segment.Given as goal

abbrev pub invariant-loop-rest : goal.invariant-loop-rest
invariant-loop-rest l = record {
  walked : IsWalked l.pattern l.text l.rest l.left;
  less_pattern : length l.rest ≤ length l.pattern;
  less_text : length l.left ≤ length l.text;
}

abbrev pub decreases-loop-rest : goal.decreases-loop-rest
decreases-loop-rest l = length l.rest
