use Rattle.std.proofs.Common.{◌≡◌, ◌≤◌, length}
use Rattle.nr_glob.specs.Classes.{class_rest}
use Rattle.nr_glob.proofs.classes.class_rest.Given as goal

abbrev pub invariant-loop-behind : goal.invariant-loop-behind
invariant-loop-behind l = record {
  same : class_rest l.class ≡ class_rest l.rest;
  shorter : length l.rest ≤ length l.class;
}

abbrev pub decreases-loop-behind : goal.decreases-loop-behind
decreases-loop-behind l = length l.rest
