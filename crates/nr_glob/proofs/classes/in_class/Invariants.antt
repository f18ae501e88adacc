use Rattle.std.proofs.Common.{◌≡◌, length}
use Rattle.nr_model.specs.Patterns.{in_class}
use Rattle.nr_glob.specs.Classes.{class_marks}
use Rattle.nr_glob.proofs.classes.in_class.Given as goal

abbrev pub invariant-loop-mark : goal.invariant-loop-mark
invariant-loop-mark l = in_class (class_marks l.class) l.byte ≡ in_class (class_marks l.rest) l.byte

abbrev pub decreases-loop-mark : goal.decreases-loop-mark
decreases-loop-mark l = length l.rest
