use Rattle.std.specs.Prelude.{◌≡◌, drop}
use Rattle.nr_crew.specs.Ended.{unless_wanted}
use Rattle.nr_crew.proofs.running.unless_wanted.Given as goal

abbrev pub invariant-loop-left : goal.invariant-loop-left
invariant-loop-left g l = unless_wanted (drop l.left-index l.lefts) ≡ unless_wanted l.lefts
