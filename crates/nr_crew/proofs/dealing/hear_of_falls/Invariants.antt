use Rattle.std.specs.Prelude.{◌≡◌}
use Rattle.nr_crew.proofs.dealing.hear_of_falls.Given as goal

abbrev pub invariant-loop-node : goal.invariant-loop-node
invariant-loop-node g l = g.L.Accepts.dealt l.main ≡ g.L.Accepts.dealt l.fn.main
