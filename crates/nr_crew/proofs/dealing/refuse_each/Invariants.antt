use Rattle.std.specs.Prelude.{◌≡◌}
use Rattle.nr_crew.proofs.dealing.refuse_each.Given as goal

abbrev pub invariant-loop-node : goal.invariant-loop-node
invariant-loop-node g l = g.L.Accepts.dealt l.main ≡ g.L.Accepts.dealt l.fn.main
