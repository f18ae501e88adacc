use Rattle.std.specs.Prelude.{◌≡◌, ℕ, ◌<◌, false}
use Rattle.nr_crew.specs.Dealing.{node_of}
use Rattle.nr_crew.proofs.dealing.deal_one.Given as goal

abbrev pub invariant-loop-passed : goal.invariant-loop-passed
invariant-loop-passed g l =
    (l.main ≡ l.fn.main)
    × ((before : ℕ) → before < l.passed → g.C.Admission.admits l.rooms (node_of l.setup.nodes l.number before) false)
