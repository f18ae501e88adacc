use Rattle.std.proofs.Common.{◌≡◌, length}
use Rattle.nr_log_tests.proofs.moves.play_named.Given as goal

abbrev pub invariant-loop-node : goal.invariant-loop-node
invariant-loop-node g l = length l.outcomes.items ≡ l.node-index
