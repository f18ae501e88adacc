use Rattle.std.specs.Prelude.{◌≡◌}
use Rattle.std.specs.Vec.{vec_len}
use Rattle.nr_crew.proofs.nodes.share_nodes.Given as goal

abbrev pub invariant-loop-workers : goal.invariant-loop-workers
invariant-loop-workers g l = vec_len l.nodes ≡ l.workers-index
