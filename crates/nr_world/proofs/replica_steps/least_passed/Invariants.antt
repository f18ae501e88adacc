use Rattle.std.proofs.Common.{◌≡◌, drop}
use Rattle.nr_world.specs.Replayed.{least_of}
use Rattle.nr_world.proofs.replica_steps.least_passed.Given as goal

-- what is left gives the rest
abbrev pub invariant-loop-node : goal.invariant-loop-node
invariant-loop-node l = least_of l.least (drop l.node-index l.nodes) ≡ least_of l.most l.nodes
