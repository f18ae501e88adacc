use Rattle.nr_crew.specs.Together.{AreTakenOut}
use Rattle.nr_crew.proofs.running.keep_replicas.Given as goal

abbrev pub invariant-loop-node : goal.invariant-loop-node
invariant-loop-node g l = AreTakenOut l.fn.marks.items l.marks.items l.replicas.items
