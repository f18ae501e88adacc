use Rattle.nr_combiner.specs.Steps.{HasLiftedAll}
use Rattle.nr_combiner.proofs.combiner.lift_all.Given as goal

abbrev pub invariant-loop-worker : goal.invariant-loop-worker
invariant-loop-worker g l = HasLiftedAll l.worker l.fn.combiner l.combiner
