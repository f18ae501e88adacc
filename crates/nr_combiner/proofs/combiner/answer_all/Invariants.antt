use Rattle.nr_combiner.specs.Steps.{HasAnsweredAll}
use Rattle.nr_combiner.proofs.combiner.answer_all.Given as goal

abbrev pub invariant-loop-worker : goal.invariant-loop-worker
invariant-loop-worker g l = HasAnsweredAll l.worker l.fn.combiner l.combiner
