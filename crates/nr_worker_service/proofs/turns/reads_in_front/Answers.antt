use Rattle.nr_worker_service.proofs.Working.{works_reordered, works_same}
use Rattle.nr_worker_service.proofs.turns.reads_in_front.Goals as goal

pub returns-then-is_their_turn-clause-works : goal.returns-then-is_their_turn-clause-works
returns-then-is_their_turn-clause-works g c = works_reordered c.args.desk.now _ c.put_reads_first.ensures.reorders c.put_reads_first.ensures.goes

pub returns-else-is_their_turn-clause-works : goal.returns-else-is_their_turn-clause-works
returns-else-is_their_turn-clause-works g c = works_same c.args.desk.now
