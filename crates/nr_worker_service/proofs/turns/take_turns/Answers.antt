use Rattle.nr_worker_service.proofs.Working.{works_same, works_then}
use Rattle.nr_worker_service.proofs.turns.take_turns.Goals as goal

pub loop-turn-init : goal.loop-turn-init
loop-turn-init g c = works_same c.args.desk.now

pub returns-in-Rest-clause-works : goal.returns-in-Rest-clause-works
returns-in-Rest-clause-works g c = works_then c.args.desk.now c.loop-turn.desk c.take_bounded.new.desk c.loop-turn.invariant c.take_bounded.ensures.works

pub returns-in-Later-clause-works : goal.returns-in-Later-clause-works
returns-in-Later-clause-works g c = works_then c.args.desk.now c.loop-turn.desk c.take_bounded.new.desk c.loop-turn.invariant c.take_bounded.ensures.works

pub loop-turn-preserved : goal.loop-turn-preserved
loop-turn-preserved g c = works_then c.args.desk.now c.loop-turn.desk c.take_bounded.new.desk c.loop-turn.invariant c.take_bounded.ensures.works
