use Rattle.nr_worker_service.proofs.Working.{works_same, works_then}
use Rattle.nr_worker_service.proofs.turns.try_for_a_while.Goals as goal

pub loop-init : goal.loop-init
loop-init g c = works_same c.args.desk.now

pub returns-in-Some-clause-works : goal.returns-in-Some-clause-works
returns-in-Some-clause-works g c = works_then c.args.desk.now c.loop.desk c.collect.new.desk c.loop.invariant c.collect.ensures.works

pub returns-in-Some-try_turn-clause-works : goal.returns-in-Some-try_turn-clause-works
returns-in-Some-try_turn-clause-works g c =
    works_then c.args.desk.now c.collect.new.desk c.try_turn.new.desk
    (works_then c.args.desk.now c.loop.desk c.collect.new.desk c.loop.invariant c.collect.ensures.works) c.try_turn.ensures.works

pub loop-preserved : goal.loop-preserved
loop-preserved g c =
    works_then c.args.desk.now c.collect.new.desk c.try_turn.new.desk
    (works_then c.args.desk.now c.loop.desk c.collect.new.desk c.loop.invariant c.collect.ensures.works) c.try_turn.ensures.works
