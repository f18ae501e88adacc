use Rattle.nr_worker_service.proofs.Working.{works_then}
use Rattle.nr_worker_service.proofs.turns.wait_for_turn.Goals as goal

pub returns-in-Some-try_counted-clause-works : goal.returns-in-Some-try_counted-clause-works
returns-in-Some-try_counted-clause-works g c = works_then c.args.desk.now c.try_turn.new.desk c.try_counted.new.desk c.try_turn.ensures.works c.try_counted.ensures.works

pub returns-in-Some-turn-clause-works : goal.returns-in-Some-turn-clause-works
returns-in-Some-turn-clause-works g c =
    works_then c.args.desk.now c.try_counted.new.desk c.turn.new.desk
    (works_then c.args.desk.now c.try_turn.new.desk c.try_counted.new.desk c.try_turn.ensures.works c.try_counted.ensures.works) c.turn.ensures.works

pub returns-in-None-clause-works : goal.returns-in-None-clause-works
returns-in-None-clause-works g c =
    works_then c.args.desk.now c.try_counted.new.desk c.turn.new.desk
    (works_then c.args.desk.now c.try_turn.new.desk c.try_counted.new.desk c.try_turn.ensures.works c.try_counted.ensures.works) c.turn.ensures.works
