use Rattle.nr_worker_service.proofs.Working.{works_then}
use Rattle.nr_worker_service.proofs.turns.take_turn.Goals as goal

pub returns-in-Turned-clause-works : goal.returns-in-Turned-clause-works
returns-in-Turned-clause-works g c =
    works_then c.args.desk.now c.hand_in_and_wait.new.desk c.go_on_behind.new.desk
    (works_then c.args.desk.now c.put_ends.new.desk c.hand_in_and_wait.new.desk c.put_ends.ensures c.hand_in_and_wait.ensures.works) c.go_on_behind.ensures.works

pub returns-in-Settled-clause-works : goal.returns-in-Settled-clause-works
returns-in-Settled-clause-works g c =
    works_then c.args.desk.now c.hand_in_and_wait.new.desk c.go_on_answered.new.desk
    (works_then c.args.desk.now c.put_ends.new.desk c.hand_in_and_wait.new.desk c.put_ends.ensures c.hand_in_and_wait.ensures.works) c.go_on_answered.ensures.works

pub returns-in-Nothing-clause-works : goal.returns-in-Nothing-clause-works
returns-in-Nothing-clause-works g c =
    works_then c.args.desk.now c.put_ends.new.desk c.hand_in_and_wait.new.desk c.put_ends.ensures c.hand_in_and_wait.ensures.works
