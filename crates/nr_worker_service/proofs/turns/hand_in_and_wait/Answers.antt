use Rattle.nr_worker_service.proofs.Working.{works_then}
use Rattle.nr_worker_service.proofs.turns.hand_in_and_wait.Goals as goal

pub returns-in-Some-clause-works : goal.returns-in-Some-clause-works
returns-in-Some-clause-works g c =
    works_then c.args.desk.now c.reads_in_front-count.new.desk c.read_aside_soon.new.desk c.reads_in_front-count.ensures.works c.read_aside_soon.ensures.works

pub returns-clause-works : goal.returns-clause-works
returns-clause-works g c =
    works_then c.args.desk.now c.hand_in.new.desk c.wait_for_turn.new.desk
    (works_then c.args.desk.now c.read_aside_soon.new.desk c.hand_in.new.desk
    (works_then c.args.desk.now c.reads_in_front-count.new.desk c.read_aside_soon.new.desk c.reads_in_front-count.ensures.works c.read_aside_soon.ensures.works) c.hand_in.ensures)
    c.wait_for_turn.ensures.works
