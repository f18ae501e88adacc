use Rattle.nr_worker_service.proofs.Working.{works_same, works_then}
use Rattle.nr_worker_service.proofs.turns.hear_of_cut.Goals as goal

pub returns-in_default : goal.returns-in_default
returns-in_default g c = works_same c.args.desk.now

pub loop-conn-init : goal.loop-conn-init
loop-conn-init g c = works_same c.args.desk.now

pub loop-conn-preserved : goal.loop-conn-preserved
loop-conn-preserved g c = works_then c.args.desk.now c.loop-conn.desk c.stop.new.desk c.loop-conn.invariant c.stop.ensures
