use Rattle.nr_worker_service.proofs.Working.{works_same, works_then}
use Rattle.nr_worker_service.proofs.turns.put_ends.Goals as goal

pub loop-init : goal.loop-init
loop-init g c = works_same c.args.desk.now

pub returns-then-not-put_end : goal.returns-then-not-put_end
returns-then-not-put_end g c = works_then c.args.desk.now c.loop.desk c.put_end.new.desk c.loop.invariant c.put_end.ensures

pub loop-preserved : goal.loop-preserved
loop-preserved g c = works_then c.args.desk.now c.loop.desk c.put_end.new.desk c.loop.invariant c.put_end.ensures
