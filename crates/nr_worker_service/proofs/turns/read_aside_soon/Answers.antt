use Rattle.std.proofs.Common.{subst, sym}
use Rattle.nr_worker_service.specs.Works.{Works}
use Rattle.nr_worker_service.proofs.Working.{works_same, works_then}
use Rattle.nr_worker_service.proofs.turns.read_aside_soon.Goals as goal

pub returns-then-count-lt-FEW_READS-clause-works : goal.returns-then-count-lt-FEW_READS-clause-works
returns-then-count-lt-FEW_READS-clause-works g c = works_same c.args.desk.now

pub loop-init : goal.loop-init
loop-init g c = works_same c.args.desk.now

pub loop-preserved : goal.loop-preserved
loop-preserved g c =
    subst (λ d. Works c.args.desk.now d) (sym c.pace_reads.ensures)
    (works_then c.args.desk.now c.loop.desk c.read_aside-turned.new.desk c.loop.invariant c.read_aside-turned.ensures.works)

pub returns-then-is_some-clause-works : goal.returns-then-is_some-clause-works
returns-then-is_some-clause-works g c =
    subst (λ d. Works c.args.desk.now d) (sym c.pace_reads.ensures)
    (works_then c.args.desk.now c.loop.desk c.read_aside-turned.new.desk c.loop.invariant c.read_aside-turned.ensures.works)
