use Rattle.std.proofs.Common.{ap}
use Rattle.nr_combiner.specs.Workers.{NodeHandleState}
use Rattle.nr_worker_service.proofs.Working.{looked_got, pieces_still, works_then}
use Rattle.nr_worker_service.proofs.turns.go_on_answered.Goals as goal

pub returns-clause-rest : goal.returns-clause-rest
returns-clause-rest g c =
    λ rest.
    looked_got g.B.LogName.places c.in-Some.collected c.hear_of_node.new.desk c.batches.result c.batches.ensures
    (pieces_still c.in-Some.collected c.collect_pieces.new.desk c.hear_of_node.new.desk (ap (λ (w : NodeHandleState). w.node) c.hear_of_node.ensures.worker)
    c.hear_of_node.ensures.mark (ap (λ (w : NodeHandleState). w.seat.noted) c.hear_of_node.ensures.worker) c.in-Some.ensures.handed)
    (c.next_collected.ensures rest)

pub returns-clause-works : goal.returns-clause-works
returns-clause-works g c =
    works_then c.args.desk.now c.collect_pieces.new.desk c.hear_of_node.new.desk c.collect_pieces.ensures.works c.hear_of_node.ensures.works
