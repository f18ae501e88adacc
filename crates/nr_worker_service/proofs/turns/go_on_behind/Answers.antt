use Rattle.std.proofs.Common.{◌∙◌, ap}
use Rattle.nr_combiner.specs.Workers.{NodeHandleState}
use Rattle.nr_worker_service.proofs.Working.{looked_turned, works_then}
use Rattle.nr_worker_service.proofs.turns.go_on_behind.Goals as goal

pub returns-clause-rest : goal.returns-clause-rest
returns-clause-rest g c =
    λ rest.
    looked_turned g.B.LogName.places c.args.turned c.args.desk.now c.hear_of_node.new.desk c.batches.result
    (works_then c.args.desk.now c.collect-settled.new.desk c.hear_of_node.new.desk c.collect-settled.ensures.works c.hear_of_node.ensures.works)
    (c.hear_of_node.ensures.mark ∙ c.collect-settled.ensures.mark)
    (ap (λ (w : NodeHandleState). w.seat.noted) c.hear_of_node.ensures.worker ∙ c.collect-settled.ensures.heard) c.batches.ensures c.requires
    (c.next_of.ensures rest)

pub returns-clause-works : goal.returns-clause-works
returns-clause-works g c =
    works_then c.args.desk.now c.collect-settled.new.desk c.hear_of_node.new.desk c.collect-settled.ensures.works c.hear_of_node.ensures.works
