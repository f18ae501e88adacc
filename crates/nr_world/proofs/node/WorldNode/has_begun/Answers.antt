use Rattle.std.proofs.Common.{Bool, List, None, ap, sym, ◌∙◌}
use Rattle.std.specs.Prelude.{◌||◌}
use Rattle.std.specs.List.{list_any}
use Rattle.nr_model.specs.Nodes.Steps.{has_batch}
use Rattle.nr_world.specs.declared.worker.WorldWorker.{WorldWorker}
use Rattle.nr_world.specs.Workers.{worker_seen}
use Rattle.nr_world.specs.Served.{workers_seen}
use Rattle.nr_world.proofs.Revived.{any_seen}
use Rattle.nr_world.proofs.node.WorldNode.has_begun.Goals as goal

pub returns-else-is_filling : goal.returns-else-is_filling
returns-else-is_filling c =
    c.any_batch.ensures
    ∙ ap (λ (workers : List WorldWorker). list_any (λ (worker : WorldWorker). has_batch (worker_seen worker None)) workers) c.deref.ensures.value
    ∙ any_seen c.args.self.now.workers.items c.args.self.now.replica.owed c.requires.owed
    ∙ sym (ap (λ (b : Bool). b || list_any has_batch (workers_seen c.args.self.now.workers.items c.args.self.now.replica.owed))
    (sym c.is_filling.ensures ∙ c.if-is_filling.false))
