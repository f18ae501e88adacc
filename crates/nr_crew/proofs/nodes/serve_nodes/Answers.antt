use Rattle.std.proofs.Common.{◌∙◌}
use Rattle.nr_crew.proofs.nodes.serve_nodes.Goals as goal

pub serve_named-requires-clause-workers : goal.serve_named-requires-clause-workers
serve_named-requires-clause-workers g c κs within = λ node one is. c.in-Ok-open_slots.ensures.workers node one is ∙ c.workers.ensures.value
