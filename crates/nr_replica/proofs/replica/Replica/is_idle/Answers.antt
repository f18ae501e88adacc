use Rattle.std.proofs.Common.{ap, sym, ◌∙◌}
use Rattle.nr_replica.specs.Replicas.{ReplicaState}
use Rattle.nr_replica.proofs.Told.{none_waits}
use Rattle.nr_replica.proofs.replica.Replica.is_idle.Goals as goal

pub returns : goal.returns
returns c = λ idle. sym (ap (λ (r : ReplicaState). r.waiting) c.self.view_is) ∙ none_waits c.self.inside.waiting.jobs (sym c.is_empty.ensures ∙ idle)
