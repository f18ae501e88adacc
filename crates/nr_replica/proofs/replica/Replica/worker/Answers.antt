use Rattle.std.proofs.Common.{ap, ◌∙◌}
use Rattle.std.specs.Prelude.{slice_index_or}
use Rattle.nr_replica.specs.Replicas.{ReplicaState}
use Rattle.nr_replica.proofs.Listed.{within_seen}
use Rattle.nr_replica.proofs.replica.Replica.worker.Goals as goal

pub worker-requires : goal.worker-requires
worker-requires c =
    let inside = c.self.inside in
    within_seen inside.node c.args.serial inside.members.workers.items inside.members.outboxes.entries c.args.self.now.members (ap (λ (r : ReplicaState). r.members) c.self.view_is) c.requires

pub returns : goal.returns
returns c = λ d. c.worker.ensures c.self.inside.node d ∙ ap (λ (r : ReplicaState). (slice_index_or r.members c.args.serial d).worker) c.self.view_is
