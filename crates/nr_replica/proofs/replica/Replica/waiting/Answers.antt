use Rattle.std.proofs.Common.{ap, ◌∙◌, length}
use Rattle.std.specs.Prelude.{slice_index_or}
use Rattle.nr_replica.specs.Replicas.{ReplicaState}
use Rattle.nr_replica.proofs.Listed.{within_seen}
use Rattle.nr_replica.proofs.replica.Replica.waiting.Goals as goal

pub waiting-requires : goal.waiting-requires
waiting-requires c =
    let inside = c.self.inside in
    within_seen inside.node c.args.serial inside.members.workers.items inside.members.outboxes.entries c.args.self.now.members (ap (λ (r : ReplicaState). r.members) c.self.view_is) c.requires

pub returns : goal.returns
returns c = λ d. c.waiting.ensures c.self.inside.node d ∙ ap (λ (r : ReplicaState). length (slice_index_or r.members c.args.serial d).outbox.waiting) c.self.view_is
