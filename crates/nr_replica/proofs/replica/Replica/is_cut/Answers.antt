use Rattle.std.proofs.Common.{ap, ◌∙◌}
use Rattle.std.specs.Prelude.{slice_index_or}
use Rattle.nr_replica.specs.Replicas.{ReplicaState}
use Rattle.nr_replica.proofs.Listed.{within_seen}
use Rattle.nr_replica.proofs.replica.Replica.is_cut.Goals as goal

pub is_cut-requires : goal.is_cut-requires
is_cut-requires c =
    let inside = c.self.inside in
    within_seen inside.node c.args.serial inside.members.workers.items inside.members.outboxes.entries c.args.self.now.members (ap (λ (r : ReplicaState). r.members) c.self.view_is) c.requires

pub returns : goal.returns
returns c = λ d. c.is_cut.ensures c.self.inside.node d ∙ ap (λ (r : ReplicaState). (slice_index_or r.members c.args.serial d).outbox.cut) c.self.view_is
