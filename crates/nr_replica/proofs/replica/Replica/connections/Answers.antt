use Rattle.std.proofs.Common.{ap, sym, ◌∙◌, length}
use Rattle.nr_replica.specs.Replicas.{ReplicaState}
use Rattle.nr_replica.proofs.Listed.{members_length}
use Rattle.nr_replica.proofs.replica.Replica.connections.Goals as goal

pub returns : goal.returns
returns c =
    let inside = c.self.inside in
    c.len.ensures ∙ sym (members_length inside.node inside.members.workers.items inside.members.outboxes.entries)
    ∙ ap (λ (r : ReplicaState). length r.members) c.self.view_is
