use Rattle.std.proofs.Common.{ap, ◌∙◌}
use Rattle.nr_replica.specs.Members.{next_ready}
use Rattle.nr_replica.specs.Replicas.{ReplicaState}
use Rattle.nr_replica.proofs.replica.Replica.next_ready.Goals as goal

pub returns : goal.returns
returns c =
    let inside = c.self.inside in
    c.next_ready.ensures inside.node c.self.invariant.5 ∙ ap (λ (r : ReplicaState). next_ready c.args.worker c.args.from r.members) c.self.view_is
