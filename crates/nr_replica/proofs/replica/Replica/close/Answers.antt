use Rattle.std.proofs.Common.{◌<◌, ap, arith, length, get_or, set}
use Rattle.nr_replica.specs.Members.{closed_member, fresh_member, members_seen}
use Rattle.nr_replica.specs.Replicas.{ReplicaState}
use Rattle.nr_replica.proofs.Kept.{closed_numbered}
use Rattle.nr_replica.proofs.Listed.{within_seen}
use Rattle.nr_replica.proofs.Told.{moved_to}
use Rattle.nr_replica.proofs.replica.Replica.close.Goals as goal

pub close-requires : goal.close-requires
close-requires c =
    let inside = c.self.inside in
    within_seen inside.node c.args.serial inside.members.workers.items inside.members.outboxes.entries c.args.self.now.members (ap (λ (r : ReplicaState). r.members) c.self.view_is) c.requires

pub invariant_of-self : goal.invariant_of-self
invariant_of-self c =
    let inside = c.self.inside in
    let keeps = c.self.invariant in
    let olds = members_seen inside.node inside.members in
    let long = ap (λ (r : ReplicaState). length r.members) c.self.view_is in
    let within : c.args.serial < length olds = omega (arith, long, c.requires) in
    let d = fresh_member (record { node = inside.node; serial = 0 }) 0 0 in (
      keeps.0,
      keeps.1,
      closed_numbered inside.node c.args.serial olds (members_seen inside.node c.close.new.self) d keeps.2 within (c.close.ensures.closed inside.node d keeps.2),
      keeps.3,
      keeps.4,
      c.close.ensures.ready inside.node keeps.5,
    )

pub returns : goal.returns
returns c = λ d.
    let inside = c.self.inside in
    moved_to _ _ (λ r. set r.members c.args.serial (closed_member (get_or r.members c.args.serial d))) (members_seen inside.node c.close.new.self) c.self.view_is
    (c.close.ensures.closed inside.node d c.self.invariant.2)
