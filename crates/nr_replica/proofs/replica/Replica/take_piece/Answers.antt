use Rattle.std.proofs.Common.{◌≡◌, ◌<◌, ap, arith, length, take, get_or, set, subst}
use Rattle.std.specs.Prelude.{IfOk, IfSome, slice_index_or}
use Rattle.nr_entry.specs.Jobs.{connection_of}
use Rattle.nr_replica.specs.Members.{fresh_member, handed_member, members_seen}
use Rattle.nr_replica.specs.Replicas.{ReplicaState}
use Rattle.nr_replica.proofs.Kept.{handed_numbered}
use Rattle.nr_replica.proofs.Listed.{within_seen}
use Rattle.nr_replica.proofs.Told.{moved_on_ok, kept_on_err}
use Rattle.nr_replica.proofs.replica.Replica.take_piece.Goals as goal

pub take_piece-requires-clause-is_there : goal.take_piece-requires-clause-is_there
take_piece-requires-clause-is_there c =
    let inside = c.self.inside in
    within_seen inside.node c.args.serial inside.members.workers.items inside.members.outboxes.entries c.args.self.now.members (ap (λ (r : ReplicaState). r.members) c.self.view_is)
    c.requires.is_there

pub invariant_of-self : goal.invariant_of-self
invariant_of-self c =
    let inside = c.self.inside in
    let keeps = c.self.invariant in
    let olds = members_seen inside.node inside.members in
    let long = ap (λ (r : ReplicaState). length r.members) c.self.view_is in
    let within : c.args.serial < length olds = omega (arith, long, c.requires.is_there) in
    let d = fresh_member (record { node = inside.node; serial = 0 }) 0 0 in (
      keeps.0,
      keeps.1,
      handed_numbered c.take_piece.result inside.node c.args.serial c.args.most olds (members_seen inside.node c.take_piece.new.self) d keeps.2 within
          (c.take_piece.ensures.left inside.node d) (c.take_piece.ensures.unchanged inside.node),
      keeps.3,
      keeps.4,
      c.take_piece.ensures.ready inside.node keeps.5,
    )

pub returns-clause-piece : goal.returns-clause-piece
returns-clause-piece c = λ d.
    subst (λ (r : ReplicaState). IfOk c.take_piece.result (λ piece. IfSome piece (λ piece.
    (connection_of piece.conn ≡ record { node = r.node; serial = c.args.serial }) × (piece.from ≡ (slice_index_or r.members c.args.serial d).outbox.handed)
    × (piece.bytes.items ≡ take c.args.most (slice_index_or r.members c.args.serial d).outbox.waiting))))
    c.self.view_is
    (c.take_piece.ensures.piece c.self.inside.node d c.self.invariant.2)

pub returns-clause-left : goal.returns-clause-left
returns-clause-left c = λ d.
    let inside = c.self.inside in
    moved_on_ok c.take_piece.result _ _ (λ r. set r.members c.args.serial (handed_member c.args.most (get_or r.members c.args.serial d)))
    (members_seen inside.node c.take_piece.new.self) c.self.view_is (c.take_piece.ensures.left inside.node d)

pub returns-clause-unchanged : goal.returns-clause-unchanged
returns-clause-unchanged c =
    let inside = c.self.inside in
    kept_on_err c.take_piece.result _ _ (members_seen inside.node c.take_piece.new.self) c.self.view_is (c.take_piece.ensures.unchanged inside.node)
