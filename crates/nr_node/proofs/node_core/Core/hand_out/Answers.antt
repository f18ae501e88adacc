use Rattle.std.proofs.Common.{◌≡◌, ◌<◌, [], refl, sym, ◌∙◌, subst, length}
use Rattle.std.specs.Prelude.{slice_index_or}
use Rattle.nr_model.specs.Items.{Connection}
use Rattle.nr_entry.specs.Jobs.{connection_of}
use Rattle.nr_replica.specs.Replicas.{ReplicaState}
use Rattle.nr_node.specs.Batches.{IsOpened, IsPiece}
use Rattle.nr_node.specs.Collected.{IsHanded}
use Rattle.nr_node.specs.Kept.{IsKept}
use Rattle.nr_node.specs.Level.{NodeState, connection_at}
use Rattle.nr_node.specs.Next.{jobs_next}
use Rattle.nr_node.specs.Steps.{nobody}
use Rattle.nr_node.specs.declared.collecting.LastPiece.{LastPiece}
use Rattle.nr_node.proofs.Collected.{is_handed}
use Rattle.nr_node.proofs.Orders.{is_sound}
use Rattle.nr_node.proofs.Taking.{some_is, none_is, none_handed, handed_kept, piece_is}
use Rattle.nr_node.proofs.node_core.Core.hand_out.Goals as goal

pub invariant_of-self-in_default : goal.invariant_of-self-in_default
invariant_of-self-in_default g c =
    let keeps = c.self.invariant in
    let inside = c.self.inside in
    let same = none_handed inside.replica c.take_piece.new.self c.args.conn.serial c.args.most (c.in_ok-piece.ensures.left nobody)
    (none_is _ _ c.in_default.is (c.in_ok-piece.ensures.none nobody)) in (
      subst (λ (r : ReplicaState). IsKept inside.end.standing r inside.accounts inside.next inside.nodes) (sym same) keeps.0,
      keeps.1,
      keeps.2,
      keeps.3,
      keeps.4,
      keeps.5,
    )

pub returns-in_default-clause-none : goal.returns-in_default-clause-none
returns-in_default-clause-none g c =
    let inside = c.self.inside in
    let none = none_is _ _ c.in_default.is (c.in_ok-piece.ensures.none nobody) in
    let same = none_handed inside.replica c.take_piece.new.self c.args.conn.serial c.args.most (c.in_ok-piece.ensures.left nobody) none in (
      subst (λ (n : NodeState). (slice_index_or n.replica.members c.args.conn.serial nobody).outbox.waiting ≡ []) c.self.view_is none,
      (λ i. record { seat = inside.end; replica = same i; book = inside.accounts; next = jobs_next inside.next }) ∙ c.self.view_is,
    )

pub invariant_of-self-2 : goal.invariant_of-self-2
invariant_of-self-2 g c =
    let keeps = c.self.invariant in
    let inside = c.self.inside in
    let there : c.args.conn.serial < length inside.replica.members = subst (λ (n : NodeState). c.args.conn.serial < length n.replica.members) (sym c.self.view_is) c.requires.opened.1 in (
      handed_kept inside.end.standing inside.end.standing inside.replica c.take_piece.new.self inside.accounts inside.next inside.nodes c.args.conn.serial
          c.args.most refl there (c.in_ok-piece.ensures.left nobody) keeps.0,
      keeps.1,
      keeps.2,
      keeps.3,
      keeps.4,
      keeps.5,
    )

pub returns-clause-handed : goal.returns-clause-handed
returns-clause-handed g c =
    let keeps = c.self.invariant in
    let inside = c.self.inside in
    let v : NodeState = record { seat = inside.end; replica = inside.replica; book = inside.accounts; next = jobs_next inside.next } in
    let opened : IsOpened v (connection_of c.args.conn) = subst (λ (n : NodeState). IsOpened n (connection_of c.args.conn)) (sym c.self.view_is) c.requires.opened in
    let is = some_is _ _ _ c.in-Some.is (c.in_ok-piece.ensures.piece nobody) in
    let piece = piece_is v (connection_of c.args.conn) c.args.most c.in-Some.piece inside.end.standing keeps.0.level opened refl
    (some_is _ _ _ c.in-Some.is c.in_ok-piece.ensures.some) is.0 is.1 is.2 in
    let named : connection_of c.args.conn ≡ connection_at v.replica.node c.args.conn.serial = λ i. record { node = opened.0 i; serial = c.args.conn.serial } in
    let w : NodeState = record { seat = inside.end; replica = c.take_piece.new.self; book = inside.accounts; next = jobs_next inside.next } in
    let one : LastPiece = record { piece = c.in-Some.piece; is_cut = c.is_cut-is_cut.result } in
    subst (λ (n : NodeState). IsHanded c.args.most c.args.conn.serial one n w) c.self.view_is
    (is_handed c.args.most c.args.conn.serial one v w (subst (λ (d : Connection). IsPiece v d c.args.most c.in-Some.piece inside.end.standing) named piece)
    (c.is_cut-is_cut.ensures nobody) keeps.0.level
    (is_sound inside.end.standing inside.end.standing inside.replica inside.accounts (jobs_next inside.next) refl keeps.1 keeps.0.level.opened keeps.0.order)
    record { replica = c.in_ok-piece.ensures.left nobody; standing = refl; looks = refl; book = refl; next = refl })
