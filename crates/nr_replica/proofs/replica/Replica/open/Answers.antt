use Rattle.std.proofs.Common.{◌≡◌, ℕ, [], ◌∷◌, ◌++◌, ap, sym, ◌∙◌, length}
use Rattle.nr_model.specs.Items.{Connection}
use Rattle.nr_replica.specs.Members.{fresh_member, members_seen}
use Rattle.nr_replica.specs.Replicas.{ReplicaState}
use Rattle.nr_replica.proofs.Kept.{next_numbered}
use Rattle.nr_replica.proofs.Listed.{members_length}
use Rattle.nr_replica.proofs.Told.{moved_to}
use Rattle.nr_replica.proofs.replica.Replica.open.Goals as goal

pub invariant_of-self-2 : goal.invariant_of-self-2
invariant_of-self-2 c =
    let inside = c.self.inside in
    let keeps = c.self.invariant in
    let olds = members_seen inside.node inside.members in
    let conn : Connection = record { node = inside.node; serial = c.len.result } in
    let number : c.len.result ≡ length olds = c.len.ensures ∙ sym (members_length inside.node inside.members.workers.items inside.members.outboxes.entries) in (
      keeps.0,
      keeps.1,
      next_numbered inside.node olds (members_seen inside.node c.open.new.self) (fresh_member conn c.args.worker c.args.limit) keeps.2 c.in_ok-open.ensures.opened
          (ap (λ (s : ℕ). record { node = inside.node; serial = s }) number),
      keeps.3,
      keeps.4,
      c.open.ensures.ready keeps.5,
    )

pub returns-clause-conn : goal.returns-clause-conn
returns-clause-conn c =
    let inside = c.self.inside in
    let number : c.len.result ≡ length (members_seen inside.node inside.members) =
    c.len.ensures ∙ sym (members_length inside.node inside.members.workers.items inside.members.outboxes.entries) in
    ap (λ (s : ℕ). record { node = inside.node; serial = s }) number ∙ ap (λ (r : ReplicaState). record { node = r.node; serial = length r.members }) c.self.view_is

pub returns-clause-opened : goal.returns-clause-opened
returns-clause-opened c =
    let inside = c.self.inside in
    let olds = members_seen inside.node inside.members in
    let number : c.len.result ≡ length olds = c.len.ensures ∙ sym (members_length inside.node inside.members.workers.items inside.members.outboxes.entries) in
    moved_to _ _ (λ r. r.members ++ fresh_member (record { node = r.node; serial = length r.members }) c.args.worker c.args.limit ∷ [])
    (members_seen inside.node c.open.new.self) c.self.view_is
    (c.in_ok-open.ensures.opened
    ∙ ap (λ (s : ℕ). olds ++ fresh_member (record { node = inside.node; serial = s }) c.args.worker c.args.limit ∷ []) number)
