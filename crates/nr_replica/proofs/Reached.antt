-- What comes for one connection, where its queue is looked up.
use Rattle.std.proofs.Common.{◌≡◌, ◌⊎◌, ℕ, ◌<◌, ◌≤◌, ltb, inl, inr, List, [], ◌∷◌, length, get_or, ap, sym, ◌∙◌, subst, arith}
use Rattle.std.specs.Prelude.{Option, Some, None}
use Rattle.std.proofs.lemmas.Bool.{cases_Bool}
use Rattle.std.proofs.lemmas.Bool.Decides.{nat_tests}
use Rattle.std.proofs.lemmas.List.{set-get_or}
use Rattle.nr_model.specs.Bytes.{Bytes}
use Rattle.nr_model.specs.Items.{Connection}
use Rattle.nr_model.specs.Queues.{Queue, received}
use Rattle.nr_replica.specs.Members.{Member, fresh_member, Queues, queue_at, member_with, members_of, AreNumbered, AreReceived}
use Rattle.nr_replica.proofs.Listed.{IsPut, members_length, members_put, members_unseen, open_at, closed_at}
use Rattle.nr_replica.proofs.Received.{one_text, one_given, none_given}

-- within the first so many, or past them
pub placed : (i n : ℕ) → (i < n) ⊎ (n ≤ i)
placed i n = elim (cases_Bool (ltb i n)) [
  | inl h ↦ inl (grind (arith, nat_tests))
  | inr h ↦ inr (grind (arith, nat_tests))
]

abbrev Reaches : ℕ → Connection → Bytes → List ℕ → Queues → Queues → Type 0
Reaches node to text workers old new = AreReceived (one_text to text) (members_of node workers old) (members_of node workers new)

-- one that was never opened
pub unreached : (node : ℕ) (to : Connection) (text : Bytes) (workers : List ℕ) (queues : Queues) → AreNumbered node 0 (members_of node workers queues)
    → length workers ≤ to.serial → Reaches node to text workers queues queues
unreached node to text workers queues numbered past =
    none_given node to text (members_of node workers queues) numbered
    (λ serial below e.
    let same : to.serial ≡ serial = ap (λ (c : Connection). c.serial) e in
    let long = members_length node workers queues in
    absurd (omega arith))

-- one of another node
pub reached_elsewhere : (node : ℕ) (to : Connection) (text : Bytes) (workers : List ℕ) (queues : Queues) → AreNumbered node 0 (members_of node workers queues)
    → (to.node ≡ node → ⊥) → Reaches node to text workers queues queues
reached_elsewhere node to text workers queues numbered other =
    none_given node to text (members_of node workers queues) numbered (λ serial below e. other (ap (λ (c : Connection). c.node) e))

-- one that is open
pub reached_open : (node : ℕ) (to : Connection) (text : Bytes) (workers : List ℕ) (old new : Queues) (at queue : Queue) (refused : Option ℕ)
    → AreNumbered node 0 (members_of node workers old) → to.node ≡ node → Some at ≡ queue_at to.serial old → IsPut to.serial (Some queue) old new
    → queue ≡ received refused at (text ∷ []) → Reaches node to text workers old new
reached_open node to text workers old new at queue refused numbered own found put is =
    let s = to.serial in
    let d = fresh_member to 0 0 in
    let olds = members_of node workers old in
    elim (placed s (length workers)) [
      | inl within ↦
          let w = get_or workers s 0 in
          let e = open_at node workers old s d at within found in
          let long = members_length node workers old in
          subst (λ (news : List Member). AreReceived (one_text to text) olds news) (sym (members_put node s workers (Some queue) old new put))
          (one_given node s to text olds d (member_with node s w (Some queue)) refused numbered (omega arith)
          (λ i. record { node = own i; serial = s })
          (ap (λ (q : Queue). member_with node s w (Some q)) is
          ∙ ap (λ (m : Member). record m { outbox = received refused m.outbox (text ∷ []) }) (sym e)))
      | inr past ↦
          subst (λ (news : List Member). AreReceived (one_text to text) olds news) (sym (members_unseen node s workers (Some queue) old new put past))
          (unreached node to text workers old numbered past)
    ]

-- one that isn't
pub reached_closed : (node : ℕ) (to : Connection) (text : Bytes) (workers : List ℕ) (queues : Queues) → AreNumbered node 0 (members_of node workers queues)
    → to.node ≡ node → None ≡ queue_at to.serial queues → Reaches node to text workers queues queues
reached_closed node to text workers queues numbered own none =
    let s = to.serial in
    let d = fresh_member to 0 0 in
    let all = members_of node workers queues in
    elim (placed s (length workers)) [
      | inl within ↦
          let m = get_or all s d in
          let e = closed_at node workers queues s d within none in
          let long = members_length node workers queues in
          subst (λ (news : List Member). AreReceived (one_text to text) all news) (set-get_or all s d)
          (one_given node s to text all d m None numbered (omega arith) (λ i. record { node = own i; serial = s })
          (e ∙ ap (λ (m : Member). record m { outbox = received None m.outbox (text ∷ []) }) (sym e)))
      | inr past ↦ unreached node to text workers queues numbered past
    ]
