-- Connections that give back their room.
use Rattle.std.proofs.Common.{◌≡◌, ℕ, Bool, true, false, refl, ap, ◌∙◌}
use Rattle.std.specs.Prelude.{if◌then◌else◌, Option, Some, None, IfSome, IfNone}
use Rattle.nr_entry.specs.Jobs.{connection_of}
use Rattle.nr_entry.specs.declared.conn.ConnId.{ConnId}
use Rattle.nr_node.specs.Batches.{IsOpened}
use Rattle.nr_node.specs.Level.{NodeState, is_closed_at, worker_at}
use Rattle.nr_node.specs.Steps.{closed_node}
use Rattle.nr_combiner.specs.Counts.{Counts, closed_of, with_closed}
use Rattle.nr_combiner.specs.Served.{CombinerState}
use Rattle.nr_combiner.specs.Steps.{closed_combiner}

-- of a connection that was opened and isn't closed the worker goes on
pub counts_left : (who : Option ℕ) (closed : Bool) (at : ℕ) (P : Type 0) (counts : Counts)
    → IfSome who (λ worker. P × (closed ≡ false) × (worker ≡ at)) → IfNone who (P × (closed ≡ false) → ⊥) → P
    → closed_of who counts ≡ (if closed then counts else with_closed at counts)
counts_left (Some worker) true at P counts some none p = absurd (cc some.1)
counts_left (Some worker) false at P counts some none p = ap (λ (w : ℕ). with_closed w counts) some.2
counts_left None true at P counts some none p = refl
counts_left None false at P counts some none p = absurd (none (p, refl))

pub counts_kept : (who : Option ℕ) (closed : Bool) (at : ℕ) (P : Type 0) (counts : Counts)
    → IfSome who (λ worker. P × (closed ≡ false) × (worker ≡ at)) → (P → ⊥) → closed_of who counts ≡ counts
counts_kept (Some worker) closed at P counts some apart = absurd (apart some.0)
counts_kept None closed at P counts some apart = refl

-- a connection was closed, or passed over
pub record HasClosed (conn : ConnId) (c d : CombinerState) : Type 0 where
  pub closed : IsOpened c.node (connection_of conn) → d ≡ closed_combiner conn.serial c
  pub other : (IsOpened c.node (connection_of conn) → ⊥) → d ≡ c

pub closed_room : (c : CombinerState) (m : NodeState) (left : Counts) (conn : ConnId) (who : Option ℕ)
    → IfSome who (λ worker. IsOpened c.node (connection_of conn) × (is_closed_at conn.serial c.node.replica.members ≡ false)
    × (worker ≡ worker_at conn.serial c.node.replica.members))
    → IfNone who (IsOpened c.node (connection_of conn) × (is_closed_at conn.serial c.node.replica.members ≡ false) → ⊥)
    → left ≡ closed_of who c.counts
    → (IsOpened c.node (connection_of conn) → m ≡ closed_node conn.serial c.node) → ((IsOpened c.node (connection_of conn) → ⊥) → m ≡ c.node)
    → HasClosed conn c (record { node = m; seat = c.seat; counts = left })
closed_room c m left conn who some none is closed other =
    let members = c.node.replica.members in
    let at = worker_at conn.serial members in
    let shut = is_closed_at conn.serial members in
    let P = IsOpened c.node (connection_of conn) in
    record {
      closed = λ o.
          let counts = is ∙ counts_left who shut at P c.counts some none o in
          λ i. record { node = closed o i; seat = c.seat; counts = counts i };
      other = λ apart.
          let counts = is ∙ counts_kept who shut at P c.counts some apart in
          λ i. record { node = other apart i; seat = c.seat; counts = counts i };
    }
