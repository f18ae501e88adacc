-- One seat changes: those of the other connections stay, and what was handed out goes on to be counted.
use Rattle.std.proofs.Common.{◌≡◌, ℕ, true, false, cond, Option, Some, None, length, refl, ap, sym, ◌∙◌, subst, eq-eqb}
use Rattle.std.specs.Prelude.{◌==◌, ◌&&◌}
use Rattle.std.specs.Cmp.{unsigned_ties, nat_cmp_total, eq_by_cmp_equiv}
use Rattle.std.proofs.lemmas.Bool.{eqb-true}
use Rattle.nr_model.specs.Bytes.{Bytes}
use Rattle.nr_model.specs.Items.{Connection, same_connection}
use Rattle.nr_worker.specs.Seated.{OpenConnectionState}
use Rattle.nr_worker.specs.Placed.{OpenConnectionsState, seat_at, IsPut}
use Rattle.nr_worker.specs.Portions.{seat_of, EachSeat, HasHandedOut}

same_turned : (a b : ℕ) → (a == b) ≡ (b == a)
same_turned a b = unsigned_ties a b ∙ (eq_by_cmp_equiv nat_cmp_total).symm a b ∙ sym (unsigned_ties b a)

-- the connection of a node and a serial
abbrev pub named : ℕ → ℕ → Connection
named node serial = record { node = node; serial = serial }

-- what stands there now
pub seat_here : (node serial : ℕ) (seat : Option OpenConnectionState) (old new : OpenConnectionsState) → IsPut serial seat old new
    → seat_of node new (named node serial) ≡ seat
seat_here node serial seat old new put =
    ap (λ b. cond b (seat_at serial new) None) (eq-eqb node node refl) ∙ put.at serial
    ∙ ap (λ b. cond b seat (seat_at serial old)) (eq-eqb serial serial refl)

-- and elsewhere what did
pub seat_others : (node serial : ℕ) (seat : Option OpenConnectionState) (old new : OpenConnectionsState) → IsPut serial seat old new
    → (other : Connection) → same_connection other (named node serial) ≡ false → seat_of node new other ≡ seat_of node old other
seat_others node serial seat old new put other apart =
    elim (other.node == node) as (λ b. (other.node == node) ≡ b → cond b (seat_at other.serial new) None ≡ cond b (seat_at other.serial old) None) [
      | true ↦ λ here.
          let differs : (serial == other.serial) ≡ false =
          same_turned serial other.serial ∙ sym (ap (λ b. b && (other.serial == serial)) here) ∙ apart in
          put.at other.serial ∙ ap (λ b. cond b seat (seat_at other.serial old)) differs
      | false ↦ λ elsewhere. refl
    ] refl

-- What holds of each seat holds still, where it holds of what stands there now.
pub each_put : (P : Connection → OpenConnectionState → Type 0) (node serial : ℕ) (seat : Option OpenConnectionState) (old new : OpenConnectionsState) → IsPut serial seat old new
    → ((s : OpenConnectionState) → seat ≡ Some s → P (named node serial) s) → EachSeat P node old → EachSeat P node new
each_put P node serial seat old new put of was = λ c. elim (c.node == node) as
    (λ b. (c.node == node) ≡ b → ((s : OpenConnectionState) → cond b (seat_at c.serial old) None ≡ Some s → P c s)
    → (s : OpenConnectionState) → cond b (seat_at c.serial new) None ≡ Some s → P c s) [
      | true ↦ λ here each s is. elim (serial == c.serial) as (λ b. (serial == c.serial) ≡ b → P c s) [
        | true ↦ λ own.
            let nodes = eqb-true c.node node here in
            let serials = eqb-true serial c.serial own in
            let same : named node serial ≡ c = λ i. record { node = sym nodes i; serial = serials i } in
            subst (λ (d : Connection). P d s) same (of s (sym (ap (λ b. cond b seat (seat_at c.serial old)) own) ∙ sym (put.at c.serial) ∙ is))
        | false ↦ λ other. each s (sym (ap (λ b. cond b seat (seat_at c.serial old)) other) ∙ sym (put.at c.serial) ∙ is)
      ] refl
      | false ↦ λ elsewhere each s is. absurd (cc is)
    ] refl (was c)

-- So what was handed out is counted still.
pub handed_put : (emitted : Connection → Bytes) (node serial : ℕ) (seat : Option OpenConnectionState) (old new : OpenConnectionsState) (handed : Connection → Bytes)
    → IsPut serial seat old new → ((s : OpenConnectionState) → seat ≡ Some s → s.handed ≡ length (handed (named node serial)))
    → HasHandedOut emitted node old handed → HasHandedOut emitted node new handed
handed_put emitted node serial seat old new handed put counts was = record {
  begins = was.begins;
  counted = each_put (λ c s. s.handed ≡ length (handed c)) node serial seat old new put counts was.counted;
}
