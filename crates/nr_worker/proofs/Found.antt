-- What stands at a serial behind each change of the seats.
use Rattle.std.proofs.Common.{◌≡◌, ℕ, cond, Option, ap, sym, ◌∙◌, subst}
use Rattle.std.specs.Ordering.{eq_by_cmp, nat_cmp}
use Rattle.std.specs.Cmp.{unsigned_ties}
use Rattle.nr_worker.specs.Seated.{OpenConnectionState}
use Rattle.nr_worker.specs.Placed.{OpenConnectionsState, seat_at, IsPut}

-- a change at one key of the map
pub put_by : (old new : OpenConnectionsState) (serial : ℕ) (w : Option OpenConnectionState)
    → ((q : ℕ) → seat_at q new ≡ cond (eq_by_cmp nat_cmp serial q) w (seat_at q old))
    → IsPut serial w old new
put_by old new serial w changes = record {
  at = λ q. changes q ∙ ap (λ b. cond b w (seat_at q old)) (sym (unsigned_ties serial q));
}

pub put_then : (old new : OpenConnectionsState) (serial : ℕ) (v w : Option OpenConnectionState) → IsPut serial v old new → v ≡ w → IsPut serial w old new
put_then old new serial v w put same = subst (λ (o : Option OpenConnectionState). IsPut serial o old new) same put
