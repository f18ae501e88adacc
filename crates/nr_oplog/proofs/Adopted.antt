-- A token takes over what another one of its node keeps, where that is later.
use Rattle.std.proofs.Common.{◌≡◌, ℕ, ◌≤◌, Bool, true, false, cond, inl, inr, List, ◌++◌, length, max, get_or, refl, sym, ap, ◌∙◌, subst, le_of_eq, arith, append-nil}
use Rattle.std.specs.Prelude.{Option, None, nat_le, option_to_list}
use Rattle.std.proofs.lemmas.Bool.{cases_Bool, leb-true, leb-false}
use Rattle.atomic_table.specs.Table.{Me, keeps, Allows}
use Rattle.nr_model.specs.Bytes.{IsBeginningOf}
use Rattle.nr_entry.specs.declared.entry.Entry.{Entry}
use Rattle.nr_log_end.specs.declared.standing.Standing.{Standing}
use Rattle.nr_log_end.specs.declared.standing.LogEvent.{LogEvent}
use Rattle.nr_log_end.specs.Standings.{applied_of, known_of}
use Rattle.nr_oplog.specs.declared.view.LogView.{LogView}
use Rattle.nr_oplog.specs.Rule.{Share, IsPartOf, SeatOk, LogRule}
use Rattle.nr_oplog.specs.Plays.{AreComparable, later_of, with_later, adopted}
use Rattle.nr_oplog.proofs.Comings.{nobody_owns}
use Rattle.nr_oplog.proofs.Fronts.{begins_both, begins_length, applied_append}
use Rattle.nr_oplog.proofs.Rises.{rises_before}
use Rattle.nr_oplog.proofs.Seats.{unmoved}

-- the later one of two standings
later_is : (P : Standing → Type 0) (s t : Standing) (n : ℕ) (b : Bool) → P (record s { seen = n }) → P (record t { seen = n }) → P (record (cond b t s) { seen = n })
later_is P s t n true p q = q
later_is P s t n false p q = p

-- as many entries are known to it as the one knows that knows more
applied_few : (x y : List LogEvent) → IsBeginningOf x y → length (applied_of x) ≤ length (applied_of y)
applied_few x y b =
    begins_length (applied_of x) (applied_of y) (applied_of b.0, sym (applied_append x b.0) ∙ ap applied_of b.1)

known_idle : (s : Standing) → s.held ≡ None → length (known_of s) ≡ length (applied_of s.history)
known_idle s idle = ap length (ap (λ (o : Option Entry). applied_of s.history ++ option_to_list o) idle ∙ append-nil (applied_of s.history))

pub later_known : (s t : Standing) (n k j : ℕ) → s.held ≡ None → t.held ≡ None → AreComparable s.history t.history → k ≡ length (known_of s) → j ≡ length (known_of t)
    → max k j ≡ length (known_of (record (later_of s t) { seen = n }))
later_known s t n k j idle quiet both k_is j_is =
    let first = known_idle s idle in
    let second = known_idle t quiet in
    let at = λ (b : Bool). length (known_of (record (cond b t s) { seen = n })) in
    elim (cases_Bool (nat_le (length s.history) (length t.history))) [
      | inl longer ↦
          let few = applied_few s.history t.history (both.0 (leb-true (length s.history) (length t.history) longer)) in
          let most : max k j ≡ length (known_of t) = omega (arith, first, second, few, k_is, j_is) in
          most ∙ sym (ap at longer)
      | inr shorter ↦
          let more = leb-false (length s.history) (length t.history) shorter in
          let few = applied_few t.history s.history (both.1 (omega (arith, more))) in
          let most : max k j ≡ length (known_of s) = omega (arith, first, second, few, k_is, j_is) in
          most ∙ sym (ap at shorter)
    ]

-- the step
module _ (nodes places : ℕ) where
  abbrev Sat : Type 0
  Sat = Me (Option Share) LogView

  pub adopts : (slots id : ℕ) (m : Sat) → m.0.upto ≡ 0 → Allows (LogRule nodes places) slots id m 0 (λ k. k) (adopted m)
  adopts slots id m none s r wide at small =
      let k = r.each_seat id m.0 at in
      let n : ℕ = get_or s.words 0 0 in
      let w : LogView = with_later n m.0 in
      let longer = nat_le (length m.0.standing.history) (length m.0.told.history) in
      let mine : SeatOk nodes places r.log r.past r.applied r.phase w = record {
        part = later_is (IsPartOf nodes places r.log r.past) m.0.standing m.0.told n longer k.part k.told;
        told = k.told;
        seen = later_is (λ (x : Standing). x.seen ≤ length r.log) m.0.standing m.0.told n longer (le_of_eq r.tail_is) (le_of_eq r.tail_is);
        met = k.met;
        owns = λ node o. absurd (nobody_owns nodes places w node none o);
        fills = λ node entry o is. absurd (nobody_owns nodes places w w.standing.node none o);
      } in (
        w,
        keeps,
        tt,
        unmoved nodes places s r 0 id m.1 m.0 w at mine (λ node o. absurd (nobody_owns nodes places w node none o)),
        (
          refl,
          refl,
          (
            (begins_both _ _ r.log k.part.0 k.told.0, begins_both _ _ r.log k.told.0 k.part.0),
            λ same. let b : IsBeginningOf m.0.told.history (r.past m.0.standing.node) = subst (λ z. IsBeginningOf m.0.told.history (r.past z)) (sym same) k.told.1 in
                (begins_both _ _ (r.past m.0.standing.node) k.part.1 b, begins_both _ _ (r.past m.0.standing.node) b k.part.1),
            rises_before m.0.standing m.0.told r.log r.past k.part k.told (r.rising m.0.standing.node),
            rises_before m.0.told m.0.standing r.log r.past k.told k.part (r.rising m.0.told.node),
          ),
        ),
      )
