-- What a combiner's seat holds between two calls.
use Rattle.std.proofs.Common.{◌≡◌, ℕ, ◌+◌, ◌-◌, ◌^◌, ◌<◌, ◌≤◌, inl, inr, min, Bool, false, List, [], ◌∷◌, ◌++◌, length, set, get_or, Option, refl, sym, ap, ◌∙◌, subst, arith, length-set, get_or-set_same, get_or-set_other}
use Rattle.std.proofs.lemmas.Bool.{cases_lt}
use Rattle.std.proofs.lemmas.List.{get_or_past}
use mathlib.Core.Logic.{dite}
use native.Mathlib.Decide.{ℕ_discrete}
use Rattle.atomic_table.specs.Table.{Me}
use Rattle.atomic_table.specs.Seated.{TableId}
use Rattle.nr_entry.specs.declared.batch.Answer.{Answer}
use Rattle.nr_slots.specs.declared.view.Parcel.{Parcel}
use Rattle.nr_slots.specs.declared.view.Grip.TheVariants.{Loose}
use Rattle.nr_slots.specs.declared.view.CombinerPast.{CombinerPast}
use Rattle.nr_slots.specs.declared.view.Found.{Found}
use Rattle.nr_slots.specs.declared.view.SlotView.{SlotView}
use Rattle.nr_slots.specs.Names.{IsForLast}
use Rattle.nr_slots.specs.Rule.{combiner_view, no_desk}
use Rattle.nr_slots.specs.Plays.{desk_at}
use Rattle.nr_slots.specs.Seats.{IsOfWorkers, IsHolding, AreHolding, AreCounted, AreLifted}
use Rattle.nr_slots.specs.Steps.{with_reply}
use Rattle.nr_slots.proofs.Tales.{snoc_length}

abbrev Sat : Type 0
Sat = Me (Option Parcel) SlotView

holding_set : (holds : List Bool) (desks : List CombinerPast) (worker : ℕ) (b : Bool) (d : CombinerPast) → worker < length holds → worker < length desks → IsHolding b d → AreHolding holds desks → AreHolding (set holds worker b) (set desks worker d)
holding_set holds desks worker b d near near' new old x there = dite (ℕ_discrete x worker)
    (λ same. subst (λ z. IsHolding (get_or (set holds worker b) z false) (get_or (set desks worker d) z no_desk)) (sym same)
    (subst (λ (q : Bool × CombinerPast). IsHolding q.0 q.1) (λ i. (sym (get_or-set_same holds worker b false near) i, sym (get_or-set_same desks worker d no_desk near') i)) new))
    (λ other. subst (λ (q : Bool × CombinerPast). IsHolding q.0 q.1)
    (λ i. (sym (get_or-set_other holds worker x b false (λ e. other (omega arith))) i, sym (get_or-set_other desks worker x d no_desk (λ e. other (omega arith))) i))
    (let l : length (set desks worker d) ≡ length desks = length-set desks worker d in old x (omega arith)))

-- one count and its desk changed
counted_set : (counts : List ℕ) (desks : List CombinerPast) (worker n : ℕ) (d : CombinerPast) → worker < length counts → worker < length desks → n ≡ min (length d.answered) (2 ^ 64 - 1) → AreCounted counts desks
    → AreCounted (set counts worker n) (set desks worker d)
counted_set counts desks worker n d near near' new old x = dite (ℕ_discrete x worker)
    (λ same. subst (λ z. get_or (set counts worker n) z 0 ≡ min (length (get_or (set desks worker d) z no_desk).answered) (2 ^ 64 - 1)) (sym same)
    (get_or-set_same counts worker n 0 near ∙ new ∙ sym (ap (λ (e : CombinerPast). min (length e.answered) (2 ^ 64 - 1)) (get_or-set_same desks worker d no_desk near'))))
    (λ other. get_or-set_other counts worker x n 0 (λ e. other (omega arith)) ∙ old x ∙ sym (ap (λ (e : CombinerPast). min (length e.answered) (2 ^ 64 - 1)) (get_or-set_other desks worker x d no_desk (λ e. other (omega arith)))))

-- one more is counted
one_more : (n k l m most : ℕ) → n ≡ min (k + 1) most → k ≡ min l most → m ≡ l + 1 → n ≡ min m most
one_more n k l m most is counted more = omega arith

abbrev IsKept : TableId → List Bool → List ℕ → Sat → Type 0
IsKept id holds counts m = (m ≡ (combiner_view (length m.0.desks) m.0.desks m.0.looks, [])) × (length m.0.desks ≤ 16) × IsOfWorkers id (length m.0.desks) × AreHolding holds m.0.desks × AreCounted counts m.0.desks

module _ (id : TableId) (workers worker : ℕ) (holds : List Bool) (counts : List ℕ) (desks : List CombinerPast) (looks : List Found) (m : Sat) (wide : length holds ≡ 16) (wide' : length counts ≡ 16) (few : length desks ≤ 16) (of : IsOfWorkers id (length desks)) (near : worker < length desks)
    (same : length desks ≡ workers) (old : AreHolding holds desks) (counted : AreCounted counts desks) where
  kept : (b : Bool) (n : ℕ) (d : CombinerPast) → IsHolding b d → n ≡ min (length d.answered) (2 ^ 64 - 1) → m ≡ (combiner_view workers (set desks worker d) looks, []) → IsKept id (set holds worker b) (set counts worker n) m
  kept b n d new many is = let l : length (set desks worker d) ≡ length desks = length-set desks worker d in
      subst (IsKept id (set holds worker b) (set counts worker n)) (sym is) (
        (λ i. (combiner_view (sym (l ∙ same) i) (set desks worker d) looks, [])),
        subst (λ z. z ≤ 16) (sym l) few,
        subst (IsOfWorkers id) (sym l) of,
        holding_set holds desks worker b d (omega arith) near new old,
        counted_set counts desks worker n d (omega arith) near many counted,
      )

  pub replied_kept : (a : Answer) (n : ℕ) → n ≡ min (get_or counts worker 0 + 1) (2 ^ 64 - 1) → IsForLast a (desk_at desks worker).lifted (desk_at desks worker).answered → m ≡ (combiner_view workers (with_reply worker a desks) looks, []) → IsKept id (set holds worker false) (set counts worker n) m
  replied_kept a n many last is =
      let long : length ((desk_at desks worker).answered ++ a ∷ []) ≡ length (desk_at desks worker).answered + 1 = snoc_length (desk_at desks worker).answered a in
      let e : length (desk_at desks worker).lifted ≡ length last.0 + 1 = ap length last.2 ∙ snoc_length last.0 last.1 in
      let e' : length (desk_at desks worker).answered ≡ length last.0 = last.3 in
      let at : get_or counts worker 0 ≡ min (length (desk_at desks worker).answered) (2 ^ 64 - 1) = counted worker in
      kept false n record { lifted = (desk_at desks worker).lifted; answered = (desk_at desks worker).answered ++ a ∷ []; grip = Loose } (refl, omega arith)
      (one_more n (get_or counts worker 0) (length (desk_at desks worker).answered) (length ((desk_at desks worker).answered ++ a ∷ [])) (2 ^ 64 - 1) many at long) is

-- no more were answered than lifted
pub all_lifted : (holds : List Bool) (desks : List CombinerPast) → AreHolding holds desks → AreLifted desks
all_lifted holds desks held worker = elim (cases_lt worker (length desks)) [
  | inl near ↦ let e = (held worker near).1 in omega (arith, e)
  | inr far ↦ subst (λ (d : CombinerPast). length d.answered ≤ length d.lifted) (sym (get_or_past desks worker no_desk far)) (omega arith)
]
