-- How the slots start, and how the seats are cut.
use Rattle.std.proofs.Common.{◌≡◌, ◌≢◌, ℕ, zero, suc, ◌<◌, ◌≤◌, List, [], ◌∷◌, ◌++◌, map, length, set, get_or, replicate, Option, None, refl, sym, ap, ◌∙◌, subst, ⊎_elim, inl, inr, arith, le_refl, ◌⊎◌}
use mathlib.Core.Option.{some, some-injective, some-ne-none}
use mathlib.Core.Path.{Path}
use lib.ListN.{get_elem?, length-map, length-replicate}
use Rattle.atomic_table.specs.Table.{State, Splits, opening}
use Rattle.atomic_table.proofs.Lists.{at_set}
use Rattle.nr_slots.specs.declared.view.Parcel.{Parcel}
use Rattle.nr_slots.specs.declared.view.CombinerPast.{CombinerPast}
use Rattle.nr_slots.specs.declared.view.SlotView.{SlotView}
use Rattle.nr_slots.specs.Layout.{word_of, place_of, words_of, places_of}
use Rattle.nr_slots.specs.Rule.{Tale, vacant, desk_of, Owns, Combines, OnlyOne, SlotSeatOk, SlotRule, opening_view, no_desk}
use Rattle.nr_slots.specs.Plays.{worker_left, worker_right}
use Rattle.nr_slots.proofs.Heads.{front_none}
use Rattle.nr_slots.proofs.Moves.{each_set, only_set, place_there}

at_end : {A : Type 0} (l : List A) (a b : A) (j : ℕ) → get_elem? (l ++ a ∷ []) j ≡ some b → (get_elem? l j ≡ some b) ⊎ ((j ≡ length l) × (a ≡ b))
at_end [] a b zero e = inr (refl, some-injective a b e)
at_end [] a b (suc j) e = absurd (some-ne-none b (sym e))
at_end (x ∷ xs) a b zero e = inl e
at_end (x ∷ xs) a b (suc j) e = ⊎_elim (λ h. inl h) (λ h. inr (ap suc h.0, h.1)) (at_end xs a b j e)

empty_places : (n i : ℕ) → i < n → get_elem? (map some (replicate {A = Option Parcel} n None)) i ≡ some (some None)
empty_places zero i near = absurd (omega arith)
empty_places (suc n) zero near = refl
empty_places (suc n) (suc i) near = empty_places n i (omega arith)

zero_row : (n i : ℕ) → get_or {A = ℕ} (replicate {A = ℕ} n 0) i 0 ≡ 0
zero_row zero i = refl
zero_row (suc n) zero = refl
zero_row (suc n) (suc i) = zero_row n i

pub new_desks : (n i : ℕ) → get_or {A = CombinerPast} (replicate {A = CombinerPast} n no_desk) i no_desk ≡ no_desk
new_desks zero i = refl
new_desks (suc n) zero = refl
new_desks (suc n) (suc i) = new_desks n i

-- a seat joins the others
pub each_more : (F : SlotView → Type 0) (views : List SlotView) (x : SlotView) → ((j : ℕ) (u : SlotView) → get_elem? views j ≡ some u → F u) → F x → (j : ℕ) (u : SlotView) → get_elem? (views ++ x ∷ []) j ≡ some u → F u
each_more F views x old new j u e = ⊎_elim (λ h. old j u h) (λ (h : (j ≡ length views) × Path SlotView x u). subst F h.1 new) (at_end views x u j e)

pub only_more : (P : SlotView → Type 0) (views : List SlotView) (x : SlotView) → OnlyOne P views → ((j : ℕ) (u : SlotView) → get_elem? views j ≡ some u → P u → P x → ⊥) → OnlyOne P (views ++ x ∷ [])
only_more P views x only alone i j u w ei ej hi hj =
    ⊎_elim
    (λ h. ⊎_elim (λ h'. only i j u w h h' hi hj) (λ (h' : (j ≡ length views) × Path SlotView x w). absurd (alone i u h hi (subst P (sym h'.1) hj))) (at_end views x w j ej))
    (λ (h : (i ≡ length views) × Path SlotView x u).
    ⊎_elim (λ h'. absurd (alone j w h' hj (subst P (sym h.1) hi))) (λ (h' : (j ≡ length views) × Path SlotView x w). h.0 ∙ sym h'.0) (at_end views x w j ej))
    (at_end views x u i ei)

module _ (workers : ℕ) where
  abbrev St : Type 0
  St = State (Option Parcel) SlotView

  module _ (id from : ℕ) (some_left : from < workers) (s : St) (r : SlotRule workers s) (at : get_elem? s.views id ≡ some (opening_view workers from)) where
    abbrev v : SlotView
    v = opening_view workers from

    k : SlotSeatOk workers r.tale v
    k = r.each_seat id v at

    left_in : (x : ℕ) → Owns (worker_left v) x → Owns v x
    left_in x o = let l : suc from ≤ x = o.0 in (omega arith, o.1)

    right_in : (x : ℕ) → Owns (worker_right v) x → Owns v x
    right_in x o = let l : x < suc from = o.1 in (o.0, omega arith)

    left_ok : SlotSeatOk workers r.tale (worker_left v)
    left_ok = record { within = k.within; lane_is = λ x o. k.lane_is x (left_in x o); desk_is = k.desk_is; noted_is = k.noted_is }

    right_ok : SlotSeatOk workers r.tale (worker_right v)
    right_ok = record { within = omega arith; lane_is = λ x o. k.lane_is x (right_in x o); desk_is = λ c. absurd (cc); noted_is = λ x there. front_none (desk_of (r.tale x)) }

    alone : (x j : ℕ) (u : SlotView) → get_elem? (set s.views id (worker_left v)) j ≡ some u → Owns u x → Owns (worker_right v) x → ⊥
    alone x j u e o o' =
        ⊎_elim
        (λ (h : (j ≡ id) × Path SlotView (worker_left v) u). let q = subst (λ z. Owns z x) (sym h.1) o in let l : suc from ≤ x = q.0 in let l' : x < suc from = o'.1 in omega arith)
        (λ (h : (j ≢ id) × (get_elem? s.views j ≡ some u)). h.0 (r.one_owner x j id u v h.1 at o (right_in x o')))
        (at_set s.views id j (worker_left v) u e)

    worker_cut : SlotRule workers record { words = s.words; homes = s.homes; views = set s.views id (worker_left v) ++ worker_right v ∷ [] }
    worker_cut = record {
      tale = r.tale;
      sized = r.sized;
      each_slot = r.each_slot;
      each_seat = each_more (SlotSeatOk workers r.tale) (set s.views id (worker_left v)) (worker_right v) (each_set (SlotSeatOk workers r.tale) s.views id (worker_left v) left_ok (λ j u _ e. r.each_seat j u e)) right_ok;
      one_owner = λ x. only_more (λ z. Owns z x) (set s.views id (worker_left v)) (worker_right v) (only_set (λ z. Owns z x) s.views id v (worker_left v) at (left_in x) (r.one_owner x)) (alone x);
      one_combiner = only_more Combines (set s.views id (worker_left v)) (worker_right v) (only_set Combines s.views id v (worker_left v) at (λ c. c) r.one_combiner) (λ j u e c c'. absurd (cc));
    }

  pub cuts : (id from : ℕ) (v : SlotView) → v ≡ opening_view workers from → from < workers → Splits (SlotRule workers) id v (worker_left v) (worker_right v)
  cuts id from v is some_left = subst (λ (z : SlotView). Splits (SlotRule workers) id z (worker_left z) (worker_right z)) (sym is) (λ s r at. worker_cut id from some_left s r at)

  abbrev new_tale : Tale
  new_tale = record { rounds = []; stage = vacant }

  first_ok : SlotSeatOk workers (λ _. new_tale) (opening_view workers 0)
  first_ok = record { within = le_refl workers; lane_is = λ x o. refl; desk_is = λ c x there. new_desks workers x; noted_is = λ x there. front_none (desk_of new_tale) }

  one : (j : ℕ) (u : SlotView) → get_elem? (opening_view workers 0 ∷ []) j ≡ some u → SlotSeatOk workers (λ _. new_tale) u
  one zero u e = subst (SlotSeatOk workers (λ _. new_tale)) (some-injective _ _ e) first_ok
  one (suc j) u e = absurd (some-ne-none u (sym e))

  only : (j : ℕ) (u : SlotView) → get_elem? (opening_view workers 0 ∷ []) j ≡ some u → j ≡ 0
  only zero u e = refl
  only (suc j) u e = absurd (some-ne-none u (sym e))

  begun : SlotRule workers (opening (replicate (words_of workers) 0) (replicate (places_of workers) None) (opening_view workers 0))
  begun = record {
    tale = λ _. new_tale;
    sized = (length-replicate (words_of workers) 0, length-map (replicate (places_of workers) None) some ∙ length-replicate (places_of workers) None);
    each_slot = λ x there. record {
      word_is = zero_row (words_of workers) (word_of x);
      home_is = empty_places (places_of workers) (place_of x) (place_there x workers there);
      named = tt;
      each_named = λ j y e. absurd (some-ne-none y (sym e));
    };
    each_seat = one;
    one_owner = λ x i j u w ei ej _ _. only i u ei ∙ sym (only j w ej);
    one_combiner = λ i j u w ei ej _ _. only i u ei ∙ sym (only j w ej);
  }

  pub starts : (words : List ℕ) (places : List (Option Parcel)) → words ≡ replicate (words_of workers) 0 → places ≡ replicate (places_of workers) None → SlotRule workers (opening words places (opening_view workers 0))
  starts words places row all = subst (λ (q : List ℕ × List (Option Parcel)). SlotRule workers (opening q.0 q.1 (opening_view workers 0))) (λ i. (sym row i, sym all i)) begun
