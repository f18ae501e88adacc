-- How the log starts, and how seats are cut and joined.
use Rattle.std.proofs.Common.{◌≡◌, ◌≢◌, ◌⊎◌, ℕ, zero, suc, ◌<◌, ◌≤◌, List, [], ◌∷◌, ◌++◌, map, length, set, get_or, replicate, Option, None, refl, sym, ap, ◌∙◌, subst, ⊎_elim, inl, inr, zero-le, arith}
use mathlib.Core.Option.{some, some-injective, some-ne-none}
use mathlib.Core.Path.{Path}
use lib.ListN.{get_elem?, length-map, length-replicate}
use Rattle.atomic_table.specs.Table.{State, Splits, Joins, opening}
use Rattle.atomic_table.proofs.Lists.{at_set}
use Rattle.nr_oplog.specs.declared.view.LogView.{LogView}
use Rattle.nr_oplog.specs.Layout.{passed_word, stamp_word, slot_of, words_of, slots_of}
use Rattle.nr_oplog.specs.Rule.{Share, empty, Owns, SeatOk, LogRule, opening_view, first_view}
use Rattle.nr_oplog.specs.Plays.{token_view, with_told, nobody, node_left, node_right}
use Rattle.nr_oplog.proofs.Fronts.{begins_none}
use Rattle.nr_oplog.proofs.Places.{slot_there}
use Rattle.nr_oplog.proofs.Seats.{each_set, Apart, apart_set, reviewed}
use Rattle.nr_oplog.proofs.Cells.{empty_not_lifted}

at_end : {A : Type 0} (l : List A) (a b : A) (j : ℕ) → get_elem? (l ++ a ∷ []) j ≡ some b → (get_elem? l j ≡ some b) ⊎ ((j ≡ length l) × (a ≡ b))
at_end [] a b zero e = inr (refl, some-injective a b e)
at_end [] a b (suc j) e = absurd (some-ne-none b (sym e))
at_end (x ∷ xs) a b zero e = inl e
at_end (x ∷ xs) a b (suc j) e = ⊎_elim (λ h. inl h) (λ h. inr (ap suc h.0, h.1)) (at_end xs a b j e)

blank : (n i : ℕ) → i < n → get_elem? (map some (replicate {A = Option Share} n None)) i ≡ some (some None)
blank zero i near = absurd (omega arith)
blank (suc n) zero near = refl
blank (suc n) (suc i) near = blank n i (omega arith)

zero_row : (n i : ℕ) → get_or {A = ℕ} (replicate {A = ℕ} n 0) i 0 ≡ 0
zero_row zero i = refl
zero_row (suc n) zero = refl
zero_row (suc n) (suc i) = zero_row n i

module _ (nodes places : ℕ) where
  abbrev St : Type 0
  St = State (Option Share) LogView

  abbrev Good : (s : St) → LogRule nodes places s → LogView → Type 0
  Good s r v = SeatOk nodes places r.log r.past r.applied r.phase v

  -- a seat joins the others
  each_more : (F : LogView → Type 0) (views : List LogView) (x : LogView) → ((j : ℕ) (u : LogView) → get_elem? views j ≡ some u → F u) → F x → (j : ℕ) (u : LogView) → get_elem? (views ++ x ∷ []) j ≡ some u → F u
  each_more F views x old new j u e = ⊎_elim (λ h. old j u h) (λ (h : (j ≡ length views) × Path LogView x u). subst F h.1 new) (at_end views x u j e)

  -- whoever has a node of the new seat is the new seat
  apart_more : (views : List LogView) (x : LogView) → Apart nodes places views → ((j : ℕ) (u : LogView) (node : ℕ) → get_elem? views j ≡ some u → Owns nodes places u node → Owns nodes places x node → ⊥) → Apart nodes places (views ++ x ∷ [])
  apart_more views x apart alone i j u w node ei ej oi oj =
      ⊎_elim
      (λ h. ⊎_elim (λ h'. apart i j u w node h h' oi oj) (λ (h' : (j ≡ length views) × Path LogView x w). absurd (alone i u node h oi (subst (λ z. Owns nodes places z node) (sym h'.1) oj))) (at_end views x w j ej))
      (λ (h : (i ≡ length views) × Path LogView x u).
      ⊎_elim (λ h'. absurd (alone j w node h' oj (subst (λ z. Owns nodes places z node) (sym h.1) oi))) (λ (h' : (j ≡ length views) × Path LogView x w). h.0 ∙ sym h'.0) (at_end views x w j ej))
      (at_end views x u i ei)

  pub nobody_owns : (v : LogView) (node : ℕ) → v.upto ≡ 0 → Owns nodes places v node → ⊥
  nobody_owns v node none o = let h : node < v.upto = o.1 in omega arith

  token_ok : (s : St) (r : LogRule nodes places s) (v : LogView) → Good s r v → Good s r (token_view v)
  token_ok s r v k = record {
    part = k.part;
    told = k.part;
    seen = k.seen;
    met = λ node near. zero-le;
    owns = λ node o. absurd (nobody_owns (token_view v) node refl o);
    fills = λ node entry o is. absurd (nobody_owns (token_view v) v.standing.node refl o);
  }

  pub keeps_token : (id : ℕ) (v : LogView) → Splits (LogRule nodes places) id v v (token_view v)
  keeps_token id v s r at = let k = r.each_seat id v at in reviewed nodes places s r (set s.views id v ++ token_view v ∷ [])
      (each_more (Good s r) (set s.views id v) (token_view v) (each_set (Good s r) s.views id v k (λ j u _ e. r.each_seat j u e)) (token_ok s r v k))
      (apart_more (set s.views id v) (token_view v) (apart_set nodes places s.views id v v at (λ _ o. o) r.apart) (λ j u node _ _ o. nobody_owns (token_view v) node refl o))

  nobody_ok : (s : St) (r : LogRule nodes places s) → Good s r nobody
  nobody_ok s r = record {
    part = (begins_none r.log, begins_none (r.past 0));
    told = (begins_none r.log, begins_none (r.past 0));
    seen = zero-le;
    met = λ node near. zero-le;
    owns = λ node o. absurd (nobody_owns nobody node refl o);
    fills = λ node entry o is. absurd (nobody_owns nobody 0 refl o);
  }

  pub tells : (id : ℕ) (v : LogView) (other : ℕ) (w : LogView) → Joins (LogRule nodes places) id v other w (with_told v w) nobody
  tells id v other w s r at two at' =
      let both : LogView = with_told v w in let k = r.each_seat id v at in
      let theirs : get_elem? s.views other ≡ some w = ⊎_elim (λ (h : (other ≡ id) × Path LogView both w). absurd (two h.0)) (λ (h : (other ≢ id) × (get_elem? s.views other ≡ some w)). h.1) (at_set s.views id other both w at') in
      let mine : Good s r both = record { part = k.part; told = (r.each_seat other w theirs).part; seen = k.seen; met = k.met; owns = k.owns; fills = k.fills } in
      let first = each_set (Good s r) s.views id both mine (λ j u _ e. r.each_seat j u e) in
      reviewed nodes places s r (set (set s.views id both) other nobody)
      (each_set (Good s r) (set s.views id both) other nobody (nobody_ok s r) (λ j u _ e. first j u e))
      (apart_set nodes places (set s.views id both) other w nobody at' (λ node o. absurd (nobody_owns nobody node refl o)) (apart_set nodes places s.views id v both at (λ _ o. o) r.apart))

  module _ (id a upto : ℕ) (some_left : a < upto) (s : St) (r : LogRule nodes places s) (at : get_elem? s.views id ≡ some (opening_view nodes places a upto)) where
    abbrev v : LogView
    v = opening_view nodes places a upto

    cut_ok : (b c : ℕ) → ((node : ℕ) → Owns nodes places (opening_view nodes places b c) node → Owns nodes places v node) → Good s r (opening_view nodes places b c)
    cut_ok b c inside = let k = r.each_seat id v at in record {
      part = (begins_none r.log, begins_none (r.past b));
      told = (begins_none r.log, begins_none (r.past b));
      seen = zero-le;
      met = k.met;
      owns = λ node o. k.owns node (inside node o);
      fills = λ node entry o is. absurd (cc);
    }

    left_in : (node : ℕ) → Owns nodes places (node_left v) node → Owns nodes places v node
    left_in node o = let l : suc a ≤ node = o.0 in (omega arith, o.1)

    right_in : (node : ℕ) → Owns nodes places (node_right v) node → Owns nodes places v node
    right_in node o = let l : node < suc a = o.1 in (o.0, omega arith)

    alone : (j : ℕ) (u : LogView) (node : ℕ) → get_elem? (set s.views id (node_left v)) j ≡ some u → Owns nodes places u node → Owns nodes places (node_right v) node → ⊥
    alone j u node e o o' =
        ⊎_elim
        (λ (h : (j ≡ id) × Path LogView (node_left v) u). let q = subst (λ z. Owns nodes places z node) (sym h.1) o in let l : suc a ≤ node = q.0 in let l' : node < suc a = o'.1 in omega arith)
        (λ (h : (j ≢ id) × (get_elem? s.views j ≡ some u)). h.0 (r.apart j id u v node h.1 at o (right_in node o')))
        (at_set s.views id j (node_left v) u e)

    pub node_cut : LogRule nodes places record { words = s.words; homes = s.homes; views = set s.views id (node_left v) ++ node_right v ∷ [] }
    node_cut = reviewed nodes places s r (set s.views id (node_left v) ++ node_right v ∷ [])
        (each_more (Good s r) (set s.views id (node_left v)) (node_right v) (each_set (Good s r) s.views id (node_left v) (cut_ok (suc a) upto left_in) (λ j u _ e. r.each_seat j u e)) (cut_ok a (suc a) right_in))
        (apart_more (set s.views id (node_left v)) (node_right v) (apart_set nodes places s.views id v (node_left v) at left_in r.apart) alone)

  pub cuts_node : (id a upto : ℕ) (v : LogView) → v ≡ opening_view nodes places a upto → a < upto → Splits (LogRule nodes places) id v (node_left v) (node_right v)
  cuts_node id a upto v is some_left = subst (λ (z : LogView). Splits (LogRule nodes places) id z (node_left z) (node_right z)) (sym is) (λ s r at. node_cut id a upto some_left s r at)

  pub starts : (words : List ℕ) (cells : List (Option Share)) → 0 < places → words ≡ replicate (words_of nodes places) 0 → cells ≡ replicate (slots_of nodes places) None
      → LogRule nodes places (opening words cells (first_view nodes places))
  starts words cells some_place row all = subst (λ (q : List ℕ × List (Option Share)). LogRule nodes places (opening q.0 q.1 (first_view nodes places))) (λ i. (sym row i, sym all i)) begun
    where
      first_ok : SeatOk nodes places [] (λ _. []) (λ _. []) (λ _ _. empty) (first_view nodes places)
      first_ok = record {
        part = (begins_none [], begins_none []);
        told = (begins_none [], begins_none []);
        seen = zero-le;
        met = λ node near. subst (λ z. z ≤ 0) (sym (zero_row nodes node)) zero-le;
        owns = λ node o. record { there = o.1; shaped = (refl, refl); whole = refl; own = refl; holds = λ e. empty_not_lifted e };
        fills = λ node entry o is. absurd (cc);
      }

      one : (j : ℕ) (u : LogView) → get_elem? (first_view nodes places ∷ []) j ≡ some u → SeatOk nodes places [] (λ _. []) (λ _. []) (λ _ _. empty) u
      one zero u e = subst (SeatOk nodes places [] (λ _. []) (λ _. []) (λ _ _. empty)) (some-injective _ _ e) first_ok
      one (suc j) u e = absurd (some-ne-none u (sym e))

      only : (i : ℕ) (u : LogView) → get_elem? (first_view nodes places ∷ []) i ≡ some u → i ≡ 0
      only zero u e = refl
      only (suc i) u e = absurd (some-ne-none u (sym e))

      begun : LogRule nodes places (opening (replicate (words_of nodes places) 0) (replicate (slots_of nodes places) None) (first_view nodes places))
      begun = record {
        log = [];
        past = λ _. [];
        applied = λ _. [];
        phase = λ _ _. empty;
        some_place = some_place;
        sized = (length-replicate (words_of nodes places) 0, length-map (replicate (slots_of nodes places) None) some ∙ length-replicate (slots_of nodes places) None);
        tail_is = zero_row (words_of nodes places) 0;
        bounded = zero-le;
        whose = λ number entry is. absurd (some-ne-none entry (sym is));
        applied_is = λ _. refl;
        rising = λ _. ([], refl, λ _. tt);
        each_node = λ node near. record { counts = zero_row (words_of nodes places) (passed_word node); room = zero-le; begins = begins_none [] };
        each_cell = λ node number near low high. (
          subst (λ z. z ≤ number) (sym (zero_row (words_of nodes places) (stamp_word nodes places node number))) zero-le,
          blank (slots_of nodes places) (slot_of places node number) (slot_there nodes places some_place node number near),
        );
        each_seat = one;
        apart = λ i j u w node ei ej _ _. only i u ei ∙ sym (only j w ej);
      }
