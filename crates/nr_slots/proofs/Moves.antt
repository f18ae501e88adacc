-- A step of one seat at one slot: what stays of the rule.
use Rattle.std.proofs.Common.{◌≡◌, ◌≢◌, ℕ, suc, ◌<◌, ◌≤◌, List, length, set, get_or, refl, sym, ap, ◌∙◌, subst, ⊎_elim, arith, le_refl, length-set, get_or-set_same, get_or-set_other}
use mathlib.Core.Option.{some}
use mathlib.Core.Option as maybe
use mathlib.Core.Path.{Path}
use lib.ListN.{get_elem?}
use lib.Seq.{set-get_or}
use Rattle.std.specs.Prelude.{Option}
use Rattle.atomic_table.specs.Table.{State, keeps, stepped}
use Rattle.atomic_table.proofs.Lists.{at_set, set_here, set_else, set_again}
use Rattle.nr_slots.specs.declared.view.Parcel.{Parcel}
use Rattle.nr_slots.specs.declared.view.WorkerPast.{WorkerPast}
use Rattle.nr_slots.specs.declared.view.CombinerPast.{CombinerPast}
use Rattle.nr_slots.specs.declared.view.Found.{Found}
use Rattle.nr_slots.proofs.Heads.{front_then, front_all}
use Rattle.nr_slots.specs.declared.view.SlotView.{SlotView}
use Rattle.nr_slots.specs.Layout.{word_of, place_of, words_of, places_of}
use Rattle.nr_slots.specs.Names.{Names}
use Rattle.nr_slots.specs.Rule.{Round, Tale, word_at, home_at, IsNamed, lane_of, desk_of, Homes, SlotOk, Owns, Combines, OnlyOne, IsFrontOf, SlotSeatOk, SlotRule, worker_view, combiner_view, no_desk}
use Rattle.nr_entry.proofs.Changes.{change, at_change, change_here, change_else}

-- what holds of the new view, and of each other view, holds of all
pub each_set : (F : SlotView → Type 0) (views : List SlotView) (id : ℕ) (w : SlotView) → F w → ((j : ℕ) (u : SlotView) → j ≢ id → get_elem? views j ≡ some u → F u)
    → (j : ℕ) (u : SlotView) → get_elem? (set views id w) j ≡ some u → F u
each_set F views id w mine others j u e =
    ⊎_elim (λ (x : (j ≡ id) × Path SlotView w u). subst F x.1 mine) (λ (x : (j ≢ id) × (get_elem? views j ≡ some u)). others j u x.0 x.1) (at_set views id j w u e)

-- who is the one after a view changed was the one before
one_before : (P : SlotView → Type 0) (views : List SlotView) (id : ℕ) (v w : SlotView) → get_elem? views id ≡ some v → (P w → P v) → (j : ℕ) (u : SlotView) → get_elem? (set views id w) j ≡ some u → P u
    → (u' : SlotView) × (get_elem? views j ≡ some u') × P u'
one_before P views id v w at was j u e has =
    ⊎_elim (λ (x : (j ≡ id) × Path SlotView w u). (v, subst (λ k. get_elem? views k ≡ some v) (sym x.0) at, was (subst P (sym x.1) has)))
    (λ (x : (j ≢ id) × (get_elem? views j ≡ some u)). (u, x.1, has)) (at_set views id j w u e)

pub only_set : (P : SlotView → Type 0) (views : List SlotView) (id : ℕ) (v w : SlotView) → get_elem? views id ≡ some v → (P w → P v) → OnlyOne P views → OnlyOne P (set views id w)
only_set P views id v w at was only i j u u' ei ej hi hj =
    let a = one_before P views id v w at was i u ei hi in let b = one_before P views id v w at was j u' ej hj in only i j a.0 b.0 a.1 b.1 a.2 b.2

pub word_there : (worker workers : ℕ) → worker < workers → word_of worker < words_of workers
word_there worker workers near = omega arith

pub place_there : (worker workers : ℕ) → worker < workers → place_of worker < places_of workers
place_there worker workers near = omega arith

pub one_word : (x y : ℕ) → word_of x ≡ word_of y → x ≡ y
one_word x y e = omega arith

abbrev pub EachNamed : List Round → Type 0
EachNamed rounds = (k : ℕ) (x : Round) → get_elem? rounds k ≡ some x → Names x.answer x.batch

module _ (workers : ℕ) where
  abbrev St : Type 0
  St = State (Option Parcel) SlotView

  module _ (s : St) (r : SlotRule workers s) (id worker : ℕ) (near : worker < workers) (t : Tale) (named : IsNamed t.stage) (each : EachNamed t.rounds) (n : ℕ) (shows : n ≡ word_at t.stage)
      (h : maybe.Option (Option Parcel)) (lies : h ≡ home_at t.stage) where
    abbrev words : List ℕ
    words = set s.words (word_of worker) n

    abbrev homes : Homes
    homes = set s.homes (place_of worker) h

    abbrev tale : ℕ → Tale
    tale = change r.tale worker t

    slot_ok : (x : ℕ) → x < workers → SlotOk words homes x (tale x)
    slot_ok x there = at_change r.tale worker t (λ y p. SlotOk words homes y p) x
        record {
          word_is = get_or-set_same s.words (word_of worker) n 0 (subst (λ z. word_of worker < z) (sym r.sized.0) (word_there worker workers near)) ∙ shows;
          home_is = set_here s.homes (place_of worker) h (subst (λ z. place_of worker < z) (sym r.sized.1) (place_there worker workers near)) ∙ ap some lies;
          named = named;
          each_named = each;
        }
        (λ other. let q = r.each_slot x there in record {
          word_is = get_or-set_other s.words (word_of worker) (word_of x) n 0 (λ e. other (omega arith)) ∙ q.word_is;
          home_is = set_else s.homes (place_of worker) (place_of x) h (λ e. other (omega arith)) ∙ q.home_is;
          named = q.named;
          each_named = q.each_named;
        })

    moved : (v w : SlotView) → get_elem? s.views id ≡ some v → ((x : ℕ) → Owns w x → Owns v x) → (Combines w → Combines v) → SlotSeatOk workers tale w
        → ((j : ℕ) (u : SlotView) → j ≢ id → get_elem? s.views j ≡ some u → SlotSeatOk workers tale u) → SlotRule workers record { words = words; homes = homes; views = set s.views id w }
    moved v w at own combines mine others = record {
      tale = tale;
      sized = (length-set s.words (word_of worker) n ∙ r.sized.0, length-set s.homes (place_of worker) h ∙ r.sized.1);
      each_slot = slot_ok;
      each_seat = each_set (SlotSeatOk workers tale) s.views id w mine others;
      one_owner = λ x. only_set (λ z. Owns z x) s.views id v w at (own x) (r.one_owner x);
      one_combiner = only_set Combines s.views id v w at combines r.one_combiner;
    }

    -- what was told of the combiner stays the first that it did
    still_noted : IsFrontOf (desk_of (r.tale worker)) (desk_of t) → (u : SlotView) → SlotSeatOk workers r.tale u → (x : ℕ) → x < workers → IsFrontOf (get_or u.noted x no_desk) (desk_of (tale x))
    still_noted grown u q x there = at_change r.tale worker t (λ y p. IsFrontOf (get_or u.noted y no_desk) (desk_of p)) x (front_then (get_or u.noted worker no_desk) (desk_of (r.tale worker)) (desk_of t) (q.noted_is worker near) grown) (λ _. q.noted_is x there)

    -- a step of a worker, which changes nothing that the combiner knows
    module _ (lane lane' : WorkerPast) (noted : List CombinerPast) (at : get_elem? s.views id ≡ some (worker_view worker lane noted)) (tells : lane' ≡ lane_of t) (same : desk_of t ≡ desk_of (r.tale worker)) where
      only_mine : (x : ℕ) → Owns (worker_view worker lane noted) x → x ≡ worker
      only_mine x o = let a : worker ≤ x = o.0 in let b : x < suc worker = o.1 in omega arith

      has : Owns (worker_view worker lane noted) worker
      has = let a : worker ≤ worker = le_refl worker in (a, omega arith)

      grown : IsFrontOf (desk_of (r.tale worker)) (desk_of t)
      grown = subst (IsFrontOf (desk_of (r.tale worker))) (sym same) (front_all (desk_of (r.tale worker)))

      worker_ok : SlotSeatOk workers tale (worker_view worker lane' noted)
      worker_ok = record {
        within = omega arith;
        lane_is = λ x o. tells ∙ ap lane_of (sym (ap tale (only_mine x o) ∙ change_here r.tale worker t));
        desk_is = λ c. absurd (cc);
        noted_is = still_noted grown (worker_view worker lane noted) (r.each_seat id (worker_view worker lane noted) at);
      }

      others_ok : (j : ℕ) (u : SlotView) → j ≢ id → get_elem? s.views j ≡ some u → SlotSeatOk workers tale u
      others_ok j u apart e = let q = r.each_seat j u e in record {
        within = q.within;
        lane_is = λ x o. q.lane_is x o ∙ ap lane_of (sym (change_else r.tale worker t x (λ is. apart (r.one_owner worker j id u (worker_view worker lane noted) e at (subst (Owns u) is o) has))));
        desk_is = λ c x there. at_change r.tale worker t (λ y p. get_or u.desks y no_desk ≡ desk_of p) x (q.desk_is c worker near ∙ sym same) (λ _. q.desk_is c x there);
        noted_is = still_noted grown u q;
      }

      pub worker_moved : SlotRule workers record { words = words; homes = homes; views = set s.views id (worker_view worker lane' noted) }
      worker_moved = moved (worker_view worker lane noted) (worker_view worker lane' noted) at (λ x o. o) (λ c. c) worker_ok others_ok

    -- a step of the combiner, which changes nothing that the worker knows
    module _ (desks : List CombinerPast) (desk : CombinerPast) (looks looks' : List Found) (at : get_elem? s.views id ≡ some (combiner_view workers desks looks)) (full : length desks ≡ workers) (tells : desk ≡ desk_of t) (same : lane_of t ≡ lane_of (r.tale worker))
        (grown : IsFrontOf (get_or desks worker no_desk) desk) where
      more : IsFrontOf (desk_of (r.tale worker)) (desk_of t)
      more = subst (IsFrontOf (desk_of (r.tale worker))) tells (subst (λ z. IsFrontOf z desk) ((r.each_seat id (combiner_view workers desks looks) at).desk_is refl worker near) grown)

      combiner_ok : SlotSeatOk workers tale (combiner_view workers (set desks worker desk) looks')
      combiner_ok = record {
        within = le_refl workers;
        lane_is = λ x o. let a : workers ≤ x = o.0 in let b : x < workers = o.1 in absurd (omega arith);
        desk_is = λ c x there. at_change r.tale worker t (λ y p. get_or (set desks worker desk) y no_desk ≡ desk_of p) x
            (get_or-set_same desks worker desk no_desk (subst (λ z. worker < z) (sym full) near) ∙ tells)
            (λ other. get_or-set_other desks worker x desk no_desk (λ e. other (omega arith)) ∙ (r.each_seat id (combiner_view workers desks looks) at).desk_is refl x there);
        noted_is = still_noted more (combiner_view workers desks looks) (r.each_seat id (combiner_view workers desks looks) at);
      }

      workers_ok : (j : ℕ) (u : SlotView) → j ≢ id → get_elem? s.views j ≡ some u → SlotSeatOk workers tale u
      workers_ok j u apart e = let q = r.each_seat j u e in record {
        within = q.within;
        lane_is = λ x o. at_change r.tale worker t (λ y p. y ≡ x → u.lane ≡ lane_of p) x (λ is. q.lane_is worker (subst (Owns u) (sym is) o) ∙ sym same) (λ _ _. q.lane_is x o) refl;
        desk_is = λ c. absurd (apart (r.one_combiner j id u (combiner_view workers desks looks) e at c refl));
        noted_is = still_noted more u q;
      }

      pub combiner_moved : SlotRule workers record { words = words; homes = homes; views = set s.views id (combiner_view workers (set desks worker desk) looks') }
      combiner_moved = moved (combiner_view workers desks looks) (combiner_view workers (set desks worker desk) looks') at (λ x o. o) (λ c. c) combiner_ok workers_ok

  -- only the views change
  pub reviewed : (s : St) (r : SlotRule workers s) (views : List SlotView) → ((j : ℕ) (u : SlotView) → get_elem? views j ≡ some u → SlotSeatOk workers r.tale u) → ((x : ℕ) → OnlyOne (λ z. Owns z x) views) → OnlyOne Combines views
      → SlotRule workers record { words = s.words; homes = s.homes; views = views }
  reviewed s r views seats owner combiner = record { tale = r.tale; sized = r.sized; each_slot = r.each_slot; each_seat = seats; one_owner = owner; one_combiner = combiner }

  -- a step that changes no word and no place
  pub seen : (s : St) (r : SlotRule workers s) (i id : ℕ) (cs : List (ℕ × Option Parcel)) (v w : SlotView) → get_elem? s.views id ≡ some v → SlotSeatOk workers r.tale w → ((x : ℕ) → Owns w x → Owns v x) → (Combines w → Combines v)
      → SlotRule workers (stepped s i (get_or s.words i 0) id cs w keeps)
  seen s r i id cs v w at mine own combines = subst (λ (ws : List ℕ). SlotRule workers record { words = ws; homes = s.homes; views = set s.views id w }) (sym (set-get_or s.words i 0))
      (reviewed s r (set s.views id w) (each_set (SlotSeatOk workers r.tale) s.views id w mine (λ j u _ e. r.each_seat j u e)) (λ x. only_set (λ z. Owns z x) s.views id v w at (own x) (r.one_owner x)) (only_set Combines s.views id v w at combines r.one_combiner))

  -- a step that changes nothing
  pub unmoved : (s : St) (r : SlotRule workers s) (i id : ℕ) (cs : List (ℕ × Option Parcel)) (v : SlotView) → get_elem? s.views id ≡ some v → SlotRule workers (stepped s i (get_or s.words i 0) id cs v keeps)
  unmoved s r i id cs v at = subst (λ (q : List ℕ × List SlotView). SlotRule workers record { words = q.0; homes = s.homes; views = q.1 }) (λ k. (sym (set-get_or s.words i 0) k, sym (set_again s.views id v at) k)) r
