-- The steps of a worker keep the rule.
use Rattle.std.proofs.Common.{◌≡◌, ◌≢◌, ℕ, ◌<◌, ◌≤◌, List, [], ◌∷◌, ◌++◌, length, get_or, Option, Some, None, refl, sym, ap, ◌∙◌, subst, arith, le_refl, append-nil, ⊎_elim}
use Rattle.std.proofs.lemmas.List.{map-append}
use mathlib.Core.Option.{some, none}
use mathlib.Core.Logic.{dite}
use native.Mathlib.Decide.{ℕ_discrete}
use lib.ListN.{get_elem?}
use Rattle.atomic_table.specs.Table.{State, Act, Valid, takes, gives, keeps, stepped, carried_after, Allows}
use Rattle.atomic_table.proofs.Lists.{at_snoc}
use Rattle.nr_entry.specs.declared.batch.Batch.{Batch}
use Rattle.nr_entry.specs.declared.batch.Answer.{Answer}
use Rattle.nr_slots.specs.declared.view.Parcel.{Parcel}
use Rattle.nr_slots.specs.declared.view.Parcel.TheVariants.{Posted, Answered}
use Rattle.nr_slots.specs.declared.view.Hand.TheVariants.{Still, Placing, Fetching}
use Rattle.nr_slots.specs.declared.view.WorkerPast.{WorkerPast}
use Rattle.nr_slots.specs.declared.view.CombinerPast.{CombinerPast}
use Rattle.nr_slots.specs.declared.view.SlotView.{SlotView}
use Rattle.nr_slots.specs.Layout.{word_of, place_of}
use Rattle.nr_slots.specs.Names.{Names, IsForLast}
use Rattle.nr_slots.specs.Rule.{Round, Stage, vacant, placing, offered, ready, fetching, Tale, word_at, home_at, hand_at, IsNamed, batches, answers, lane_of, desk_of, SlotOk, SlotRule, worker_view}
use Rattle.nr_slots.specs.Plays.{placed, published, looked, cleared, answer_fetched}
use Rattle.nr_slots.specs.Steps.{CanPost}
use Rattle.nr_slots.proofs.Tales.{is_vacant, is_placing, is_ready, is_fetching, for_last}
use Rattle.nr_slots.proofs.Moves.{EachNamed, worker_moved, unmoved}

abbrev pub Carried : Type 0
Carried = List (ℕ × Option Parcel)

-- what a worker does to what it knows
abbrev pub to_place : WorkerPast → WorkerPast
to_place lane = record lane { hand = Placing }

abbrev pub to_publish : Batch → WorkerPast → WorkerPast
to_publish b lane = record { posted = lane.posted ++ b ∷ []; collected = lane.collected; hand = Still }

abbrev pub to_fetch : Answer → WorkerPast → WorkerPast
to_fetch a lane = record lane { hand = Fetching a }

abbrev pub to_clear : WorkerPast → WorkerPast
to_clear lane = record { posted = lane.posted; collected = lane.collected ++ answer_fetched lane.hand; hand = Still }

abbrev pub told : List Round → Stage → Tale
told rounds stage = record { rounds = rounds; stage = stage }

-- a round is over
pub each_more : (rounds : List Round) (b : Batch) (a : Answer) → Names a b → EachNamed rounds → EachNamed (rounds ++ record { batch = b; answer = a } ∷ [])
each_more rounds b a n each k x e = let y : Round = record { batch = b; answer = a } in
    ⊎_elim (λ h. each k x h) (λ (h : y ≡ x). subst (λ (z : Round). Names z.answer z.batch) h n) (at_snoc rounds y x k e)

module _ (workers id worker : ℕ) (near : worker < workers) (lane : WorkerPast) (noted : List CombinerPast) (cs : Carried) where
  abbrev v : SlotView
  v = worker_view worker lane noted

  abbrev St : Type 0
  St = State (Option Parcel) SlotView

  module _ (s : St) (r : SlotRule workers s) (at : get_elem? s.views id ≡ some v) where
    abbrev t : Tale
    t = r.tale worker

    knows : lane ≡ lane_of t
    knows = let a : worker ≤ worker = le_refl worker in (r.each_seat id v at).lane_is worker (a, omega arith)

    ok : SlotOk s.words s.homes worker t
    ok = r.each_slot worker near

    -- what the worker knows at a stage
    knows_at : (st : Stage) → t.stage ≡ st → lane ≡ lane_of (told t.rounds st)
    knows_at st e = knows ∙ ap (λ z. lane_of (told t.rounds z)) e

    home_at_stage : (st : Stage) → t.stage ≡ st → get_elem? s.homes (place_of worker) ≡ some (home_at st)
    home_at_stage st e = ok.home_is ∙ ap (λ z. some (home_at z)) e

    word_at_stage : (st : Stage) → t.stage ≡ st → get_or s.words (word_of worker) 0 ≡ word_at st
    word_at_stage st e = ok.word_is ∙ ap word_at e

    named_at : (st : Stage) → t.stage ≡ st → IsNamed st
    named_at st e = subst IsNamed e ok.named

    desk_at_stage : (st : Stage) → t.stage ≡ st → desk_of (told t.rounds st) ≡ desk_of t
    desk_at_stage st e = ap (λ z. desk_of (told t.rounds z)) (sym e)

    vacant_now : CanPost lane → t.stage ≡ vacant
    vacant_now can = is_vacant t.rounds t.stage (ap (λ (z : WorkerPast). z.hand) (sym knows) ∙ can.0)
        (ap (λ (z : WorkerPast). length z.posted) (sym knows) ∙ can.1 ∙ ap (λ (z : WorkerPast). length z.collected) knows)

    still_now : lane.hand ≡ Still → hand_at t.stage ≡ Still
    still_now still = ap (λ (z : WorkerPast). z.hand) (sym knows) ∙ still

    placing_now : lane.hand ≡ Placing → t.stage ≡ placing
    placing_now h = is_placing t.stage (ap (λ (z : WorkerPast). z.hand) (sym knows) ∙ h)

    fetching_now : (a : Answer) → lane.hand ≡ Fetching a → (b : Batch) × (t.stage ≡ fetching b a)
    fetching_now a h = is_fetching a t.stage (ap (λ (z : WorkerPast). z.hand) (sym knows) ∙ h)

    published_is : (b : Batch) → t.stage ≡ placing → to_publish b lane ≡ lane_of (told t.rounds (offered b))
    published_is b e = ap (to_publish b) (knows_at placing e) ∙ (λ i. record { posted = append-nil (batches t.rounds) i ++ b ∷ []; collected = answers t.rounds; hand = Still })

    cleared_is : (b : Batch) (a : Answer) → t.stage ≡ fetching b a → to_clear lane ≡ lane_of (told (t.rounds ++ record { batch = b; answer = a } ∷ []) vacant)
    cleared_is b a e = let y : Round = record { batch = b; answer = a } in ap to_clear (knows_at (fetching b a) e) ∙ (λ i. record {
      posted = (sym (map-append (λ (x : Round). x.batch) t.rounds (y ∷ [])) ∙ sym (append-nil (batches (t.rounds ++ y ∷ [])))) i;
      collected = sym (map-append (λ (x : Round). x.answer) t.rounds (y ∷ [])) i;
      hand = Still;
    })

    cleared_same : (b : Batch) (a : Answer) → t.stage ≡ fetching b a → desk_of (told (t.rounds ++ record { batch = b; answer = a } ∷ []) vacant) ≡ desk_of t
    cleared_same b a e = let y : Round = record { batch = b; answer = a } in (λ i. record {
      lifted = (append-nil (batches (t.rounds ++ y ∷ [])) ∙ map-append (λ (x : Round). x.batch) t.rounds (y ∷ [])) i;
      answered = (append-nil (answers (t.rounds ++ y ∷ [])) ∙ map-append (λ (x : Round). x.answer) t.rounds (y ∷ [])) i;
      grip = Rattle.nr_slots.specs.declared.view.Grip.TheVariants.Loose;
    }) ∙ desk_at_stage (fetching b a) e

  pub places : (slots : ℕ) → CanPost lane → Allows (SlotRule workers) slots id (v, cs) (word_of worker) (λ z. z) (λ _. placed (v, cs))
  places slots can s r wide at small = let e = vacant_now s r at can in (
    worker_view worker (to_place lane) noted,
    takes (place_of worker) None,
    home_at_stage s r at vacant e,
    worker_moved workers s r id worker near (told (t s r at).rounds placing) tt (ok s r at).each_named (get_or s.words (word_of worker) 0) (word_at_stage s r at vacant e) none refl lane (to_place lane) noted at
        (ap to_place (knows_at s r at vacant e)) (desk_at_stage s r at vacant e),
    refl,
  )

  pub publishes : (slots : ℕ) (b : Batch) → lane.hand ≡ Placing
      → Allows (SlotRule workers) slots id (v, (place_of worker, Some (Posted b)) ∷ cs) (word_of worker) (λ _. 1) (λ _. published (v, (place_of worker, Some (Posted b)) ∷ cs))
  publishes slots b h s r wide at small = let e = placing_now s r at h in (
    worker_view worker (to_publish b lane) noted,
    gives,
    tt,
    worker_moved workers s r id worker near (told (t s r at).rounds (offered b)) tt (ok s r at).each_named 1 refl (some (Some (Posted b))) refl lane (to_publish b lane) noted at
        (published_is s r at b e) (desk_at_stage s r at placing e),
    refl,
  )

  abbrev Looks : St → Type 0
  Looks s = (w : SlotView) × (a : Act (Option Parcel)) × Valid s.homes cs a × SlotRule workers (stepped s (word_of worker) (get_or s.words (word_of worker) 0) id cs w a) × looked (v, cs) (get_or s.words (word_of worker) 0) (w, carried_after cs a)

  pub looks : (slots : ℕ) → lane.hand ≡ Still → Allows (SlotRule workers) slots id (v, cs) (word_of worker) (λ z. z) (looked (v, cs))
  looks slots still s r wide at small = dite (ℕ_discrete (get_or s.words (word_of worker) 0) 2) found missed
    where
      found : get_or s.words (word_of worker) 0 ≡ 2 → Looks s
      found two =
          let f = is_ready (t s r at).stage (still_now s r at still) (sym (ok s r at).word_is ∙ two) in let b : Batch = f.0 in let a : Answer = f.1 in let e = f.2 in
          let n : Names a b = named_at s r at (ready b a) e in let k = knows_at s r at (ready b a) e in (
            worker_view worker (to_fetch a lane) noted,
            takes (place_of worker) (Some (Answered a)),
            home_at_stage s r at (ready b a) e,
            worker_moved workers s r id worker near (told (t s r at).rounds (fetching b a)) n (ok s r at).each_named (get_or s.words (word_of worker) 0) (word_at_stage s r at (ready b a) e) none refl lane (to_fetch a lane) noted at
                (ap (to_fetch a) k) (desk_at_stage s r at (ready b a) e),
            ((λ _. (a, subst (λ (z : WorkerPast). IsForLast a z.posted z.collected) (sym k) (for_last (t s r at).rounds a b n), refl)), (λ other. absurd (other two))),
          )

      missed : get_or s.words (word_of worker) 0 ≢ 2 → Looks s
      missed other = (v, keeps, tt, unmoved workers s r (word_of worker) id cs v at, ((λ two. absurd (other two)), (λ _. refl)))

  pub clears : (slots : ℕ) (a : Answer) → lane.hand ≡ Fetching a
      → Allows (SlotRule workers) slots id (v, (place_of worker, None) ∷ cs) (word_of worker) (λ _. 0) (λ _. cleared (v, (place_of worker, None) ∷ cs))
  clears slots a h s r wide at small = let f = fetching_now s r at a h in let b : Batch = f.0 in let e = f.1 in
      let n : Names a b = named_at s r at (fetching b a) e in (
        worker_view worker (to_clear lane) noted,
        gives,
        tt,
        worker_moved workers s r id worker near (told ((t s r at).rounds ++ record { batch = b; answer = a } ∷ []) vacant) tt (each_more (t s r at).rounds b a n (ok s r at).each_named) 0 refl (some None) refl lane (to_clear lane) noted at
            (cleared_is s r at b a e) (cleared_same s r at b a e),
        refl,
      )
