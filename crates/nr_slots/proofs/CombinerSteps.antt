-- The steps of a combiner keep the rule.
use Rattle.std.proofs.Common.{◌≡◌, ◌≢◌, ℕ, ◌<◌, List, [], ◌∷◌, ◌++◌, length, set, get_or, Option, Some, None, refl, sym, ap, ◌∙◌, subst, append-nil}
use mathlib.Core.Option.{some, none}
use mathlib.Core.Logic.{dite}
use native.Mathlib.Decide.{ℕ_discrete}
use lib.ListN.{get_elem?}
use Rattle.atomic_table.specs.Table.{State, Act, Valid, takes, gives, keeps, step, stepped, carried_after, Allows}
use Rattle.nr_entry.specs.declared.batch.Batch.{Batch}
use Rattle.nr_entry.specs.declared.batch.Answer.{Answer}
use Rattle.nr_slots.specs.declared.view.Parcel.{Parcel}
use Rattle.nr_slots.specs.declared.view.Parcel.TheVariants.{Posted, Answered}
use Rattle.nr_slots.specs.declared.view.Grip.TheVariants.{Loose, Lifting, Answering}
use Rattle.nr_slots.specs.declared.view.CombinerPast.{CombinerPast}
use Rattle.nr_slots.specs.declared.view.Found.{Found}
use Rattle.nr_slots.specs.declared.view.Found.TheVariants.{Nothing, Batch as FoundBatch}
use Rattle.nr_slots.specs.declared.view.SlotView.{SlotView}
use Rattle.nr_slots.specs.Layout.{word_of, place_of}
use Rattle.nr_slots.specs.Names.{Names, IsForLast}
use Rattle.nr_slots.specs.Rule.{Stage, offered, lifting, held, answering, ready, Tale, word_at, home_at, lifted_at, answered_at, grip_at, batches, answers, lane_of, desk_of, SlotOk, SlotRule, combiner_view}
use Rattle.nr_slots.specs.Plays.{desk_at, sought, lifted, reached, answered}
use Rattle.nr_slots.proofs.Tales.{is_offered, is_lifting, is_held, is_answering}
use Rattle.nr_slots.proofs.Heads.{begins_all, front_all}
use Rattle.nr_slots.proofs.Moves.{one_word, combiner_moved, seen}
use Rattle.nr_slots.proofs.WorkerSteps.{Carried, told}

-- what a combiner does to what it knows of a worker
abbrev pub to_seek : Batch → CombinerPast → CombinerPast
to_seek b desk = record { lifted = desk.lifted ++ b ∷ []; answered = desk.answered; grip = Lifting }

abbrev pub to_loose : CombinerPast → CombinerPast
to_loose desk = record desk { grip = Loose }

abbrev pub to_reach : CombinerPast → CombinerPast
to_reach desk = record desk { grip = Answering }

abbrev pub to_reply : Answer → CombinerPast → CombinerPast
to_reply a desk = record { lifted = desk.lifted; answered = desk.answered ++ a ∷ []; grip = Loose }

module _ (workers id worker : ℕ) (near : worker < workers) (desks : List CombinerPast) (looks : List Found) (full : length desks ≡ workers) (cs : Carried) where
  abbrev v : SlotView
  v = combiner_view workers desks looks

  abbrev St : Type 0
  St = State (Option Parcel) SlotView

  abbrev desk : CombinerPast
  desk = desk_at desks worker

  -- the view with another desk for the worker
  abbrev desked : CombinerPast → SlotView
  desked d = combiner_view workers (set desks worker d) looks

  -- the same behind one more look
  abbrev looked : Found → CombinerPast → SlotView
  looked found d = combiner_view workers (set desks worker d) (looks ++ found ∷ [])

  -- what is said of the worker's word is said of each worker with this word
  of_word : (P : ℕ → Type 0) → P worker → (x : ℕ) → word_of worker ≡ word_of x → P x
  of_word P p x e = subst P (one_word worker x e) p

  module _ (s : St) (r : SlotRule workers s) (at : get_elem? s.views id ≡ some v) where
    abbrev t : Tale
    t = r.tale worker

    knows : desk ≡ desk_of t
    knows = (r.each_seat id v at).desk_is refl worker near

    ok : SlotOk s.words s.homes worker t
    ok = r.each_slot worker near

    knows_at : (st : Stage) → t.stage ≡ st → desk ≡ desk_of (told t.rounds st)
    knows_at st e = knows ∙ ap (λ z. desk_of (told t.rounds z)) e

    home_at_stage : (st : Stage) → t.stage ≡ st → get_elem? s.homes (place_of worker) ≡ some (home_at st)
    home_at_stage st e = ok.home_is ∙ ap (λ z. some (home_at z)) e

    word_at_stage : (st : Stage) → t.stage ≡ st → get_or s.words (word_of worker) 0 ≡ word_at st
    word_at_stage st e = ok.word_is ∙ ap word_at e

    lane_at_stage : (st : Stage) → t.stage ≡ st → lane_of (told t.rounds st) ≡ lane_of t
    lane_at_stage st e = ap (λ z. lane_of (told t.rounds z)) (sym e)

    grip_now : grip_at t.stage ≡ desk.grip
    grip_now = ap (λ (z : CombinerPast). z.grip) (sym knows)

    offered_now : desk.grip ≡ Loose → length desk.lifted ≡ length desk.answered → get_or s.words (word_of worker) 0 ≡ 1 → (b : Batch) × (t.stage ≡ offered b)
    offered_now loose even one = is_offered t.rounds t.stage (grip_now ∙ loose) (sym ok.word_is ∙ one)
        (ap (λ (z : CombinerPast). length z.lifted) (sym knows) ∙ even ∙ ap (λ (z : CombinerPast). length z.answered) knows)

    lifting_now : desk.grip ≡ Lifting → (b : Batch) × (t.stage ≡ lifting b)
    lifting_now g = is_lifting t.stage (grip_now ∙ g)

    last_now : (a : Answer) → IsForLast a desk.lifted desk.answered → IsForLast a (batches t.rounds ++ lifted_at t.stage) (answers t.rounds ++ answered_at t.stage)
    last_now a f = subst (λ (z : CombinerPast). IsForLast a z.lifted z.answered) knows f

    held_now : (a : Answer) → desk.grip ≡ Loose → IsForLast a desk.lifted desk.answered → (b : Batch) × (t.stage ≡ held b) × Names a b
    held_now a loose f = is_held t.rounds a t.stage (grip_now ∙ loose) (last_now a f)

    answering_now : (a : Answer) → desk.grip ≡ Answering → IsForLast a desk.lifted desk.answered → (b : Batch) × (t.stage ≡ answering b) × Names a b
    answering_now a g f = is_answering t.rounds a t.stage (grip_now ∙ g) (last_now a f)

    sought_is : (b : Batch) → t.stage ≡ offered b → to_seek b desk ≡ desk_of (told t.rounds (lifting b))
    sought_is b e = ap (to_seek b) (knows_at (offered b) e) ∙ (λ i. record { lifted = append-nil (batches t.rounds) i ++ b ∷ []; answered = answers t.rounds ++ []; grip = Lifting })

    replied_is : (a : Answer) (b : Batch) → t.stage ≡ answering b → to_reply a desk ≡ desk_of (told t.rounds (ready b a))
    replied_is a b e = ap (to_reply a) (knows_at (answering b) e) ∙ (λ i. record { lifted = batches t.rounds ++ b ∷ []; answered = append-nil (answers t.rounds) i ++ a ∷ []; grip = Loose })

  abbrev Seeks : ℕ → St → Type 0
  Seeks slots s = (w : SlotView) × (a : Act (Option Parcel)) × Valid s.homes cs a × SlotRule workers (stepped s (word_of worker) (get_or s.words (word_of worker) 0) id cs w a)
      × sought (step slots (word_of worker) 0 0 none) (v, cs) (get_or s.words (word_of worker) 0) (w, carried_after cs a)

  pub seeks : (slots : ℕ) → desk.grip ≡ Loose → length desk.lifted ≡ length desk.answered → Allows (SlotRule workers) slots id (v, cs) (word_of worker) (λ z. z) (sought (step slots (word_of worker) 0 0 none) (v, cs))
  seeks slots loose even s r wide at small = dite (ℕ_discrete (get_or s.words (word_of worker) 0) 1) found missed
    where
      found : get_or s.words (word_of worker) 0 ≡ 1 → Seeks slots s
      found one = let f = offered_now s r at loose even one in let b : Batch = f.0 in let e = f.1 in (
        looked (FoundBatch worker) (to_seek b desk),
        takes (place_of worker) (Some (Posted b)),
        home_at_stage s r at (offered b) e,
        combiner_moved workers s r id worker near (told (t s r at).rounds (lifting b)) tt (ok s r at).each_named (get_or s.words (word_of worker) 0) (word_at_stage s r at (offered b) e) none refl desks (to_seek b desk) looks (looks ++ FoundBatch worker ∷ []) at full
            (sought_is s r at b e) (lane_at_stage s r at (offered b) e) ((b ∷ [], refl), begins_all desk.answered),
        of_word (λ x. (get_or s.words (word_of worker) 0 ≡ 1 → (c : Batch) × ((looked (FoundBatch worker) (to_seek b desk), (place_of worker, Some (Posted b)) ∷ cs) ≡ (combiner_view workers (set desks x (to_seek c (desk_at desks x))) (looks ++ FoundBatch x ∷ []), (place_of x, Some (Posted c)) ∷ cs)))
            × (get_or s.words (word_of worker) 0 ≢ 1 → (looked (FoundBatch worker) (to_seek b desk), (place_of worker, Some (Posted b)) ∷ cs) ≡ (combiner_view workers desks (looks ++ Nothing x ∷ []), cs)))
            ((λ _. (b, refl)), (λ other. absurd (other one))),
      )

      missed : get_or s.words (word_of worker) 0 ≢ 1 → Seeks slots s
      missed other = let q = r.each_seat id v at in let w : SlotView = combiner_view workers desks (looks ++ Nothing worker ∷ []) in (
        w,
        keeps,
        tt,
        seen workers s r (word_of worker) id cs v w at record { within = q.within; lane_is = q.lane_is; desk_is = q.desk_is; noted_is = q.noted_is } (λ x o. o) (λ c. c),
        of_word (λ x. (get_or s.words (word_of worker) 0 ≡ 1 → (c : Batch) × ((w, cs) ≡ (combiner_view workers (set desks x (to_seek c (desk_at desks x))) (looks ++ FoundBatch x ∷ []), (place_of x, Some (Posted c)) ∷ cs)))
            × (get_or s.words (word_of worker) 0 ≢ 1 → (w, cs) ≡ (combiner_view workers desks (looks ++ Nothing x ∷ []), cs)))
            ((λ one. absurd (other one)), (λ _. refl)),
      )

  pub lifts : (slots : ℕ) → desk.grip ≡ Lifting → Allows (SlotRule workers) slots id (v, (place_of worker, None) ∷ cs) (word_of worker) (λ z. z) (λ _. lifted (step slots (word_of worker) 0 0 none) (v, (place_of worker, None) ∷ cs))
  lifts slots g s r wide at small = let f = lifting_now s r at g in let b : Batch = f.0 in let e = f.1 in (
    desked (to_loose desk),
    gives,
    tt,
    combiner_moved workers s r id worker near (told (t s r at).rounds (held b)) tt (ok s r at).each_named (get_or s.words (word_of worker) 0) (word_at_stage s r at (lifting b) e) (some None) refl desks (to_loose desk) looks looks at full
        (ap to_loose (knows_at s r at (lifting b) e)) (lane_at_stage s r at (lifting b) e) (front_all desk),
    of_word (λ x. (desked (to_loose desk), cs) ≡ (combiner_view workers (set desks x (to_loose (desk_at desks x))) looks, cs)) refl,
  )

  pub reaches : (slots : ℕ) (a : Answer) → desk.grip ≡ Loose → IsForLast a desk.lifted desk.answered
      → Allows (SlotRule workers) slots id (v, cs) (word_of worker) (λ z. z) (λ _. reached (step slots (word_of worker) 0 0 none) (v, cs))
  reaches slots a loose last s r wide at small = let f = held_now s r at a loose last in let b : Batch = f.0 in let e = f.1 in (
    desked (to_reach desk),
    takes (place_of worker) None,
    home_at_stage s r at (held b) e,
    combiner_moved workers s r id worker near (told (t s r at).rounds (answering b)) tt (ok s r at).each_named (get_or s.words (word_of worker) 0) (word_at_stage s r at (held b) e) none refl desks (to_reach desk) looks looks at full
        (ap to_reach (knows_at s r at (held b) e)) (lane_at_stage s r at (held b) e) (front_all desk),
    of_word (λ x. (desked (to_reach desk), (place_of worker, None) ∷ cs) ≡ (combiner_view workers (set desks x (to_reach (desk_at desks x))) looks, (place_of x, None) ∷ cs)) refl,
  )

  pub replies : (slots : ℕ) (a : Answer) → desk.grip ≡ Answering → IsForLast a desk.lifted desk.answered
      → Allows (SlotRule workers) slots id (v, (place_of worker, Some (Answered a)) ∷ cs) (word_of worker) (λ _. 2) (λ _. answered (step slots (word_of worker) 2 0 none) (v, (place_of worker, Some (Answered a)) ∷ cs))
  replies slots a g last s r wide at small = let f = answering_now s r at a g last in let b : Batch = f.0 in let e = f.1 in (
    desked (to_reply a desk),
    gives,
    tt,
    combiner_moved workers s r id worker near (told (t s r at).rounds (ready b a)) f.2 (ok s r at).each_named 2 refl (some (Some (Answered a))) refl desks (to_reply a desk) looks looks at full
        (replied_is s r at a b e) (lane_at_stage s r at (answering b) e) (begins_all desk.lifted, (a ∷ [], refl)),
    of_word (λ x. (desked (to_reply a desk), cs) ≡ (combiner_view workers (set desks x (to_reply a (desk_at desks x))) looks, cs)) refl,
  )
