-- Notes of what the combiner did, and workers that are told of them, keep the rule.
use Rattle.std.proofs.Common.{◌≡◌, ◌≢◌, ℕ, suc, ◌<◌, ◌≤◌, Bool, true, false, ◌+◌, length, length-append, List, [], ◌∷◌, ◌++◌, set, Option, refl, sym, ap, subst, ⊎_elim, arith, append-nil}
use mathlib.Core.Option.{some}
use mathlib.Core.Path.{Path}
use lib.ListN.{get_elem?}
use Rattle.atomic_table.specs.Table.{State, Me, keeps, Allows, Splits, Joins}
use Rattle.atomic_table.proofs.Lists.{at_set}
use Rattle.nr_model.specs.Bytes.{IsBeginningOf}
use Rattle.nr_entry.specs.declared.batch.Batch.{Batch}
use Rattle.nr_slots.specs.declared.view.Parcel.{Parcel}
use Rattle.nr_slots.specs.declared.view.CombinerPast.{CombinerPast}
use Rattle.nr_slots.specs.declared.view.WorkerPast.{WorkerPast}
use Rattle.nr_slots.specs.declared.view.SlotView.{SlotView}
use Rattle.nr_slots.specs.Layout.{word_of}
use Rattle.nr_slots.specs.Names.{IsTold}
use Rattle.nr_slots.specs.Rule.{Round, Stage, vacant, placing, offered, lifting, held, answering, ready, fetching, posted_at, lifted_at, answered_at, batches, answers, Tale, lane_of, desk_of, Owns, Combines, IsFrontOf, SlotSeatOk, SlotRule, worker_view, note_view, no_lane, no_desk}
use Rattle.nr_slots.specs.Plays.{noted_now, with_noted, nobody, compared, desk_at}
use Rattle.nr_slots.specs.Steps.{with_batch}
use Rattle.nr_slots.specs.Seats.{IsWaiting, one_if}
use Rattle.nr_slots.proofs.Heads.{begins_all, begins_none, begins_then, begins_both, front_all, front_none}
use Rattle.nr_slots.proofs.Moves.{each_set, only_set, reviewed, unmoved}
use Rattle.nr_slots.proofs.Openings.{each_more, only_more}

-- what was lifted is a beginning of what was posted, and what was collected one of what was answered
lifted_first : (rounds : List Round) (st : Stage) → IsBeginningOf (batches rounds ++ lifted_at st) (batches rounds ++ posted_at st)
lifted_first rounds vacant = begins_all (batches rounds ++ [])
lifted_first rounds placing = begins_all (batches rounds ++ [])
lifted_first rounds (offered b) = (b ∷ [], ap (λ l. l ++ b ∷ []) (append-nil (batches rounds)))
lifted_first rounds (lifting b) = begins_all (batches rounds ++ b ∷ [])
lifted_first rounds (held b) = begins_all (batches rounds ++ b ∷ [])
lifted_first rounds (answering b) = begins_all (batches rounds ++ b ∷ [])
lifted_first rounds (ready b a) = begins_all (batches rounds ++ b ∷ [])
lifted_first rounds (fetching b a) = begins_all (batches rounds ++ b ∷ [])

told_of : (t : Tale) (d : CombinerPast) → IsFrontOf d (desk_of t) → IsTold d (lane_of t)
told_of t d f = let own : IsBeginningOf (answers t.rounds) (answers t.rounds ++ answered_at t.stage) = (answered_at t.stage, refl) in (
  begins_then d.lifted (desk_of t).lifted (lane_of t).posted f.0 (lifted_first t.rounds t.stage),
  begins_both d.answered (answers t.rounds) (desk_of t).answered f.1 own,
  begins_both (answers t.rounds) d.answered (desk_of t).answered own f.1,
)

-- a worker that was told of nothing
pub told_none : IsTold no_desk no_lane
told_none = (begins_none [], (λ _. begins_none []), (λ _. begins_none []))

-- what was told goes on to hold as the worker posts
pub told_posted : (d : CombinerPast) (lane : WorkerPast) (b : Batch) → IsTold d lane → IsTold d (with_batch b lane)
told_posted d lane b h = (begins_then d.lifted lane.posted (lane.posted ++ b ∷ []) h.0 (b ∷ [], refl), h.1, h.2)

-- it waits for an answer then
pub waits_posted : (waiting : Bool) (lane : WorkerPast) (b : Batch) → waiting ≡ false → IsWaiting waiting lane → IsWaiting true (with_batch b lane)
waits_posted waiting lane b still h =
    let none = ap one_if still in
    let long = length-append lane.posted (b ∷ []) in
    let was = h.1 in
    (refl, omega (arith, none, long, was))

module _ (workers : ℕ) where
  abbrev St : Type 0
  St = State (Option Parcel) SlotView

  abbrev Sat : Type 0
  Sat = Me (Option Parcel) SlotView

  nobody_owns : (noted : List CombinerPast) (x : ℕ) → Owns (note_view noted) x → ⊥
  nobody_owns noted x o = let h : x < 0 = o.1 in omega arith

  note_ok : (tale : ℕ → Tale) (noted : List CombinerPast) → ((x : ℕ) → x < workers → IsFrontOf (desk_at noted x) (desk_of (tale x))) → SlotSeatOk workers tale (note_view noted)
  note_ok tale noted first = record { within = omega arith; lane_is = λ x o. absurd (nobody_owns noted x o); desk_is = λ c. absurd (cc); noted_is = first }

  pub keeps_note : (id : ℕ) (v : SlotView) → Combines v → Splits (SlotRule workers) id v v (noted_now v)
  keeps_note id v combines s r at = let k = r.each_seat id v at in let note = noted_now v in
      reviewed workers s r (set s.views id v ++ note ∷ [])
      (each_more (SlotSeatOk workers r.tale) (set s.views id v) note (each_set (SlotSeatOk workers r.tale) s.views id v k (λ j u _ e. r.each_seat j u e))
      (note_ok r.tale v.desks (λ x there. subst (λ z. IsFrontOf z (desk_of (r.tale x))) (sym (k.desk_is combines x there)) (front_all (desk_of (r.tale x))))))
      (λ x. only_more (λ z. Owns z x) (set s.views id v) note (only_set (λ z. Owns z x) s.views id v v at (λ o. o) (r.one_owner x)) (λ j u _ _ o. nobody_owns v.desks x o))
      (only_more Combines (set s.views id v) note (only_set Combines s.views id v v at (λ c. c) r.one_combiner) (λ j u _ _ c. absurd (cc)))

  pub tells_note : (id : ℕ) (v : SlotView) (other : ℕ) (w : SlotView) → Joins (SlotRule workers) id v other w (with_noted v w) nobody
  tells_note id v other w s r at two at' =
      let both : SlotView = with_noted v w in let k = r.each_seat id v at in
      let theirs : get_elem? s.views other ≡ some w = ⊎_elim (λ (h : (other ≡ id) × Path SlotView both w). absurd (two h.0)) (λ (h : (other ≢ id) × (get_elem? s.views other ≡ some w)). h.1) (at_set s.views id other both w at') in
      let mine : SlotSeatOk workers r.tale both = record { within = k.within; lane_is = k.lane_is; desk_is = k.desk_is; noted_is = (r.each_seat other w theirs).noted_is } in
      let first = each_set (SlotSeatOk workers r.tale) s.views id both mine (λ j u _ e. r.each_seat j u e) in
      let spent : SlotSeatOk workers r.tale nobody = note_ok r.tale [] (λ x there. front_none (desk_of (r.tale x))) in
      reviewed workers s r (set (set s.views id both) other nobody)
      (each_set (SlotSeatOk workers r.tale) (set s.views id both) other nobody spent (λ j u _ e. first j u e))
      (λ x. only_set (λ z. Owns z x) (set s.views id both) other w nobody at' (λ o. absurd (nobody_owns [] x o)) (only_set (λ z. Owns z x) s.views id v both at (λ o. o) (r.one_owner x)))
      (only_set Combines (set s.views id both) other w nobody at' (λ c. absurd (cc)) (only_set Combines s.views id v both at (λ c. c) r.one_combiner))

  pub compares : (slots id worker : ℕ) (m : Sat) → worker < workers → m.0 ≡ worker_view worker m.0.lane m.0.noted → Allows (SlotRule workers) slots id m (word_of worker) (λ z. z) (λ _. compared m)
  compares slots id worker m near is s r wide at small =
      let k = r.each_seat id m.0 at in
      let from : m.0.from ≡ worker = ap (λ (z : SlotView). z.from) is in
      let upto : m.0.upto ≡ suc worker = ap (λ (z : SlotView). z.upto) is in
      let own : Owns m.0 worker = (let a : m.0.from ≤ worker = omega arith in a, let b : worker < m.0.upto = omega arith in b) in
      let told : IsTold (desk_at m.0.noted worker) m.0.lane = subst (IsTold (desk_at m.0.noted worker)) (sym (k.lane_is worker own)) (told_of (r.tale worker) (desk_at m.0.noted worker) (k.noted_is worker near)) in
      (m.0, keeps, tt, unmoved workers s r (word_of worker) id m.1 m.0 at, (refl, subst (λ z. IsTold (desk_at m.0.noted z) m.0.lane) (sym from) told))
