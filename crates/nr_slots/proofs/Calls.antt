-- The steps of a call, put together, over plain variables.
use Rattle.std.proofs.Common.{◌≡◌, ◌≢◌, ℕ, zero, suc, ◌<◌, List, [], ◌∷◌, ◌++◌, length, set, Option, Some, None, refl, sym, ap, ◌∙◌, subst, length-set, get_or-set_same}
use mathlib.Core.Option.{none}
use Rattle.atomic_table.specs.Table.{Me, step, rest, Allows}
use Rattle.nr_entry.specs.declared.batch.Batch.{Batch}
use Rattle.nr_entry.specs.declared.batch.Answer.{Answer}
use Rattle.nr_slots.specs.declared.view.Parcel.{Parcel}
use Rattle.nr_slots.specs.declared.view.Parcel.TheVariants.{Posted, Answered}
use Rattle.nr_slots.specs.declared.view.Hand.TheVariants.{Still, Placing, Fetching}
use Rattle.nr_slots.specs.declared.view.Grip.TheVariants.{Loose, Lifting, Answering}
use Rattle.nr_slots.specs.declared.view.WorkerPast.{WorkerPast}
use Rattle.nr_slots.specs.declared.view.CombinerPast.{CombinerPast}
use Rattle.nr_slots.specs.declared.view.Found.{Found}
use Rattle.nr_slots.specs.declared.view.Found.TheVariants.{Nothing, Batch as FoundBatch}
use Rattle.nr_slots.specs.declared.view.SlotView.{SlotView}
use Rattle.nr_slots.specs.Layout.{word_of, place_of}
use Rattle.nr_slots.specs.Names.{IsForLast}
use Rattle.nr_slots.specs.Rule.{SlotRule, worker_view, combiner_view, no_desk}
use Rattle.nr_slots.specs.Plays.{placed, published, looked, cleared, sought, lifted, reached, answered, with_lane, with_look, with_desk, desk_at, batch_carried, answer_carried}
use Rattle.nr_slots.specs.Steps.{CanPost, with_answer, with_lift, with_reply}
use Rattle.nr_slots.proofs.WorkerSteps.{Carried, places, publishes, looks, clears, to_place, to_publish, to_fetch, to_clear}
use Rattle.nr_slots.proofs.CombinerSteps.{seeks, lifts, reaches, replies, to_seek, to_loose, to_reach, to_reply}

abbrev pub Sat : Type 0
Sat = Me (Option Parcel) SlotView

parcel_of : Carried → Option Parcel
parcel_of [] = None
parcel_of (x ∷ xs) = x.1

-- the place that was taken may be exchanged
pub can_exchange : (l : Sat) (v : SlotView) (place : ℕ) (old : Option Parcel) → l ≡ (v, (place, old) ∷ []) → (o : Option Parcel) × (l.1 ≡ (place, o) ∷ rest l.1)
can_exchange l v place old took = (old, ap (λ (q : Sat). q.1) took ∙ (λ i. (place, old) ∷ rest (sym took i).1))

-- what was in it
pub was_there : (l : Sat) (v : SlotView) (place : ℕ) (old got : Option Parcel) → l ≡ (v, (place, old) ∷ []) → l.1 ≡ (place, got) ∷ rest l.1 → got ≡ old
unfolding parcel_of
was_there l v place old got took is = ap parcel_of (sym is) ∙ ap (λ (q : Sat). parcel_of q.1) took

-- what is in it now
pub exchanged : (l x : Sat) (v : SlotView) (place : ℕ) (old new : Option Parcel) → l ≡ (v, (place, old) ∷ []) → x ≡ (l.0, (place, new) ∷ rest l.1) → x ≡ (v, (place, new) ∷ [])
exchanged l x v place old new took now = now ∙ ap (λ (q : Sat). (q.0, (place, new) ∷ rest q.1)) took

module _ (workers slots id worker : ℕ) (near : worker < workers) where
  pub put_loads : (m : Sat) (lane : WorkerPast) (noted : List CombinerPast) → m ≡ (worker_view worker lane noted, []) → CanPost lane → Allows (SlotRule workers) slots id m (word_of worker) (λ z. z) (λ _. placed m)
  put_loads m lane noted is can = subst (λ (q : Sat). Allows (SlotRule workers) slots id q (word_of worker) (λ z. z) (λ _. placed q)) (sym is) (places workers id worker near lane noted [] slots can)

  pub put_stores : (m : Sat) (lane : WorkerPast) (noted : List CombinerPast) (b : Batch) → m ≡ (worker_view worker lane noted, (place_of worker, Some (Posted b)) ∷ []) → lane.hand ≡ Placing
      → Allows (SlotRule workers) slots id m (word_of worker) (λ _. 1) (λ _. published m)
  put_stores m lane noted b is h = subst (λ (q : Sat). Allows (SlotRule workers) slots id q (word_of worker) (λ _. 1) (λ _. published q)) (sym is) (publishes workers id worker near lane noted [] slots b h)

  pub look_loads : (m : Sat) (lane : WorkerPast) (noted : List CombinerPast) → m ≡ (worker_view worker lane noted, []) → lane.hand ≡ Still → Allows (SlotRule workers) slots id m (word_of worker) (λ z. z) (looked m)
  look_loads m lane noted is still = subst (λ (q : Sat). Allows (SlotRule workers) slots id q (word_of worker) (λ z. z) (looked q)) (sym is) (looks workers id worker near lane noted [] slots still)

  pub clear_stores : (m : Sat) (lane : WorkerPast) (noted : List CombinerPast) (a : Answer) → m ≡ (worker_view worker lane noted, (place_of worker, None) ∷ []) → lane.hand ≡ Fetching a
      → Allows (SlotRule workers) slots id m (word_of worker) (λ _. 0) (λ _. cleared m)
  clear_stores m lane noted a is h = subst (λ (q : Sat). Allows (SlotRule workers) slots id q (word_of worker) (λ _. 0) (λ _. cleared q)) (sym is) (clears workers id worker near lane noted [] slots a h)

  module _ (desks : List CombinerPast) (looks : List Found) (full : length desks ≡ workers) where
    pub seek_loads : (m : Sat) → m ≡ (combiner_view workers desks looks, []) → (desk_at desks worker).grip ≡ Loose → length (desk_at desks worker).lifted ≡ length (desk_at desks worker).answered
        → Allows (SlotRule workers) slots id m (word_of worker) (λ z. z) (sought (step slots (word_of worker) 0 0 none) m)
    seek_loads m is loose even = subst (λ (q : Sat). Allows (SlotRule workers) slots id q (word_of worker) (λ z. z) (sought (step slots (word_of worker) 0 0 none) q)) (sym is)
        (seeks workers id worker near desks looks full [] slots loose even)

    pub lift_loads : (m : Sat) → m ≡ (combiner_view workers desks looks, (place_of worker, None) ∷ []) → (desk_at desks worker).grip ≡ Lifting
        → Allows (SlotRule workers) slots id m (word_of worker) (λ z. z) (λ _. lifted (step slots (word_of worker) 0 0 none) m)
    lift_loads m is g = subst (λ (q : Sat). Allows (SlotRule workers) slots id q (word_of worker) (λ z. z) (λ _. lifted (step slots (word_of worker) 0 0 none) q)) (sym is)
        (lifts workers id worker near desks looks full [] slots g)

    pub reach_loads : (m : Sat) (a : Answer) → m ≡ (combiner_view workers desks looks, []) → (desk_at desks worker).grip ≡ Loose → IsForLast a (desk_at desks worker).lifted (desk_at desks worker).answered
        → Allows (SlotRule workers) slots id m (word_of worker) (λ z. z) (λ _. reached (step slots (word_of worker) 0 0 none) m)
    reach_loads m a is loose last = subst (λ (q : Sat). Allows (SlotRule workers) slots id q (word_of worker) (λ z. z) (λ _. reached (step slots (word_of worker) 0 0 none) q)) (sym is)
        (reaches workers id worker near desks looks full [] slots a loose last)

    pub reply_stores : (m : Sat) (a : Answer) → m ≡ (combiner_view workers desks looks, (place_of worker, Some (Answered a)) ∷ []) → (desk_at desks worker).grip ≡ Answering → IsForLast a (desk_at desks worker).lifted (desk_at desks worker).answered
        → Allows (SlotRule workers) slots id m (word_of worker) (λ _. 2) (λ _. answered (step slots (word_of worker) 2 0 none) m)
    reply_stores m a is g last = subst (λ (q : Sat). Allows (SlotRule workers) slots id q (word_of worker) (λ _. 2) (λ _. answered (step slots (word_of worker) 2 0 none) q)) (sym is)
        (replies workers id worker near desks looks full [] slots a g last)

module _ (worker : ℕ) (m l : Sat) where
  pub placed_now : (lane : WorkerPast) (noted : List CombinerPast) → m ≡ (worker_view worker lane noted, []) → placed m l → l ≡ (worker_view worker (to_place lane) noted, (place_of worker, None) ∷ [])
  placed_now lane noted is did = did ∙ ap (λ (q : Sat). (with_lane (to_place q.0.lane) q.0, (place_of q.0.from, None) ∷ q.1)) is

  pub published_now : (lane : WorkerPast) (noted : List CombinerPast) (b : Batch) → m ≡ (worker_view worker lane noted, (place_of worker, Some (Posted b)) ∷ []) → published m l → l ≡ (worker_view worker (to_publish b lane) noted, [])
  published_now lane noted b is did = did ∙ ap (λ (q : Sat). (with_lane record { posted = q.0.lane.posted ++ batch_carried q.1; collected = q.0.lane.collected; hand = Still } q.0, rest q.1)) is

  pub found_answer : (lane : WorkerPast) (noted : List CombinerPast) (n : ℕ) → m ≡ (worker_view worker lane noted, []) → looked m n l → n ≡ 2
      → (a : Answer) × IsForLast a lane.posted lane.collected × (l ≡ (worker_view worker (to_fetch a lane) noted, (place_of worker, Some (Answered a)) ∷ []))
  found_answer lane noted n is did two = let f = did.0 two in (
    f.0,
    subst (λ (q : Sat). IsForLast f.0 q.0.lane.posted q.0.lane.collected) is f.1,
    f.2 ∙ ap (λ (q : Sat). (with_lane (to_fetch f.0 q.0.lane) q.0, (place_of q.0.from, Some (Answered f.0)) ∷ q.1)) is,
  )

  pub cleared_now : (lane : WorkerPast) (noted : List CombinerPast) → m ≡ (worker_view worker lane noted, (place_of worker, None) ∷ []) → cleared m l → l ≡ (worker_view worker (to_clear lane) noted, [])
  cleared_now lane noted is did = did ∙ ap (λ (q : Sat). (with_lane (to_clear q.0.lane) q.0, rest q.1)) is

  module _ (workers slots : ℕ) (desks : List CombinerPast) (looks : List Found) where
    pub found_batch : (n : ℕ) → m ≡ (combiner_view workers desks looks, []) → sought (step slots (word_of worker) 0 0 none) m n l → n ≡ 1
        → (b : Batch) × (l ≡ (combiner_view workers (set desks worker (to_seek b (desk_at desks worker))) (looks ++ FoundBatch worker ∷ []), (place_of worker, Some (Posted b)) ∷ []))
    found_batch n is did one = let f = (did worker refl).0 one in (f.0, f.1 ∙ ap (λ (q : Sat). (with_look (FoundBatch worker) (with_desk worker (to_seek f.0 (desk_at q.0.desks worker)) q.0), (place_of worker, Some (Posted f.0)) ∷ q.1)) is)

    pub missed_batch : (n : ℕ) → m ≡ (combiner_view workers desks looks, []) → sought (step slots (word_of worker) 0 0 none) m n l → n ≢ 1 → l ≡ (combiner_view workers desks (looks ++ Nothing worker ∷ []), [])
    missed_batch n is did other = (did worker refl).1 other ∙ ap (λ (q : Sat). (with_look (Nothing worker) q.0, q.1)) is

    pub lifted_now : m ≡ (combiner_view workers desks looks, (place_of worker, None) ∷ []) → lifted (step slots (word_of worker) 0 0 none) m l → l ≡ (combiner_view workers (set desks worker (to_loose (desk_at desks worker))) looks, [])
    lifted_now is did = did worker refl ∙ ap (λ (q : Sat). (with_desk worker (to_loose (desk_at q.0.desks worker)) q.0, rest q.1)) is

    pub reached_now : m ≡ (combiner_view workers desks looks, []) → reached (step slots (word_of worker) 0 0 none) m l
        → l ≡ (combiner_view workers (set desks worker (to_reach (desk_at desks worker))) looks, (place_of worker, None) ∷ [])
    reached_now is did = did worker refl ∙ ap (λ (q : Sat). (with_desk worker (to_reach (desk_at q.0.desks worker)) q.0, (place_of worker, None) ∷ q.1)) is

    pub replied_now : (a : Answer) → m ≡ (combiner_view workers desks looks, (place_of worker, Some (Answered a)) ∷ []) → answered (step slots (word_of worker) 2 0 none) m l
        → l ≡ (combiner_view workers (set desks worker (to_reply a (desk_at desks worker))) looks, [])
    replied_now a is did = did worker refl
        ∙ ap (λ (q : Sat). (with_desk worker record { lifted = (desk_at q.0.desks worker).lifted; answered = (desk_at q.0.desks worker).answered ++ answer_carried q.1; grip = Loose } q.0, rest q.1)) is

-- a desk that was changed twice
pub set_twice : (desks : List CombinerPast) (worker : ℕ) (d e : CombinerPast) → set (set desks worker d) worker e ≡ set desks worker e
set_twice [] worker d e = refl
set_twice (x ∷ xs) zero d e = refl
set_twice (x ∷ xs) (suc worker) d e = ap (λ l. x ∷ l) (set_twice xs worker d e)

-- one desk was changed
pub desk_now : (workers worker : ℕ) → worker < workers → (desks : List CombinerPast) → length desks ≡ workers → (d : CombinerPast) → (length (set desks worker d) ≡ workers) × (desk_at (set desks worker d) worker ≡ d)
desk_now workers worker near desks full d = (length-set desks worker d ∙ full, get_or-set_same desks worker d no_desk (subst (λ z. worker < z) (sym full) near))

module _ (workers worker : ℕ) (near : worker < workers) (desks : List CombinerPast) (looks : List Found) (full : length desks ≡ workers) where
  twice : (F : CombinerPast → CombinerPast) (d : CombinerPast) → set (set desks worker d) worker (F (desk_at (set desks worker d) worker)) ≡ set desks worker (F d)
  twice F d = ap (λ z. set (set desks worker d) worker (F z)) (desk_now workers worker near desks full d).1 ∙ set_twice desks worker d (F d)

  -- what a combiner knows once it has lifted a batch
  pub lifted_after : (b : Batch) (x : Sat) → x ≡ (combiner_view workers (set (set desks worker (to_seek b (desk_at desks worker))) worker (to_loose (desk_at (set desks worker (to_seek b (desk_at desks worker))) worker))) looks, [])
      → x ≡ (combiner_view workers (with_lift worker b desks) looks, [])
  lifted_after b x is = is ∙ ap (λ l. (combiner_view workers l looks, [])) (twice to_loose (to_seek b (desk_at desks worker)))

  -- and once it has put an answer in
  pub replied_after : (a : Answer) (x : Sat) → x ≡ (combiner_view workers (set (set desks worker (to_reach (desk_at desks worker))) worker (to_reply a (desk_at (set desks worker (to_reach (desk_at desks worker))) worker))) looks, [])
      → x ≡ (combiner_view workers (with_reply worker a desks) looks, [])
  replied_after a x is = is ∙ ap (λ l. (combiner_view workers l looks, [])) (twice (to_reply a) (to_reach (desk_at desks worker)))

answer_or : Answer → Option Parcel → Answer
answer_or a None = a
answer_or a (Some (Posted b)) = a
answer_or a (Some (Answered c)) = c

batch_or : Batch → Option Parcel → Batch
batch_or b None = b
batch_or b (Some (Posted c)) = c
batch_or b (Some (Answered a)) = b

-- what a worker knows once it has taken an answer out
pub collected_after : (worker : ℕ) (lane : WorkerPast) (noted : List CombinerPast) (a got : Answer) (parcel : Option Parcel) (x : Sat) → parcel ≡ Some (Answered a) → parcel ≡ Some (Answered got) → IsForLast a lane.posted lane.collected
    → x ≡ (worker_view worker (to_clear (to_fetch a lane)) noted, []) → IsForLast got lane.posted lane.collected × (x ≡ (worker_view worker (with_answer got lane) noted, []))
unfolding answer_or
collected_after worker lane noted a got parcel x is there last now = subst (λ (z : Answer). IsForLast z lane.posted lane.collected × (x ≡ (worker_view worker (with_answer z lane) noted, []))) (ap (answer_or a) (sym is ∙ there)) (last, now)

pub same_batch : (b got : Batch) (parcel : Option Parcel) → parcel ≡ Some (Posted b) → parcel ≡ Some (Posted got) → b ≡ got
unfolding batch_or
same_batch b got parcel is there = ap (batch_or b) (sym is ∙ there)
