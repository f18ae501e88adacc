-- What each step tells its seat.
use Rattle.std.specs.Prelude.{◌≡◌, ◌≢◌, ℕ, suc, false, List, [], ◌∷◌, ◌++◌, slice_set, slice_index_or, Option, Some, None}
use Rattle.atomic_table.specs.Table.{Me, Step, rest}
use Rattle.nr_entry.specs.declared.batch.Batch.{Batch}
use Rattle.nr_entry.specs.declared.batch.Answer.{Answer}
use Rattle.nr_slots.specs.declared.view.Parcel.{Parcel}
use Rattle.nr_slots.specs.declared.view.Parcel.TheVariants.{Posted, Answered}
use Rattle.nr_slots.specs.declared.view.Hand.{Hand}
use Rattle.nr_slots.specs.declared.view.Hand.TheVariants.{Still, Placing, Fetching}
use Rattle.nr_slots.specs.declared.view.Grip.TheVariants.{Loose, Lifting, Answering}
use Rattle.nr_slots.specs.declared.view.WorkerPast.{WorkerPast}
use Rattle.nr_slots.specs.declared.view.CombinerPast.{CombinerPast}
use Rattle.nr_slots.specs.declared.view.Found.{Found}
use Rattle.nr_slots.specs.declared.view.Found.TheVariants.{Nothing, Batch as FoundBatch}
use Rattle.nr_slots.specs.declared.view.SlotView.{SlotView}
use Rattle.nr_slots.specs.Layout.{word_of, place_of}
use Rattle.nr_slots.specs.Rule.{no_lane, no_desk, note_view}
use Rattle.nr_slots.specs.Names.{IsForLast, IsTold}

abbrev pub Carried : Type 0
Carried = List (ℕ × Option Parcel)

abbrev pub Sat : Type 0
Sat = Me (Option Parcel) SlotView

-- the batch in a parcel, and the answer
abbrev pub batch_in : Option Parcel → List Batch
batch_in None = []
batch_in (Some (Posted b)) = b ∷ []
batch_in (Some (Answered a)) = []

abbrev pub answer_in : Option Parcel → List Answer
answer_in None = []
answer_in (Some (Posted b)) = []
answer_in (Some (Answered a)) = a ∷ []

-- the batch in the place that was taken last, and the answer
abbrev pub batch_carried : Carried → List Batch
batch_carried [] = []
batch_carried (x ∷ xs) = batch_in x.1

abbrev pub answer_carried : Carried → List Answer
answer_carried [] = []
answer_carried (x ∷ xs) = answer_in x.1

-- the answer that the worker takes out
abbrev pub answer_fetched : Hand → List Answer
answer_fetched Still = []
answer_fetched Placing = []
answer_fetched (Fetching a) = a ∷ []

abbrev pub with_lane : WorkerPast → SlotView → SlotView
with_lane lane v = record v { lane = lane }

-- the worker took its place, empty
abbrev pub placed : Sat → Sat → Type 0
placed m m' = m' ≡ (with_lane (record m.0.lane { hand = Placing }) m.0, (place_of m.0.from, None) ∷ m.1)

-- it gave the place back, with a batch
abbrev pub published : Sat → Sat → Type 0
published m m' = m' ≡ (with_lane record { posted = m.0.lane.posted ++ batch_carried m.1; collected = m.0.lane.collected; hand = Still } m.0, rest m.1)

-- the worker found an answer to its last batch, and took the place; or it found none
abbrev pub looked : Sat → ℕ → Sat → Type 0
looked m n m' =
    (n ≡ 2 → (a : Answer) × IsForLast a m.0.lane.posted m.0.lane.collected
    × (m' ≡ (with_lane (record m.0.lane { hand = Fetching a }) m.0, (place_of m.0.from, Some (Answered a)) ∷ m.1)))
    × (n ≢ 2 → m' ≡ m)

-- it gave the place back, empty
abbrev pub cleared : Sat → Sat → Type 0
cleared m m' = m' ≡ (with_lane record { posted = m.0.lane.posted; collected = m.0.lane.collected ++ answer_fetched m.0.lane.hand; hand = Still } m.0, rest m.1)

abbrev pub desk_at : List CombinerPast → ℕ → CombinerPast
desk_at desks worker = slice_index_or desks worker no_desk

abbrev pub with_desk : ℕ → CombinerPast → SlotView → SlotView
with_desk worker desk v = record v { desks = slice_set v.desks worker desk }

-- one more look of the combiner met this
abbrev pub with_look : Found → SlotView → SlotView
with_look found v = record v { looks = v.looks ++ found ∷ [] }

abbrev At : Type 0
At = Step (Option Parcel)

-- the combiner found a batch, and took the place; or it found none
abbrev pub sought : At → Sat → ℕ → Sat → Type 0
sought st m n m' =
    (worker : ℕ) → st.word ≡ word_of worker
    → (n ≡ 1 → (b : Batch)
    × (m' ≡ (with_look (FoundBatch worker) (with_desk worker record { lifted = (desk_at m.0.desks worker).lifted ++ b ∷ []; answered = (desk_at m.0.desks worker).answered; grip = Lifting } m.0), (place_of worker, Some (Posted b)) ∷ m.1)))
    × (n ≢ 1 → m' ≡ (with_look (Nothing worker) m.0, m.1))

-- it gave the place back, empty
abbrev pub lifted : At → Sat → Sat → Type 0
lifted st m m' = (worker : ℕ) → st.word ≡ word_of worker → m' ≡ (with_desk worker (record (desk_at m.0.desks worker) { grip = Loose }) m.0, rest m.1)

-- the combiner took the place, empty
abbrev pub reached : At → Sat → Sat → Type 0
reached st m m' = (worker : ℕ) → st.word ≡ word_of worker → m' ≡ (with_desk worker (record (desk_at m.0.desks worker) { grip = Answering }) m.0, (place_of worker, None) ∷ m.1)

-- it gave the place back, with an answer
abbrev pub answered : At → Sat → Sat → Type 0
answered st m m' = (worker : ℕ) → st.word ≡ word_of worker
    → m' ≡ (with_desk worker record { lifted = (desk_at m.0.desks worker).lifted; answered = (desk_at m.0.desks worker).answered ++ answer_carried m.1; grip = Loose } m.0, rest m.1)

-- the seat of the others, and that of the first of these workers
abbrev pub worker_left : SlotView → SlotView
worker_left v = record v { from = suc v.from }

abbrev pub worker_right : SlotView → SlotView
worker_right v = record { from = v.from; upto = suc v.from; combines = false; lane = no_lane; desks = []; looks = []; noted = [] }

-- a note is cut from the combiner's seat
abbrev pub noted_now : SlotView → SlotView
noted_now v = note_view v.desks

-- a worker's seat is told of a note
abbrev pub with_noted : SlotView → SlotView → SlotView
with_noted v w = record v { noted = w.noted }

abbrev pub nobody : SlotView
nobody = note_view []

-- the worker looked at its slot, after it was told of a note
abbrev pub compared : Sat → Sat → Type 0
compared m m' = (m' ≡ m) × IsTold (desk_at m.0.noted m.0.from) m.0.lane
