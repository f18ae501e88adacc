-- What contracts see of the slots and their seats, and what calls do to it.
use Rattle.std.specs.Prelude.{◌≡◌, ◌⊎◌, ℕ, ◌+◌, ◌-◌, ◌^◌, ◌<◌, ◌≤◌, min, Bool, false, List, [], ◌∷◌, ◌++◌, length, replicate, slice_set, slice_index_or, if◌then◌else◌}
use Rattle.atomic_table.specs.Seated.{TableId}
use Rattle.nr_entry.specs.declared.batch.Batch.{Batch}
use Rattle.nr_entry.specs.declared.batch.Answer.{Answer}
use Rattle.nr_slots.specs.declared.view.Hand.TheVariants.{Still}
use Rattle.nr_slots.specs.declared.view.Grip.TheVariants.{Loose}
use Rattle.nr_slots.specs.declared.view.WorkerPast.{WorkerPast}
use Rattle.nr_slots.specs.declared.view.CombinerPast.{CombinerPast}
use Rattle.nr_slots.specs.declared.view.Found.{Found}
use Rattle.nr_slots.specs.declared.view.Found.TheVariants.{Nothing, Batch as FoundBatch}
use Rattle.nr_slots.specs.Layout.{words_of, places_of}
use Rattle.nr_slots.specs.Rule.{no_lane, no_desk}

-- which slots these are, and of how many workers
pub record SlotsView : Type 0 where
  pub id : TableId
  pub workers : ℕ

-- the slots of a worker's seat, which worker it is, what it did, and what it heard last of the combiner's desk for it
pub record WorkerView : Type 0 where
  pub slots : TableId
  pub worker : ℕ
  pub lane : WorkerPast
  pub noted : CombinerPast

-- the slots of a combiner's seat, what it did at each worker's, and what its looks met
pub record CombinerView : Type 0 where
  pub slots : TableId
  pub desks : List CombinerPast
  pub looks : List Found

-- the slots of a note, and what the combiner had done at each worker's
pub record NoteView : Type 0 where
  pub slots : TableId
  pub desks : List CombinerPast

-- the combiner's desk for a worker
abbrev pub desk_of : CombinerView → ℕ → CombinerPast
desk_of v worker = slice_index_or v.desks worker no_desk

-- a worker and a combiner that did nothing yet
abbrev pub new_worker : TableId → ℕ → WorkerView
new_worker id worker = record { slots = id; worker = worker; lane = no_lane; noted = no_desk }

abbrev pub new_combiner : TableId → ℕ → CombinerView
new_combiner id workers = record { slots = id; desks = replicate workers no_desk; looks = [] }

-- one more batch was posted
abbrev pub with_posted : Batch → WorkerView → WorkerView
with_posted batch v = record v { lane = record { posted = v.lane.posted ++ batch ∷ []; collected = v.lane.collected; hand = v.lane.hand } }

-- one more answer was collected
abbrev pub with_collected : Answer → WorkerView → WorkerView
with_collected answer v = record v { lane = record { posted = v.lane.posted; collected = v.lane.collected ++ answer ∷ []; hand = v.lane.hand } }

-- a note was heard, which says this of the combiner's desk
abbrev pub with_heard : CombinerPast → WorkerView → WorkerView
with_heard desk v = record v { noted = desk }

-- one more batch was found in the worker's slot and lifted, and nothing else was done
abbrev pub with_lifted : ℕ → Batch → CombinerView → CombinerView
with_lifted worker batch v = record v {
  desks = slice_set v.desks worker record { lifted = (desk_of v worker).lifted ++ batch ∷ []; answered = (desk_of v worker).answered; grip = (desk_of v worker).grip };
  looks = v.looks ++ FoundBatch worker ∷ [];
}

-- the batch lifted last from the worker's slot wasn't answered
abbrev pub HoldsOne : ℕ → CombinerView → Type 0
HoldsOne worker v = length (desk_of v worker).lifted ≡ length (desk_of v worker).answered + 1

-- nothing was done: the combiner held a batch of the worker, or a look at the worker's slot met none
abbrev pub FoundNone : ℕ → CombinerView → CombinerView → Type 0
FoundNone worker v w = (HoldsOne worker v × (w ≡ v)) ⊎ (w ≡ record v { looks = v.looks ++ Nothing worker ∷ [] })

-- what a note keeps of a combiner
abbrev pub note_of : CombinerView → NoteView
note_of v = record { slots = v.slots; desks = v.desks }

-- one more answer was put into the worker's slot, and nothing else was done
abbrev pub with_answered : ℕ → Answer → CombinerView → CombinerView
with_answered worker answer v = record v { desks = slice_set v.desks worker record { lifted = (desk_of v worker).lifted; answered = (desk_of v worker).answered ++ answer ∷ []; grip = (desk_of v worker).grip } }

-- a table of the slots of so many workers
abbrev pub IsOfWorkers : TableId → ℕ → Type 0
IsOfWorkers id workers = (id.words ≡ words_of workers) × (id.slots ≡ places_of workers)

abbrev pub one_if : Bool → ℕ
one_if b = if b then 1 else 0

-- between two calls a worker is away from its slot, and waits for an answer or not
abbrev pub IsWaiting : Bool → WorkerPast → Type 0
IsWaiting waiting lane = (lane.hand ≡ Still) × (length lane.posted ≡ length lane.collected + one_if waiting)

-- between two calls a combiner is away from each slot, and holds a batch of it or not
abbrev pub IsHolding : Bool → CombinerPast → Type 0
IsHolding holds desk = (desk.grip ≡ Loose) × (length desk.lifted ≡ length desk.answered + one_if holds)

abbrev pub AreHolding : List Bool → List CombinerPast → Type 0
AreHolding holds desks = (worker : ℕ) → worker < length desks → IsHolding (slice_index_or holds worker false) (slice_index_or desks worker no_desk)

-- of each worker no more batches were answered than were lifted
abbrev pub AreLifted : List CombinerPast → Type 0
AreLifted desks = (worker : ℕ) → length (slice_index_or desks worker no_desk).answered ≤ length (slice_index_or desks worker no_desk).lifted

-- so many batches of each worker were answered, as far as a u64 counts, and none of a worker that there isn't
abbrev pub AreCounted : List ℕ → List CombinerPast → Type 0
AreCounted counts desks = (worker : ℕ) → slice_index_or counts worker 0 ≡ min (length (slice_index_or desks worker no_desk).answered) (2 ^ 64 - 1)
