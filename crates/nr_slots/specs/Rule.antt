-- The rule of the slots: what holds between any two steps, whatever the threads do.
-- Each worker's slot has a tale: the rounds that are over, each a batch and its answer, and the stage of the round that is not. All that the
-- worker and the combiner know of the slot, and what its word and its place hold, is read from the tale.
use Rattle.std.specs.Prelude.{◌≡◌, ℕ, suc, ◌<◌, ◌≤◌, true, false, List, [], ◌∷◌, ◌++◌, map, length, replicate, slice_index, slice_index_or, Option, Some, None}
use mathlib.Core.Option.{some, none}
use mathlib.Core.Option as maybe
use lib.ListN.{get_elem?}
use Rattle.atomic_table.specs.Table.{State}
use Rattle.nr_model.specs.Bytes.{IsBeginningOf}
use Rattle.nr_entry.specs.declared.batch.Batch.{Batch}
use Rattle.nr_entry.specs.declared.batch.Answer.{Answer}
use Rattle.nr_slots.specs.declared.view.Parcel.{Parcel}
use Rattle.nr_slots.specs.declared.view.Parcel.TheVariants.{Posted, Answered}
use Rattle.nr_slots.specs.declared.view.Hand.{Hand}
use Rattle.nr_slots.specs.declared.view.Hand.TheVariants.{Still, Placing, Fetching}
use Rattle.nr_slots.specs.declared.view.Grip.{Grip}
use Rattle.nr_slots.specs.declared.view.Grip.TheVariants.{Loose, Lifting, Answering}
use Rattle.nr_slots.specs.declared.view.WorkerPast.{WorkerPast}
use Rattle.nr_slots.specs.declared.view.CombinerPast.{CombinerPast}
use Rattle.nr_slots.specs.declared.view.Found.{Found}
use Rattle.nr_slots.specs.declared.view.SlotView.{SlotView}
use Rattle.nr_slots.specs.Layout.{word_of, place_of, words_of, places_of}
use Rattle.nr_slots.specs.Names.{Names}

-- a batch and its answer
pub record Round : Type 0 where
  pub batch : Batch
  pub answer : Answer

-- Where a round is: nothing was posted; the worker puts a batch in; it is offered; the combiner takes it out; the combiner holds it; puts the
-- answer in; the answer is ready; the worker takes it out.
pub data Stage : Type 0 where
  vacant : Stage
  placing : Stage
  offered : Batch → Stage
  lifting : Batch → Stage
  held : Batch → Stage
  answering : Batch → Stage
  ready : Batch → Answer → Stage
  fetching : Batch → Answer → Stage

pub record Tale : Type 0 where
  pub rounds : List Round
  pub stage : Stage

-- the word: 0 empty, 1 offered, 2 ready
abbrev pub word_at : Stage → ℕ
word_at vacant = 0
word_at placing = 0
word_at (offered b) = 1
word_at (lifting b) = 1
word_at (held b) = 1
word_at (answering b) = 1
word_at (ready b a) = 2
word_at (fetching b a) = 2

-- what lies in the place, if no seat has taken it
abbrev pub home_at : Stage → maybe.Option (Option Parcel)
home_at vacant = some None
home_at placing = none
home_at (offered b) = some (Some (Posted b))
home_at (lifting b) = none
home_at (held b) = some None
home_at (answering b) = none
home_at (ready b a) = some (Some (Answered a))
home_at (fetching b a) = none

abbrev pub posted_at : Stage → List Batch
posted_at vacant = []
posted_at placing = []
posted_at (offered b) = b ∷ []
posted_at (lifting b) = b ∷ []
posted_at (held b) = b ∷ []
posted_at (answering b) = b ∷ []
posted_at (ready b a) = b ∷ []
posted_at (fetching b a) = b ∷ []

abbrev pub lifted_at : Stage → List Batch
lifted_at vacant = []
lifted_at placing = []
lifted_at (offered b) = []
lifted_at (lifting b) = b ∷ []
lifted_at (held b) = b ∷ []
lifted_at (answering b) = b ∷ []
lifted_at (ready b a) = b ∷ []
lifted_at (fetching b a) = b ∷ []

abbrev pub answered_at : Stage → List Answer
answered_at vacant = []
answered_at placing = []
answered_at (offered b) = []
answered_at (lifting b) = []
answered_at (held b) = []
answered_at (answering b) = []
answered_at (ready b a) = a ∷ []
answered_at (fetching b a) = a ∷ []

abbrev pub hand_at : Stage → Hand
hand_at vacant = Still
hand_at placing = Placing
hand_at (offered b) = Still
hand_at (lifting b) = Still
hand_at (held b) = Still
hand_at (answering b) = Still
hand_at (ready b a) = Still
hand_at (fetching b a) = Fetching a

abbrev pub grip_at : Stage → Grip
grip_at vacant = Loose
grip_at placing = Loose
grip_at (offered b) = Loose
grip_at (lifting b) = Lifting
grip_at (held b) = Loose
grip_at (answering b) = Answering
grip_at (ready b a) = Loose
grip_at (fetching b a) = Loose

-- an answer that is there names its batch
abbrev pub IsNamed : Stage → Type 0
IsNamed vacant = Unit {0}
IsNamed placing = Unit {0}
IsNamed (offered b) = Unit {0}
IsNamed (lifting b) = Unit {0}
IsNamed (held b) = Unit {0}
IsNamed (answering b) = Unit {0}
IsNamed (ready b a) = Names a b
IsNamed (fetching b a) = Names a b

abbrev pub batches : List Round → List Batch
batches rounds = map (λ (x : Round). x.batch) rounds

abbrev pub answers : List Round → List Answer
answers rounds = map (λ (x : Round). x.answer) rounds

-- what the worker knows
abbrev pub lane_of : Tale → WorkerPast
lane_of t = record { posted = batches t.rounds ++ posted_at t.stage; collected = answers t.rounds; hand = hand_at t.stage }

-- what the combiner knows
abbrev pub desk_of : Tale → CombinerPast
desk_of t = record { lifted = batches t.rounds ++ lifted_at t.stage; answered = answers t.rounds ++ answered_at t.stage; grip = grip_at t.stage }

abbrev pub Homes : Type 0
Homes = List (maybe.Option (Option Parcel))

pub record SlotOk (words : List ℕ) (homes : Homes) (worker : ℕ) (t : Tale) : Type 0 where
  pub word_is : slice_index words (word_of worker) ≡ word_at t.stage
  pub home_is : get_elem? homes (place_of worker) ≡ some (home_at t.stage)
  pub named : IsNamed t.stage
  pub each_named : (k : ℕ) (x : Round) → get_elem? t.rounds k ≡ some x → Names x.answer x.batch

abbrev pub no_lane : WorkerPast
no_lane = record { posted = []; collected = []; hand = Still }

abbrev pub no_desk : CombinerPast
no_desk = record { lifted = []; answered = []; grip = Loose }

-- what was lifted and answered first
abbrev pub IsFrontOf : CombinerPast → CombinerPast → Type 0
IsFrontOf front desk = IsBeginningOf front.lifted desk.lifted × IsBeginningOf front.answered desk.answered

-- the seat is that of the worker
abbrev pub Owns : SlotView → ℕ → Type 0
Owns v worker = (v.from ≤ worker) × (worker < v.upto)

abbrev pub Combines : SlotView → Type 0
Combines v = v.combines ≡ true

-- not two seats have such a view
abbrev pub OnlyOne : (SlotView → Type 0) → List SlotView → Type 0
OnlyOne P views = (id other : ℕ) (v u : SlotView) → get_elem? views id ≡ some v → get_elem? views other ≡ some u → P v → P u → id ≡ other

module _ (workers : ℕ) where
  -- what a seat was told that the combiner did, it did before anything else
  pub record SlotSeatOk (tale : ℕ → Tale) (v : SlotView) : Type 0 where
    pub within : v.upto ≤ workers
    pub lane_is : (worker : ℕ) → Owns v worker → v.lane ≡ lane_of (tale worker)
    pub desk_is : Combines v → (worker : ℕ) → worker < workers → slice_index_or v.desks worker no_desk ≡ desk_of (tale worker)
    pub noted_is : (worker : ℕ) → worker < workers → IsFrontOf (slice_index_or v.noted worker no_desk) (desk_of (tale worker))

  pub record SlotRule (s : State (Option Parcel) SlotView) : Type 0 where
    pub tale : ℕ → Tale
    pub sized : (length s.words ≡ words_of workers) × (length s.homes ≡ places_of workers)
    pub each_slot : (worker : ℕ) → worker < workers → SlotOk s.words s.homes worker (tale worker)
    pub each_seat : (id : ℕ) (v : SlotView) → get_elem? s.views id ≡ some v → SlotSeatOk tale v
    pub one_owner : (worker : ℕ) → OnlyOne (λ v. Owns v worker) s.views
    pub one_combiner : OnlyOne Combines s.views

  -- the view of the combiner, which as the slots are opened has the seats of the workers from one on
  abbrev pub opening_view : ℕ → SlotView
  opening_view from = record { from = from; upto = workers; combines = true; lane = no_lane; desks = replicate workers no_desk; looks = []; noted = [] }

-- the view of a worker's seat, which was told this of the combiner
abbrev pub worker_view : ℕ → WorkerPast → List CombinerPast → SlotView
worker_view worker lane noted = record { from = worker; upto = suc worker; combines = false; lane = lane; desks = []; looks = []; noted = noted }

-- the view of the combiner's seat
abbrev pub combiner_view : ℕ → List CombinerPast → List Found → SlotView
combiner_view workers desks looks = record { from = workers; upto = workers; combines = true; lane = no_lane; desks = desks; looks = looks; noted = [] }

-- the view of a note, which is the seat of nobody
abbrev pub note_view : List CombinerPast → SlotView
note_view noted = record { from = 0; upto = 0; combines = false; lane = no_lane; desks = []; looks = []; noted = noted }
