-- What the steps of one call ask for and do, over the views of the table.
use Rattle.std.specs.Prelude.{◌≡◌, ℕ, List, [], ◌∷◌, ◌++◌, length, slice_set, Option}
use Rattle.atomic_table.specs.Seated.{TableId}
use Rattle.atomic_table.specs.declared.shared.Seat.{Seat}
use Rattle.nr_entry.specs.declared.batch.Batch.{Batch}
use Rattle.nr_entry.specs.declared.batch.Answer.{Answer}
use Rattle.nr_slots.specs.declared.view.Parcel.{Parcel}
use Rattle.nr_slots.specs.declared.view.Hand.TheVariants.{Still}
use Rattle.nr_slots.specs.declared.view.Grip.TheVariants.{Loose}
use Rattle.nr_slots.specs.declared.view.WorkerPast.{WorkerPast}
use Rattle.nr_slots.specs.declared.view.CombinerPast.{CombinerPast}
use Rattle.nr_slots.specs.declared.view.SlotView.{SlotView}
use Rattle.nr_slots.specs.Plays.{desk_at}
use Rattle.nr_slots.specs.Seats.{IsOfWorkers}

abbrev Sat : Type 0
Sat = Seat (Option Parcel) SlotView

abbrev pub IsSameSeat : Sat → Sat → Type 0
IsSameSeat s t = (t.table_id ≡ s.table_id) × (t.id ≡ s.id)

-- a seat at the slots of so many workers, which has taken no place
abbrev pub IsAt : TableId → ℕ → Sat → Type 0
IsAt id workers s = IsOfWorkers id workers × (s.table_id ≡ id) × (s.me.1 ≡ [])

-- the worker's last answer was collected
abbrev pub CanPost : WorkerPast → Type 0
CanPost lane = (lane.hand ≡ Still) × (length lane.posted ≡ length lane.collected)

abbrev pub with_batch : Batch → WorkerPast → WorkerPast
with_batch batch lane = record { posted = lane.posted ++ batch ∷ []; collected = lane.collected; hand = Still }

abbrev pub with_answer : Answer → WorkerPast → WorkerPast
with_answer answer lane = record { posted = lane.posted; collected = lane.collected ++ answer ∷ []; hand = Still }

abbrev pub with_lift : ℕ → Batch → List CombinerPast → List CombinerPast
with_lift worker batch desks = slice_set desks worker record { lifted = (desk_at desks worker).lifted ++ batch ∷ []; answered = (desk_at desks worker).answered; grip = Loose }

abbrev pub with_reply : ℕ → Answer → List CombinerPast → List CombinerPast
with_reply worker answer desks = slice_set desks worker record { lifted = (desk_at desks worker).lifted; answered = (desk_at desks worker).answered ++ answer ∷ []; grip = Loose }
