-- Slots that were opened and aren't shared yet.
use Rattle.std.specs.Prelude.{◌≡◌, ℕ, ◌<◌, List, length, Option, Some, None, slice_get, refl}
use Rattle.std.specs.Coded.{Coded, code_by, coded×, coded_ℕ}
use Rattle.atomic_table.specs.Seated.{TableId, table_id_coded}
use Rattle.nr_oplog.specs.Names.{no_log}
use Rattle.nr_slots.specs.Seats.{SlotsView, WorkerView, new_worker}

abbrev pub coded_slots : Coded SlotsView
coded_slots = code_by (TableId × ℕ) (coded× table_id_coded coded_ℕ) (λ s. (s.id, s.workers)) (λ p. record { id = p.0; workers = p.1 }) (λ _. refl)

-- these are the seats of so many workers at these slots, in order, none of which has done anything yet
abbrev pub AreNewWorkers : TableId → ℕ → List WorkerView → Type 0
AreNewWorkers id workers seats = (length seats ≡ workers) × ((worker : ℕ) → worker < workers → slice_get seats worker ≡ Some (new_worker id worker))

-- each of these slots has the name of its node
abbrev pub AreNamed : (ℕ → TableId) → List SlotsView → Type 0
AreNamed name slots = (node : ℕ) (one : SlotsView) → slice_get slots node ≡ Some one → one.id ≡ name node

-- the names of these, by node
abbrev pub named_by : Option SlotsView → TableId
named_by None = no_log
named_by (Some slots) = slots.id

abbrev pub names_of : List SlotsView → ℕ → TableId
names_of slots node = named_by (slice_get slots node)

-- each has so many workers
abbrev pub AreOfWorkers : ℕ → List SlotsView → Type 0
AreOfWorkers workers slots = (node : ℕ) (one : SlotsView) → slice_get slots node ≡ Some one → one.workers ≡ workers
