-- A worker as the definitions see it, where its node owes so many jobs of its batch.
use Rattle.std.specs.Prelude.{ℕ, Option, unwrap_or}
use Rattle.nr_model.specs.Nodes as nodes
use Rattle.nr_entry.specs.Jobs.{items_of}
use Rattle.nr_world.specs.declared.worker.Slot.{Slot}
use Rattle.nr_world.specs.declared.worker.Slot.TheVariants.{Empty, Posted, Lifted, Answered}
use Rattle.nr_world.specs.declared.worker.WorldWorker.{WorldWorker}

abbrev pub slot_seen : Slot → Option ℕ → nodes.Slot
slot_seen Empty owed = nodes.Empty
slot_seen (Posted jobs) owed = nodes.Posted (items_of jobs.items)
slot_seen Lifted owed = nodes.Lifted (unwrap_or owed 0)
slot_seen (Answered executed) owed = nodes.Answered executed

abbrev pub worker_seen : WorldWorker → Option ℕ → nodes.Worker
worker_seen worker owed = record { pending = items_of worker.pending.items; batches = worker.batches; slot = slot_seen worker.slot owed }
