-- Slots may be shared by threads, and their seats may go to other threads.
use denote.Builtin.{usize}
use denote.Param.Send.{IsSend, IsSync, view_send, view_sync}
use denote.Param.SendFields.{declared_send, declared_sync}
use Rattle.std.proofs.Crossing.{send, sync, frees}
use Rattle.std.specs.contracts.alloc.Global as Heap
use Rattle.std.specs.contracts.impls.GlobalAllocator.TheImpl.{ghosts}
use Rattle.std.specs.contracts.option.Option as Option
use Rattle.atomic_table.proofs.owned.Table.TheSendSync as table
use Rattle.atomic_table.proofs.shared.Seat.TheSendSync as seat
use Rattle.nr_entry.proofs.Crossing.{sent}
use Rattle.nr_slots.specs.contracts.slots.Slots as Slots
use Rattle.nr_slots.specs.contracts.view.Parcel as Parcel
use Rattle.nr_slots.specs.contracts.view.SlotView as View
use Rattle.nr_slots.specs.contracts.view.SlotLaw as Law
use Rattle.nr_slots.specs.contracts.view.SlotLawTableRuleOptionParcelSlotViewUsize.TheImpl as law
use Rattle.nr_slots.specs.contracts.worker.WorkerSeat as WorkerSeat
use Rattle.nr_slots.specs.contracts.combiner.CombinerSeat as CombinerSeat

parcel_send : IsSend (Option.the_row Parcel.the_row)
parcel_send = search sent depth 60 fits 100000

pub slots_send : IsSend Slots.the_row
slots_send =
    let in_table = table.the_send (Option.the_row Parcel.the_row) View.the_row usize Law.the_row Heap.the_row law.ghosts ghosts parcel_send send frees in
    view_send Slots.TheInside.the_row _ _ _ _ (declared_send Slots.TheInside.the_type (in_table, (search sent, tt)))

pub slots_sync : IsSync Slots.the_row
slots_sync =
    let in_table = table.the_sync (Option.the_row Parcel.the_row) View.the_row usize Law.the_row Heap.the_row law.ghosts ghosts parcel_send send sync frees in
    view_sync Slots.TheInside.the_row _ _ _ _ (declared_sync Slots.TheInside.the_type (in_table, (search sent, tt)))

pub worker_send : IsSend WorkerSeat.the_row
worker_send = view_send WorkerSeat.TheInside.the_row _ _ _ _ (declared_send WorkerSeat.TheInside.the_type (seat.the_send (Option.the_row Parcel.the_row) View.the_row parcel_send, (search sent, (search sent, tt))))

pub combiner_send : IsSend CombinerSeat.the_row
combiner_send = view_send CombinerSeat.TheInside.the_row _ _ _ _ (declared_send CombinerSeat.TheInside.the_type (seat.the_send (Option.the_row Parcel.the_row) View.the_row parcel_send, (search sent, (search sent, tt))))
