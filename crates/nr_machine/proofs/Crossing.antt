-- A machine may go to another thread, and be shared by threads: by its parts, from the keyspace on.
use denote.Param.Send.{IsSend, IsSync, view_send, view_sync, sendable}
use denote.Param.SendFields.{declared_send, declared_sync}
use Rattle.std.proofs.Crossing.{send, sync}
use Rattle.nr_blob.proofs.memory.Memory.TheSendSync as memory
use Rattle.nr_keyspace.proofs.Crossing.{keyspace_send, keyspace_sync}
use Rattle.nr_pubsub.proofs.subs.Subs.TheSendSync as subs
use Rattle.nr_watch.proofs.watches.Watches.TheSendSync as watches
use Rattle.nr_machine.proofs.databases.SelectedDatabases.TheSendSync as databases
use Rattle.nr_machine.specs.contracts.state.State as State
use Rattle.nr_machine.specs.contracts.machine.Machine as Machine

state_send : IsSend State.the_row
state_send = view_send State.TheInside.the_row _ _ _ _ (declared_send State.TheInside.the_type (send, (keyspace_send, (search sendable, (databases.the_send, (subs.the_send, (watches.the_send, tt)))))))

state_sync : IsSync State.the_row
state_sync = view_sync State.TheInside.the_row _ _ _ _ (declared_sync State.TheInside.the_type (sync, (keyspace_sync, (search sendable, (databases.the_sync, (subs.the_sync, (watches.the_sync, tt)))))))

pub machine_send : IsSend Machine.the_row
machine_send = view_send Machine.TheInside.the_row _ _ _ _ (declared_send Machine.TheInside.the_type (state_send, (search (sendable, memory.the_send) depth 40, tt)))

pub machine_sync : IsSync Machine.the_row
machine_sync = view_sync Machine.TheInside.the_row _ _ _ _ (declared_sync Machine.TheInside.the_type (state_sync, (search (sendable, memory.the_sync) depth 40, tt)))
