-- A replica may go to another thread: by its parts, from the machine, which threads share, and the jobs that wait on; and so may what it offers and lends.
use denote.Builtin.{usize}
use denote.Param.Send.{IsSend, view_send, sendable}
use denote.Param.SendFields.{declared_send}
use Rattle.std.proofs.Crossing.{Arc-send, Vec-send, send, crosses}
use Rattle.std.proofs.collections.BTreeMap.TheSendSync as map
use Rattle.std.proofs.collections.BTreeSet.TheSendSync as set
use Rattle.std.specs.contracts.alloc.Global as Heap
use Rattle.std.specs.contracts.impls.GlobalAllocator.TheImpl.{ghosts}
use Rattle.std.specs.contracts.option.Option as Option
use Rattle.std.specs.contracts.sync.Arc as Arc
use Rattle.std.specs.contracts.vec.Vec as Vec
use Rattle.nr_blob.proofs.memory.Memory.TheSendSync as memory
use Rattle.nr_entry.proofs.Crossing.{waiting_sent}
use Rattle.nr_emission.proofs.staging.Staging.TheSendSync as staging
use Rattle.nr_machine.proofs.Crossing.{machine_send, machine_sync}
use Rattle.nr_machine.specs.contracts.machine.Machine as Machine
use Rattle.nr_replica.specs.contracts.lending.Lender as Lender
use Rattle.nr_replica.specs.contracts.lending.Lent as Lent
use Rattle.nr_replica.specs.contracts.members.NodeMembers as NodeMembers
use Rattle.nr_replica.specs.contracts.offer.Offer as Offer
use Rattle.nr_replica.specs.contracts.outbox.Outbox as Outbox
use Rattle.nr_replica.specs.contracts.replica.Replica as Replica

owed_send : IsSend (Vec.the_row (Option.the_row usize) Heap.the_row ghosts)
owed_send = Vec-send (Option.the_row usize) (search (sendable, crosses) depth 40)

ruleset parts = (sendable, crosses, memory.the_send)

outbox_send : IsSend Outbox.the_row
outbox_send = view_send Outbox.TheInside.the_row _ _ _ _ (declared_send Outbox.TheInside.the_type
    (search parts depth 60, (search parts depth 60, (search parts depth 60, (search parts depth 60, (search parts depth 60, (search parts depth 60, tt)))))))

members_send : IsSend NodeMembers.the_row
members_send = search (parts, map.the_send, set.the_send, outbox_send) depth 60 fits 100000

shared_send : IsSend (Arc.the_row Machine.the_row Heap.the_row ghosts)
shared_send = Arc-send Machine.the_row machine_send machine_sync

lender_send : IsSend Lender.the_row
lender_send = view_send Lender.TheInside.the_row _ _ _ _ (declared_send Lender.TheInside.the_type (search (sendable, shared_send) depth 40, tt))

pub offer_send : IsSend Offer.the_row
offer_send = view_send Offer.TheInside.the_row _ _ _ _ (declared_send Offer.TheInside.the_type (shared_send, tt))

pub lent_send : IsSend Lent.the_row
lent_send = view_send Lent.TheInside.the_row _ _ _ _ (declared_send Lent.TheInside.the_type (shared_send, tt))

pub replica_send : IsSend Replica.the_row
replica_send = view_send Replica.TheInside.the_row _ _ _ _ (declared_send Replica.TheInside.the_type
    (send, (search sendable, (lender_send, (members_send, (owed_send, (waiting_sent, (staging.the_send, (search sendable, (search sendable, (search sendable depth 40, (search sendable, tt))))))))))))
