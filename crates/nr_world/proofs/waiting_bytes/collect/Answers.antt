use Rattle.std.proofs.Common.{arith, ap, sym, ◌∙◌, length}
use Rattle.std.specs.Prelude.{map}
use Rattle.nr_replica.specs.Members.{nobody}
use Rattle.nr_replica.specs.Replicas.{ReplicaState}
use Rattle.nr_world.specs.Seen.{handed_seen}
use Rattle.nr_world.proofs.Collected.{nothing_handed, hands_on, fewer_left, out_there, out_named, out_waits, out_members, out_handed}
use Rattle.nr_world.proofs.waiting_bytes.collect.Goals as goal

pub loop-serial-init : goal.loop-serial-init
loop-serial-init c = nothing_handed c.args.worker c.args.replica.now (map handed_seen c.args.handed.now.items) c.requires.numbered

pub next_ready-requires : goal.next_ready-requires
next_ready-requires c =
    let same = ap (λ (r : ReplicaState). length r.owed) c.loop-serial.invariant.rest in
    omega (arith, same, c.requires.is_there)

pub hand_out-requires-clause-is_there : goal.hand_out-requires-clause-is_there
hand_out-requires-clause-is_there c =
    out_there c.args.worker c.in-Some.serial c.loop-serial.replica.members (sym c.next_ready.ensures ∙ c.in-Some.is)

pub hand_out-requires-clause-named : goal.hand_out-requires-clause-named
hand_out-requires-clause-named c = λ d.
    out_named c.args.worker c.in-Some.serial c.args.replica.now c.loop-serial.replica d (map handed_seen c.args.handed.now.items)
    (map handed_seen c.loop-serial.handed.items)
    (out_there c.args.worker c.in-Some.serial c.loop-serial.replica.members (sym c.next_ready.ensures ∙ c.in-Some.is)) c.loop-serial.invariant

pub hand_out-requires-clause-waits : goal.hand_out-requires-clause-waits
hand_out-requires-clause-waits c = λ d.
    out_waits c.args.worker c.in-Some.serial c.loop-serial.replica.members d (sym c.next_ready.ensures ∙ c.in-Some.is)

pub loop-serial-preserved : goal.loop-serial-preserved
loop-serial-preserved c =
    hands_on c.args.worker c.in-Some.serial c.args.replica.now c.loop-serial.replica c.hand_out.new.replica (map handed_seen c.args.handed.now.items)
    (map handed_seen c.loop-serial.handed.items) (map handed_seen c.hand_out.new.handed.items) (sym c.next_ready.ensures ∙ c.in-Some.is)
    (c.in_ok-hand_out.ensures.members nobody) (c.in_ok-hand_out.ensures.handed nobody) c.loop-serial.invariant

pub loop-serial-smaller : goal.loop-serial-smaller
loop-serial-smaller c =
    fewer_left c.args.worker c.in-Some.serial c.loop-serial.replica c.hand_out.new.replica (sym c.next_ready.ensures ∙ c.in-Some.is)
    (c.in_ok-hand_out.ensures.members nobody)

pub returns-clause-members : goal.returns-clause-members
returns-clause-members c =
    out_members c.args.worker c.args.replica.now c.loop-serial.replica (map handed_seen c.args.handed.now.items) (map handed_seen c.loop-serial.handed.items)
    (sym c.next_ready.ensures ∙ c.in_default.is) c.loop-serial.invariant

pub returns-clause-handed : goal.returns-clause-handed
returns-clause-handed c =
    out_handed c.args.worker c.args.replica.now c.loop-serial.replica (map handed_seen c.args.handed.now.items) (map handed_seen c.loop-serial.handed.items)
    (sym c.next_ready.ensures ∙ c.in_default.is) c.loop-serial.invariant
