use Rattle.std.proofs.Common.{◌≡◌, List, length, ap, sym, ◌∙◌, subst, arith}
use Rattle.nr_entry.specs.Jobs.{items_of}
use Rattle.nr_model.specs.Entries.{Jobs}
use Rattle.nr_session.specs.SessionState.{SessionState}
use Rattle.nr_replica.specs.Members.{nobody}
use Rattle.nr_world.specs.BySerial.{closed_session}
use Rattle.nr_world.specs.Dropped.{dropped_of}
use Rattle.nr_world.specs.Whole.{ArePaired}
use Rattle.nr_world.proofs.Falling.{first_long, first_paired, first_further, first_all}
use Rattle.nr_world.proofs.fallen_sessions.note_fall.Goals as goal

pub note_fall_of-requires-clause-is_there : goal.note_fall_of-requires-clause-is_there
note_fall_of-requires-clause-is_there c =
    let dropped : Jobs = dropped_of (items_of c.args.replica.now.waiting) c.args.workers.now in
    let long : length c.loop-serial.sessions ≡ length c.args.sessions.now =
    ap length c.loop-serial.invariant ∙ first_long c.loop-serial.serial dropped c.args.sessions.now c.args.replica.now.members in
    omega (arith, c.len-serial-end.ensures)

pub note_fall_of-requires-clause-clients : goal.note_fall_of-requires-clause-clients
note_fall_of-requires-clause-clients c =
    let dropped : Jobs = dropped_of (items_of c.args.replica.now.waiting) c.args.workers.now in
    ap length c.loop-serial.invariant ∙ first_long c.loop-serial.serial dropped c.args.sessions.now c.args.replica.now.members ∙ c.requires.clients

pub note_fall_of-requires-clause-pairs : goal.note_fall_of-requires-clause-pairs
note_fall_of-requires-clause-pairs c =
    let dropped : Jobs = dropped_of (items_of c.args.replica.now.waiting) c.args.workers.now in
    subst (λ (ss : List SessionState). ArePaired c.args.replica.now.node 0 ss c.args.replica.now.members) (sym c.loop-serial.invariant)
    (first_paired c.loop-serial.serial c.args.replica.now.node 0 dropped c.args.sessions.now c.args.replica.now.members c.requires.pairs)

pub loop-serial-preserved : goal.loop-serial-preserved
loop-serial-preserved c =
    let dropped : Jobs = dropped_of (items_of c.args.replica.now.waiting) c.args.workers.now in
    c.note_fall_of.ensures closed_session nobody
    ∙ first_further c.loop-serial.serial dropped c.args.sessions.now c.args.replica.now.members c.loop-serial.sessions closed_session nobody
    c.loop-serial.invariant (omega (arith, c.len-serial-end.ensures)) c.requires.clients

pub returns : goal.returns
returns c =
    let dropped : Jobs = dropped_of (items_of c.args.replica.now.waiting) c.args.workers.now in
    c.loop-serial.invariant
    ∙ first_all c.loop-serial.serial dropped c.args.sessions.now c.args.replica.now.members (omega (arith, c.len-serial-end.ensures)) c.requires.clients
