use Rattle.std.proofs.Common.{arith, ◌≤◌, List, length, ◌++◌, get_or, ap, sym, ◌∙◌}
use Rattle.std.specs.Prelude.{map}
use Rattle.std.proofs.lemmas.List.{map-append}
use Rattle.nr_model.specs.Connections as traffic
use Rattle.nr_entry.specs.Jobs.{connection_of}
use Rattle.nr_replica.specs.Members.{Member, nobody}
use Rattle.nr_world.specs.Seen.{handed_seen}
use Rattle.nr_world.proofs.Collected.{some_waits, some_bytes}
use Rattle.nr_world.proofs.waiting_bytes.hand_out.Goals as goal

pub take_piece-requires-clause-some : goal.take_piece-requires-clause-some
take_piece-requires-clause-some c =
    let some = some_bytes (get_or c.args.replica.now.members c.args.serial nobody).outbox.waiting (c.requires.waits nobody) in
    omega (arith, c.waiting-waiting.ensures nobody, some)

pub returns-clause-handed : goal.returns-clause-handed
returns-clause-handed c = λ d.
    let m : Member = get_or c.args.replica.now.members c.args.serial d in
    let all : length m.outbox.waiting ≤ c.waiting-waiting.result = omega (arith, c.waiting-waiting.ensures d) in
    let got = rw c.in-Some.is at (c.in_ok-piece.ensures.piece d) in
    let some = rw c.in-Some.is at c.in_ok-piece.ensures.some in
    ap (map handed_seen) c.in_ok-push.ensures.items
    ∙ map-append handed_seen c.args.handed.now.items _
    ∙ ap (λ (more : List traffic.Handed). map handed_seen c.args.handed.now.items ++ more)
    (some_waits c.waiting-waiting.result m (connection_of c.in-Some.piece.conn) c.in-Some.piece.bytes.items all (got.0
    ∙ sym (c.requires.named d)) got.2 some)
