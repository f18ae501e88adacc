use Rattle.std.proofs.Common.{arith, ◌≡◌, ◌+◌, ◌<◌, get_or, length, sym, ◌∙◌}
use Rattle.nr_model.specs.Items.{Connection}
use Rattle.nr_entry.specs.Jobs.{items_of}
use Rattle.nr_replica.specs.Members.{Member, nobody}
use Rattle.nr_world.specs.Dropped.{dropped_of}
use Rattle.nr_world.proofs.Paired.{pair_at, or_false}
use Rattle.nr_world.proofs.Falling.{closed_notes, open_notes, name_at}
use Rattle.nr_world.proofs.fallen_sessions.note_fall_of.Goals as goal

pub returns-then-is_closed : goal.returns-then-is_closed
returns-then-is_closed c = λ s m.
    closed_notes (dropped_of (items_of c.args.replica.now.waiting) c.args.workers.now) c.args.sessions.now c.args.serial s
    (get_or c.args.replica.now.members c.args.serial m) (sym (c.is_closed.ensures m) ∙ c.if-is_closed.true)

pub fall-requires-clause-unclosed : goal.fall-requires-clause-unclosed
fall-requires-clause-unclosed c = λ d.
    let pair = pair_at c.args.replica.now.node 0 c.args.serial c.args.sessions.now c.args.replica.now.members d nobody c.requires.is_there c.requires.pairs in
    pair.ended
    ∙ or_false (get_or c.args.sessions.now c.args.serial d).gave_end (get_or c.args.replica.now.members c.args.serial nobody).is_closed
    (sym (c.is_closed.ensures nobody) ∙ c.if-is_closed.false)

pub returns : goal.returns
returns c = λ s m.
    let dropped = dropped_of (items_of c.args.replica.now.waiting) c.args.workers.now in
    let member : Member = get_or c.args.replica.now.members c.args.serial m in
    let within : c.args.serial < length c.args.replica.now.members = omega (arith, c.requires.clients, c.requires.is_there) in
    let place : 0 + c.args.serial ≡ c.args.serial = omega arith in
    let name : Connection = record { node = c.node.result; serial = c.args.serial } in
    let named : member.outbox.connection ≡ name =
    name_at c.args.replica.now.node 0 c.args.serial c.args.replica.now.members m within c.requires.numbered
    ∙ (λ i. record { node = sym c.node.ensures i; serial = place i }) in
    open_notes dropped name c.first_dropped-dropped.result c.is_cut.result c.args.sessions.now c.fall.new.self c.args.serial s member
    (sym (c.is_closed.ensures m) ∙ c.if-is_closed.false) named c.first_dropped-dropped.ensures (c.is_cut.ensures m) (c.fall.ensures s)
