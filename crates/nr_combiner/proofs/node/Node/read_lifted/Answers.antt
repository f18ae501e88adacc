use Rattle.std.proofs.Common.{refl, ap, sym, ◌∙◌, subst}
use Rattle.std.specs.Prelude.{IfSome}
use Rattle.nr_slots.specs.Seats.{note_of}
use Rattle.nr_combiner.specs.Aside.{HoldsAlone}
use Rattle.nr_combiner.specs.Served.{CombinerState}
use Rattle.nr_combiner.specs.Steps.{HasLiftedOwn}
use Rattle.nr_combiner.specs.declared.answering.Lifts.TheVariants as lifts
use Rattle.nr_combiner.proofs.Alone.{kept_ready}
use Rattle.nr_combiner.proofs.Handed.{turns_behind}
use Rattle.nr_combiner.proofs.Rounds.{lifted_by_node}
use Rattle.nr_combiner.proofs.node.Node.read_lifted.Goals as goal

pub turn_lifted-told-requires-clause-ready : goal.turn_lifted-told-requires-clause-ready
turn_lifted-told-requires-clause-ready g c =
    let seat = c.args.seat.now in
    let same = sym c.note-note.ensures.same in
    let alone = subst (λ (x : CombinerState). IfSome c.lift_alone-lifted.result (λ n. HoldsAlone c.args.worker n c.args.combiner.now x)) same c.lift_alone-lifted.ensures.alone in
    kept_ready c.args.worker seat.worker c.args.number c.args.combiner.now c.note-note.new.self c.note-note.result c.lift_alone-lifted.result c.prepared_for-prepared.result
    c.args.prepared seat.lane c.requires.worker (c.note-note.ensures.kept ∙ ap (λ (x : CombinerState). note_of x.seat) same) alone c.hear.ensures.told c.requires.last
    c.prepared_for-prepared.ensures.kept

pub returns-clause-turned : goal.returns-clause-turned
returns-clause-turned g c =
    let told = c.turn_lifted-told.ensures in
    let old = c.args.combiner.now in
    let lifted = subst (HasLiftedOwn c.args.worker old) (sym c.note-note.ensures.same) c.lift_alone-lifted.ensures.lifted in
    turns_behind g.B.LogName.places c.args.self.now.node c.args.worker _ lifts.Own c.args.most _ _ c.turn_lifted-told.result.turned c.turn_lifted-told.result.token.standing
    c.turn_lifted-told.result.note old c.turn_lifted-told.new.self (told.turned lifts.Own old lifted) c.requires.node
    (told.node ∙ lifted_by_node lifts.Own c.args.worker old c.note-note.new.self lifted) told.down told.answered told.since told.served c.level.ensures.level
    c.level-2.ensures.level refl

pub returns-clause-named : goal.returns-clause-named
returns-clause-named g c =
    let old = c.args.combiner.now in
    let lifted = subst (HasLiftedOwn c.args.worker old) (sym c.note-note.ensures.same) c.lift_alone-lifted.ensures.lifted in
    c.turn_lifted-told.ensures.named ∙ ap g.B.ServerName.slots (lifted_by_node lifts.Own c.args.worker old c.note-note.new.self lifted ∙ c.requires.node)
