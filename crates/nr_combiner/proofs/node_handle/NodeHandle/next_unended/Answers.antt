use Rattle.std.proofs.Common.{ℕ, ap, get_or, subst}
use Rattle.std.specs.Arc.{arc_value}
use Rattle.nr_slots.specs.Rule.{no_desk}
use Rattle.nr_slots.specs.Seats.{WorkerView}
use Rattle.nr_node.specs.Level.{connection_at}
use Rattle.nr_node.specs.Sound.{ServesOpened}
use Rattle.nr_combiner.specs.Behind.{EndsBehind}
use Rattle.nr_combiner.specs.Heard.{KnowsUnended}
use Rattle.nr_combiner.specs.Pieces.{HasJobOf}
use Rattle.nr_combiner.specs.Shared.{NodeView}
use Rattle.nr_combiner.specs.Workers.{NodeHandleState}
use Rattle.nr_combiner.proofs.Ends.{knows_unended}
use Rattle.nr_combiner.proofs.node_handle.NodeHandle.next_unended.Goals as goal

pub returns-clause-unended : goal.returns-clause-unended
returns-clause-unended g c =
    let told = c.in_ok-unended.field-0 in
    let inside = c.self.inside in
    let heard = c.in_ok-unended.ensures in
    let noted = c.hear.new.self.noted in
    let s = told.token.standing in
    let one = connection_at (arc_value inside.shared).node told.unended.serial in
    let serves = subst (λ (v : NodeView). ServesOpened s inside.worker (connection_at v.node told.unended.serial)) c.deref.ensures heard.serves in
    let job = subst (λ (v : NodeView). HasJobOf (connection_at v.node told.unended.serial) (get_or told.note.desks inside.worker no_desk).lifted) c.deref.ensures heard.handed_in in
    subst (λ (w : NodeHandleState). KnowsUnended w.seat.worker (connection_at w.node told.unended.serial) noted s w.seat.lane) c.self.view_is
    (knows_unended one s inside.seat.lane told.note.desks inside.worker inside.seat.worker noted c.self.invariant.1 (ap (λ (v : WorkerView). v.noted) c.hear.ensures.heard)
    c.hear.ensures.told heard.executed heard.own serves job)

pub returns-clause-behind : goal.returns-clause-behind
returns-clause-behind g c =
    let told = c.in_ok-unended.field-0 in
    let inside = c.self.inside in
    let shared = arc_value inside.shared in
    let s = told.token.standing in (
      told.note,
      subst (λ (w : NodeHandleState). EndsBehind w.node w.seat.worker w.generation c.args.last told.unended s told.note) c.self.view_is
          (subst (λ (k : ℕ). EndsBehind shared.node k inside.generation c.args.last told.unended s told.note) c.self.invariant.1
          (subst (λ (v : NodeView). EndsBehind v.node inside.worker inside.generation c.args.last told.unended s told.note) c.deref.ensures c.in_ok-unended.ensures.unended)),
    )
