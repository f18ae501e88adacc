use Rattle.std.proofs.Common.{ap, subst}
use Rattle.nr_slots.specs.Seats.{WorkerView}
use Rattle.nr_combiner.specs.Heard.{HasHeard}
use Rattle.nr_combiner.specs.Turned.{tells_down}
use Rattle.nr_combiner.specs.Workers.{NodeHandleState}
use Rattle.nr_combiner.proofs.Handed.{heard_by, turned_counted}
use Rattle.nr_combiner.proofs.node_handle.NodeHandle.try_turn.Goals as goal

pub returns-clause-heard : goal.returns-clause-heard
returns-clause-heard g c =
    let told = c.in_ok-turned.field-0 in
    let inside = c.self.inside in
    let noted = c.hear.new.self.noted in
    subst (λ (w : NodeHandleState). HasHeard w.seat.worker c.args.most (tells_down told.turned.combined) noted told.token.standing w.seat.lane c.args.taken.now.items c.try_turn.new.taken.items) c.self.view_is
    (heard_by c.args.most (tells_down told.turned.combined) told.token.standing inside.seat.lane told.note.desks inside.worker inside.seat.worker noted c.args.taken.now.items c.try_turn.new.taken.items
    c.self.invariant.1 (ap (λ (v : WorkerView). v.noted) c.hear.ensures.heard) c.hear.ensures.told c.in_ok-turned.ensures.executed c.in_ok-turned.ensures.own c.in_ok-turned.ensures.added)

pub returns-clause-counted : goal.returns-clause-counted
returns-clause-counted g c =
    turned_counted _ _ _ _ _ _ _ _ _ _ _ _ _ c.in_ok-turned.ensures.turned c.self.invariant.1 (ap (λ (v : WorkerView). v.noted) c.hear.ensures.heard)
