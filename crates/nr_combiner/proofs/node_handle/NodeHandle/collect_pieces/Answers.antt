use Rattle.std.proofs.Common.{ap, subst}
use Rattle.nr_slots.specs.Seats.{WorkerView}
use Rattle.nr_combiner.specs.Heard.{HasHeard}
use Rattle.nr_combiner.specs.Workers.{NodeHandleState}
use Rattle.nr_combiner.proofs.Handed.{heard_by, collects_counted}
use Rattle.nr_combiner.proofs.node_handle.NodeHandle.collect_pieces.Goals as goal

pub returns-clause-heard : goal.returns-clause-heard
returns-clause-heard g c =
    let told = c.in_ok-collected.field-0 in
    let inside = c.self.inside in
    let noted = c.hear.new.self.noted in
    subst (λ (w : NodeHandleState). HasHeard w.seat.worker c.args.most told.collected.is_down noted told.token.standing w.seat.lane c.args.taken.now.items c.collect_pieces.new.taken.items) c.self.view_is
    (heard_by c.args.most told.collected.is_down told.token.standing inside.seat.lane told.note.desks inside.worker inside.seat.worker noted c.args.taken.now.items c.collect_pieces.new.taken.items
    c.self.invariant.1 (ap (λ (v : WorkerView). v.noted) c.hear.ensures.heard) c.hear.ensures.told c.in_ok-collected.ensures.executed c.in_ok-collected.ensures.own c.in_ok-collected.ensures.added)

pub returns-clause-counted : goal.returns-clause-counted
returns-clause-counted g c =
    collects_counted _ _ _ _ _ _ _ _ _ _ _ c.in_ok-collected.ensures.handed c.self.invariant.1 (ap (λ (v : WorkerView). v.noted) c.hear.ensures.heard)
