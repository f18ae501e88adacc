use Rattle.std.proofs.Common.{refl, ap, subst}
use Rattle.std.specs.Arc.{arc_value}
use Rattle.nr_slots.specs.Seats.{WorkerView}
use Rattle.nr_combiner.specs.Workers.{NodeHandleState, HasCollected}
use Rattle.nr_combiner.proofs.node_handle.NodeHandle.collect.Goals as goal

pub returns-clause-collected : goal.returns-clause-collected
returns-clause-collected g c =
    let inside = c.self.inside in
    let shared = arc_value inside.shared in
    let with_seat : WorkerView → NodeHandleState =
    λ seat. record { node = shared.node; workers = shared.slots.workers; connections = shared.connections; limit = shared.limit; seat = seat; next = inside.next; generation = inside.generation } in
    subst (λ (w : NodeHandleState). HasCollected c.in_ok-answer.answer.outcome w (with_seat c.collect.new.self)) c.self.view_is record {
      answer = c.in_ok-answer.answer;
      last = c.in_ok-answer.ensures.own;
      says = refl;
      collected = ap with_seat c.in_ok-answer.ensures.collected;
    }
