use Rattle.std.proofs.Common.{◌≡◌, ℕ, ◌<◌, Some, ap, sym, ◌∙◌, subst}
use Rattle.std.proofs.lemmas.Result.{IfOk-weaker}
use Rattle.std.specs.Arc.{arc_value}
use Rattle.nr_slots.specs.Seats.{SlotsView, new_worker}
use Rattle.nr_combiner.specs.Shared.{NodeView}
use Rattle.nr_combiner.specs.Workers.{IsNode, fresh_workers}
use Rattle.nr_combiner.proofs.building.seat_node.Goals as goal

pub new-node-requires-clause-workers : goal.new-node-requires-clause-workers
new-node-requires-clause-workers g c =
    ap (λ (s : SlotsView). s.workers) (c.in_ok-slots.ensures.ok ∙ c.opened.view_is) ∙ c.requires.slots.1 ∙ sym c.workers-2.ensures.value

pub workers_of-requires-clause-seats : goal.workers_of-requires-clause-seats
workers_of-requires-clause-seats g c =
    let same : (arc_value c.in_ok-shared.shared).slots.id ≡ c.opened.inside.slots.id =
    ap (λ (v : NodeView). v.slots.id) (c.in_ok-shared.ensures.ok ∙ c.new-node.ensures) ∙ ap (λ (s : SlotsView). s.id) c.in_ok-slots.ensures.ok in
    let new = c.opened.invariant.0 in
    λ worker near. new.1 worker (subst (λ (n : ℕ). worker < n) new.0 near) ∙ ap (λ id. Some (new_worker id worker)) (sym same)

pub returns : goal.returns
returns g c =
    let shared = arc_value c.in_ok-shared.shared in
    let view = c.in_ok-shared.ensures.ok ∙ c.new-node.ensures in
    let wide : c.opened.inside.slots.workers ≡ c.args.setup.workers = ap (λ (s : SlotsView). s.workers) c.opened.view_is ∙ c.requires.slots.1 in
    IfOk-weaker c.workers_of.result _ (λ workers. IsNode c.args.setup.workers c.args.setup.connections c.args.setup.queue_limit c.args.node workers.items)
    (λ workers is. record {
      shared = shared;
      named = ap (λ (v : NodeView). v.node) view;
      wide = ap (λ (v : NodeView). v.slots.workers) view ∙ ap (λ (s : SlotsView). s.workers) c.in_ok-slots.ensures.ok ∙ wide;
      limited = (ap (λ (v : NodeView). v.connections) view ∙ c.connections.ensures.value, ap (λ (v : NodeView). v.limit) view ∙ c.queue_limit.ensures.value);
      all = is ∙ ap (fresh_workers shared 0) (c.opened.invariant.0.0 ∙ wide);
    }) c.workers_of.ensures
