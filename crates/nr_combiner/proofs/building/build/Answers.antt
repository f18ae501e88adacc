use Rattle.std.proofs.Common.{◌≡◌, ℕ, ◌+◌, ◌∷◌, [], suc, ap, sym, ◌∙◌, subst, length, arith, length-append}
use Rattle.nr_oplog.specs.Rule.{opening_view}
use Rattle.nr_combiner.specs.Workers.{IsNode}
use Rattle.nr_combiner.proofs.Seated.{IsSlotsOf, first_has, first_is, one_added, others_are, others_have}
use Rattle.nr_combiner.proofs.building.build.Goals as goal

pub build_node-requires-clause-seat : goal.build_node-requires-clause-seat
build_node-requires-clause-seat g c =
    let at : c.len-node.result ≡ length c.loop-seat.built.items = omega (arith, c.len-node.ensures, c.loop-seat.built.ok.0) in
    first_is c.loop-seat.seat-iterator.rest.items c.next.new.self.rest.items c.in-Some.seat (λ node. opening_view g.B.LogName.nodes g.B.LogName.places node (node + 1))
    (length c.loop-seat.built.items) c.in-Some.ensures.steps.0 c.loop-seat.invariant.2
    ∙ ap (λ (node : ℕ). opening_view g.B.LogName.nodes g.B.LogName.places node (node + 1)) (sym at)

pub build_node-requires-clause-slots : goal.build_node-requires-clause-slots
build_node-requires-clause-slots g c =
    let built = c.loop-seat.built.items in
    let at : c.len-node.result ≡ length built = omega (arith, c.len-node.ensures, c.loop-seat.built.ok.0) in
    subst (λ (node : ℕ). IsSlotsOf g.B.ServerName.slots c.args.setup.workers node c.in-Some-next.opened) (sym at)
    (first_has c.loop-seat.slots.rest.items c.next-in-loop-seat.new.self.rest.items c.in-Some-next.opened (λ node one. IsSlotsOf g.B.ServerName.slots c.args.setup.workers node one)
    (length built) c.in-Some-next.ensures.items c.loop-seat.invariant.5)

pub loop-seat-preserved : goal.loop-seat-preserved
loop-seat-preserved g c =
    let i = c.loop-seat.invariant in
    let built = c.loop-seat.built.items in
    let rest = c.loop-seat.seat-iterator.rest.items in
    let left = c.next.new.self.rest.items in
    let made = c.in_ok-build_node.field-0 in
    let at : c.len-node.result ≡ length built = omega (arith, c.len-node.ensures, c.loop-seat.built.ok.0) in
    let fewer : length rest ≡ suc (length left) = ap length c.in-Some.ensures.steps.0 in
    let more : length c.push.new.self.items ≡ length built + 1 = ap length c.in_ok-push.ensures.items ∙ length-append built (made ∷ []) in
    let last = subst (λ (node : ℕ). IsNode c.args.setup.workers c.args.setup.connections c.args.setup.queue_limit node made.items) at c.in_ok-build_node.ensures in (
      omega (arith, i.0, fewer, more),
      i.1,
      others_are rest left c.in-Some.seat (λ node. opening_view g.B.LogName.nodes g.B.LogName.places node (node + 1)) (length built) (length c.push.new.self.items)
          c.in-Some.ensures.steps.0 more i.2,
      one_added built c.push.new.self.items made (λ node workers. IsNode c.args.setup.workers c.args.setup.connections c.args.setup.queue_limit node workers.items)
          c.in_ok-push.ensures.items last i.3,
      omega (arith, i.4, fewer, ap length c.in-Some-next.ensures.items),
      others_have c.loop-seat.slots.rest.items c.next-in-loop-seat.new.self.rest.items c.in-Some-next.opened
          (λ node one. IsSlotsOf g.B.ServerName.slots c.args.setup.workers node one) (length built) (length c.push.new.self.items) c.in-Some-next.ensures.items more i.5,
    )
