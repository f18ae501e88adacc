use Rattle.std.proofs.Common.{◌≡◌, ◌+◌, ◌∷◌, [], ap, sym, ◌∙◌, length, suc, arith, length-append}
use Rattle.std.specs.Arc.{arc_value}
use Rattle.nr_slots.specs.Seats.{new_worker}
use Rattle.nr_combiner.specs.Shared.{NodeView}
use Rattle.nr_combiner.specs.Workers.{fresh_worker}
use Rattle.nr_combiner.proofs.Seated.{first_is, others_are, one_made}
use Rattle.nr_combiner.proofs.building.workers_of.Goals as goal

pub new-requires-clause-seat : goal.new-requires-clause-seat
new-requires-clause-seat g c =
    let shared = arc_value c.args.shared.now in
    let at : c.len-worker.result ≡ length c.loop-seat.workers.items = omega (arith, c.len-worker.ensures, c.loop-seat.workers.ok.0) in
    first_is c.loop-seat.seat-iterator.rest.items c.next.new.self.rest.items c.in-Some.seat (λ worker. new_worker shared.slots.id worker) (length c.loop-seat.workers.items)
    c.in-Some.ensures.steps.0 c.loop-seat.invariant.1
    ∙ ap (λ worker. new_worker shared.slots.id worker) (sym at)
    ∙ ap (λ (v : NodeView). new_worker v.slots.id c.len-worker.result) (sym c.in_ok-try_clone.ensures)

pub loop-seat-preserved : goal.loop-seat-preserved
loop-seat-preserved g c =
    let i = c.loop-seat.invariant in
    let shared = arc_value c.args.shared.now in
    let ws = c.loop-seat.workers.items in
    let rest = c.loop-seat.seat-iterator.rest.items in
    let left = c.next.new.self.rest.items in
    let at : c.len-worker.result ≡ length ws = omega (arith, c.len-worker.ensures, c.loop-seat.workers.ok.0) in
    let fewer : length rest ≡ suc (length left) = ap length c.in-Some.ensures.steps.0 in
    let more : length c.push.new.self.items ≡ length ws + 1 = ap length c.in_ok-push.ensures.items ∙ length-append ws (c.new.result ∷ []) in
    let is : c.new.result ≡ fresh_worker shared (length ws) =
    c.new.ensures ∙ ap (λ (v : NodeView). fresh_worker v c.len-worker.result) c.in_ok-try_clone.ensures ∙ ap (λ worker. fresh_worker shared worker) at in (
      omega (arith, i.0, fewer, more),
      others_are rest left c.in-Some.seat (λ worker. new_worker shared.slots.id worker) (length ws) (length c.push.new.self.items) c.in-Some.ensures.steps.0 more i.1,
      one_made shared (length c.args.seats.items) ws c.push.new.self.items c.new.result (length rest) (length left) c.in_ok-push.ensures.items is fewer i.2,
    )
