use Rattle.std.proofs.Common.{◌≡◌, ℕ, suc, ◌+◌, refl, ap, sym, ◌∙◌, subst, arith}
use Rattle.std.specs.Arc.{arc_value}
use Rattle.nr_entry.specs.declared.batch.Batch.{Batch}
use Rattle.nr_slots.specs.Seats.{WorkerView, with_posted}
use Rattle.nr_combiner.specs.Shared.{NodeView}
use Rattle.nr_combiner.specs.Workers.{NodeHandleState, HasPosted}
use Rattle.nr_combiner.proofs.Counted.{counted_next}
use Rattle.nr_combiner.proofs.node_handle.NodeHandle.post.Goals as goal

pub returns-in-Ok-clause-posted : goal.returns-in-Ok-clause-posted
returns-in-Ok-clause-posted g c =
    let inside = c.self.inside in
    let shared = arc_value inside.shared in
    let batch : Batch = record { node = c.node.result; worker = inside.worker; number = inside.next; jobs = c.args.jobs } in
    let with_seat : WorkerView → ℕ → NodeHandleState =
    λ seat next. record { node = shared.node; workers = shared.slots.workers; connections = shared.connections; limit = shared.limit; seat = seat; next = next; generation = inside.generation } in
    let one : inside.next + 1 ≡ suc inside.next = omega arith in
    subst (λ (w : NodeHandleState). HasPosted c.args.jobs.items w (with_seat c.post.new.self (inside.next + 1))) c.self.view_is record {
      batch = batch;
      named = (c.node.ensures ∙ ap (λ (v : NodeView). v.node) c.deref.ensures, c.self.invariant.1, refl);
      holds = refl;
      posted = ap (λ (seat : WorkerView). with_seat seat (inside.next + 1)) c.in-Ok.ensures.posted ∙ ap (with_seat (with_posted batch inside.seat)) one;
    }

pub invariant_of-self : goal.invariant_of-self
invariant_of-self g c =
    let inside = c.self.inside in
    let keeps = c.self.invariant in
    let batch : Batch = record { node = c.node.result; worker = inside.worker; number = inside.next; jobs = c.args.jobs } in
    let posted = c.in-Ok.ensures.posted in
    let counted = counted_next inside.seat.lane.posted c.post.new.self.lane.posted batch inside.next (ap (λ (v : WorkerView). v.lane.posted) posted) keeps.4 keeps.5 refl in (
      ap (λ (v : WorkerView). v.slots) posted ∙ keeps.0,
      keeps.1 ∙ sym (ap (λ (v : WorkerView). v.worker) posted),
      keeps.2,
      keeps.3,
      counted.0,
      counted.1,
    )
