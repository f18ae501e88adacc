use Rattle.std.proofs.Common.{◌≡◌, ℕ, suc, ◌+◌, refl, ap, sym, ◌∙◌, subst, get_or, arith}
use Rattle.std.specs.Arc.{arc_value}
use Rattle.nr_entry.specs.declared.batch.Batch.{Batch}
use Rattle.nr_slots.specs.declared.view.CombinerPast.{CombinerPast}
use Rattle.nr_slots.specs.Names.{IsTold}
use Rattle.nr_slots.specs.Rule.{no_desk}
use Rattle.nr_slots.specs.Seats.{WorkerView, with_heard, with_posted}
use Rattle.nr_combiner.specs.Aside.{ReadsBehind}
use Rattle.nr_combiner.specs.Behind.{TurnsBehind}
use Rattle.nr_combiner.specs.Counts.{next_generation}
use Rattle.nr_combiner.specs.Shared.{NodeView}
use Rattle.nr_combiner.specs.Turned.{tells_down}
use Rattle.nr_combiner.specs.Workers.{NodeHandleState}
use Rattle.nr_combiner.specs.declared.answering.Lifts.TheVariants as lifts
use Rattle.nr_combiner.proofs.Counted.{counted_next}
use Rattle.nr_combiner.proofs.Handed.{heard_by, turned_added, turned_counted, turned_executed, turned_own}
use Rattle.nr_combiner.proofs.node_handle.NodeHandle.read.Goals as goal

pub invariant_of-self-2 : goal.invariant_of-self-2
invariant_of-self-2 g c =
    let inside = c.self.inside in
    let keeps = c.self.invariant in
    let batch : Batch = record { node = c.node.result; worker = inside.worker; number = inside.next; jobs = c.args.jobs } in
    let heard = c.hear.ensures.heard in
    let posted = c.in-Ok.ensures.posted in
    let lane = ap (λ (v : WorkerView). v.lane.posted) heard ∙ ap (λ (v : WorkerView). v.lane.posted) posted in
    let counted = counted_next inside.seat.lane.posted c.hear.new.self.lane.posted batch inside.next lane keeps.4 keeps.5 refl in (
      ap (λ (v : WorkerView). v.slots) heard ∙ ap (λ (v : WorkerView). v.slots) posted ∙ keeps.0,
      keeps.1 ∙ sym (ap (λ (v : WorkerView). v.worker) heard ∙ ap (λ (v : WorkerView). v.worker) posted),
      keeps.2,
      keeps.3,
      counted.0,
      counted.1,
    )

pub returns-clause-read : goal.returns-clause-read
returns-clause-read g c =
    let inside = c.self.inside in
    let keeps = c.self.invariant in
    let shared = arc_value inside.shared in
    let told = c.in-Ok.told in
    let batch : Batch = record { node = c.node.result; worker = inside.worker; number = inside.next; jobs = c.args.jobs } in
    let with_seat : WorkerView → ℕ → ℕ → NodeHandleState =
    λ seat next generation. record { node = shared.node; workers = shared.slots.workers; connections = shared.connections; limit = shared.limit; seat = seat; next = next; generation = generation } in
    let one : inside.next + 1 ≡ suc inside.next = omega arith in
    let after : WorkerView = with_posted batch inside.seat in
    let posted = c.in-Ok.ensures.posted in
    let last = c.hear.new.self in
    let heard = c.hear.ensures.heard in
    let desks = told.note.desks in
    let kept : last.noted ≡ get_or desks inside.seat.worker no_desk =
    ap (λ (v : WorkerView). v.noted) heard ∙ ap (λ (v : WorkerView). get_or desks v.worker no_desk) posted in
    let seat : last ≡ with_heard last.noted after =
    heard ∙ ap (λ (v : WorkerView). with_heard (get_or desks v.worker no_desk) v) posted ∙ ap (λ (desk : CombinerPast). with_heard desk after) (sym kept) in
    let turned = c.in-Ok.ensures.turned in
    let node = ap (λ (v : NodeView). v.node) c.deref-2.ensures in
    let behind : TurnsBehind g.B.LogName.places shared.node inside.seat.worker inside.generation lifts.Own c.args.most c.args.taken.now.items c.read.new.taken.items told.turned
    told.token.standing told.note =
    subst (λ (x : ℕ × ℕ). TurnsBehind g.B.LogName.places x.0 x.1 inside.generation lifts.Own c.args.most c.args.taken.now.items c.read.new.taken.items told.turned
    told.token.standing told.note) (λ i. (node i, keeps.1 i)) turned in
    subst (λ (w : NodeHandleState). ReadsBehind g.B.LogName.places c.args.jobs.items c.args.most c.args.taken.now.items c.read.new.taken.items told.turned told.token.standing w
    (with_seat last (inside.next + 1) (next_generation inside.generation))) c.self.view_is record {
      posted = with_seat after (suc inside.next) inside.generation;
      has_posted = record {
        batch = batch;
        named = (c.node.ensures ∙ ap (λ (v : NodeView). v.node) c.deref.ensures, keeps.1, refl);
        holds = refl;
        posted = refl;
      };
      note = told.note;
      behind = behind;
      heard = heard_by c.args.most (tells_down told.turned.combined) told.token.standing after.lane desks inside.worker inside.seat.worker last.noted c.args.taken.now.items
          c.read.new.taken.items keeps.1 kept (subst (λ (v : WorkerView). IsTold (get_or desks v.worker no_desk) v.lane) posted c.hear.ensures.told)
          (turned_executed _ _ _ _ _ _ _ _ _ _ _ turned) (turned_own _ _ _ _ _ _ _ _ _ _ _ turned) (turned_added _ _ _ _ _ _ _ _ _ _ _ turned);
      sound = c.in-Ok.ensures.sound;
      node = behind.standing;
      more = ap (λ (v : WorkerView). with_seat v (inside.next + 1) (next_generation inside.generation)) seat
          ∙ ap (λ (k : ℕ). with_seat (with_heard last.noted after) k (next_generation inside.generation)) one;
      counted = turned_counted _ _ _ _ _ _ _ _ _ _ _ _ _ turned keeps.1 kept;
    }
