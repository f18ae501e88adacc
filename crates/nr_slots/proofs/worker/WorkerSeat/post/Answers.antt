use Rattle.std.proofs.Common.{◌≤◌, true, rules, sym, subst, get_or, length}
use Rattle.nr_slots.specs.Names.{IsTold}
use Rattle.nr_slots.specs.Rule.{no_desk}
use Rattle.nr_slots.specs.Seats.{IsWaiting}
use Rattle.nr_slots.proofs.Calls.{Sat}
use Rattle.nr_slots.proofs.Notes.{told_posted, waits_posted}
use Rattle.nr_slots.proofs.worker.WorkerSeat.post.Goals as goal

pub invariant_of-self : goal.invariant_of-self
invariant_of-self c =
    let inside = c.self.inside in
    let told = told_posted (get_or inside.seat.me.0.noted inside.worker no_desk) inside.seat.me.0.lane c.args.batch c.self.invariant.4 in
    let waits = waits_posted inside.waiting inside.seat.me.0.lane c.args.batch c.if-self.false c.self.invariant.3 in (
      search rules,
      search rules,
      search rules,
      subst (λ (m : Sat). IsWaiting true m.0.lane) (sym c.put_batch.ensures.view) waits,
      subst (λ (m : Sat). IsTold (get_or m.0.noted inside.worker no_desk) m.0.lane) (sym c.put_batch.ensures.view) told,
      subst (λ (m : Sat). length (get_or m.0.noted inside.worker no_desk).answered ≤ length (get_or m.0.noted inside.worker no_desk).lifted)
          (sym c.put_batch.ensures.view) c.self.invariant.5,
    )
