use Rattle.std.proofs.Common.{subst}
use Rattle.nr_slots.specs.Names.{IsForLast}
use Rattle.nr_slots.specs.Seats.{WorkerView}
use Rattle.nr_slots.proofs.worker.WorkerSeat.collect.Goals as goal

pub returns-in-Ok-clause-own : goal.returns-in-Ok-clause-own
returns-in-Ok-clause-own c = subst (λ (z : WorkerView). IsForLast c.in-Ok.answer z.lane.posted z.lane.collected) c.self.view_is c.in-Ok.ensures.view.0
