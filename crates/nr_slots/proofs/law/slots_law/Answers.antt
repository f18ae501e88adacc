use Rattle.nr_slots.proofs.Facts.{holds_of_seats}
use Rattle.nr_slots.proofs.law.slots_law.Goals as goal

pub returns : goal.returns
returns c = holds_of_seats
