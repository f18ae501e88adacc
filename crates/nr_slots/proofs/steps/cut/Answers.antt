use Rattle.std.proofs.Common.{rules}
use Rattle.nr_slots.proofs.Openings.{cuts}
use Rattle.nr_slots.proofs.steps.cut.Goals as goal

pub split_seat-requires : goal.split_seat-requires
split_seat-requires c = let q = c.requires in (search rules, search rules, cuts _ _ _ _ q.rest.2 q.rest.1)
