use Rattle.std.proofs.Common.{rules}
use Rattle.nr_slots.proofs.Notes.{tells_note, compares}
use Rattle.nr_slots.proofs.steps.compare.Goals as goal

pub join_seat-requires : goal.join_seat-requires
join_seat-requires c = (search rules, search rules, search rules, search rules, tells_note _ _ _ _ _)

pub load-requires : goal.load-requires
load-requires c = (search rules, search rules, compares _ _ _ c.args.worker _ c.requires.worker.1 (search rules))
