use Rattle.std.proofs.Common.{rules}
use Rattle.nr_slots.proofs.Notes.{keeps_note}
use Rattle.nr_slots.proofs.steps.keep.Goals as goal

pub split_seat-requires : goal.split_seat-requires
split_seat-requires c = (search rules, search rules, keeps_note _ _ _ c.requires.seat.1)
