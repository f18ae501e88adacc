use Rattle.std.proofs.Common.{rules}
use Rattle.nr_slots.proofs.Notes.{compares}
use Rattle.nr_slots.proofs.steps.recall.Goals as goal

pub load-requires : goal.load-requires
load-requires c = (search rules, search rules, compares _ _ _ c.args.worker _ c.requires.worker.1 (search rules))
