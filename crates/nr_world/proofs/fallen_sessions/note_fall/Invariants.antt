use Rattle.std.proofs.Common.{◌≡◌}
use Rattle.nr_entry.specs.Jobs.{items_of}
use Rattle.nr_world.specs.Dropped.{dropped_of}
use Rattle.nr_world.proofs.Falling.{first_after}
use Rattle.nr_world.proofs.fallen_sessions.note_fall.Given as goal

abbrev pub invariant-loop-serial : goal.invariant-loop-serial
invariant-loop-serial l = l.sessions ≡ first_after l.serial (dropped_of (items_of l.replica.waiting) l.workers) l.fn.sessions l.replica.members
