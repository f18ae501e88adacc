use Rattle.std.proofs.Common.{length}
use Rattle.std.specs.Prelude.{map}
use Rattle.nr_world.specs.Seen.{handed_seen}
use Rattle.nr_world.specs.Collected.{collected_members}
use Rattle.nr_world.proofs.Collected.{IsHandingOut}
use Rattle.nr_world.proofs.waiting_bytes.collect.Given as goal

abbrev pub invariant-loop-serial : goal.invariant-loop-serial
invariant-loop-serial l = IsHandingOut l.worker l.fn.replica l.replica (map handed_seen l.fn.handed.items) (map handed_seen l.handed.items)

-- so many are still to be handed bytes
abbrev pub decreases-loop-serial : goal.decreases-loop-serial
decreases-loop-serial l = length (collected_members l.worker l.replica.members)
