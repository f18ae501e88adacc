use Rattle.std.proofs.Common.{ap}
use Rattle.std.specs.Prelude.{map}
use Rattle.nr_world.specs.Seen.{handed_seen}
use Rattle.nr_world.proofs.Behind.{all_behind}
use Rattle.nr_world.proofs.world.World.collect.Goals as goal

pub returns-clause-taken : goal.returns-clause-taken
returns-clause-taken c =
    all_behind _ _ c.args.node c.args.worker _ _ _ _ c.in_ok-outcome.ensures.taken (ap (map handed_seen) c.new-handed.ensures.items)
