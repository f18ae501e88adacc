use Rattle.std.proofs.Common.{map}
use Rattle.nr_world.specs.Seen.{handed_seen}
use Rattle.nr_world_service.proofs.Steps.{settle_rests}
use Rattle.nr_world_service.proofs.moving.settle.Goals as goal

pub returns : goal.returns
returns c = settle_rests c.args.world.now c.settle.new.self (map handed_seen c.in_ok-handed.handed.items) c.in_ok-handed.ensures.settled
