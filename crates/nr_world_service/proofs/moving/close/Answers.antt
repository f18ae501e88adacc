use Rattle.nr_entry.specs.Jobs.{connection_of}
use Rattle.nr_world.specs.Seen.{outcome_seen}
use Rattle.nr_world_service.proofs.Steps.{close_closes}
use Rattle.nr_world_service.proofs.moving.close.Goals as goal

pub returns : goal.returns
returns c =
    close_closes c.args.world.now c.close.new.self (connection_of c.args.conn) c.args.moment (outcome_seen c.in_ok-close.field-0)
    c.in_ok-close.ensures.taken
