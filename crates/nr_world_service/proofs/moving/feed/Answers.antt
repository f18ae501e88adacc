use Rattle.nr_entry.specs.Jobs.{connection_of}
use Rattle.nr_world.specs.Seen.{outcome_seen}
use Rattle.nr_world_service.proofs.Steps.{feed_moves}
use Rattle.nr_world_service.proofs.moving.feed.Goals as goal

pub returns : goal.returns
returns c =
    feed_moves c.args.world.now c.feed.new.self (connection_of c.args.conn) c.args.moment c.args.bytes.now (outcome_seen c.in_ok-feed.field-0)
    c.requires c.in_ok-feed.ensures.taken
