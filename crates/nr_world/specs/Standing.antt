-- How a connection and a node stand in a world.
use Rattle.std.specs.Prelude.{Bool, not, ◌||◌}
use Rattle.nr_model.specs.Items.{Connection}
use Rattle.nr_model.specs.Nodes.{World, client_of}
use Rattle.nr_model.specs.Nodes.Steps.{is_client}

-- it takes no more bytes: it was never opened, they asked for its end, it was closed, or its queue was cut
abbrev pub has_ended : World → Connection → Bool
has_ended world c = not (is_client world c) || ((client_of c world).ended || ((client_of c world).closed || (client_of c world).queue.cut))
