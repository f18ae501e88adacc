-- The nodes of a world alone, as the definitions see them, and which connections take bytes.
use Rattle.std.specs.Prelude.{Bool, ◌||◌, List, [], map}
use Rattle.nr_model.specs.Nodes as nodes
use Rattle.nr_model.specs.Nodes.Steps.{is_overrun}
use Rattle.nr_world.specs.declared.node.WorldNode.{WorldNode}
use Rattle.nr_world.specs.Served.{node_seen}

-- a world of these nodes, in which nothing was taken
abbrev pub seen_world : List WorldNode → nodes.World
seen_world all = record { nodes = map node_seen all; taken = []; fed = []; closed = []; batches = [] }

-- a connection takes no more bytes, whatever becomes of its node: they asked for its end, it was closed, or it was overrun
abbrev pub is_over : nodes.Client → Bool
is_over client = client.ended || (client.closed || is_overrun client)

-- a connection takes no more bytes
abbrev pub takes_none : nodes.Client → Bool
takes_none client = client.ended || (client.closed || client.queue.cut)
