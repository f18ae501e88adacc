-- The circle of the log as the definitions see it.
use Rattle.std.specs.Prelude.{List, map}
use Rattle.std.specs.Arc.{arc_value}
use Rattle.nr_model.specs.Nodes as nodes
use Rattle.nr_world.specs.declared.log.Log.{Log}
use Rattle.nr_world.specs.Served.{entry_seen}

-- its entries, from the number of the first on
abbrev pub log_seen : Log → List nodes.Logged
log_seen log = map (λ share. entry_seen (arc_value share)) log.entries.items
