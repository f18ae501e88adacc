use Rattle.nr_oplog.specs.Opening.{name_of, nodes_of, places_of}
use Rattle.nr_combiner.specs.Opened.{names_of}
use Rattle.nr_bench.proofs.connections.hold.Given as goal

abbrev pub ghosts-hold_named-B-LogName : goal.ghosts-hold_named-B-LogName
ghosts-hold_named-B-LogName g a = record { log = name_of a.opened; nodes = nodes_of a.opened; places = places_of a.opened }

abbrev pub ghosts-hold_named-B-ServerName : goal.ghosts-hold_named-B-ServerName
ghosts-hold_named-B-ServerName g a = record { slots = names_of a.slots.items }
