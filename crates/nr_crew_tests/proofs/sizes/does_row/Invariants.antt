use Rattle.nr_oplog.specs.Opening.{name_of, nodes_of, places_of}
use Rattle.nr_combiner.specs.Opened.{names_of}
use Rattle.nr_crew_tests.proofs.sizes.does_row.Given as goal

abbrev pub ghosts-does_named-B-LogName : goal.ghosts-does_named-B-LogName
ghosts-does_named-B-LogName g a = record { log = name_of a.opened; nodes = nodes_of a.opened; places = places_of a.opened }

abbrev pub ghosts-does_named-B-ServerName : goal.ghosts-does_named-B-ServerName
ghosts-does_named-B-ServerName g a = record { slots = names_of a.slots.items }
