use Rattle.nr_oplog.specs.Opening.{name_of, nodes_of, places_of}
use Rattle.nr_node_tests.proofs.stopped.unfilled_entry_holds_up_what_is_behind.Given as goal

abbrev pub ghosts-stops-B-LogName : goal.ghosts-stops-B-LogName
ghosts-stops-B-LogName g a = record { log = name_of a.opened; nodes = nodes_of a.opened; places = places_of a.opened }

abbrev pub ghosts-stops-B-ServerName : goal.ghosts-stops-B-ServerName
ghosts-stops-B-ServerName g a = record { slots = λ _. a.slots.id }
