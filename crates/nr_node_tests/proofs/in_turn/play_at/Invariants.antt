use Rattle.nr_oplog.specs.Opening.{name_of, nodes_of, places_of}
use Rattle.nr_combiner.specs.Opened.{names_of}
use Rattle.nr_node_tests.proofs.in_turn.play_at.Given as goal

abbrev pub ghosts-perform-B-LogName : goal.ghosts-perform-B-LogName
ghosts-perform-B-LogName g a = record { log = name_of a.opened; nodes = nodes_of a.opened; places = places_of a.opened }

abbrev pub ghosts-perform-B-ServerName : goal.ghosts-perform-B-ServerName
ghosts-perform-B-ServerName g a = record { slots = names_of a.slots.items }
