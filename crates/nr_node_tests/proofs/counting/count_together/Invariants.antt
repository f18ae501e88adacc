use Rattle.nr_oplog.specs.Opening.{name_of, nodes_of, places_of}
use Rattle.nr_combiner.specs.Opened.{names_of}
use Rattle.nr_node_tests.proofs.counting.count_together.Given as goal

abbrev pub ghosts-count_up-B-LogName : goal.ghosts-count_up-B-LogName
ghosts-count_up-B-LogName g a = record { log = name_of a.opened; nodes = nodes_of a.opened; places = places_of a.opened }

abbrev pub ghosts-count_up-B-ServerName : goal.ghosts-count_up-B-ServerName
ghosts-count_up-B-ServerName g a = record { slots = names_of a.slots.items }
