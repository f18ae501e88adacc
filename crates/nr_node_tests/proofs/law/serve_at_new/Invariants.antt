use Rattle.nr_oplog.specs.Opening.{name_of, nodes_of, places_of}
use Rattle.nr_combiner.specs.Opened.{names_of}
use Rattle.nr_node_tests.proofs.law.serve_at_new.Given as goal

abbrev pub ghosts-serve-B-LogName : goal.ghosts-serve-B-LogName
ghosts-serve-B-LogName g a = record { log = name_of a.opened; nodes = nodes_of a.opened; places = places_of a.opened }

abbrev pub ghosts-serve-B-ServerName : goal.ghosts-serve-B-ServerName
ghosts-serve-B-ServerName g a = record { slots = names_of a.slots.items }
