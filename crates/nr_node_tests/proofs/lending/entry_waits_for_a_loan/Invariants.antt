use Rattle.nr_oplog.specs.Opening.{name_of, nodes_of, places_of}
use Rattle.nr_node_tests.proofs.lending.entry_waits_for_a_loan.Given as goal

abbrev pub ghosts-lends : goal.ghosts-lends
ghosts-lends g a = record { log = name_of a.opened; nodes = nodes_of a.opened; places = places_of a.opened }
