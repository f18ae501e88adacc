use Rattle.nr_oplog.specs.Opening.{name_of, nodes_of, places_of}
use Rattle.nr_log_tests.proofs.moves.play.Given as goal

abbrev pub ghosts-play_named : goal.ghosts-play_named
ghosts-play_named a = record { log = name_of a.opened; nodes = nodes_of a.opened; places = places_of a.opened }
