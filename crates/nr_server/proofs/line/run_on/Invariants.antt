-- The names are what is known of the reader and the writer now.
use Rattle.nr_server.proofs.line.run_on.Given as goal

abbrev pub ghosts-run_named : goal.ghosts-run_named
ghosts-run_named g a = record { input = g.R.Read.remaining a.reader; output = g.W.Write.contents a.writer }
