use Rattle.std.specs.Prelude.{map}
use Rattle.nr_log_end.specs.declared.standing.LogEvent.TheVariants.{Ran}
use Rattle.nr_oplog.proofs.seat.LogSeat.note.Given as goal

abbrev pub ghosts-note_named : goal.ghosts-note_named
ghosts-note_named g a = record { turns = map Ran a.jobs.now }
