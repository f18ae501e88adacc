use Rattle.std.specs.Prelude.{[], ◌∷◌}
use Rattle.nr_log_end.specs.declared.standing.LogEvent.TheVariants.{Opened}
use Rattle.nr_oplog.proofs.seat.LogSeat.note_opened.Given as goal

abbrev pub ghosts-note_opened_named : goal.ghosts-note_opened_named
ghosts-note_opened_named g a = record { turns = Opened a.worker ∷ [] }
