-- How a server is to end, and what is told of how its workers did.
use Rattle.std.specs.Prelude.{ℤ, pos, Bool, cond, Option, Some, None, Result, Ok, Err}
use Rattle.nr_config.specs.declared.command_line.Lasts.{Lasts}
use Rattle.nr_config.specs.declared.command_line.Lasts.TheVariants.{UntilKilled, UntilInputEnds}
use Rattle.nr_crew.specs.declared.running.ServeError.{ServeError}
use Rattle.nr_crew.specs.declared.running.ServeError.TheVariants.{Down, Memory, Device, NoThread}
use Rattle.nr_server.specs.declared.fault.Fault.{Fault}
use Rattle.nr_server.specs.declared.fault.Fault.TheVariants as faults

-- the descriptor of the input whose end ends it: standard input's
abbrev pub input_of : Lasts → Option ℤ
input_of UntilKilled = None
input_of UntilInputEnds = Some (pos 0)

abbrev pub told_of : Result (Unit {0}) ServeError → Result (Unit {0}) Fault
told_of (Ok tt) = Ok tt
told_of (Err Down) = Err faults.Memory
told_of (Err (Memory memory)) = Err faults.Memory
told_of (Err Device) = Err faults.Listener
told_of (Err NoThread) = Err faults.NoThread

-- who can't say where it listens failed to write, whatever else came of it
abbrev pub ended_by : Result (Unit {0}) ServeError → Bool → Result (Unit {0}) Fault
ended_by ended is_mute = cond is_mute (Err faults.Write) (told_of ended)
