-- What a script has printed where it ended before its last line, by what the program says of it.
use Rattle.std.specs.Prelude.{List, Option}
use Rattle.nr_model.specs.Bytes.{Bytes}
use Rattle.nr_script.specs.Scripts.{PrintsTo, PrintsFront}
use Rattle.nr_server.specs.declared.fault.Fault.{Fault}
use Rattle.nr_server.specs.declared.fault.Fault.TheVariants as faults

-- Those before the line of this number were played, which can't be taken; or some of the first ones were, and memory ran out. Of a writer that failed
-- nothing is known.
abbrev pub EndsScript : Fault → List Bytes → Option Bytes → Option Bytes → Type 0
EndsScript (faults.BadStep number) lines before after = PrintsTo number lines before after
EndsScript faults.Memory lines before after = PrintsFront lines before after
EndsScript faults.Write lines before after = Unit {0}
EndsScript faults.Read lines before after = ⊥
EndsScript (faults.Script file why) lines before after = ⊥
EndsScript (faults.Settings file why) lines before after = ⊥
EndsScript (faults.NotToml place) lines before after = ⊥
EndsScript (faults.UnknownKey key) lines before after = ⊥
EndsScript (faults.BadValue key kind) lines before after = ⊥
EndsScript (faults.CannotListen address why) lines before after = ⊥
EndsScript faults.Listener lines before after = ⊥
EndsScript faults.NoThread lines before after = ⊥
