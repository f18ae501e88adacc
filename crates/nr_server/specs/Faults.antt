-- What the program says of each fault, a line and the reason, and its exit status then.
use Rattle.std.specs.Prelude.{◌≡◌, ℕ, Option, Some, None, ◌++◌, codes, string_bytes}
use Rattle.std.specs.Fmt.{decimal}
use Rattle.nr_model.specs.Bytes.{Bytes}
use Rattle.nr_config.specs.Keys.{kind_text}
use Rattle.nr_config.specs.Places.{place_text}
use Rattle.nr_crew.specs.declared.nodes.StartError.{StartError}
use Rattle.nr_crew.specs.declared.nodes.StartError.TheVariants as starts
use Rattle.nr_script.specs.declared.playing.ScriptError.{ScriptError}
use Rattle.nr_script.specs.declared.playing.ScriptError.TheVariants as script
use Rattle.nr_server.specs.Refusals.{refusal_text}
use Rattle.nr_server.specs.declared.fault.Fault.{Fault}
use Rattle.nr_server.specs.declared.fault.Fault.TheVariants.{Read, Write, Memory, BadStep, Script, Settings, NotToml, UnknownKey, BadValue, CannotListen, Listener, NoThread}

abbrev pub line_of : Fault → Bytes
line_of Read = codes "noderedis: read failed"
line_of Write = codes "noderedis: write failed"
line_of Memory = codes "noderedis: out of memory"
line_of (BadStep line) = codes "noderedis: line " ++ (decimal line ++ codes ": bad step")
line_of (Script file why) = codes "noderedis: cannot read the script"
line_of (Settings file why) = codes "noderedis: cannot read the settings"
line_of (NotToml place) = codes "noderedis: settings: not toml"
line_of (UnknownKey key) = codes "noderedis: settings: unknown key " ++ string_bytes key
line_of (BadValue key kind) = codes "noderedis: settings: bad value " ++ string_bytes key
line_of (CannotListen address why) = codes "noderedis: cannot listen on " ++ string_bytes address
line_of Listener = codes "noderedis: listener failed"
line_of NoThread = codes "noderedis: no thread"

-- the reason, where there is one
abbrev pub reason_of : Fault → Option Bytes
reason_of (Script file why) = Some (string_bytes file ++ (codes ": " ++ refusal_text why))
reason_of (Settings file why) = Some (string_bytes file ++ (codes ": " ++ refusal_text why))
reason_of (NotToml place) = Some (place_text place)
reason_of (BadValue key kind) = Some (kind_text kind)
reason_of (CannotListen address why) = Some (refusal_text why)
reason_of _ = None

-- a line, and where there is a reason, that on the next line, two spaces in
abbrev pub with_reason : Bytes → Option Bytes → Bytes
with_reason line None = line
with_reason line (Some reason) = line ++ (codes "\n  " ++ reason)

abbrev pub text_of : Fault → Bytes
text_of fault = with_reason (line_of fault) (reason_of fault)

abbrev pub status_of : Fault → ℕ
status_of fault = 1

-- the fault of the program that tells why a server didn't start
abbrev pub IsOfStart : StartError → Fault → Type 0
IsOfStart (starts.Memory memory) fault = fault ≡ Memory
IsOfStart starts.BadShape fault = fault ≡ Listener
IsOfStart starts.FewPlaces fault = fault ≡ Listener

-- the fault of the program that tells why a script ended
abbrev pub IsOfScript : ScriptError → Fault → Type 0
IsOfScript (script.BadStep line) fault = fault ≡ BadStep line
IsOfScript script.Write fault = fault ≡ Write
IsOfScript script.Memory fault = fault ≡ Memory
