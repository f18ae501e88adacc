-- What it means that a request was checked.
use Rattle.std.specs.Prelude.{◌≡◌, List, Result, Ok, Err}
use Rattle.nr_model.specs.Bytes.{Bytes}
use Rattle.nr_model.specs.declared.command.Command.{Command}
use Rattle.nr_model.specs.Commands.{served}
use Rattle.nr_model.specs.Items.{Call}
use Rattle.nr_model.specs.Modes.{reading, Unknown, WrongArity, Known, first_word}
use Rattle.nr_resp.specs.declared.command.Cmd.{Cmd}
use Rattle.nr_resp.specs.declared.reading.CmdError.{CmdError}
use Rattle.nr_resp.specs.declared.reading.CmdError.TheVariants as errors

abbrev pub call : Command → List Bytes → Call
call command words = record { command = command; words = words }

-- a command as a call
abbrev pub call_of : Cmd → Call
call_of cmd = call cmd.command cmd.words.items

-- The result is how the definitions read these words; an error hands them back.
abbrev pub Checks : List Bytes → Result Cmd CmdError → Type 0
Checks words (Ok cmd) = reading served words ≡ Known (call_of cmd)
Checks words (Err (errors.Unknown frame)) = (reading served words ≡ Unknown (first_word words)) × (frame.words.items ≡ words)
Checks words (Err (errors.Arity command frame)) = (reading served words ≡ WrongArity command) × (frame.words.items ≡ words)
