-- The command line: its tasks with their arguments, as `clap` is told them, and which task words name.
use Rattle.std.specs.Prelude.{◌≡◌, ◌≢◌, ◌⊎◌, ◌==◌, if◌then◌else◌, Bool, true, false, List, [], ◌∷◌, Result, MatchResult, Option, Some, None, bytes_eq, codes, option_map, option_and_then, string_bytes}
use Rattle.clap.specs.Words.{App, Row, Rule, Text, app_of, fault_of, first_of, kind_of, new_app, new_rule, subcommand_of, subcommand_rows_of, with_rule, with_subcommand}
use Rattle.clap.specs.declared.builder.action.ArgAction.TheVariants.{Set, SetTrue}
use Rattle.clap.specs.declared.builder.command.Command.{Command}
use Rattle.clap.specs.declared.builder.command.Command.TheViews.{out-Command}
use Rattle.clap.specs.declared.parser.matches.ArgMatches.{ArgMatches}
use Rattle.clap.specs.declared.error.Error.{Error}
use Rattle.clap.specs.declared.error.kind.ErrorKind.TheVariants as kinds
use Rattle.nr_config.specs.declared.command_line.Lasts.{Lasts}
use Rattle.nr_config.specs.declared.command_line.Lasts.TheVariants.{UntilKilled, UntilInputEnds}
use Rattle.nr_config.specs.declared.command_line.Task.{Task}
use Rattle.nr_config.specs.declared.command_line.Task.TheVariants.{Run, Script, Serve}
use Rattle.nr_config.specs.declared.given.Given.{Given}
use Rattle.nr_config.specs.declared.command_line.WordsError.{WordsError}
use Rattle.nr_config.specs.declared.command_line.WordsError.TheVariants.{Asked, Refused, Memory}

-- `FILE`, which has to be given
abbrev pub file : Rule
file = record (new_rule (codes "file")) { action = Some Set; value_names = 1; required = true }

-- `--config FILE`, which has to be given
abbrev pub config : Rule
config = record file { id = codes "config"; long = Some (codes "config") }

-- `--NAME VALUE`, in the place of the setting of this name
abbrev pub word : Text → Rule
word name = record (new_rule name) { action = Some Set; value_names = 1; long = Some name }

-- `--NAME`, which takes no value
abbrev pub flag : Text → Rule
flag name = record (new_rule name) { action = Some SetTrue; long = Some name }

abbrev pub run : App
run = new_app (codes "run")

abbrev pub script : App
script = with_rule (new_app (codes "script")) file

-- `serve`, with the words that stand in the place of settings
abbrev pub placing : App
placing =
    with_rule
    (with_rule (with_rule (with_rule (with_rule (new_app (codes "serve")) config) (word (codes "listen"))) (word (codes "nodes"))) (word (codes "workers")))
    (word (codes "connections"))

-- and with the flag that says how long
abbrev pub serve : App
serve = with_rule placing (flag (codes "until-input-ends"))

-- words without a task are answered by the help; there is a version
abbrev pub start : App
start = let bare = new_app (codes "noderedis") in record bare { top = record bare.top { subcommand_required = true; arg_required_else_help = true; has_version = true } }

-- `noderedis run`, `noderedis script FILE`, and `noderedis serve --config FILE` with words in the place of settings, and a flag that says how long
abbrev pub command : App
command = with_subcommand (with_subcommand (with_subcommand start run.top) script.top) serve.top

-- the command passes no argument on to its subcommands
abbrev pub IsLocal : Command → Type 0
IsLocal made = (out-Command made).has_globals ≡ false

-- the command as `clap` is told
abbrev pub Describes : App → Command → Type 0
Describes app made = (app_of made ≡ app) × IsLocal made

-- the subcommand that was found
abbrev pub subcommand_in : Option (Text × List Row) → Option Text
subcommand_in found = option_map (λ p. p.0) found

-- the value that was found of an argument of the subcommand
abbrev pub value_in : Text → Option (Text × List Row) → Option Text
value_in id found = option_and_then (λ p. first_of id p.1) found

-- the words in the place of settings are those that were found
pub record AreGivenIn (found : Option (Text × List Row)) (given : Given) : Type 0 where
  pub listen : value_in (codes "listen") found ≡ option_map string_bytes given.listen
  pub nodes : value_in (codes "nodes") found ≡ option_map string_bytes given.nodes
  pub workers : value_in (codes "workers") found ≡ option_map string_bytes given.workers
  pub connections : value_in (codes "connections") found ≡ option_map string_bytes given.connections

-- a server lasts until standard input ends where this is the text of its flag, and else until it is killed
abbrev pub lasts_at : Option Text → Lasts
lasts_at None = UntilKilled
lasts_at (Some text) = if bytes_eq text (codes "true") then UntilInputEnds else UntilKilled

-- how long the server lasts, by what was found
abbrev pub lasts_in : Option (Text × List Row) → Lasts
lasts_in found = lasts_at (value_in (codes "until-input-ends") found)

-- the task is the one of the subcommand that was found, with its file and words
abbrev pub IsTaskOf : Option (Text × List Row) → Task → Type 0
IsTaskOf found Run = subcommand_in found ≡ Some (codes "run")
IsTaskOf found (Script name) = (subcommand_in found ≡ Some (codes "script")) × (value_in (codes "file") found ≡ Some (string_bytes name))
IsTaskOf found (Serve name given lasts) = (subcommand_in found ≡ Some (codes "serve")) × (value_in (codes "config") found ≡ Some (string_bytes name)) × AreGivenIn found given × (lasts ≡ lasts_in found)

-- the words, of which the first is the program's own name, are without a fault and name this task
abbrev pub Names : List Text → Task → Type 0
Names words task = (fault_of command words ≡ []) × IsTaskOf (subcommand_of command words) task

-- the words are without a fault, and this is what was found
abbrev pub Finds : List Text → ArgMatches → Type 0
Finds words matches = (fault_of command words ≡ []) × (subcommand_rows_of matches ≡ subcommand_of command words)

abbrev pub NameNone : List Text → Type 0
NameNone words = (task : Task) → ¬ Names words task

-- memory was refused, or the words name no task
abbrev pub IsRefusal : List Text → Error → Type 0
IsRefusal words error = (kind_of error ≡ kinds.OutOfMemory) ⊎ NameNone words

-- help is told apart from a refusal, and both from want of memory
abbrev pub IsMadeOf : Error → WordsError → Type 0
IsMadeOf error (Asked text) = (text ≡ error) × (kind_of error ≢ kinds.OutOfMemory) × ((kind_of error ≡ kinds.DisplayHelp) ⊎ (kind_of error ≡ kinds.DisplayVersion))
IsMadeOf error (Refused text) = (text ≡ error) × (kind_of error ≢ kinds.OutOfMemory) × (kind_of error ≢ kinds.DisplayHelp) × (kind_of error ≢ kinds.DisplayVersion)
IsMadeOf error Memory = kind_of error ≡ kinds.OutOfMemory

-- what is answered in place of a task, or want of memory
abbrev pub Refuses : List Text → WordsError → Type 0
Refuses words (Asked text) = NameNone words × ((kind_of text ≡ kinds.DisplayHelp) ⊎ (kind_of text ≡ kinds.DisplayVersion))
Refuses words (Refused text) = NameNone words × (kind_of text ≢ kinds.DisplayHelp) × (kind_of text ≢ kinds.DisplayVersion)
Refuses words Memory = Unit {0}

-- the task, where there is one
abbrev pub FindsTask : Option (Text × List Row) → Option Task → Type 0
FindsTask found None = (task : Task) → ¬ IsTaskOf found task
FindsTask found (Some task) = IsTaskOf found task

-- the word begins with a hyphen
abbrev pub is_option : Text → Bool
is_option [] = false
is_option (byte ∷ rest) = byte == 45

-- no word stands in the place of a setting
pub record IsNothing (given : Given) : Type 0 where
  pub listen : given.listen ≡ None
  pub nodes : given.nodes ≡ None
  pub workers : given.workers ≡ None
  pub connections : given.connections ≡ None

-- the word by which a user says how long a server lasts
abbrev pub words_of : Lasts → List Text
words_of UntilKilled = []
words_of UntilInputEnds = codes "--until-input-ends" ∷ []

-- the words are the program's own name, and then the task as a user writes it, with no setting among them
abbrev pub Spells : List Text → Task → Type 0
Spells words Run = (program : Text) × (words ≡ program ∷ codes "run" ∷ [])
Spells words (Script name) = (program : Text) × (words ≡ program ∷ codes "script" ∷ string_bytes name ∷ []) × (is_option (string_bytes name) ≡ false)
Spells words (Serve name given lasts) = (program : Text) × (words ≡ program ∷ codes "serve" ∷ codes "--config" ∷ string_bytes name ∷ words_of lasts) × (is_option (string_bytes name) ≡ false) × IsNothing given

-- the same words in the place of settings
pub record AreSame (given got : Given) : Type 0 where
  pub listen : option_map string_bytes given.listen ≡ option_map string_bytes got.listen
  pub nodes : option_map string_bytes given.nodes ≡ option_map string_bytes got.nodes
  pub workers : option_map string_bytes given.workers ≡ option_map string_bytes got.workers
  pub connections : option_map string_bytes given.connections ≡ option_map string_bytes got.connections

-- the same task, with a file of the same name, and the same words, for as long
abbrev pub IsSame : Task → Task → Type 0
IsSame Run Run = Unit {0}
IsSame (Script name) (Script other) = string_bytes name ≡ string_bytes other
IsSame (Serve name given lasts) (Serve other got lasting) = (string_bytes name ≡ string_bytes other) × AreSame given got × (lasts ≡ lasting)
IsSame _ _ = ⊥

-- the answer is this task, or want of memory
abbrev pub Gives : Task → Result Task WordsError → Type 0
Gives task result = MatchResult result (IsSame task) (λ why. why ≡ Memory)
