-- `serve --config FILE`, with its flag or without: it has no fault, and this is what is found.
use Rattle.std.proofs.Common.{◌≡◌, ◌∙◌, false, List, [], ◌∷◌, Some, None, bytes_eq, codes, is_some, ap, ap₂, refl}
use Rattle.std.specs.Option.{unwrap_or}
use Rattle.std.specs.List.{find}
use Rattle.clap.specs.Faults.{defaults_fault, entered_fault, fault_of, turn_fault, walk_fault}
use Rattle.clap.specs.Kinds.{Kinds, or_else}
use Rattle.clap.specs.Lexer.{long_of, short_of}
use Rattle.clap.specs.Simple.{Shape, built, entered, label_of, names_of, subcommand_of}
use Rattle.clap.specs.Walk.{Names, Row, Text, Walk, answers_to, nothing_held, option, walk_from, walked}
use Rattle.clap.specs.declared.builder.value_parser.Reading.TheVariants.{AsWritten}
use Rattle.clap.specs.declared.parser.matches.ValueSource.{ValueSource}
use Rattle.clap.specs.declared.parser.matches.ValueSource.TheVariants.{DefaultValue, CommandLine}
use Rattle.clap.proofs.OnLiterals.{clap_on_literals}
use Rattle.nr_config.specs.CommandLines.{command, is_option, serve, words_of}
use Rattle.nr_config.specs.declared.command_line.Lasts.{Lasts}
use Rattle.nr_config.specs.declared.command_line.Lasts.TheVariants.{UntilKilled, UntilInputEnds}
use Rattle.nr_config.proofs.Levels.{or_else-nil, at_subcommand, end_of, fault_at, fault_from, fault_further, rows_from, rows_further, faultless_behind, all_behind}

-- ---- behind the word `serve`

abbrev top : Shape
top = (built command).top

abbrev names : Names
names = names_of (built command)

-- `serve`, as it is built
abbrev shape : Shape
shape = unwrap_or (find (λ s. answers_to (codes "serve") (label_of s)) (built command).subs) serve.top

abbrev begun : Walk
begun = walk_from nothing_held

abbrev entering : Walk
entering = at_subcommand begun (codes "serve") []

faultless_there : turn_fault top names begun (codes "serve") ≡ []
unfolding clap_on_literals
faultless_there = refl

enters : walked top.rules names begun (codes "serve") ≡ entering
unfolding clap_on_literals
enters = refl

abbrev fault_behind : Kinds → Walk → Kinds
fault_behind kinds end = or_else kinds (fault_at top names (is_some (entered (built command) end.stopped)) (entered_fault (built command) end.stopped) end)

ends_there : (tail : List Text) → fault_behind [] (at_subcommand begun (codes "serve") tail) ≡ fault_from shape [] begun tail
unfolding defaults_fault
ends_there tail = or_else-nil (fault_from shape [] begun tail)

fault_inside : (program : Text) (tail : List Text) → fault_of command (program ∷ codes "serve" ∷ tail) ≡ fault_from shape [] begun tail
unfolding walk_fault
fault_inside program tail =
    ap₂ (λ (turn : Kinds) (v : Walk). fault_behind (or_else turn (walk_fault top names v tail)) (end_of top names v tail)) faultless_there enters
    ∙ ap₂ fault_behind (faultless_behind top names begun (codes "serve") [] tail) (all_behind top names begun (codes "serve") [] tail)
    ∙ ends_there tail

found_inside : (program : Text) (tail : List Text) → subcommand_of command (program ∷ codes "serve" ∷ tail) ≡ Some (codes "serve", rows_from shape [] begun tail)
found_inside program tail =
    ap (λ (v : Walk). entered (built command) (end_of top names v tail).stopped) enters
    ∙ ap (λ (v : Walk). entered (built command) v.stopped) (all_behind top names begun (codes "serve") [] tail)

-- ---- the file, and the flag

no_dashes : (word : Text) → is_option word ≡ false → bytes_eq word (codes "--") ≡ false
no_dashes [] e = refl
no_dashes (c ∷ cs) e = rw e refl

no_long : (word : Text) → is_option word ≡ false → long_of word ≡ None
no_long [] e = refl
no_long (c ∷ cs) e = rw e refl

no_short : (word : Text) → is_option word ≡ false → short_of word ≡ None
no_short [] e = refl
no_short (c ∷ cs) e = rw e refl

abbrev config_met : Walk
config_met =
    record begun { held = record { rows = []; pending = Some (codes "config", []); skip = 0 }; waiting = option (codes "config") }

abbrev file_met : Text → Walk
file_met word = record begun { held = record { rows = []; pending = Some (codes "config", word ∷ []); skip = 0 } }

config_faultless : turn_fault shape [] begun (codes "--config") ≡ []
unfolding clap_on_literals
config_faultless = refl

meets_config : walked shape.rules [] begun (codes "--config") ≡ config_met
unfolding clap_on_literals
meets_config = refl

file_faultless : (word : Text) → is_option word ≡ false → turn_fault shape [] config_met word ≡ []
unfolding clap_on_literals
file_faultless word e =
    let dashes = no_dashes word e in
    let long = no_long word e in
    let short = no_short word e in
    simp (dashes, long, short)

meets_file : (word : Text) → is_option word ≡ false → walked shape.rules [] config_met word ≡ file_met word
unfolding clap_on_literals
meets_file word e =
    let dashes = no_dashes word e in
    let long = no_long word e in
    let short = no_short word e in
    simp (dashes, long, short)

abbrev row : Text → Text → ValueSource → Row
row id text source = record { id = id; values = text ∷ []; count = None; source = Some source; reading = AsWritten }

-- what is found: the file, and the flag, which is given or at its default
abbrev pub serve_rows : Text → Lasts → List Row
serve_rows word UntilKilled = row (codes "config") word CommandLine ∷ row (codes "until-input-ends") (codes "false") DefaultValue ∷ []
serve_rows word UntilInputEnds = row (codes "config") word CommandLine ∷ row (codes "until-input-ends") (codes "true") CommandLine ∷ []

flag_faultless : (word : Text) (lasts : Lasts) → fault_from shape [] (file_met word) (words_of lasts) ≡ []
unfolding clap_on_literals
flag_faultless word UntilKilled = refl
flag_faultless word UntilInputEnds = refl

meets_flag : (word : Text) (lasts : Lasts) → rows_from shape [] (file_met word) (words_of lasts) ≡ serve_rows word lasts
unfolding clap_on_literals
meets_flag word UntilKilled = refl
meets_flag word UntilInputEnds = refl

-- `serve`, as a user writes it
abbrev pub serve_words : Text → Text → Lasts → List Text
serve_words program word lasts = program ∷ codes "serve" ∷ codes "--config" ∷ word ∷ words_of lasts

pub serve_faultless : (program word : Text) (lasts : Lasts) → is_option word ≡ false → fault_of command (serve_words program word lasts) ≡ []
serve_faultless program word lasts e =
    fault_inside program (codes "--config" ∷ word ∷ words_of lasts)
    ∙ fault_further shape [] begun config_met (codes "--config") (word ∷ words_of lasts) config_faultless meets_config
    (fault_further shape [] config_met (file_met word) word (words_of lasts) (file_faultless word e) (meets_file word e) (flag_faultless word lasts))

pub serve_found : (program word : Text) (lasts : Lasts) → is_option word ≡ false
    → subcommand_of command (serve_words program word lasts) ≡ Some (codes "serve", serve_rows word lasts)
serve_found program word lasts e =
    found_inside program (codes "--config" ∷ word ∷ words_of lasts)
    ∙ ap (λ (rows : List Row). Some (codes "serve", rows))
    (rows_further shape [] begun config_met (codes "--config") (word ∷ words_of lasts) (serve_rows word lasts) meets_config
    (rows_further shape [] config_met (file_met word) word (words_of lasts) (serve_rows word lasts) (meets_file word e) (meets_flag word lasts)))
