-- The command lines, as a user writes them, name their tasks, and no words name two.
use Rattle.std.proofs.Common.{◌≡◌, ◌∙◌, false, List, [], ◌∷◌, Option, Some, None, String, Global, codes, option_map, string_bytes, sym, ap, subst, refl}
use Rattle.std.proofs.lemmas.Option.{same_Some}
use Rattle.clap.specs.Words.{Row, Text, fault_of, first_of, subcommand_of}
use Rattle.clap.proofs.OnLiterals.{clap_on_literals}
use Rattle.nr_config.specs.CommandLines.{command, subcommand_in, value_in, is_option, AreGivenIn, IsNothing, IsTaskOf, Names, Refuses, Spells, IsSame}
use Rattle.nr_config.specs.declared.given.Given.{Given}
use Rattle.nr_config.specs.declared.command_line.Lasts.{Lasts}
use Rattle.nr_config.specs.declared.command_line.Lasts.TheVariants.{UntilKilled, UntilInputEnds}
use Rattle.nr_config.specs.declared.command_line.Task.{Task}
use Rattle.nr_config.specs.declared.command_line.Task.TheVariants.{Run, Script, Serve}
use Rattle.nr_config.specs.declared.command_line.WordsError.{WordsError}
use Rattle.nr_config.specs.declared.command_line.WordsError.TheVariants.{Asked, Refused, Memory}
use Rattle.nr_config.proofs.Serving.{serve_rows, serve_faultless, serve_found}

run_faultless : (program : Text) → fault_of command (program ∷ codes "run" ∷ []) ≡ []
unfolding clap_on_literals
run_faultless program = refl

run_found : (program : Text) → subcommand_in (subcommand_of command (program ∷ codes "run" ∷ [])) ≡ Some (codes "run")
unfolding clap_on_literals
run_found program = refl

script_faultless : (program word : Text) → is_option word ≡ false → fault_of command (program ∷ codes "script" ∷ word ∷ []) ≡ []
unfolding clap_on_literals
script_faultless program [] e = refl
script_faultless program (c ∷ cs) e = simp e

script_found : (program word : Text) → subcommand_in (subcommand_of command (program ∷ codes "script" ∷ word ∷ [])) ≡ Some (codes "script")
unfolding clap_on_literals
script_found program word = refl

script_file : (program word : Text) → is_option word ≡ false → value_in (codes "file") (subcommand_of command (program ∷ codes "script" ∷ word ∷ [])) ≡ Some word
unfolding clap_on_literals
script_file program [] e = refl
script_file program (c ∷ cs) e = simp e

are_none : (rows : List Row) (given : Given) → IsNothing given → first_of (codes "listen") rows ≡ None → first_of (codes "nodes") rows ≡ None
    → first_of (codes "workers") rows ≡ None → first_of (codes "connections") rows ≡ None → AreGivenIn (Some (codes "serve", rows)) given
are_none rows given nothing listen nodes workers connections = record {
  listen = listen ∙ ap (option_map string_bytes) (sym nothing.listen);
  nodes = nodes ∙ ap (option_map string_bytes) (sym nothing.nodes);
  workers = workers ∙ ap (option_map string_bytes) (sym nothing.workers);
  connections = connections ∙ ap (option_map string_bytes) (sym nothing.connections);
}

serve_task : (name : String Global) (given : Given) (lasts : Lasts) → IsNothing given → IsTaskOf (Some (codes "serve", serve_rows (string_bytes name) lasts)) (Serve name given lasts)
serve_task name given UntilKilled nothing = (refl, refl, are_none _ given nothing refl refl refl refl, refl)
serve_task name given UntilInputEnds nothing = (refl, refl, are_none _ given nothing refl refl refl refl, refl)

spelled : (words : List Text) (task : Task) → Spells words task → Names words task
spelled words Run (program, e) = rw e (run_faultless program, run_found program)
spelled words (Script name) (program, e, plain) =
    let word = string_bytes name in
    rw e (script_faultless program word plain, (script_found program word, script_file program word plain))
spelled words (Serve name given lasts) (program, e, plain, nothing) =
    let word = string_bytes name in
    rw e (serve_faultless program word lasts plain, subst (λ found. IsTaskOf found (Serve name given lasts)) (sym (serve_found program word lasts plain)) (serve_task name given lasts nothing))

one_task : (found : Option (Text × List Row)) (task other : Task) → IsTaskOf found task → IsTaskOf found other → IsSame task other
one_task found Run Run a b = tt
one_task found Run (Script m) a b = absurd (let bad = same_Some _ _ (sym a ∙ b.0) in cc)
one_task found Run (Serve m got lasting) a b = absurd (let bad = same_Some _ _ (sym a ∙ b.0) in cc)
one_task found (Script n) Run a b = absurd (let bad = same_Some _ _ (sym a.0 ∙ b) in cc)
one_task found (Script n) (Script m) a b = same_Some _ _ (sym a.1 ∙ b.1)
one_task found (Script n) (Serve m got lasting) a b = absurd (let bad = same_Some _ _ (sym a.0 ∙ b.0) in cc)
one_task found (Serve n given lasts) Run a b = absurd (let bad = same_Some _ _ (sym a.0 ∙ b) in cc)
one_task found (Serve n given lasts) (Script m) a b = absurd (let bad = same_Some _ _ (sym a.0 ∙ b.0) in cc)
one_task found (Serve n given lasts) (Serve m got lasting) a b = (
  same_Some _ _ (sym a.1 ∙ b.1),
  record {
    listen = sym a.2.listen ∙ b.2.listen;
    nodes = sym a.2.nodes ∙ b.2.nodes;
    workers = sym a.2.workers ∙ b.2.workers;
    connections = sym a.2.connections ∙ b.2.connections;
  },
  a.3 ∙ sym b.3,
)

pub gives : (words : List Text) (task got : Task) → Names words got → Spells words task → IsSame task got
gives words task got named spells = one_task (subcommand_of command words) task got (spelled words task spells).1 named.1

pub gives_none : (words : List Text) (task : Task) (why : WordsError) → Refuses words why → Spells words task → why ≡ Memory
gives_none words task (Asked text) refused spells = absurd (refused.0 task (spelled words task spells))
gives_none words task (Refused text) refused spells = absurd (refused.0 task (spelled words task spells))
gives_none words task Memory refused spells = refl
