-- A request whose name was looked up, whatever the table's size.
use Rattle.std.proofs.Common.{◌≡◌, Bool, true, false, cond, List, [], ◌∷◌, Option, Some, None, length, refl, ap, sym, ◌∙◌}
use Rattle.std.specs.Prelude.{slice_get}
use Rattle.nr_model.specs.Bytes.{Bytes}
use Rattle.nr_model.specs.Commands.{named, row_of}
use Rattle.nr_model.specs.Commands.Shape.{arity_ok}
use Rattle.nr_model.specs.Modes.{reading, found, Unknown, WrongArity, Known, first_word}
use Rattle.nr_model.specs.declared.command.Command.{Command}
use Rattle.nr_resp.specs.Check.{call}

name_is : (words : List Bytes) (name : Bytes) → Some name ≡ slice_get words 0 → name ≡ first_word words
name_is [] name first = absurd (cc first)
name_is (word ∷ words) name first = cc first

looked_up : (table : List Command) (words : List Bytes) (name : Bytes) (result : Option Command)
    → Some name ≡ slice_get words 0 → result ≡ named table name → reading table words ≡ found (first_word words) words result
looked_up table words name result first is = ap (found (first_word words) words) (sym (is ∙ ap (named table) (name_is words name first)))

pub unknown : (table : List Command) (words : List Bytes) (name : Bytes) → Some name ≡ slice_get words 0 → None ≡ named table name
    → (reading table words ≡ Unknown (first_word words)) × (words ≡ words)
unknown table words name first is = (looked_up table words name None first is, refl)

pub miscounted : (table : List Command) (words : List Bytes) (name : Bytes) (command : Command) (fits : Bool) → Some name ≡ slice_get words 0
    → Some command ≡ named table name → fits ≡ arity_ok (row_of command).arity (length words) → fits ≡ false
    → (reading table words ≡ WrongArity command) × (words ≡ words)
miscounted table words name command fits first is counted not =
    (looked_up table words name (Some command) first is ∙ ap (λ b. cond b (Known (call command words)) (WrongArity command)) (sym counted ∙ not), refl)

pub known : (table : List Command) (words : List Bytes) (name : Bytes) (command : Command) (fits : Bool) → Some name ≡ slice_get words 0
    → Some command ≡ named table name → fits ≡ arity_ok (row_of command).arity (length words) → fits ≡ true
    → reading table words ≡ Known (call command words)
known table words name command fits first is counted yes' =
    looked_up table words name (Some command) first is ∙ ap (λ b. cond b (Known (call command words)) (WrongArity command)) (sym counted ∙ yes')
