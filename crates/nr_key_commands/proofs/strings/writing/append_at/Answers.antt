use Rattle.std.proofs.Common.{◌≡◌, ◌+◌, ◌++◌, length, true, false, ap, sym, ◌∙◌, refl}
use Rattle.std.specs.Prelude.{ℤ, Some, IfOk, IfErr, Result, nat_lt, pos}
use Rattle.nr_model.specs.Bytes.{Bytes}
use Rattle.nr_model.specs.Strings.{max_len}
use Rattle.nr_model.specs.Keyspace.{key_of, live}
use Rattle.nr_model.specs.Commands.Shape.{performed, refused}
use Rattle.nr_model.specs.Commands.Strings as strings
use Rattle.nr_model.specs.declared.refused.Refused.{Refused}
use Rattle.nr_model.specs.declared.refused.Refused.TheVariants.{TooLong}
use Rattle.nr_key_commands.proofs.Overlong.{long_append}
use Rattle.nr_key_commands.proofs.Refused.{refused_edit}
use Rattle.nr_key_commands.proofs.strings.writing.append_at.Goals as goal

pub returns-in_err-length-in-Some : goal.returns-in_err-length-in-Some
returns-in_err-length-in-Some g c =
    let why = c.in_err-length-in-Some.field-0.0 in
    let old = c.args.keyspace.now in
    let key = key_of c.args.database c.args.name.now in
    let more = c.args.text.now in
    let bytes = c.bytes-bytes.result.now in
    let appends : Bytes → Bytes → Result ℤ Refused → Type 0 = λ before after given.
    IfOk given (λ n. (nat_lt max_len (length before + length bytes) ≡ false) × (n ≡ pos (length before + length bytes)) × (after ≡ before ++ bytes))
    × IfErr given (λ why. (nat_lt max_len (length before + length bytes) ≡ true) × (why ≡ TooLong)) in
    refused_edit g.T.Touched.after appends old c.edit.new.self (live old c.args.now) c.args.database c.args.name.now c.args.name.now c.args.touched.now
    c.from_residual-in_err-length-in-Some.result why c.in_ok-edited.edited
    (λ held. performed old held (λ held. strings.append_at old key (strings.or_empty held) more))
    c.from_residual-in_err-length-in-Some.ensures refl c.requires (c.in-Some.is ∙ ap Some c.in_err-length-in-Some.was) c.in_ok-edited.ensures.ok
    (λ text refuses.
    long_append old key more text (ap (λ (bytes : Bytes). nat_lt max_len (length text + length bytes)) (sym c.bytes-bytes.ensures) ∙ refuses.1.0)
    ∙ ap (refused old) (sym refuses.1.1))
    refl
