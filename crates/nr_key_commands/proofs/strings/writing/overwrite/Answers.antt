use Rattle.std.proofs.Common.{◌≡◌, ◌+◌, length, true, false, ap, sym, ◌∙◌, refl}
use Rattle.std.specs.Prelude.{ℕ, ℤ, Some, IfOk, IfErr, Result, nat_lt, pos}
use Rattle.nr_model.specs.Bytes.{Bytes}
use Rattle.nr_model.specs.Strings.{max_len, overwritten}
use Rattle.nr_model.specs.Keyspace.{key_of, live}
use Rattle.nr_model.specs.Commands.Shape.{performed, refused}
use Rattle.nr_model.specs.Commands.Strings as strings
use Rattle.nr_model.specs.declared.refused.Refused.{Refused}
use Rattle.nr_model.specs.declared.refused.Refused.TheVariants.{TooLong}
use Rattle.nr_key_commands.proofs.Overlong.{long_range}
use Rattle.nr_key_commands.proofs.Refused.{refused_edit}
use Rattle.nr_key_commands.proofs.strings.writing.overwrite.Goals as goal

pub returns-in_err-length-in-Some : goal.returns-in_err-length-in-Some
returns-in_err-length-in-Some g c =
    let why = c.in_err-length-in-Some.field-0.0 in
    let old = c.args.keyspace.now in
    let key = key_of c.args.database c.args.name.now in
    let offset : ℕ = c.args.range.offset in
    let bytes : Bytes = c.args.range.bytes.now in
    let overwrites : Bytes → Bytes → Result ℤ Refused → Type 0 = λ before after given.
    IfOk given (λ n. (nat_lt max_len (offset + length bytes) ≡ false) × (n ≡ pos (length (overwritten offset bytes before))) × (after ≡ overwritten offset bytes before))
    × IfErr given (λ why. (nat_lt max_len (offset + length bytes) ≡ true) × (why ≡ TooLong)) in
    refused_edit g.T.Touched.after overwrites old c.edit.new.self (live old c.args.now) c.args.database c.args.name.now c.args.name.now c.args.touched.now
    c.from_residual-in_err-length-in-Some.result why c.in_ok-edited.edited
    (λ held. performed old held (λ held. strings.set_range_at old key offset bytes (strings.or_empty held)))
    c.from_residual-in_err-length-in-Some.ensures refl c.requires.live (c.in-Some.is ∙ ap Some c.in_err-length-in-Some.was) c.in_ok-edited.ensures.ok
    (λ text refuses. long_range old key offset bytes text c.requires.some refuses.1.0 ∙ ap (refused old) (sym refuses.1.1))
    refl
