use Rattle.std.proofs.Common.{◌≡◌, Bool, ap, ◌∙◌, refl}
use Rattle.std.specs.Prelude.{ℕ, Some, Ok, Err, Result}
use Rattle.nr_model.specs.Bytes.{Bytes}
use Rattle.nr_model.specs.Strings.{bit_at, with_bit_at}
use Rattle.nr_model.specs.Keyspace.{key_of, live}
use Rattle.nr_model.specs.Commands.Shape.{performed}
use Rattle.nr_model.specs.Commands.Strings as strings
use Rattle.nr_model.specs.declared.refused.Refused.{Refused}
use Rattle.nr_key_commands.proofs.Refused.{refused_edit}
use Rattle.nr_key_commands.proofs.strings.writing.write_bit.Goals as goal

pub returns-in_err-was_set-in-Some : goal.returns-in_err-was_set-in-Some
returns-in_err-was_set-in-Some g c =
    let why = c.in_err-was_set-in-Some.field-0.0 in
    let old = c.args.keyspace.now in
    let key = key_of c.args.database c.args.name.now in
    let offset : ℕ = c.args.bit.offset in
    let is_set : Bool = c.args.bit.is_set in
    let writes : Bytes → Bytes → Result Bool Refused → Type 0 = λ before after given. (given ≡ Ok (bit_at before offset)) × (after ≡ with_bit_at before offset is_set) in
    refused_edit g.T.Touched.after writes old c.edit.new.self (live old c.args.now) c.args.database c.args.name.now c.args.name.now c.args.touched.now
    c.from_residual-in_err-was_set-in-Some.result why c.in_ok-edited.edited
    (λ held. performed old held (λ held. strings.rewritten old key (with_bit_at (strings.or_empty held) offset is_set) (strings.bit_number (bit_at (strings.or_empty held) offset))))
    c.from_residual-in_err-was_set-in-Some.ensures refl c.requires (c.in-Some.is ∙ ap Some c.in_err-was_set-in-Some.was) c.in_ok-edited.ensures.ok
    (λ text refuses. absurd (let never : ◌≡◌ {A = Result Bool Refused} (Err why) (Ok (bit_at text offset)) = refuses.0 in cc never))
    refl
