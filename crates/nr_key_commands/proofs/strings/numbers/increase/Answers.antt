use Rattle.std.proofs.Common.{rules, ◌≡◌, ℤ, to_z, of_z, w64, ap, ◌∙◌, refl, subst}
use Rattle.std.specs.Prelude.{Some}
use Rattle.std.specs.FinMap as map
use Rattle.nr_model.specs.Keyspace.{key_of, live}
use Rattle.nr_model.specs.Replies.{Int}
use Rattle.nr_model.specs.Commands.Shape.{performed}
use Rattle.nr_model.specs.Commands.Strings.{rewritten}
use Rattle.nr_keyspace.specs.Edited.{IsEdited, EditsText}
use Rattle.std.specs.Fmt.{signed_decimal}
use Rattle.nr_key_commands.proofs.Added.{adds, increased_by}
use Rattle.nr_key_commands.proofs.Refused.{refused_edit}
use Rattle.nr_key_commands.proofs.strings.numbers.increase.Goals as goal

pub returns-in_err-sum-in-Some : goal.returns-in_err-sum-in-Some
returns-in_err-sum-in-Some g c =
    let why = c.in_err-sum-in-Some.field-0.0 in
    let old = c.args.keyspace.now in
    let key = key_of c.args.database c.args.name.now in
    let seen = live old c.args.now in
    let found_key = key_of c.args.database c.args.name.now in
    let by_is : to_z w64 (of_z w64 c.args.by) ≡ c.args.by = search rules in
    let edited =
    subst (λ (by : ℤ). IsEdited (EditsText (adds by)) old c.edit.new.self found_key (map.get seen found_key) c.in_ok-edited.edited) by_is c.in_ok-edited.ensures.ok in
    refused_edit g.T.Touched.after (adds c.args.by) old c.edit.new.self seen c.args.database c.args.name.now c.args.name.now c.args.touched.now
    c.from_residual-in_err-sum-in-Some.result why c.in_ok-edited.edited (increased_by c.args.by old key)
    c.from_residual-in_err-sum-in-Some.ensures refl c.requires (c.in-Some.is ∙ ap Some c.in_err-sum-in-Some.was) edited
    (λ text refuses. ap (λ read. performed old read (λ sum. rewritten old key (signed_decimal sum) (Int sum))) refuses.1)
    refl
