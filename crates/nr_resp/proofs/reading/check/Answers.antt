use Rattle.std.proofs.Common.{◌≡◌, Some, length, ap, ◌∙◌, arith}
use Rattle.std.specs.Prelude.{slice_get}
use Rattle.nr_model.specs.Commands.{row_of, served}
use Rattle.nr_model.specs.Commands.Shape.{arity_ok}
use Rattle.nr_resp.proofs.Checked.{unknown, miscounted, known}
use Rattle.nr_resp.proofs.reading.check.Goals as goal

pub returns-in_default-lookup : goal.returns-in_default-lookup
returns-in_default-lookup c =
    unknown served c.args.frame.words.items c.bytes.result.now
    (ap Some c.bytes.ensures ∙ c.in-Some.ensures.value ∙ ap (λ words. slice_get words 0) c.deref.ensures.value) c.in_default-lookup.ensures

pub returns-then-not-arity_ok : goal.returns-then-not-arity_ok
returns-then-not-arity_ok c =
    let long : c.len.result ≡ length c.args.frame.words.items = omega (arith, c.len.ensures, c.args.frame.words.ok) in
    miscounted served c.args.frame.words.items c.bytes.result.now c.in-Some-lookup.command c.arity_ok.result
    (ap Some c.bytes.ensures ∙ c.in-Some.ensures.value ∙ ap (λ words. slice_get words 0) c.deref.ensures.value) c.in-Some-lookup.ensures
    (c.arity_ok.ensures ∙ ap (arity_ok (row_of c.in-Some-lookup.command).arity) long) c.if-not-arity_ok.true

pub returns : goal.returns
returns c =
    let long : c.len.result ≡ length c.args.frame.words.items = omega (arith, c.len.ensures, c.args.frame.words.ok) in
    known served c.args.frame.words.items c.bytes.result.now c.in-Some-lookup.command c.arity_ok.result
    (ap Some c.bytes.ensures ∙ c.in-Some.ensures.value ∙ ap (λ words. slice_get words 0) c.deref.ensures.value) c.in-Some-lookup.ensures
    (c.arity_ok.ensures ∙ ap (arity_ok (row_of c.in-Some-lookup.command).arity) long) c.if-not-arity_ok.false
