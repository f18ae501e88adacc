use Rattle.std.proofs.Common.{ap, sym, ◌∙◌, arith}
use Rattle.nr_ordered.specs.Lists.{front}
use Rattle.nr_ordered.proofs.Parted.{front_is, front_within}
use Rattle.nr_zsets.specs.Forms.{items_of}
use Rattle.nr_zsets.proofs.form.Form.find.Goals as goal

pub returns-in-Packed-clause-place : goal.returns-in-Packed-clause-place
returns-in-Packed-clause-place g c =
    let is = ap (λ form. items_of form) c.in-Packed.is in
    λ parted. c.front_of.ensures ∙ ap (front (g.C.Cut.parts c.args.cut.now)) (sym is) ∙ front_is (g.C.Cut.parts c.args.cut.now) (items_of c.args.self.now) parted

pub returns-in-Packed-clause-within : goal.returns-in-Packed-clause-within
returns-in-Packed-clause-within g c =
    let is = ap (λ form. front (g.C.Cut.parts c.args.cut.now) (items_of form)) c.in-Packed.is in
    omega (arith, c.front_of.ensures, is, front_within (g.C.Cut.parts c.args.cut.now) (items_of c.args.self.now))
