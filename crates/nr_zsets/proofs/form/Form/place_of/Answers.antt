use Rattle.std.proofs.Common.{ap, sym, ◌∙◌, length}
use Rattle.nr_ordered.specs.Lists.{front}
use Rattle.nr_ordered.proofs.Heights.{few_ticks}
use Rattle.nr_ordered.proofs.Parted.{front_is}
use Rattle.nr_zsets.specs.Forms.{items_of}
use Rattle.nr_zsets.proofs.form.Form.place_of.Goals as goal

pub returns-in-Large-clause-cost : goal.returns-in-Large-clause-cost
returns-in-Large-clause-cost g c = λ d. few_ticks _ _ _ d _ _ c.place_of.ensures.full (ap (λ form. length (items_of form)) (sym c.in-Large.is)) c.place_of.ensures.cost

pub returns-in-Packed-clause-place : goal.returns-in-Packed-clause-place
returns-in-Packed-clause-place g c =
    let is = ap (λ form. items_of form) c.in-Packed.is in
    λ parted. c.front_of.ensures ∙ ap (front (g.C.Cut.parts c.args.cut.now)) (sym is) ∙ front_is (g.C.Cut.parts c.args.cut.now) (items_of c.args.self.now) parted
