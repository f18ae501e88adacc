use Rattle.std.proofs.Common.{◌≡◌, ap, ◌∙◌, arith, length, true}
use Rattle.nr_model.specs.SortedSets.{ranked}
use Rattle.nr_zbounds.specs.Ranges.{seen_bounds}
use Rattle.nr_zsets.specs.Forms.{items_of}
use Rattle.nr_zsets.proofs.Ranges.{between_part}
use Rattle.nr_zsets.proofs.Ranked.{length-ranked}
use Rattle.nr_zsets.proofs.zset.Zset.ends.Goals as goal

pub returns-clause-between : goal.returns-clause-between
returns-clause-between c =
    let together : c.stand_together.result ≡ true = search (c.if-not-stand_together.false) in
    between_part (seen_bounds c.args.bounds.now) (items_of c.self.inside.form) c.args.self.now c.find-low.result c.find-high.result
    (c.self.invariant.ordered ∙ ap ranked c.self.view_is) (c.stand_together.ensures.they_do together) c.find-low.ensures.place c.find-high.ensures.place

pub returns-clause-low : goal.returns-clause-low
returns-clause-low c =
    let size = ap length (c.self.invariant.ordered ∙ ap ranked c.self.view_is) ∙ length-ranked c.args.self.now in
    omega (arith, size, c.find-low.ensures.within)

pub returns-clause-high : goal.returns-clause-high
returns-clause-high c =
    let size = ap length (c.self.invariant.ordered ∙ ap ranked c.self.view_is) ∙ length-ranked c.args.self.now in
    omega (arith, size, c.find-high.ensures.within)
