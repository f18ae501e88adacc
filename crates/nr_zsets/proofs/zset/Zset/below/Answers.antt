use Rattle.std.proofs.Common.{◌∙◌, ap, length}
use Rattle.nr_model.specs.SortedSets.{ranked, Highest}
use Rattle.nr_zbounds.specs.Seen.{seen_score}
use Rattle.nr_zsets.specs.Forms.{items_of}
use Rattle.nr_zsets.proofs.Ranges.{before_counted}
use Rattle.nr_zsets.proofs.Ranked.{length-ranked}
use Rattle.nr_zsets.proofs.zset.Zset.below.Goals as goal

pub returns-clause-count : goal.returns-clause-count
returns-clause-count g c =
    before_counted (seen_score c.args.min) Highest (items_of c.self.inside.form) c.args.self.now c.place_of.result
    (c.self.invariant.ordered ∙ ap ranked c.self.view_is) c.place_of.ensures.place

pub returns-clause-cost : goal.returns-clause-cost
returns-clause-cost g c = λ d few.
    let size = ap length (c.self.invariant.ordered ∙ ap ranked c.self.view_is) ∙ length-ranked c.args.self.now in
    c.place_of.ensures.cost d (rw size few)
