use Rattle.std.proofs.Common.{◌∙◌, ap, length}
use Rattle.nr_model.specs.SortedSets.{ranked}
use Rattle.nr_zsets.proofs.Ranked.{length-ranked}
use Rattle.nr_zsets.proofs.zset.Zset.at.Goals as goal

pub returns-clause-cost : goal.returns-clause-cost
returns-clause-cost g c = λ d few.
    let size = ap length (c.self.invariant.ordered ∙ ap ranked c.self.view_is) ∙ length-ranked c.args.self.now in
    c.at.ensures.cost d (rw size few)
