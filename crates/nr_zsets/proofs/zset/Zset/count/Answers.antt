use Rattle.std.proofs.Common.{ap, ◌∙◌, arith, length}
use Rattle.nr_model.specs.SortedSets.{ranked}
use Rattle.nr_ordered.proofs.Parts.{length-part}
use Rattle.nr_zsets.proofs.Ranked.{length-ranked}
use Rattle.nr_zsets.proofs.zset.Zset.count.Goals as goal

pub returns-in-Some-clause-count : goal.returns-in-Some-clause-count
returns-in-Some-clause-count c =
    let size = length-part c.in-Some.low c.in-Some.high (ranked c.args.self.now) in
    omega (arith, c.saturating_sub.ensures, size, ap length c.in-Some.ensures.between, c.in-Some.ensures.high, length-ranked c.args.self.now)

pub returns-in-Some-clause-small : goal.returns-in-Some-clause-small
returns-in-Some-clause-small c = omega (arith, c.saturating_sub.ensures, c.in-Some.ensures.high, c.len-len.ensures.len, c.len-len.ensures.small)

pub returns-in-None-clause-small : goal.returns-in-None-clause-small
returns-in-None-clause-small c =
    let size = ap length (c.self.invariant.ordered ∙ ap ranked c.self.view_is) ∙ length-ranked c.args.self.now in
    omega (arith, size, c.count.ensures.within, c.len-len.ensures.len, c.len-len.ensures.small)
