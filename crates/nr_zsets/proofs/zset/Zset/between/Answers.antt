use Rattle.std.proofs.Common.{◌≡◌, ◌+◌, ◌-◌, ap, sym, ◌∙◌, arith}
use Rattle.std.proofs.lemmas.Result.{IfOk-weaker}
use Rattle.nr_model.specs.SortedSets.{ranked}
use Rattle.nr_zbounds.specs.Ranges.{seen_bounds}
use Rattle.nr_zsets.specs.Lists.{fewest}
use Rattle.nr_zsets.proofs.Ranges.{lent_between}
use Rattle.nr_zsets.proofs.Ranked.{length-ranked}
use Rattle.nr_zsets.proofs.zset.Zset.between.Goals as goal

pub returns : goal.returns
returns c =
    let from = c.ends_told-first.result.0 + c.min.result in
    let limit : c.limited-most.result ≡ fewest c.args.count (c.ends_told-first.result.1 - from) = c.limited-most.ensures.limited ∙ ap (fewest c.args.count) (omega (arith, c.min.ensures, c.saturating_sub.ensures, c.saturating_sub-2.ensures)) in
    let is = lent_between c.args.direction (seen_bounds c.args.bounds.now) (ranked c.args.self.now) c.in-Some.low c.in-Some.high c.len.result
    c.args.offset from c.limited-most.result c.args.count c.ends_told-first.result c.in-Some.ensures.between
    (c.len.ensures.len ∙ sym (length-ranked c.args.self.now)) (omega (arith, c.in-Some.ensures.high, c.len.ensures.len)) c.ends_told-first.ensures.ends
    (omega (arith, c.min.ensures, c.saturating_sub.ensures)) limit in
    IfOk-weaker c.by_place.result _ _ (λ lent h. h ∙ is) c.by_place.ensures
