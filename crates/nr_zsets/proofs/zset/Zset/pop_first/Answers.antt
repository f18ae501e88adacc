use Rattle.std.proofs.Common.{◌∷◌, ap, sym, ◌∙◌, arith}
use Rattle.std.specs.FinMap as finmap
use Rattle.nr_model.specs.SortedSets.{ranked, told_in}
use Rattle.nr_zsets.proofs.Parts.{told_first}
use Rattle.nr_zsets.proofs.Ranked.{length-ranked}
use Rattle.nr_zsets.proofs.zset.Zset.pop_first.Goals as goal

pub returns-then-len-eq0-clause-none : goal.returns-then-len-eq0-clause-none
returns-then-len-eq0-clause-none c = finmap.empty_of_len c.args.self.now (omega (arith, c.len-len.ensures.len, c.if-len-eq0.true))

pub returns-clause-told : goal.returns-clause-told
returns-clause-told c =
    let xs = ranked c.args.self.now in
    told_first c.args.direction xs c.in_ok-popped.popped c.len-len.result c.told.result (c.len-len.ensures.len ∙ sym (length-ranked c.args.self.now))
    (omega (arith, c.if-len-eq0.false)) c.told.ensures.place c.in_ok-popped.ensures.item
    ∙ ap (λ ys. c.in_ok-popped.popped ∷ told_in c.args.direction ys) (sym c.in_ok-popped.ensures.left)
