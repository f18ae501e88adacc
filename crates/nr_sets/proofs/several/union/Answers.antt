use Rattle.std.proofs.Common.{◌∙◌, ap, sym, map}
use Rattle.std.proofs.lemmas.List.{drop_all}
use Rattle.std.proofs.lemmas.Result.{IfOk-weaker}
use Rattle.std.specs.Map.Iter.{deref}
use Rattle.nr_sets.specs.Lent.{lent}
use Rattle.nr_sets.proofs.Joined.{joined_with, joined_is}
use Rattle.nr_sets.proofs.several.union.Goals as goal

pub returns : goal.returns
returns c =
    IfOk-weaker c.in_order.result _ _
    (λ members are. ap (map deref) are
    ∙ sym (ap (λ left. joined_with (map deref c.loop-set.joined.keys) (map lent left)) (drop_all c.loop-set.set-index c.args.sets.now c.loop-set-test.false))
    ∙ c.loop-set.invariant ∙ joined_is (map lent c.args.sets.now))
    c.in_order.ensures
