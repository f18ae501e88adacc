use Rattle.std.proofs.Common.{ap}
use Rattle.nr_sets.specs.Lent.{lent}
use Rattle.nr_sets.proofs.Common.{none_in_common, none_first}
use Rattle.nr_sets.proofs.several.smallest.Goals as goal

pub returns-in_default-first-clause-none : goal.returns-in_default-first-clause-none
returns-in_default-first-clause-none c =
    none_first lent c.args.sets.now c.in-Some.first.now _ c.in-Some.ensures.cases.0 (ap lent c.in_default-first.is)

pub returns-in_default-set-clause-none : goal.returns-in_default-set-clause-none
returns-in_default-set-clause-none c =
    none_in_common lent c.args.sets.now c.loop-place.place c.index-sets-place.result c.loop-place-test.true c.index-sets-place.is (ap lent c.in_default-set.is)
