use Rattle.std.proofs.Common.{sym, subst}
use Rattle.nr_ordered.specs.Trees.{IsBalanced}
use Rattle.nr_ordered.proofs.Heights.{full_low}
use Rattle.nr_ordered.proofs.tree.Tree.height.Goals as goal

pub returns-in-Fork-clause-low : goal.returns-in-Fork-clause-low
returns-in-Fork-clause-low c =
    let good = subst IsBalanced c.in-Fork.is c.self.invariant in
    let is = sym c.self.view_is in
    rw (is, c.in-Fork.is) (full_low _ _ good.3 good.4)
