use Rattle.std.proofs.Common.{arith, ◌≡◌, ap, sym, ◌∙◌}
use Rattle.nr_ordered.specs.Trees.{seen, items_of}
use Rattle.nr_ordered.proofs.Parted.{many_parts}
use Rattle.nr_ordered.proofs.tree.Tree.+count.Goals as goal

pub returns-clause-count : goal.returns-clause-count
returns-clause-count g t c =
    let n = c.deref-node.result.now in
    let is : c.args.self.now.0 ≡ items_of n = ap (λ d. d.0) (sym c.self.view_is ∙ ap seen c.in-Fork.is) ∙ ap items_of (sym c.deref-node.ensures) in
    omega (
      arith,
      many_parts (g.T.Test.passing c.args.test.now) c.args.self.now.0 n.left.0 n.block n.right.0 is,
      c.count-own.ensures.count,
      c.count.ensures.count,
      c.count-2.ensures.count,
    )
