use Rattle.std.proofs.Common.{◌≡◌, ap, sym, ◌∙◌}
use Rattle.nr_ordered.specs.Lists.{shown}
use Rattle.nr_ordered.specs.Trees.{seen, items_of}
use Rattle.nr_ordered.proofs.Parted.{first_in_left, first_in_middle, first_in_right}
use Rattle.nr_ordered.proofs.tree.Tree.+first.Goals as goal

pub returns-in-Some : goal.returns-in-Some
returns-in-Some g t c =
    let n = c.deref-node.result.now in
    let is : c.args.self.now.0 ≡ items_of n = ap (λ d. d.0) (sym c.self.view_is ∙ ap seen c.in-Fork.is) ∙ ap items_of (sym c.deref-node.ensures) in
    first_in_left (g.T.Test.passing c.args.test.now) c.args.self.now.0 n.left.0 n.block n.right.0 is (shown c.in-Some.item) c.in-Some.ensures

pub returns-in-Some-first : goal.returns-in-Some-first
returns-in-Some-first g t c =
    let n = c.deref-node.result.now in
    let is : c.args.self.now.0 ≡ items_of n = ap (λ d. d.0) (sym c.self.view_is ∙ ap seen c.in-Fork.is) ∙ ap items_of (sym c.deref-node.ensures) in
    first_in_middle (g.T.Test.passing c.args.test.now) c.args.self.now.0 n.left.0 n.block n.right.0 is (shown c.in-Some-first.item)
    c.in_default-first.ensures c.in-Some-first.ensures

pub returns : goal.returns
returns g t c =
    let n = c.deref-node.result.now in
    let is : c.args.self.now.0 ≡ items_of n = ap (λ d. d.0) (sym c.self.view_is ∙ ap seen c.in-Fork.is) ∙ ap items_of (sym c.deref-node.ensures) in
    first_in_right (g.T.Test.passing c.args.test.now) c.args.self.now.0 n.left.0 n.block n.right.0 is _
    c.in_default-first.ensures c.in_default-first-2.ensures c.first-3.ensures
