use Rattle.std.proofs.Common.{◌≡◌, ◌<◌, length, ap, refl, subst, sym, ◌∙◌}
use Rattle.nr_ordered.specs.declared.tree.TreeNode.{TreeNode}
use Rattle.nr_ordered.specs.Trees.{seen, items_of, IsBalanced}
use Rattle.nr_ordered.proofs.Parted.{counted_left, counted_here, counted_right, first_fails}
use Rattle.nr_ordered.proofs.tree.Tree.+place_of.Goals as goal

pub is_in_front-requires : goal.is_in_front-requires
is_in_front-requires g t c =
    let balanced = subst IsBalanced c.in-Fork.is c.self.invariant in
    subst (λ (m : TreeNode). 0 < length m.block) (sym c.deref-node.ensures) balanced.5

pub returns-then-not-is_in_front-clause-place : goal.returns-then-not-is_in_front-clause-place
returns-then-not-is_in_front-clause-place g t c =
    let n = c.deref-node.result.now in
    let test = g.C.Cut.parts c.args.cut.now in
    let first = c.is_in_front.ensures in
    let is : c.args.self.now.0 ≡ items_of n = ap (λ d. d.0) (sym c.self.view_is ∙ ap seen c.in-Fork.is) ∙ ap items_of (sym c.deref-node.ensures) in
    let balanced = subst IsBalanced c.in-Fork.is c.self.invariant in
    counted_left test c.args.self.now.0 n.left.0 n.block n.right.0 is 0 c.place_of.result
    (λ parted. first_fails test n.block first.0 first.1 (sym first.2 ∙ c.if-not-is_in_front.true) parted) refl
    (subst (λ (m : TreeNode). 0 < length m.block) (sym c.deref-node.ensures) balanced.5) c.place_of.ensures.place

pub returns-then-behind-gt0-clause-place : goal.returns-then-behind-gt0-clause-place
returns-then-behind-gt0-clause-place g t c =
    let n = c.deref-node.result.now in
    let is : c.args.self.now.0 ≡ items_of n = ap (λ d. d.0) (sym c.self.view_is ∙ ap seen c.in-Fork.is) ∙ ap items_of (sym c.deref-node.ensures) in
    counted_right (g.C.Cut.parts c.args.cut.now) c.args.self.now.0 n.left.0 n.block n.right.0 is c.len-before.result c.len.result c.place_of-behind.result
    c.len-before.ensures.len c.len.ensures.len c.if-behind-gt0.true c.place_of-behind.ensures.place

pub returns-else-behind-gt0-clause-place : goal.returns-else-behind-gt0-clause-place
returns-else-behind-gt0-clause-place g t c =
    let n = c.deref-node.result.now in
    let first = c.is_in_front.ensures in
    let is : c.args.self.now.0 ≡ items_of n = ap (λ d. d.0) (sym c.self.view_is ∙ ap seen c.in-Fork.is) ∙ ap items_of (sym c.deref-node.ensures) in
    counted_here (g.C.Cut.parts c.args.cut.now) c.args.self.now.0 n.left.0 n.block n.right.0 is c.find.result c.len-before.result c.place_of-behind.result
    first.0 first.1 (sym first.2 ∙ c.if-not-is_in_front.false) c.find.ensures.place c.len-before.ensures.len c.place_of-behind.ensures.place c.if-behind-gt0.false
