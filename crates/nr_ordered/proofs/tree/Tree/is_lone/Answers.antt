use Rattle.std.proofs.Common.{arith, ◌≡◌, ◌≤◌, nat_eq, true, length, ap, subst, sym, ◌∙◌}
use Rattle.std.proofs.lemmas.Bool.{eqb-true}
use Rattle.nr_ordered.specs.declared.tree.TreeNode.{TreeNode}
use Rattle.nr_ordered.specs.Trees.{seen, IsBalanced, IsFull}
use Rattle.nr_ordered.proofs.Shapes.{lone}
use Rattle.nr_ordered.proofs.tree.Tree.is_lone.Goals as goal

pub returns-else-len-gt0-clause-one : goal.returns-else-len-gt0-clause-one
returns-else-len-gt0-clause-one c = λ (same : nat_eq c.len-in-Fork-2.result 0 ≡ true).
    let n = c.in-Fork.node.value in
    let is = sym c.self.view_is ∙ ap seen c.in-Fork.is in
    let block : length n.block ≤ 1 = omega (arith, c.len.ensures.len, ap (λ (m : TreeNode). length m.block) c.deref.ensures, c.if-len-gt1.false) in
    let left : length n.left.0 ≡ 0 = omega (arith, c.len-in-Fork.ensures.len, ap (λ (m : TreeNode). length m.left.0) c.deref-in-Fork.ensures, c.if-len-gt0.false) in
    let right : length n.right.0 ≡ 0 = omega (arith, c.len-in-Fork-2.ensures.len, ap (λ (m : TreeNode). length m.right.0) c.deref-in-Fork-2.ensures, eqb-true c.len-in-Fork-2.result 0 same) in
    let one = lone c.in-Fork.height c.in-Fork.count n (subst IsBalanced c.in-Fork.is c.self.invariant) block left right
    (subst (λ (m : TreeNode). IsFull m.left.1 (length m.left.0)) c.deref-in-Fork.ensures c.len-in-Fork.ensures.full)
    (subst (λ (m : TreeNode). IsFull m.right.1 (length m.right.0)) c.deref-in-Fork-2.ensures c.len-in-Fork-2.ensures.full) in
    (ap (λ d. length d.0) is ∙ one.0, ap (λ d. d.1) is ∙ one.1)
