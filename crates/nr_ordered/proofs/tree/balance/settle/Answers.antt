use Rattle.std.proofs.Common.{arith, refl, ◌≡◌, ◌+◌, ◌++◌, ◌<◌, max, length, length-append, sym, ap, subst, ◌∙◌}
use Rattle.nr_ordered.specs.declared.tree.TreeNode.{TreeNode}
use Rattle.nr_ordered.specs.declared.tree.Link.{Link}
use Rattle.nr_ordered.specs.declared.tree.Link.TheVariants.{Fork}
use Rattle.nr_ordered.specs.Trees.{counted, items_of, IsNear, Settles, DifferByAtMost, IsFull}
use Rattle.nr_ordered.proofs.Heights.{full_more}
use Rattle.nr_ordered.proofs.tree.balance.settle.Goals as goal

pub returns-then-has_height : goal.returns-then-has_height
returns-then-has_height c =
    let n = c.in-Fork.node.value in
    let near = subst IsNear c.in-Fork.is c.requires in
    let l : c.height.result ≡ n.left.1 = c.height.ensures.height ∙ ap (λ (m : TreeNode). m.left.1) c.deref.ensures in
    let r : c.height-2.result ≡ n.right.1 = c.height-2.ensures.height ∙ ap (λ (m : TreeNode). m.right.1) c.deref-2.ensures in
    let a : c.len.result ≡ length n.left.0 = c.len.ensures.len ∙ ap (λ (m : TreeNode). length m.left.0) c.deref-then-has_height.ensures in
    let k : c.len-then-has_height.result ≡ length n.block = c.len-then-has_height.ensures.len ∙ ap (λ (m : TreeNode). length m.block) c.deref-then-has_height-2.ensures in
    let b : c.len-then-has_height-2.result ≡ length n.right.0 = c.len-then-has_height-2.ensures.len ∙ ap (λ (m : TreeNode). length m.right.0) c.deref-then-has_height-3.ensures in
    let size : length (items_of n) ≡ length n.left.0 + length n.block + length n.right.0 =
    omega (arith, length-append n.left.0 (n.block ++ n.right.0), length-append n.block n.right.0) in
    let even_now = c.if-has_height.ensures.even refl in
    let even : DifferByAtMost 1 n.left.1 n.right.1 = (omega (arith, even_now.0, l, r), omega (arith, even_now.1, l, r)) in
    let height : c.in-Fork.height ≡ max n.left.1 n.right.1 + 1 = c.if-has_height.ensures.height refl ∙ (λ i. max (l i) (r i) + 1) in
    let some : 0 < length n.block = omega (arith, k, c.len-then-has_height.ensures.some) in
    let full_l = subst (λ (m : TreeNode). IsFull m.left.1 (length m.left.0)) c.deref-then-has_height.ensures c.len.ensures.full in
    let full_r = subst (λ (m : TreeNode). IsFull m.right.1 (length m.right.0)) c.deref-then-has_height-3.ensures c.len-then-has_height-2.ensures.full in
    let full = full_more n.left.1 n.right.1 (length n.left.0) (length n.block) (length n.right.0) even full_l full_r some in
    let kept : c.counted.result ≡ counted (length n.left.0 + length n.block + length n.right.0) = c.counted.ensures ∙ ap counted (λ i. a i + k i + b i) in
    subst (λ (old : Link). Settles old (Fork c.in-Fork.height c.counted.result c.in-Fork.node)) (sym c.in-Fork.is) (record {
      balanced = rw (kept, height) (ap counted (sym size), refl, even, rw size full, near.1, some);
      items = refl;
      not_lower = omega (arith, height);
      at_most_one_higher = omega (arith, height);
      even = λ _. height;
    })
