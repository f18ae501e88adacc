-- Nodes that keep their shape.
use Rattle.std.proofs.Common.{◌≡◌, ℕ, ◌+◌, ◌≤◌, ◌++◌, max, length, sym, ap, subst, ◌∙◌, arith, length-append}
use Rattle.nr_ordered.specs.declared.tree.TreeNode.{TreeNode}
use Rattle.nr_ordered.specs.Trees.{counted, items_of, IsEven, IsFull}
use Rattle.nr_ordered.proofs.Heights.{none_low}

-- another node of as many items over sides of the same heights
pub same_shape : (height count : ℕ) (n m : TreeNode) → length (items_of m) ≡ length (items_of n) → m.left.1 ≡ n.left.1 → m.right.1 ≡ n.right.1
    → length m.block ≡ length n.block → IsEven height count n → IsEven height count m
same_shape height count n m size left right own even = (
  even.0 ∙ ap counted (sym size),
  even.1 ∙ (λ i. max (sym left i) (sym right i) + 1),
  (omega (arith, even.2.0, left, right), omega (arith, even.2.1, left, right)),
  subst (λ (k : ℕ). IsFull height k) (sym size) even.3,
  omega (arith, even.4, size),
  omega (arith, even.5, own),
)

pub size_of : (n : TreeNode) → length (items_of n) ≡ length n.left.0 + length n.block + length n.right.0
size_of n = omega (arith, length-append n.left.0 (n.block ++ n.right.0), length-append n.block n.right.0)

-- a node of one item
pub lone : (height count : ℕ) (n : TreeNode) → IsEven height count n → length n.block ≤ 1 → length n.left.0 ≡ 0 → length n.right.0 ≡ 0
    → IsFull n.left.1 (length n.left.0) → IsFull n.right.1 (length n.right.0) → (length (items_of n) ≡ 1) × (height ≡ 1)
lone height count n even one left right full_l full_r =
    let l = none_low n.left.1 (subst (λ (k : ℕ). IsFull n.left.1 k) left full_l) in
    let r = none_low n.right.1 (subst (λ (k : ℕ). IsFull n.right.1 k) right full_r) in
    (omega (arith, size_of n, one, left, right, even.5), omega (arith, even.1, l, r))
