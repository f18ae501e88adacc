use Rattle.std.proofs.Common.{arith, refl, ◌≡◌, ◌<◌, ◌+◌, ◌++◌, max, length, length-append, sym, ap, ◌∙◌}
use Rattle.nr_ordered.specs.declared.tree.TreeNode.{TreeNode}
use Rattle.nr_ordered.specs.Trees.{counted, joined}
use Rattle.nr_ordered.proofs.Heights.{full_more}
use Rattle.nr_ordered.proofs.tree.balance.even.Goals as goal

pub returns : goal.returns
returns c =
    let r = c.requires in
    let over = c.over-node.ensures in
    let left = c.args.left in
    let right = c.args.right in
    let block = c.args.node.value.block in
    let here : c.len-2.result ≡ length block = c.len-2.ensures.len ∙ ap (λ (n : TreeNode). length n.block) c.deref.ensures in
    let size : length (joined left block right) ≡ length left.0 + length block + length right.0 =
    omega (arith, length-append left.0 (block ++ right.0), length-append block right.0) in
    let height : c.max-height.result + 1 ≡ max left.1 right.1 + 1 = omega (arith, c.max-height.ensures, c.height.ensures.height, c.height-2.ensures.height) in
    let kept : c.counted-count.result ≡ counted (length left.0 + length block + length right.0) =
    c.counted-count.ensures ∙ ap counted (λ i. c.len.ensures.len i + here i + c.len-3.ensures.len i) in
    let some : 0 < length block = omega (arith, here, c.len-2.ensures.some) in
    let full = full_more left.1 right.1 (length left.0) (length block) (length right.0) r.even c.len.ensures.full c.len-3.ensures.full some in
    record {
      balanced = rw (over.left, over.right, over.block, kept, height) (ap counted (sym size), refl, r.even, rw size full, rw size r.fits, some);
      items = rw (over.left, over.right, over.block) refl;
      not_lower = omega (arith, height);
      at_most_one_higher = omega (arith, height);
      even = λ _. height;
    }
