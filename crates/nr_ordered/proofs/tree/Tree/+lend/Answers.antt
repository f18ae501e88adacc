use Rattle.std.proofs.Common.{◌≡◌, ◌+◌, ◌++◌, length, ap, sym, ◌∙◌}
use Rattle.nr_model.specs.SortedSets.{told_in}
use Rattle.nr_ordered.specs.declared.tree.TreeNode.{TreeNode}
use Rattle.nr_ordered.specs.Trees.{seen, items_of}
use Rattle.nr_ordered.proofs.Parts.{length-told, lent_all}
use Rattle.nr_ordered.proofs.tree.Tree.+lend.Goals as goal

pub returns-clause-items : goal.returns-clause-items
returns-clause-items t c =
    let direction = c.args.direction in
    let n = c.deref-node.result.now in
    let first = told_in direction c.sides.result.0.now.0 in
    let own = told_in direction n.block in
    let second = told_in direction c.sides.result.1.now.0 in
    let is : told_in direction c.args.self.now.0 ≡ first ++ (own ++ second) =
    ap (λ d. told_in direction d.0) (sym c.self.view_is ∙ ap seen c.in-Fork.is)
    ∙ ap (λ (m : TreeNode). told_in direction (items_of m)) (sym c.deref-node.ensures) ∙ c.sides.ensures.told in
    let here : c.len-2.result ≡ length own = c.len-2.ensures.len ∙ sym (length-told direction n.block) in
    let lent = rw (c.saturating_sub.ensures, c.saturating_sub-2.ensures) at c.lend-2.ensures.items in
    let rest = rw (c.saturating_sub-3.ensures, c.saturating_sub-4.ensures) at c.lend-3.ensures.items in
    lent_all _ _ _ _ _ first own second c.args.from c.args.to c.len-before.result (c.len-before.result + c.len-2.result) is
    (c.len-before.ensures.len ∙ sym (length-told direction c.sides.result.0.now.0)) (ap (λ k. c.len-before.result + k) here) c.lend.ensures.items lent rest
