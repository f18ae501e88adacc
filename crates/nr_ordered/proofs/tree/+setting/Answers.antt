use Rattle.std.proofs.Common.{rules, arith, ◌≡◌, ◌-◌, length, refl, ap, subst, ◌∙◌}
use Rattle.nr_ordered.specs.declared.tree.TreeNode.{TreeNode}
use Rattle.nr_ordered.specs.Lists.{renumbered}
use Rattle.nr_ordered.specs.Trees.{items_of, IsBalanced}
use Rattle.nr_ordered.proofs.Places.{set_left, set_here, set_right, length-renumbered}
use Rattle.nr_ordered.proofs.Shapes.{same_shape}
use Rattle.nr_ordered.proofs.tree.+setting.Goals as goal

pub Tree::set-invariant_of-self : goal.Tree::set-invariant_of-self
Tree::set-invariant_of-self t c =
    let was = c.deref_mut.ensures.value in
    let set = c.set_in.ensures in
    same_shape c.in-Fork.height c.in-Fork.count c.in-Fork.node.value c.set_in.new.node
    (ap length set.items ∙ length-renumbered (items_of c.deref_mut.result.now) c.args.place _ ∙ ap (λ (n : TreeNode). length (items_of n)) was)
    (set.left ∙ ap (λ (n : TreeNode). n.left.1) was) (set.right ∙ ap (λ (n : TreeNode). n.right.1) was) (set.some ∙ ap (λ (n : TreeNode). length n.block) was)
    (subst IsBalanced c.in-Fork.is c.self.invariant)

pub edits::set_in-returns-then-place-before-clause-items : goal.edits::set_in-returns-then-place-before-clause-items
edits::set_in-returns-then-place-before-clause-items t c =
    let n = c.args.node.now in
    let set : c.set.new.self.0 ≡ renumbered n.left.0 c.args.place c.args.number = search (rules, c.set.ensures.items) in
    set_left (items_of n) n.left.0 n.block n.right.0 refl c.args.number c.set.new.self.0 c.args.place (omega (arith, c.if-place-before.true, c.len-before.ensures.len)) set

pub edits::set_in-returns-then-place-before-2-clause-items : goal.edits::set_in-returns-then-place-before-2-clause-items
edits::set_in-returns-then-place-before-2-clause-items t c =
    let n = c.args.node.now in
    let set : c.set-then-place-before-2.new.self ≡ renumbered n.block (c.args.place - c.len-before.result) c.args.number = search (rules, c.set-then-place-before-2.ensures) in
    set_here (items_of n) n.left.0 n.block n.right.0 refl c.args.number c.set-then-place-before-2.new.self c.args.place c.len-before.result c.len-before.ensures.len
    c.if-place-before.false (omega (arith, c.if-place-before-2.true, c.len-here.ensures.len)) set

pub edits::set_in-returns-then-place-before-2-clause-some : goal.edits::set_in-returns-then-place-before-2-clause-some
edits::set_in-returns-then-place-before-2-clause-some t c =
    ap length c.set-then-place-before-2.ensures ∙ length-renumbered c.args.node.now.block (c.args.place - c.len-before.result) _

pub edits::set_in-returns-clause-items : goal.edits::set_in-returns-clause-items
edits::set_in-returns-clause-items t c =
    let n = c.args.node.now in
    let set : c.set-2.new.self.0 ≡ renumbered n.right.0 (c.args.place - c.len-before.result - c.len-here.result) c.args.number = search (rules, c.set-2.ensures.items) in
    set_right (items_of n) n.left.0 n.block n.right.0 refl c.args.number c.set-2.new.self.0 c.args.place c.len-before.result c.len-here.result c.len-before.ensures.len
    c.len-here.ensures.len (omega (arith, c.if-place-before.false, c.if-place-before-2.false)) set
