use Rattle.std.proofs.Common.{arith, suc, ◌≡◌, ◌-◌, ◌+◌, ◌++◌, take, drop, refl, ap, ◌∙◌}
use Rattle.nr_ordered.specs.Trees.{items_of}
use Rattle.nr_ordered.proofs.Places.{took_here, took_right, took_all}
use Rattle.nr_ordered.proofs.tree.+removing.Goals as goal

pub edits::remove_in-returns-then-place-before-2-clause-items : goal.edits::remove_in-returns-then-place-before-2-clause-items
edits::remove_in-returns-then-place-before-2-clause-items t c =
    let n = c.args.node.now in
    took_right (items_of n) n.left.0 n.block n.right.0 refl c.remove-then-place-before-2.new.self.0 c.args.place c.len-before.result c.len-here.result
    c.len-before.ensures.len c.len-here.ensures.len (omega (arith, c.if-place-before.false, c.if-place-before-2.true)) c.remove-then-place-before-2.ensures.items

pub edits::remove_in-returns-then-here-gt1-clause-items : goal.edits::remove_in-returns-then-here-gt1-clause-items
edits::remove_in-returns-then-here-gt1-clause-items t c =
    let n = c.args.node.now in
    let k = c.args.place - c.len-before.result in
    let next : k + 1 ≡ suc k = omega arith in
    took_here (items_of n) n.left.0 n.block n.right.0 refl c.cut.new.self c.args.place c.len-before.result
    c.len-before.ensures.len c.if-place-before.false (omega (arith, c.if-place-before-2.false, c.len-here.ensures.len))
    (c.cut.ensures ∙ ap (λ i. take k n.block ++ drop i n.block) next)

pub edits::remove_in-returns-then-len-gt0-clause-items : goal.edits::remove_in-returns-then-len-gt0-clause-items
edits::remove_in-returns-then-len-gt0-clause-items t c =
    let n = c.args.node.now in
    c.fill_from_right.ensures.items ∙ took_all (items_of n) n.left.0 n.block n.right.0 refl c.args.place c.len-before.result
    c.len-before.ensures.len c.if-place-before.false (omega (arith, c.if-place-before-2.false, c.len-here.ensures.len)) (omega (arith, c.if-here-gt1.false, c.len-here.ensures.len))
