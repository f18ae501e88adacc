use Rattle.std.proofs.Common.{rules, arith, ◌≡◌, ◌-◌, ◌++◌, refl, ap, ◌∙◌}
use Rattle.std.specs.List.{insert}
use Rattle.nr_ordered.specs.Lists.{Item}
use Rattle.nr_ordered.specs.Trees.{items_of}
use Rattle.nr_ordered.proofs.Places.{put_here, put_right}
use Rattle.nr_ordered.proofs.tree.+putting.Goals as goal

pub edits::put_in-returns-then-place-before-2-clause-put : goal.edits::put_in-returns-then-place-before-2-clause-put
edits::put_in-returns-then-place-before-2-clause-put t c =
    let n = c.args.node.now in
    let item : Item = (c.args.bytes.now, c.args.number) in
    let put : c.put-then-place-before-2.new.self.0 ≡ insert n.right.0 (c.args.place - c.len-before.result - c.len-here.result) item =
    search (rules, c.in_ok-put-2.ensures.put) in
    put_right (items_of n) n.left.0 n.block n.right.0 refl c.put-then-place-before-2.new.self.0 item c.args.place c.len-before.result c.len-here.result
    c.len-before.ensures.len c.len-here.ensures.len (omega (arith, c.if-place-before.false, c.if-place-before-2.true)) put

pub edits::put_in-returns-clause-put : goal.edits::put_in-returns-clause-put
edits::put_in-returns-clause-put t c =
    let n = c.args.node.now in
    let m = c.put_here.new.node in
    let item : Item = (c.args.bytes.now, c.args.number) in
    let put : m.block ++ m.right.0 ≡ insert n.block (c.args.place - c.len-before.result) item ++ n.right.0 = search (rules, c.in_ok-put_here.ensures.put) in
    ap (λ d. d.0 ++ (m.block ++ m.right.0)) c.in_ok-put_here.ensures.left
    ∙ put_here (items_of n) n.left.0 n.block n.right.0 refl m.block m.right.0 item c.args.place c.len-before.result
    c.len-before.ensures.len c.if-place-before.false (omega (arith, c.if-place-before-2.false, c.len-here.ensures.len)) put
