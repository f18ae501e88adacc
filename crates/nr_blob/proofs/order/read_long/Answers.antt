use Rattle.std.proofs.Common.{◌+◌, arith}
use Rattle.nr_blob.proofs.Compared.{window, fewer, at_once}
use Rattle.nr_blob.proofs.order.read_long.Goals as goal

pub returns-then-first-second : goal.returns-then-first-second
returns-then-first-second c =
    let xs = c.args.left.now in
    let ys = c.args.right.now in
    let place = c.loop-place.place in
    let more = c.loop-place-test.true in
    at_once xs ys (place + 8) (c.args.last + 8) _ _ c.if-first-second.true
    (window place 8 _ _ xs ys c.type_inv.left c.type_inv.right (omega (arith, c.requires.left, more)) (omega (arith, c.requires.right, more))
    c.read_eight-first.ensures c.read_eight-second.ensures c.loop-place.invariant)

pub loop-place-preserved : goal.loop-place-preserved
loop-place-preserved c =
    let xs = c.args.left.now in
    let ys = c.args.right.now in
    let place = c.loop-place.place in
    let more = c.loop-place-test.true in
    (window place 8 _ _ xs ys c.type_inv.left c.type_inv.right (omega (arith, c.requires.left, more)) (omega (arith, c.requires.right, more))
    c.read_eight-first.ensures c.read_eight-second.ensures c.loop-place.invariant).alike c.if-first-second.false

pub returns : goal.returns
returns c =
    let xs = c.args.left.now in
    let ys = c.args.right.now in
    let place = c.loop-place.place in
    window c.args.last 8 _ _ xs ys c.type_inv.left c.type_inv.right c.requires.left c.requires.right c.read_eight.ensures c.read_eight-2.ensures
    (fewer c.args.last place xs ys (omega (arith, c.loop-place-test.false)) c.loop-place.invariant)
