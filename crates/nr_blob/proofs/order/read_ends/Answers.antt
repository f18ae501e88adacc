use Rattle.std.proofs.Common.{◌+◌, refl, arith}
use Rattle.nr_blob.proofs.Compared.{window, fewer, joined}
use Rattle.nr_blob.proofs.order.read_ends.Goals as goal

pub returns : goal.returns
returns c =
    let xs = c.args.left.now in
    let ys = c.args.right.now in
    let within = c.requires.left in
    let there = c.requires.right in
    joined 4 (c.args.last + 4) _ _ _ _ xs ys c.read_four-2.ensures.small c.read_four-4.ensures.small
    (window 0 4 _ _ xs ys c.type_inv.left c.type_inv.right (omega arith) (omega arith) c.read_four.ensures.value c.read_four-3.ensures.value refl)
    (λ same. window c.args.last 4 _ _ xs ys c.type_inv.left c.type_inv.right within there c.read_four-2.ensures.value c.read_four-4.ensures.value
    (fewer c.args.last 4 xs ys c.requires.overlap same))
