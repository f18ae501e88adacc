use Rattle.std.proofs.Common.{◌∙◌}
use Rattle.nr_blob.proofs.Compared.{by_lengths}
use Rattle.nr_blob.proofs.order.compare.Goals as goal

pub returns : goal.returns
returns c = c.cmp-2.ensures ∙ by_lengths c.min-both.result c.args.left.now c.args.right.now c.min-both.ensures (c.read_apart-first.ensures.alike c.if-first-second.false)
