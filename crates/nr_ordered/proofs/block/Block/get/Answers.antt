use Rattle.std.proofs.Common.{arith, length, ap}
use Rattle.nr_ordered.specs.Blocks.{lens_in}
use Rattle.nr_ordered.proofs.Holding.{many_items}
use Rattle.nr_ordered.proofs.block.Block.get.Goals as goal

pub item_at-requires-clause-within : goal.item_at-requires-clause-within
item_at-requires-clause-within c =
    let b = c.self.inside in
    omega (arith, many_items (lens_in b.lens) b.bytes.items b.numbers.items c.self.invariant.whole.paired, ap length c.self.view_is, b.numbers.ok.0)
