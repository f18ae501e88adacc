use Rattle.std.proofs.Common.{length, ap, sym, ◌∙◌}
use Rattle.nr_ordered.specs.Blocks.{lens_in}
use Rattle.nr_ordered.proofs.Holding.{many_items}
use Rattle.nr_ordered.proofs.block.Block.len.Goals as goal

pub returns-clause-len : goal.returns-clause-len
returns-clause-len c =
    let b = c.self.inside in
    c.len.ensures ∙ b.numbers.ok.0 ∙ sym (many_items (lens_in b.lens) b.bytes.items b.numbers.items c.self.invariant.whole.paired) ∙ ap length c.self.view_is
