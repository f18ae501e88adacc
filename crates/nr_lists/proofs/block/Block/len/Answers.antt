use Rattle.std.proofs.Common.{ℕ, List, length, ap, sym, ◌∙◌}
use Rattle.nr_model.specs.Bytes.{Bytes}
use Rattle.nr_lists.specs.Packed.{lens_of}
use Rattle.nr_lists.proofs.Packed.{many_items}
use Rattle.nr_lists.proofs.block.Block.len.Goals as goal

pub returns-clause-len : goal.returns-clause-len
returns-clause-len c =
    let n = length c.self.inside.bytes in
    c.count.ensures.count n ∙ ap (λ (lens : List ℕ). length (lens_of lens n)) c.deref.ensures.value ∙ sym (many_items c.self.inside.lens.items c.self.inside.bytes)
    ∙ ap (λ (items : List Bytes). length items) c.self.view_is
