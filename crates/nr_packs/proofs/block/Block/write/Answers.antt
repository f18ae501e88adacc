use Rattle.std.proofs.Common.{rules, ◌+◌, ◌++◌, ℕ, length, take, drop, refl, ap, ◌∙◌}
use Rattle.nr_model.specs.Bytes.{Bytes}
use Rattle.nr_packs.proofs.Counted.{counted_over}
use Rattle.nr_packs.proofs.block.Block.write.Goals as goal

pub returns : goal.returns
returns c =
    let text = c.args.bytes.now in
    counted_over c.args.start _ c.self.inside.bytes.items text c.write.new.bytes.items (search rules) refl c.write.ensures
    ∙ ap (λ (b : ℕ × Bytes). (b.0, take c.args.start b.1 ++ (text ++ drop (c.args.start + length text) b.1))) c.self.view_is
