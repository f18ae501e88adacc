use Rattle.std.proofs.Common.{◌∙◌, ap, [], ◌∷◌, rules}
use Rattle.nr_lists.proofs.Packed.{lone_is}
use Rattle.nr_lists.proofs.block.Block.into_item.Goals as goal

pub returns : goal.returns
returns c =
    lone_is c.self.inside.lens.items c.self.inside.bytes c.args.self c.self.view_is c.self.invariant c.requires ∙ ap (λ x. x ∷ []) (search rules)
