use Rattle.std.proofs.Common.{ap, ◌∙◌}
use Rattle.nr_packs.specs.Packed.{Entries}
use Rattle.nr_zsets.specs.Forms.{item_of, items_in}
use Rattle.nr_zsets.proofs.Walks.{map-remove}
use Rattle.nr_zsets.proofs.block.take.Goals as goal

pub returns : goal.returns
returns c = ap (λ (es : Entries). items_in es) c.remove_at.ensures ∙ map-remove item_of c.args.pairs.now c.args.place
