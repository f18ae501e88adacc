use Rattle.std.proofs.Common.{ap, ◌∙◌}
use Rattle.nr_packs.specs.Packed.{Entries, entries_in}
use Rattle.nr_packs.specs.Placed.{from, value_first}
use Rattle.nr_packs.proofs.Placed.{found}
use Rattle.nr_packs.proofs.packed.Packed.get.Goals as goal

pub returns : goal.returns
returns c =
    c.place_of.ensures.value ∙ ap (λ (es : Entries). value_first c.args.field.now (from c.args.field.now es)) (ap entries_in c.pairs.ensures.pairs ∙ c.self.view_is)
    ∙ found c.args.field.now c.args.self.now c.requires
