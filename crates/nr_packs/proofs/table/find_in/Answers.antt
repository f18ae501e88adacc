use Rattle.std.proofs.Common.{◌∙◌, length, refl}
use Rattle.nr_packs.proofs.Stored.{found_at}
use Rattle.nr_packs.proofs.table.find_in.Goals as goal

pub returns : goal.returns
returns c =
    c.find.ensures
    ∙ found_at c.args.keys.now c.args.level (length c.args.packs.now) c.slot_of-slot.result c.args.packs.now c.args.long.now.entries c.index-packs-slot.result c.args.field.now c.bytes.result.now
    c.requires c.bytes.ensures refl c.slot_of-slot.ensures.slot c.index-packs-slot.is
