use Rattle.std.proofs.Common.{rules, ◌≡◌, ◌∙◌, ap, length, is_some}
use Rattle.nr_packs.specs.Tables.{held}
use Rattle.nr_packs.proofs.Stored.{found_at, one_of_two, taken_at}
use Rattle.nr_packs.proofs.table.take_in.Goals as goal

pub returns-clause-there : goal.returns-clause-there
returns-clause-there c =
    let count : c.len.result ≡ length c.args.packs.now.items = search rules in
    c.take.ensures.there ∙ one_of_two (held c.args.field.now c.index_mut.result.now) (held c.args.field.now c.args.long.now.entries)
    ∙ ap is_some (found_at c.args.keys.now c.args.level c.len.result c.slot_of-slot.result c.args.packs.now.items c.args.long.now.entries c.index_mut.result.now c.args.field.now c.bytes.result.now
    c.requires c.bytes.ensures count c.slot_of-slot.ensures.slot c.index_mut.ensures.value)

pub returns-clause-taken : goal.returns-clause-taken
returns-clause-taken c =
    let count : c.len.result ≡ length c.args.packs.now.items = search rules in
    (taken_at c.args.keys.now c.args.level c.len.result c.slot_of-slot.result c.args.packs.now.items c.args.long.now.entries c.index_mut.result.now c.take.new.pack c.take.new.long.entries
    c.args.field.now c.bytes.result.now c.requires c.bytes.ensures count c.slot_of-slot.ensures.slot c.index_mut.ensures.value c.take.ensures.pack c.take.ensures.long).1

pub returns-clause-stored : goal.returns-clause-stored
returns-clause-stored c =
    let count : c.len.result ≡ length c.args.packs.now.items = search rules in
    (taken_at c.args.keys.now c.args.level c.len.result c.slot_of-slot.result c.args.packs.now.items c.args.long.now.entries c.index_mut.result.now c.take.new.pack c.take.new.long.entries
    c.args.field.now c.bytes.result.now c.requires c.bytes.ensures count c.slot_of-slot.ensures.slot c.index_mut.ensures.value c.take.ensures.pack c.take.ensures.long).0
