use Rattle.std.proofs.Common.{rules, ◌≡◌, ◌∙◌, ap, length, is_some, not}
use Rattle.nr_packs.specs.Tables.{held}
use Rattle.nr_packs.proofs.Stored.{found_at, none_of_two, put_at}
use Rattle.nr_packs.proofs.table.put_in.Goals as goal

pub returns-clause-new : goal.returns-clause-new
returns-clause-new c =
    let count : c.len.result ≡ length c.args.packs.now.items = search rules in
    c.in_ok-is_new.ensures.new ∙ none_of_two (held c.args.field.now c.index_mut.result.now) (held c.args.field.now c.args.long.now.entries)
    ∙ ap (λ found. not (is_some found)) (found_at c.args.keys.now c.args.level c.len.result c.slot_of-slot.result c.args.packs.now.items c.args.long.now.entries c.index_mut.result.now
    c.args.field.now c.bytes.result.now c.requires c.bytes.ensures count c.slot_of-slot.ensures.slot c.index_mut.ensures.value)

pub returns-clause-put : goal.returns-clause-put
returns-clause-put c =
    let count : c.len.result ≡ length c.args.packs.now.items = search rules in
    (put_at c.args.keys.now c.args.level c.len.result c.slot_of-slot.result c.args.packs.now.items c.args.long.now.entries c.index_mut.result.now c.put.new.pack c.put.new.long.entries
    c.args.field.now c.bytes.result.now c.args.value.now c.requires c.bytes.ensures count c.slot_of-slot.ensures.slot c.index_mut.ensures.value c.in_ok-is_new.ensures.put).1

pub returns-clause-stored : goal.returns-clause-stored
returns-clause-stored c =
    let count : c.len.result ≡ length c.args.packs.now.items = search rules in
    (put_at c.args.keys.now c.args.level c.len.result c.slot_of-slot.result c.args.packs.now.items c.args.long.now.entries c.index_mut.result.now c.put.new.pack c.put.new.long.entries
    c.args.field.now c.bytes.result.now c.args.value.now c.requires c.bytes.ensures count c.slot_of-slot.ensures.slot c.index_mut.ensures.value c.in_ok-is_new.ensures.put).0
