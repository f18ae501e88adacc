use Rattle.std.proofs.Common.{sym, ap, eqb}
use Rattle.nr_packs.specs.Tables.{belongs}
use Rattle.nr_packs.proofs.Reading.{shorter}
use Rattle.nr_packs.proofs.Walked.{taken_none, short_first, few_taken, taken_more, taken_all}
use Rattle.nr_packs.proofs.parts.bytes_of_part.Goals as goal

pub loop-field-init : goal.loop-field-init
loop-field-init c = taken_none (belongs c.args.keys.now c.args.level c.args.count c.args.place) _ c.args.bytes.now c.in_ok-kept.kept.items c.requires.packed c.in_ok-kept.ensures.items

pub push_where-requires-clause-field : goal.push_where-requires-clause-field
push_where-requires-clause-field c =
    (short_first (belongs c.args.keys.now c.args.level c.args.count c.args.place) c.args.bytes.now c.loop-field.rest.now c.loop-field.kept.items c.loop-field.pairs c.loop-field.invariant
    (c.in-Some.field.now, c.in-Some.value.now, c.in-Some.behind.now) (sym c.in-Some.ensures)).0

pub push_where-requires-clause-value : goal.push_where-requires-clause-value
push_where-requires-clause-value c =
    (short_first (belongs c.args.keys.now c.args.level c.args.count c.args.place) c.args.bytes.now c.loop-field.rest.now c.loop-field.kept.items c.loop-field.pairs c.loop-field.invariant
    (c.in-Some.field.now, c.in-Some.value.now, c.in-Some.behind.now) (sym c.in-Some.ensures)).1

pub count_with-pairs-requires : goal.count_with-pairs-requires
count_with-pairs-requires c =
    few_taken (belongs c.args.keys.now c.args.level c.args.count c.args.place) c.args.bytes.now c.loop-field.rest.now c.loop-field.kept.items c.loop-field.pairs c.loop-field.invariant
    _ c.requires.packed

pub loop-field-smaller : goal.loop-field-smaller
loop-field-smaller c = shorter c.loop-field.rest.now (c.in-Some.field.now, c.in-Some.value.now, c.in-Some.behind.now) (sym c.in-Some.ensures)

pub loop-field-preserved : goal.loop-field-preserved
loop-field-preserved c =
    taken_more (belongs c.args.keys.now c.args.level c.args.count c.args.place) c.args.bytes.now c.loop-field.rest.now c.loop-field.kept.items c.loop-field.pairs c.loop-field.invariant
    (c.in-Some.field.now, c.in-Some.value.now, c.in-Some.behind.now) (eqb c.slot_of.result c.args.place) _ _ (sym c.in-Some.ensures)
    (ap (λ slot. eqb slot c.args.place) c.slot_of.ensures.slot) c.in_ok-push_where.ensures c.count_with-pairs.ensures

pub returns-clause-entries : goal.returns-clause-entries
returns-clause-entries c =
    (taken_all (belongs c.args.keys.now c.args.level c.args.count c.args.place) c.args.bytes.now c.loop-field.rest.now c.loop-field.kept.items c.loop-field.pairs c.loop-field.invariant
    _ c.requires.packed (sym c.in_default.ensures)).1

pub returns-clause-packed : goal.returns-clause-packed
returns-clause-packed c =
    (taken_all (belongs c.args.keys.now c.args.level c.args.count c.args.place) c.args.bytes.now c.loop-field.rest.now c.loop-field.kept.items c.loop-field.pairs c.loop-field.invariant
    _ c.requires.packed (sym c.in_default.ensures)).0
