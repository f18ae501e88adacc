use Rattle.std.proofs.Common.{arith, ◌<◌, ◌∙◌}
use Rattle.nr_ordered.specs.Blocks.{lens_in}
use Rattle.nr_ordered.proofs.Totals.{total_grows}
use Rattle.nr_ordered.proofs.Holding.{many_items, part_of}
use Rattle.nr_ordered.proofs.block.part_of.Goals as goal

pub offset-start-requires-clause-within : goal.offset-start-requires-clause-within
offset-start-requires-clause-within c =
    omega (arith, c.requires.range, c.requires.within, many_items (lens_in c.args.lens.now) c.args.bytes.now c.args.numbers.now c.requires.block.whole.paired)

pub offset-end-requires-clause-within : goal.offset-end-requires-clause-within
offset-end-requires-clause-within c =
    omega (arith, c.requires.within, many_items (lens_in c.args.lens.now) c.args.bytes.now c.args.numbers.now c.requires.block.whole.paired)

pub part-requires-clause-within : goal.part-requires-clause-within
part-requires-clause-within c =
    omega (arith, c.requires.within, c.requires.block.whole.paired, many_items (lens_in c.args.lens.now) c.args.bytes.now c.args.numbers.now c.requires.block.whole.paired)

pub between-requires-clause-range : goal.between-requires-clause-range
between-requires-clause-range c =
    let order : c.args.from < c.args.to = c.requires.range in
    total_grows (lens_in c.args.lens.now) c.args.from c.args.to c.offset-start.result c.offset-end.result (omega (arith, order))
    c.offset-start.ensures.offset c.offset-end.ensures.offset

pub between-requires-2-clause-within : goal.between-requires-2-clause-within
between-requires-2-clause-within c =
    omega (arith, c.requires.within, many_items (lens_in c.args.lens.now) c.args.bytes.now c.args.numbers.now c.requires.block.whole.paired)

pub invariant_of-result : goal.invariant_of-result
invariant_of-result c =
    (part_of (lens_in c.args.lens.now) _ c.args.bytes.now _ c.args.numbers.now _ c.args.from c.args.to c.offset-start.result c.offset-end.result
    c.requires.block c.requires.range c.requires.within c.offset-start.ensures.offset c.offset-end.ensures.offset c.in_ok-lens.ensures
    (c.in_ok-bytes.ensures.items ∙ c.between.ensures) (c.in_ok-numbers.ensures.items ∙ c.between-2.ensures)).0

pub returns : goal.returns
returns c =
    (part_of (lens_in c.args.lens.now) _ c.args.bytes.now _ c.args.numbers.now _ c.args.from c.args.to c.offset-start.result c.offset-end.result
    c.requires.block c.requires.range c.requires.within c.offset-start.ensures.offset c.offset-end.ensures.offset c.in_ok-lens.ensures
    (c.in_ok-bytes.ensures.items ∙ c.between.ensures) (c.in_ok-numbers.ensures.items ∙ c.between-2.ensures)).1
