use Rattle.std.proofs.Common.{arith}
use Rattle.nr_ordered.specs.Blocks.{lens_in}
use Rattle.nr_ordered.proofs.Totals.{total_grows}
use Rattle.nr_ordered.proofs.Holding.{many_items, cut_out}
use Rattle.nr_ordered.proofs.block.take_items.Goals as goal

pub offset-start-requires-clause-within : goal.offset-start-requires-clause-within
offset-start-requires-clause-within c =
    let b = c.requires.block in
    omega (arith, c.requires.range, c.requires.within, many_items (lens_in c.args.lens.now) c.args.bytes.now.items c.args.numbers.now.items b.whole.paired, c.args.numbers.now.ok.0)

pub offset-end-requires-clause-within : goal.offset-end-requires-clause-within
offset-end-requires-clause-within c =
    let b = c.requires.block in
    omega (arith, c.requires.within, many_items (lens_in c.args.lens.now) c.args.bytes.now.items c.args.numbers.now.items b.whole.paired, c.args.numbers.now.ok.0)

pub cut-requires-clause-within : goal.cut-requires-clause-within
cut-requires-clause-within c =
    let b = c.requires.block in
    omega (arith, c.requires.within, b.whole.paired, many_items (lens_in c.args.lens.now) c.args.bytes.now.items c.args.numbers.now.items b.whole.paired)

pub take_out-requires-clause-range : goal.take_out-requires-clause-range
take_out-requires-clause-range c =
    total_grows (lens_in c.args.lens.now) c.args.from c.args.to c.offset-start.result c.offset-end.result c.requires.range
    c.offset-start.ensures.offset c.offset-end.ensures.offset

pub take_out-requires-2-clause-within : goal.take_out-requires-2-clause-within
take_out-requires-2-clause-within c =
    let b = c.requires.block in
    omega (arith, c.requires.within, many_items (lens_in c.args.lens.now) c.args.bytes.now.items c.args.numbers.now.items b.whole.paired)

pub returns-clause-block : goal.returns-clause-block
returns-clause-block c =
    let r = c.requires in
    (cut_out (lens_in c.args.lens.now) _ c.args.bytes.now.items _ c.args.numbers.now.items _ c.args.from c.args.to c.offset-start.result c.offset-end.result
    r.block r.range r.within r.left c.offset-start.ensures.offset c.offset-end.ensures.offset c.cut.ensures c.take_out.ensures c.take_out-2.ensures).0

pub returns-clause-items : goal.returns-clause-items
returns-clause-items c =
    let r = c.requires in
    (cut_out (lens_in c.args.lens.now) _ c.args.bytes.now.items _ c.args.numbers.now.items _ c.args.from c.args.to c.offset-start.result c.offset-end.result
    r.block r.range r.within r.left c.offset-start.ensures.offset c.offset-end.ensures.offset c.cut.ensures c.take_out.ensures c.take_out-2.ensures).1
