use Rattle.std.proofs.Common.{◌<◌, ◌∙◌, ap, refl, take, arith}
use Rattle.nr_lists.specs.Packed.{total}
use Rattle.nr_lists.proofs.Packed.{cut_out, total_grows, range_within}
use Rattle.nr_lists.proofs.block.take_out.Goals as goal

pub offset-from-requires-clause-place : goal.offset-from-requires-clause-place
offset-from-requires-clause-place c =
    let end = range_within c.args.lens.now.items c.deref.result.now c.args.bytes.now c.args.start c.args.end c.requires.range c.requires.within c.requires.left c.deref.ensures.value in
    omega (arith, end, c.requires.range)

pub offset-to-requires-clause-place : goal.offset-to-requires-clause-place
offset-to-requires-clause-place c =
    range_within c.args.lens.now.items c.deref-2.result.now c.args.bytes.now c.args.start c.args.end c.requires.range c.requires.within c.requires.left c.deref-2.ensures.value

pub remove-requires-clause-range : goal.remove-requires-clause-range
remove-requires-clause-range c =
    let order : c.args.start < c.args.end = c.requires.range in
    total_grows c.args.lens.now.items c.args.start c.args.end c.offset-from.result c.offset-to.result (omega (arith, order))
    (c.offset-from.ensures.offset ∙ ap (λ ls. total (take c.args.start ls)) c.deref.ensures.value)
    (c.offset-to.ensures.offset ∙ ap (λ ls. total (take c.args.end ls)) c.deref-2.ensures.value)

pub remove_range-requires-clause-within : goal.remove_range-requires-clause-within
remove_range-requires-clause-within c =
    range_within c.args.lens.now.items c.args.lens.now.items c.args.bytes.now c.args.start c.args.end c.requires.range c.requires.within c.requires.left refl

pub returns-clause-whole : goal.returns-clause-whole
returns-clause-whole c =
    (cut_out c.args.lens.now.items c.remove_range.new.items.items c.args.bytes.now c.remove.new.self c.args.start c.args.end c.offset-from.result c.offset-to.result
    c.requires.whole c.requires.range c.requires.within c.requires.left
    (c.offset-from.ensures.offset ∙ ap (λ ls. total (take c.args.start ls)) c.deref.ensures.value)
    (c.offset-to.ensures.offset ∙ ap (λ ls. total (take c.args.end ls)) c.deref-2.ensures.value)
    c.remove_range.ensures c.remove.ensures).0

pub returns-clause-items : goal.returns-clause-items
returns-clause-items c =
    (cut_out c.args.lens.now.items c.remove_range.new.items.items c.args.bytes.now c.remove.new.self c.args.start c.args.end c.offset-from.result c.offset-to.result
    c.requires.whole c.requires.range c.requires.within c.requires.left
    (c.offset-from.ensures.offset ∙ ap (λ ls. total (take c.args.start ls)) c.deref.ensures.value)
    (c.offset-to.ensures.offset ∙ ap (λ ls. total (take c.args.end ls)) c.deref-2.ensures.value)
    c.remove_range.ensures c.remove.ensures).1
