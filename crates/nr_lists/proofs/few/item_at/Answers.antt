use Rattle.nr_lists.proofs.Packed.{no_more, item_within, item_is}
use Rattle.nr_lists.proofs.few.item_at.Goals as goal

pub returns-then-place-lens : goal.returns-then-place-lens
returns-then-place-lens c = no_more c.args.lens.now c.args.bytes.now c.args.place c.if-place-lens.true

pub split_at-requires-2 : goal.split_at-requires-2
split_at-requires-2 c =
    item_within c.args.lens.now c.args.bytes.now c.split_at.result.1.now c.args.place c.offset.result c.from.result c.requires c.if-place-lens.false
    c.offset.ensures.offset c.split_at.ensures.back c.from.ensures

pub returns : goal.returns
returns c =
    item_is c.args.lens.now c.args.bytes.now c.split_at.result.1.now c.split_at-2.result.0.now c.args.place c.offset.result c.from.result c.requires
    c.if-place-lens.false c.offset.ensures.offset c.split_at.ensures.back c.from.ensures c.split_at-2.ensures.front
