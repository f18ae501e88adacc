use Rattle.nr_lists.proofs.Packed.{within_lens, behind_place}
use Rattle.nr_lists.proofs.block.split_at.Goals as goal

pub offset-requires-clause-place : goal.offset-requires-clause-place
offset-requires-clause-place c = within_lens c.args.lens.now c.args.bytes.now c.args.place c.requires.place

pub split_at-requires-2 : goal.split_at-requires-2
split_at-requires-2 c = within_lens c.args.lens.now c.args.bytes.now c.args.place c.requires.place

pub returns-clause-whole : goal.returns-clause-whole
returns-clause-whole c =
    (behind_place c.args.lens.now c.split_at-2.result.1.now c.args.bytes.now c.split_at.result.1.now c.args.place c.offset.result c.requires.whole c.requires.place
    c.offset.ensures.offset c.split_at-2.ensures.back c.split_at.ensures.back).0

pub returns-clause-items : goal.returns-clause-items
returns-clause-items c =
    (behind_place c.args.lens.now c.split_at-2.result.1.now c.args.bytes.now c.split_at.result.1.now c.args.place c.offset.result c.requires.whole c.requires.place
    c.offset.ensures.offset c.split_at-2.ensures.back c.split_at.ensures.back).1
