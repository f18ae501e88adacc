use Rattle.std.proofs.Common.{◌∙◌, arith}
use Rattle.nr_lists.proofs.Packed.{length_cut}
use Rattle.nr_lists.proofs.Laid.{front_read, back_read, back_whole}
use Rattle.nr_lists.proofs.few.parted.Goals as goal

pub offset-requires-clause-place : goal.offset-requires-clause-place
offset-requires-clause-place c = omega (arith, c.requires.place, length_cut c.args.lens.now c.args.bytes.now)

pub split_at-requires-2 : goal.split_at-requires-2
split_at-requires-2 c = omega (arith, c.requires.place, length_cut c.args.lens.now c.args.bytes.now)

pub new-requires-2 : goal.new-requires-2
new-requires-2 c =
    back_whole c.args.lens.now c.args.bytes.now c.args.place c.requires.whole c.split_at-2.result.1.now c.split_at.result.1.now c.offset.result
    c.split_at-2.ensures.back c.offset.ensures.offset c.split_at.ensures.back

pub returns-clause-before : goal.returns-clause-before
returns-clause-before c =
    c.new.ensures ∙ front_read c.args.lens.now c.args.bytes.now c.args.place c.requires.whole c.split_at-2.result.0.now c.split_at.result.0.now c.offset.result
    c.split_at-2.ensures.front c.offset.ensures.offset c.split_at.ensures.front

pub returns-clause-behind : goal.returns-clause-behind
returns-clause-behind c =
    c.new-2.ensures ∙ back_read c.args.lens.now c.args.bytes.now c.args.place c.requires.whole c.split_at-2.result.1.now c.split_at.result.1.now c.offset.result
    c.split_at-2.ensures.back c.offset.ensures.offset c.split_at.ensures.back
