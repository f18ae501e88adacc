use Rattle.std.proofs.Common.{◌∙◌, ap, take, length, arith}
use Rattle.nr_lists.specs.Packed.{total, lens_of}
use Rattle.nr_lists.proofs.Packed.{put_into, stand_within}
use Rattle.nr_lists.proofs.block.put_in.Goals as goal

pub offset-start-requires-clause-place : goal.offset-start-requires-clause-place
offset-start-requires-clause-place c =
    stand_within c.args.lens.now.items c.deref.result.now c.args.bytes.now c.args.place c.requires.place
    (c.deref.ensures.value ∙ c.in_ok-reserve.ensures.items ∙ c.in_ok-write_out.ensures.ok ∙ ap (lens_of c.args.lens.now.items) c.len.ensures.len)

pub insert-requires-2 : goal.insert-requires-2
insert-requires-2 c =
    let within = stand_within c.args.lens.now.items c.reserve.new.self.items c.args.bytes.now c.args.place c.requires.place
    (c.in_ok-reserve.ensures.items ∙ c.in_ok-write_out.ensures.ok ∙ ap (lens_of c.args.lens.now.items) c.len.ensures.len) in
    omega (arith, within, c.deref.ensures.len, ap length c.deref.ensures.value)

pub returns-clause-whole : goal.returns-clause-whole
returns-clause-whole c =
    (put_into c.args.lens.now.items c.reserve.new.self.items c.insert-2.new.self.items c.args.bytes.now c.insert.new.self c.args.item.now c.args.place
    c.offset-start.result c.requires.whole c.requires.place
    (c.in_ok-reserve.ensures.items ∙ c.in_ok-write_out.ensures.ok ∙ ap (lens_of c.args.lens.now.items) c.len.ensures.len)
    (c.offset-start.ensures.offset ∙ ap (λ ls. total (take c.args.place ls)) c.deref.ensures.value) c.in_ok-insert-2.ensures.items c.in_ok-insert.ensures.ok).0

pub returns-clause-ok : goal.returns-clause-ok
returns-clause-ok c =
    (put_into c.args.lens.now.items c.reserve.new.self.items c.insert-2.new.self.items c.args.bytes.now c.insert.new.self c.args.item.now c.args.place
    c.offset-start.result c.requires.whole c.requires.place
    (c.in_ok-reserve.ensures.items ∙ c.in_ok-write_out.ensures.ok ∙ ap (lens_of c.args.lens.now.items) c.len.ensures.len)
    (c.offset-start.ensures.offset ∙ ap (λ ls. total (take c.args.place ls)) c.deref.ensures.value) c.in_ok-insert-2.ensures.items c.in_ok-insert.ensures.ok).1
