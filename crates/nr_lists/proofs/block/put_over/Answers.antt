use Rattle.std.proofs.Common.{◌∙◌, ◌+◌, ap, refl, take, length, arith}
use Rattle.nr_lists.specs.Packed.{total, lens_of}
use Rattle.nr_lists.proofs.Packed.{put_over_at, stand_below, total_grows}
use Rattle.nr_lists.proofs.block.put_over.Goals as goal

pub offset-start-requires-clause-place : goal.offset-start-requires-clause-place
offset-start-requires-clause-place c =
    let below = stand_below c.args.lens.now.items c.deref.result.now c.args.bytes.now c.args.place c.requires.place
    (c.deref.ensures.value ∙ c.in_ok-write_out.ensures.ok ∙ ap (lens_of c.args.lens.now.items) c.len.ensures.len) in
    omega (arith, below)

pub offset-end-requires-clause-place : goal.offset-end-requires-clause-place
offset-end-requires-clause-place c =
    let below = stand_below c.args.lens.now.items c.deref-2.result.now c.args.bytes.now c.args.place c.requires.place
    (c.deref-2.ensures.value ∙ c.in_ok-write_out.ensures.ok ∙ ap (lens_of c.args.lens.now.items) c.len.ensures.len) in
    omega (arith, below)

pub replace-requires-clause-range : goal.replace-requires-clause-range
replace-requires-clause-range c =
    total_grows c.write_out.new.lens.items c.args.place (c.args.place + 1) c.offset-start.result c.offset-end.result (omega arith)
    (c.offset-start.ensures.offset ∙ ap (λ ls. total (take c.args.place ls)) c.deref.ensures.value)
    (c.offset-end.ensures.offset ∙ ap (λ ls. total (take (c.args.place + 1) ls)) c.deref-2.ensures.value)

pub index_mut-requires : goal.index_mut-requires
index_mut-requires c =
    let below = stand_below c.args.lens.now.items c.write_out.new.lens.items c.args.bytes.now c.args.place c.requires.place
    (c.in_ok-write_out.ensures.ok ∙ ap (lens_of c.args.lens.now.items) c.len.ensures.len) in
    omega (arith, below, c.deref-2.ensures.len, ap length c.deref-2.ensures.value)

pub returns-clause-whole : goal.returns-clause-whole
returns-clause-whole c =
    (put_over_at c.args.lens.now.items c.write_out.new.lens.items _ c.args.bytes.now c.replace.new.self c.args.item.now c.args.place
    c.offset-start.result c.offset-end.result c.requires.whole c.requires.place
    (c.in_ok-write_out.ensures.ok ∙ ap (lens_of c.args.lens.now.items) c.len.ensures.len)
    (c.offset-start.ensures.offset ∙ ap (λ ls. total (take c.args.place ls)) c.deref.ensures.value)
    (c.offset-end.ensures.offset ∙ ap (λ ls. total (take (c.args.place + 1) ls)) c.deref-2.ensures.value)
    refl c.in_ok-replace.ensures.ok).0

pub returns-clause-ok : goal.returns-clause-ok
returns-clause-ok c =
    (put_over_at c.args.lens.now.items c.write_out.new.lens.items _ c.args.bytes.now c.replace.new.self c.args.item.now c.args.place
    c.offset-start.result c.offset-end.result c.requires.whole c.requires.place
    (c.in_ok-write_out.ensures.ok ∙ ap (lens_of c.args.lens.now.items) c.len.ensures.len)
    (c.offset-start.ensures.offset ∙ ap (λ ls. total (take c.args.place ls)) c.deref.ensures.value)
    (c.offset-end.ensures.offset ∙ ap (λ ls. total (take (c.args.place + 1) ls)) c.deref-2.ensures.value)
    refl c.in_ok-replace.ensures.ok).1
