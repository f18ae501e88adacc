use Rattle.std.proofs.Common.{◌≡◌, ◌<◌, ◌≤◌, ◌+◌, ◌++◌, ◌∙◌, ap, length, take, drop, arith}
use Rattle.nr_lists.specs.Packed.{total}
use Rattle.nr_lists.specs.Small.{lens_in}
use Rattle.nr_lists.proofs.Laid.{place_within, write_within, written_whole, written_read}
use Rattle.nr_lists.proofs.small.write.Goals as goal

pub offset-requires-clause-place : goal.offset-requires-clause-place
offset-requires-clause-place c =
    let lens_are : c.parts.result.0.now ≡ lens_in c.args.block.now.items = c.parts.ensures.lens ∙ ap lens_in c.deref.ensures.value in
    let within : c.args.place < length (lens_in c.args.block.now.items) = place_within c.args.block.now.items c.args.place c.requires.place in
    omega (arith, within, ap length lens_are)

pub write_at-requires : goal.write_at-requires
write_at-requires c =
    let lens_are : c.parts.result.0.now ≡ lens_in c.args.block.now.items = c.parts.ensures.lens ∙ ap lens_in c.deref.ensures.value in
    let fits : 1 + length (lens_in c.args.block.now.items) + c.offset.result + length c.args.item.now ≤ length c.args.block.now.items =
    write_within c.args.block.now.items c.args.item.now c.args.place c.offset.result c.requires.laid c.requires.place c.requires.same
    (c.offset.ensures.offset ∙ ap (λ ls. total (take c.args.place ls)) lens_are) in
    omega (arith, fits, ap length lens_are)

pub returns-clause-laid : goal.returns-clause-laid
returns-clause-laid c =
    let lens_are : c.parts.result.0.now ≡ lens_in c.args.block.now.items = c.parts.ensures.lens ∙ ap lens_in c.deref.ensures.value in
    let block = c.args.block.now.items in
    let item = c.args.item.now in
    written_whole block item c.args.place c.offset.result c.requires.laid c.requires.place c.requires.same
    (c.offset.ensures.offset ∙ ap (λ ls. total (take c.args.place ls)) lens_are) c.write_at.new.bytes.items
    (c.write_at.ensures ∙ (λ i. take (1 + length (lens_are i) + c.offset.result) block ++ (item ++ drop (1 + length (lens_are i) + c.offset.result + length item) block)))

pub returns-clause-items : goal.returns-clause-items
returns-clause-items c =
    let lens_are : c.parts.result.0.now ≡ lens_in c.args.block.now.items = c.parts.ensures.lens ∙ ap lens_in c.deref.ensures.value in
    let block = c.args.block.now.items in
    let item = c.args.item.now in
    written_read block item c.args.place c.offset.result c.requires.laid c.requires.place c.requires.same
    (c.offset.ensures.offset ∙ ap (λ ls. total (take c.args.place ls)) lens_are) c.write_at.new.bytes.items
    (c.write_at.ensures ∙ (λ i. take (1 + length (lens_are i) + c.offset.result) block ++ (item ++ drop (1 + length (lens_are i) + c.offset.result + length item) block)))
