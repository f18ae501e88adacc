use Rattle.std.proofs.Common.{rules, arith, ◌≡◌, ℕ, ℤ, List, take, length, ap, ◌∙◌}
use Rattle.std.specs.List.{insert}
use Rattle.nr_ordered.specs.Blocks.{lens_in, total}
use Rattle.nr_ordered.proofs.Holding.{many_items, put_into}
use Rattle.nr_ordered.proofs.block.put_in.Goals as goal

pub offset-start-requires-clause-within : goal.offset-start-requires-clause-within
offset-start-requires-clause-within c =
    let b = c.requires.block in
    omega (
      arith,
      c.requires.place,
      b.whole.paired,
      many_items (lens_in c.args.lens.now) c.args.bytes.now.items c.args.numbers.now.items b.whole.paired,
      c.len-2.ensures,
      c.reserve_few.new.held.ok.0,
      ap length c.in_ok-reserve_few.ensures.items,
    )

pub insert-requires-clause-within : goal.insert-requires-clause-within
insert-requires-clause-within c =
    let b = c.requires.block in
    omega (
      arith,
      c.requires.place,
      b.whole.paired,
      many_items (lens_in c.args.lens.now) c.args.bytes.now.items c.args.numbers.now.items b.whole.paired,
      ap length c.in_ok-reserve.ensures.same,
    )

pub put_reserved-requires-clause-within : goal.put_reserved-requires-clause-within
put_reserved-requires-clause-within c =
    let b = c.requires.block in
    omega (
      arith,
      c.requires.place,
      many_items (lens_in c.args.lens.now) c.args.bytes.now.items c.args.numbers.now.items b.whole.paired,
      ap length c.in_ok-reserve_few.ensures.items,
    )

pub returns-clause-block : goal.returns-clause-block
returns-clause-block c =
    let number : c.put_reserved.new.held.items ≡ insert c.reserve_few.new.held.items c.args.place c.args.number = search (rules, c.put_reserved.ensures) in
    (put_into (lens_in c.args.lens.now) _ c.args.bytes.now.items _ c.args.numbers.now.items _ (c.args.item.now, c.args.number) c.args.place c.offset-start.result
    c.requires.block c.requires.place c.requires.room (c.offset-start.ensures.offset ∙ ap (λ (ls : List ℕ). total (take c.args.place ls)) c.in_ok-reserve.ensures.same)
    (c.insert.ensures ∙ ap (λ (ls : List ℕ). insert ls c.args.place (length c.args.item.now)) c.in_ok-reserve.ensures.same) c.in_ok-put_bytes.ensures.ok
    (number ∙ ap (λ (ns : List ℤ). insert ns c.args.place c.args.number) c.in_ok-reserve_few.ensures.items)).0

pub returns-clause-ok : goal.returns-clause-ok
returns-clause-ok c =
    let number : c.put_reserved.new.held.items ≡ insert c.reserve_few.new.held.items c.args.place c.args.number = search (rules, c.put_reserved.ensures) in
    (put_into (lens_in c.args.lens.now) _ c.args.bytes.now.items _ c.args.numbers.now.items _ (c.args.item.now, c.args.number) c.args.place c.offset-start.result
    c.requires.block c.requires.place c.requires.room (c.offset-start.ensures.offset ∙ ap (λ (ls : List ℕ). total (take c.args.place ls)) c.in_ok-reserve.ensures.same)
    (c.insert.ensures ∙ ap (λ (ls : List ℕ). insert ls c.args.place (length c.args.item.now)) c.in_ok-reserve.ensures.same) c.in_ok-put_bytes.ensures.ok
    (number ∙ ap (λ (ns : List ℤ). insert ns c.args.place c.args.number) c.in_ok-reserve_few.ensures.items)).1
