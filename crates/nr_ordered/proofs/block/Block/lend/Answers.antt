use Rattle.std.proofs.Common.{arith, ◌++◌, ap, sym, length, map, ◌∙◌}
use Rattle.std.specs.List.{slice_get}
use Rattle.nr_model.specs.SortedSets.{told_in}
use Rattle.nr_ordered.specs.Lists.{shown}
use Rattle.nr_ordered.proofs.Parts.{length-told, length-part, told_at, lent_more, one_longer, part_end}
use Rattle.nr_ordered.proofs.block.Block.lend.Goals as goal

pub lend_one-requires-clause-room : goal.lend_one-requires-clause-room
lend_one-requires-clause-room c =
    let told = told_in c.args.direction c.args.self.now in
    let i = c.loop-place.invariant in
    omega (
      arith,
      c.requires,
      i.len,
      i.capacity,
      c.loop-place-test.true,
      c.loop-place.auto.place,
      c.min-place-end.ensures,
      c.len-len.ensures.len,
      length-told c.args.direction c.args.self.now,
      length-part c.args.from c.args.to told,
      length-part c.args.from c.loop-place.place told,
    )

pub loop-place-preserved : goal.loop-place-preserved
loop-place-preserved c =
    let told = told_in c.args.direction c.args.self.now in
    let i = c.loop-place.invariant in
    let one = c.lend_one.ensures.item in
    let at = sym (told_at c.args.direction c.loop-place.place c.len-len.result c.args.self.now c.len-len.ensures.len
    (omega (arith, c.loop-place-test.true, c.min-place-end.ensures))) ∙ ap (slice_get c.args.self.now) (sym c.told_place.ensures) ∙ one.1 in
    record {
      items = lent_more _ _ _ c.args.from c.loop-place.place told one.0 c.loop-place.auto.place at i.items one.2;
      len = c.lend_one.ensures.len ∙ omega (arith, i.len, one_longer c.args.from c.loop-place.place told one.0 c.loop-place.auto.place at);
      none = λ late. absurd (omega (arith, late, c.loop-place-test.true, c.loop-place.auto.place));
      capacity = c.lend_one.ensures.capacity ∙ i.capacity;
    }

pub returns-clause-items : goal.returns-clause-items
returns-clause-items c =
    let told = told_in c.args.direction c.args.self.now in
    let i = c.loop-place.invariant in
    i.items ∙ ap (λ xs. map shown c.args.lent.now.items ++ xs) (part_end c.args.from c.args.to c.loop-place.place c.min-place-end.result told
    (omega (arith, c.min-place-end.ensures, c.len-len.ensures.len, length-told c.args.direction c.args.self.now)) c.loop-place-test.false c.loop-place.auto.place-end i.none)

pub returns-clause-len : goal.returns-clause-len
returns-clause-len c =
    let told = told_in c.args.direction c.args.self.now in
    let i = c.loop-place.invariant in
    let same = ap length (part_end c.args.from c.args.to c.loop-place.place c.min-place-end.result told
    (omega (arith, c.min-place-end.ensures, c.len-len.ensures.len, length-told c.args.direction c.args.self.now)) c.loop-place-test.false c.loop-place.auto.place-end i.none) in
    omega (arith, i.len, same)
