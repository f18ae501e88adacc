use Rattle.std.proofs.Common.{rules, arith, ◌≡◌, Some, length, ap, sym, refl, take, ◌∙◌, length-drop}
use Rattle.nr_ordered.specs.Blocks.{lens_in, items_in, total}
use Rattle.nr_ordered.specs.Lists.{Item}
use Rattle.nr_ordered.proofs.Totals.{one_within}
use Rattle.nr_ordered.proofs.Holding.{read_at, left_behind, many_items}
use Rattle.nr_ordered.proofs.Parted.{found_first, found_later, found_none}
use Rattle.nr_ordered.proofs.block.first_in.Goals as goal

pub split_at-requires : goal.split_at-requires
split_at-requires g c =
    let w = c.requires in
    let i = c.loop-place.invariant in
    one_within (lens_in c.args.lens.now) c.loop-place.place c.at.result _ (length c.args.bytes.now) (length c.loop-place.rest.now) w.whole
    (omega (arith, w.paired, c.loop-place-test.true)) c.at.ensures refl (ap length i.0 ∙ length-drop (total (take c.loop-place.place (lens_in c.args.lens.now))) c.args.bytes.now)

pub returns-then-passes : goal.returns-then-passes
returns-then-passes g c =
    let w = c.requires in
    let i = c.loop-place.invariant in
    let lens = lens_in c.args.lens.now in
    let test = g.T.Test.passing c.args.test.now in
    let x : Item = (c.split_at.result.0.now, c.number_at-number.result) in
    let own : c.passes.result ≡ test x = search (rules, c.passes.ensures) in
    let at = read_at lens c.args.bytes.now c.args.numbers.now c.loop-place.place c.at.result c.loop-place.rest.now c.at.ensures i.0
    c.split_at.result.0.now c.number_at-number.result w.paired c.number_at-number.ensures c.split_at.ensures.front in
    let found = found_first test (items_in lens c.args.bytes.now c.args.numbers.now) c.loop-place.place x _ at (sym own ∙ c.if-passes.true) i.1 in
    search (rules, found)

pub loop-place-preserved : goal.loop-place-preserved
loop-place-preserved g c =
    let w = c.requires in
    let i = c.loop-place.invariant in
    let lens = lens_in c.args.lens.now in
    let test = g.T.Test.passing c.args.test.now in
    let x : Item = (c.split_at.result.0.now, c.number_at-number.result) in
    let own : c.passes.result ≡ test x = search (rules, c.passes.ensures) in
    let at = read_at lens c.args.bytes.now c.args.numbers.now c.loop-place.place c.at.result c.loop-place.rest.now c.at.ensures i.0
    c.split_at.result.0.now c.number_at-number.result w.paired c.number_at-number.ensures c.split_at.ensures.front in (
      left_behind lens c.args.bytes.now c.args.numbers.now c.loop-place.place c.at.result c.loop-place.rest.now c.at.ensures i.0
          c.split_at.result.1.now (omega (arith, w.paired, c.loop-place-test.true)) c.split_at.ensures.back,
      found_later test (items_in lens c.args.bytes.now c.args.numbers.now) c.loop-place.place x _ at (sym own ∙ c.if-passes.false) i.1,
    )

pub returns : goal.returns
returns g c =
    let w = c.requires in
    let lens = lens_in c.args.lens.now in
    found_none (g.T.Test.passing c.args.test.now) (items_in lens c.args.bytes.now c.args.numbers.now) c.loop-place.place _
    (omega (arith, many_items lens c.args.bytes.now c.args.numbers.now w.paired, c.loop-place-test.false)) c.loop-place.invariant.1
