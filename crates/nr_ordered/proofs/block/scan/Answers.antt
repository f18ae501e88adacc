use Rattle.std.proofs.Common.{rules, arith, ◌≡◌, length, ap, sym, refl, take, ◌∙◌, length-drop}
use Rattle.nr_ordered.specs.Blocks.{lens_in, items_in, total}
use Rattle.nr_ordered.proofs.Totals.{one_within}
use Rattle.nr_ordered.proofs.Holding.{read_at, left_behind, many_items}
use Rattle.nr_ordered.proofs.Parted.{front_more, front_ends, front_all}
use Rattle.nr_ordered.proofs.block.scan.Goals as goal

pub split_at-requires : goal.split_at-requires
split_at-requires g c =
    let w = c.requires in
    let i = c.loop-place.invariant in
    one_within (lens_in c.args.lens.now) c.loop-place.place c.at.result _ (length c.args.bytes.now) (length c.loop-place.rest.now) w.whole
    (omega (arith, w.paired, c.loop-place-test.true)) c.at.ensures refl (ap length i.0 ∙ length-drop (total (take c.loop-place.place (lens_in c.args.lens.now))) c.args.bytes.now)

pub returns-then-not-is_behind : goal.returns-then-not-is_behind
returns-then-not-is_behind g c =
    let w = c.requires in
    let i = c.loop-place.invariant in
    let lens = lens_in c.args.lens.now in
    let test = g.C.Cut.parts c.args.cut.now in
    let own : c.is_behind.result ≡ test (c.split_at.result.0.now, c.number_at.result) = search (rules, c.is_behind.ensures) in
    let at = read_at lens c.args.bytes.now c.args.numbers.now c.loop-place.place c.at.result c.loop-place.rest.now c.at.ensures i.0
    c.split_at.result.0.now c.number_at.result w.paired c.number_at.ensures c.split_at.ensures.front in
    front_ends test (items_in lens c.args.bytes.now c.args.numbers.now) c.loop-place.place _ _ at (sym own ∙ c.if-not-is_behind.true) i.1

pub loop-place-preserved : goal.loop-place-preserved
loop-place-preserved g c =
    let w = c.requires in
    let i = c.loop-place.invariant in
    let lens = lens_in c.args.lens.now in
    let test = g.C.Cut.parts c.args.cut.now in
    let own : c.is_behind.result ≡ test (c.split_at.result.0.now, c.number_at.result) = search (rules, c.is_behind.ensures) in
    let at = read_at lens c.args.bytes.now c.args.numbers.now c.loop-place.place c.at.result c.loop-place.rest.now c.at.ensures i.0
    c.split_at.result.0.now c.number_at.result w.paired c.number_at.ensures c.split_at.ensures.front in (
      left_behind lens c.args.bytes.now c.args.numbers.now c.loop-place.place c.at.result c.loop-place.rest.now c.at.ensures i.0
          c.split_at.result.1.now (omega (arith, w.paired, c.loop-place-test.true)) c.split_at.ensures.back,
      front_more test (items_in lens c.args.bytes.now c.args.numbers.now) c.loop-place.place _ _ at (sym own ∙ c.if-not-is_behind.false) i.1,
    )

pub returns : goal.returns
returns g c =
    let w = c.requires in
    let lens = lens_in c.args.lens.now in
    front_all (g.C.Cut.parts c.args.cut.now) (items_in lens c.args.bytes.now c.args.numbers.now) c.loop-place.place _ (length c.args.numbers.now)
    (many_items lens c.args.bytes.now c.args.numbers.now w.paired) c.loop-place-test.false c.loop-place.auto.place-end c.loop-place.invariant.1
