use Rattle.std.proofs.Common.{rules, arith, Bool, true, false, ◌≡◌, ◌≤◌, ℕ, ◌+◌, cond, length, ap, refl, take, drop, ◌∙◌, length-drop}
use Rattle.std.specs.Prelude.{filter}
use Rattle.nr_ordered.specs.Blocks.{lens_in, items_in, total}
use Rattle.nr_ordered.proofs.Totals.{one_within}
use Rattle.nr_ordered.proofs.Holding.{read_at, left_behind, many_items}
use Rattle.nr_ordered.proofs.Parted.{many_more, many_none}
use Rattle.nr_ordered.proofs.block.count_in.Goals as goal

one_at_most : (b : Bool) → cond b 1 0 ≤ 1
one_at_most true = omega arith
one_at_most false = omega arith

pub split_at-requires : goal.split_at-requires
split_at-requires g c =
    let w = c.requires in
    let i = c.loop-place.invariant in
    one_within (lens_in c.args.lens.now) c.loop-place.place c.at.result _ (length c.args.bytes.now) (length c.loop-place.rest.now) w.whole
    (omega (arith, w.paired, c.loop-place-test.true)) c.at.ensures refl (ap length i.0 ∙ length-drop (total (take c.loop-place.place (lens_in c.args.lens.now))) c.args.bytes.now)

pub loop-place-preserved : goal.loop-place-preserved
loop-place-preserved g c =
    let w = c.requires in
    let i = c.loop-place.invariant in
    let lens = lens_in c.args.lens.now in
    let test = g.T.Test.passing c.args.test.now in
    let items = items_in lens c.args.bytes.now c.args.numbers.now in
    let own : c.passes.result ≡ test (c.split_at.result.0.now, c.number_at.result) = search (rules, c.passes.ensures) in
    let at = read_at lens c.args.bytes.now c.args.numbers.now c.loop-place.place c.at.result c.loop-place.rest.now c.at.ensures i.0
    c.split_at.result.0.now c.number_at.result w.paired c.number_at.ensures c.split_at.ensures.front in (
      left_behind lens c.args.bytes.now c.args.numbers.now c.loop-place.place c.at.result c.loop-place.rest.now c.at.ensures i.0
          c.split_at.result.1.now (omega (arith, w.paired, c.loop-place-test.true)) c.split_at.ensures.back,
      ap (λ (n : ℕ). n + length (filter test (drop (c.loop-place.place + 1) items))) c.count_with-count.ensures
          ∙ many_more test items c.loop-place.place _ c.loop-place.count _ c.passes.result at own i.1,
      omega (arith, c.count_with-count.ensures, one_at_most c.passes.result, i.2),
    )

pub returns-clause-count : goal.returns-clause-count
returns-clause-count g c =
    let w = c.requires in
    let lens = lens_in c.args.lens.now in
    many_none (g.T.Test.passing c.args.test.now) (items_in lens c.args.bytes.now c.args.numbers.now) c.loop-place.place _ c.loop-place.count
    (omega (arith, many_items lens c.args.bytes.now c.args.numbers.now w.paired, c.loop-place-test.false)) c.loop-place.invariant.1

pub returns-clause-within : goal.returns-clause-within
returns-clause-within g c =
    omega (arith, many_items (lens_in c.args.lens.now) c.args.bytes.now c.args.numbers.now c.requires.paired, c.loop-place.auto.place-end, c.loop-place.invariant.2)
