use Rattle.std.proofs.Common.{rules, arith, Some, length, ap, sym, drop, ◌∙◌}
use Rattle.std.proofs.lemmas.Int.{to_z-of_z}
use mir.Syntax.{w64}
use mir.Val.{SFits}
use Rattle.nr_ordered.specs.Blocks.{lens_in}
use Rattle.nr_ordered.proofs.Totals.{one_within}
use Rattle.nr_ordered.proofs.Holding.{read_at}
use Rattle.nr_ordered.proofs.block.item_at.Goals as goal

pub split_at-requires-2 : goal.split_at-requires-2
split_at-requires-2 c =
    let w = c.requires.whole in
    one_within (lens_in c.args.lens.now) c.args.place c.at.result c.offset-start.result (length c.args.bytes.now) (length c.split_at.result.1.now) w.whole
    (omega (arith, w.paired, c.requires.within)) c.at.ensures c.offset-start.ensures.offset (omega (arith, c.split_at.ensures.back_len))

pub returns : goal.returns
returns c =
    let w = c.requires.whole in
    let fits : SFits w64 c.number_at.result = search rules in
    read_at (lens_in c.args.lens.now) c.args.bytes.now c.args.numbers.now c.args.place c.at.result c.split_at.result.1.now c.at.ensures
    (c.split_at.ensures.back ∙ ap (λ n. drop n c.args.bytes.now) c.offset-start.ensures.offset)
    c.split_at-2.result.0.now c.number_at.result w.paired c.number_at.ensures c.split_at-2.ensures.front
    ∙ ap (λ z. Some (c.split_at-2.result.0.now, z)) (sym (to_z-of_z w64 c.number_at.result fits))
