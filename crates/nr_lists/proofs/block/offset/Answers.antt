use Rattle.std.proofs.Common.{◌-◌, ap, ◌∙◌, arith}
use Rattle.nr_lists.proofs.Packed.{front_few, back_few, front_left}
use Rattle.nr_lists.proofs.block.offset.Goals as goal

pub total-requires : goal.total-requires
total-requires c =
    let few = front_few c.args.lens.now c.args.bytes c.args.place c.split_at.result.0.now c.split_at.ensures.front c.requires.whole in
    omega (arith, few, c.requires.small)

pub total-requires-else-before-behind : goal.total-requires-else-before-behind
total-requires-else-before-behind c =
    let few = back_few c.args.lens.now c.args.bytes c.args.place c.split_at.result.1.now c.split_at.ensures.back c.requires.whole in
    omega (arith, few, c.requires.small)

pub overflow_sub-result : goal.overflow_sub-result
overflow_sub-result c =
    let few = back_few c.args.lens.now c.args.bytes c.args.place c.split_at.result.1.now c.split_at.ensures.back c.requires.whole in
    omega (arith, few)

pub returns-then-before-behind-clause-within : goal.returns-then-before-behind-clause-within
returns-then-before-behind-clause-within c =
    let few = front_few c.args.lens.now c.args.bytes c.args.place c.split_at.result.0.now c.split_at.ensures.front c.requires.whole in
    omega (arith, few)

pub returns-else-before-behind-clause-offset : goal.returns-else-before-behind-clause-offset
returns-else-before-behind-clause-offset c =
    ap (λ n. c.args.bytes - n) c.total-else-before-behind.ensures ∙ front_left c.args.lens.now c.args.bytes c.args.place c.split_at.result.0.now c.split_at.result.1.now c.split_at.ensures.front c.split_at.ensures.back
    (omega (arith)) c.requires.whole
