use Rattle.std.proofs.Common.{arith}
use Rattle.nr_lists.proofs.Laid.{offset_few}
use Rattle.nr_lists.proofs.few.offset.Goals as goal

pub total-requires : goal.total-requires
total-requires c =
    let few = offset_few c.args.lens.now c.split_at.result.0.now c.args.bytes c.args.place c.split_at.ensures.front c.requires.whole in
    omega (arith, few, c.requires.small)

pub returns-clause-within : goal.returns-clause-within
returns-clause-within c =
    let few = offset_few c.args.lens.now c.split_at.result.0.now c.args.bytes c.args.place c.split_at.ensures.front c.requires.whole in
    omega (arith, few)
