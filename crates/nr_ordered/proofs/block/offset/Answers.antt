use Rattle.std.proofs.Common.{arith}
use Rattle.nr_ordered.specs.Blocks.{lens_in}
use Rattle.nr_ordered.proofs.Totals.{total_front, total_back, total_rest}
use Rattle.nr_ordered.proofs.block.offset.Goals as goal

pub overflow_sub-result : goal.overflow_sub-result
overflow_sub-result c = omega (arith, total_back c.args.place (lens_in c.args.lens.now) c.args.bytes c.requires.whole, c.behind.ensures)

pub returns-then-place-count-clause-within : goal.returns-then-place-count-clause-within
returns-then-place-count-clause-within c =
    omega (arith, total_front c.args.place (lens_in c.args.lens.now) c.args.bytes c.requires.whole, c.before-then-place-count.ensures)

pub returns-else-place-count-clause-offset : goal.returns-else-place-count-clause-offset
returns-else-place-count-clause-offset c = total_rest c.args.place (lens_in c.args.lens.now) c.args.bytes c.behind.result c.requires.whole c.behind.ensures
