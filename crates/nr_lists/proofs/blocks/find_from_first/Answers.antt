use Rattle.std.proofs.Common.{arith}
use Rattle.nr_lists.proofs.Around.{one_passed, passed_within, read_twice}
use Rattle.nr_lists.proofs.blocks.find_from_first.Goals as goal

pub loop-place-preserved : goal.loop-place-preserved
loop-place-preserved c =
    let within = passed_within c.args.blocks.now.items c.loop-place.block c.args.before c.loop-place.place c.loop-place.invariant c.requires in
    let same = read_twice c.args.blocks.now.items c.loop-place.block c.len.result c.len-place.result c.index.result.now c.index-in-loop-place.result.now within
    c.index.ensures c.index-in-loop-place.ensures c.len.ensures.len c.len-place.ensures.len in
    one_passed c.args.blocks.now.items c.loop-place.block c.args.before c.loop-place.place c.len-place.result c.index-in-loop-place.result.now c.loop-place.invariant
    c.requires c.index-in-loop-place.ensures c.len-place.ensures.len (omega (arith, same, c.loop-place-test.true))
