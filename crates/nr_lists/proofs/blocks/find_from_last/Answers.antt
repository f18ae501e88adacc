use Rattle.std.proofs.Common.{arith}
use Rattle.nr_lists.proofs.Around.{place_from_last, read_twice}
use Rattle.nr_lists.proofs.blocks.find_from_last.Goals as goal

pub returns-clause-whole : goal.returns-clause-whole
returns-clause-whole c =
    let same = read_twice c.args.blocks.now.items c.loop-left.block c.len.result c.len-2.result c.index.result.now c.index-2.result.now c.loop-left.invariant.block
    c.index.ensures c.index-2.ensures c.len.ensures.len c.len-2.ensures.len in
    place_from_last c.args.blocks.now.items c.loop-left.block c.args.behind c.loop-left.left c.len-2.result c.index-2.result.now c.loop-left.invariant.block
    c.index-2.ensures c.len-2.ensures.len (omega (arith, same, c.loop-left-test.false)) c.loop-left.invariant.passed
