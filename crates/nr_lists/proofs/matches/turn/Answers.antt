use Rattle.nr_model.specs.Lists.{seen_from}
use Rattle.nr_lists.proofs.TakenOut.{left_fewer, gone_are}
use Rattle.nr_lists.proofs.matches.turn.Goals as goal

pub overflow_sub-result : goal.overflow_sub-result
overflow_sub-result c =
    left_fewer c.args.end c.args.most c.args.bytes.now c.in-Some.block c.in-Some-thinned.block c.len-len.result c.len-left.result c.in-Some-thinned.ensures
    c.len-len.ensures.len c.len-left.ensures.len

pub returns-clause-count : goal.returns-clause-count
returns-clause-count c =
    gone_are c.args.end c.args.most c.args.bytes.now (seen_from c.args.end c.args.blocks.now.items) (seen_from c.args.end c.take.new.blocks.items) c.in-Some.block
    c.in-Some-thinned.block c.len-len.result c.len-left.result c.in-Some.ensures.block c.in-Some-thinned.ensures c.len-len.ensures.len c.len-left.ensures.len
