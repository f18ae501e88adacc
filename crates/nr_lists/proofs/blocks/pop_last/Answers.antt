use Rattle.std.proofs.Common.{◌≡◌, ◌+◌, ◌-◌, length, rules}
use Rattle.nr_lists.proofs.Around.{popped_inside}
use Rattle.nr_lists.proofs.blocks.pop_last.Goals as goal

pub returns-clause-item : goal.returns-clause-item
returns-clause-item c =
    let last : c.len-last.result - 1 + 1 ≡ length c.args.blocks.now.items = search rules in
    popped_inside c.args.blocks.now.items (c.len-last.result - 1) c.index_mut.result.now c.take_last.new.self c.in_ok-item.item last c.index_mut.ensures.value
    c.in_ok-item.ensures.ok
