use Rattle.nr_lists.proofs.Laid.{between_whole, between_read, few_lens}
use Rattle.nr_lists.proofs.small.joined.Goals as goal

pub laid-requires-clause-few : goal.laid-requires-clause-few
laid-requires-clause-few c =
    few_lens c.before-2.inside.lens.now c.behind.inside.lens.now c.before-2.inside.bytes.now c.behind.inside.bytes.now c.args.before c.args.behind 255
    c.before-2.view_is c.behind.view_is c.requires.few

pub invariant_of-result : goal.invariant_of-result
invariant_of-result c =
    between_whole c.before-2.inside.lens.now c.behind.inside.lens.now c.before-2.inside.bytes.now c.args.item.now c.behind.inside.bytes.now c.args.before
    c.args.behind c.in_ok-block.block.items c.before-2.invariant c.behind.invariant c.before-2.view_is c.behind.view_is c.in_ok-block.ensures

pub returns : goal.returns
returns c =
    between_read c.before-2.inside.lens.now c.behind.inside.lens.now c.before-2.inside.bytes.now c.args.item.now c.behind.inside.bytes.now c.args.before
    c.args.behind c.in_ok-block.block.items c.before-2.invariant c.behind.invariant c.before-2.view_is c.behind.view_is c.in_ok-block.ensures
