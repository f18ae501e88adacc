use Rattle.std.proofs.Common.{◌∙◌, ap, sym}
use Rattle.nr_model.specs.Lists.{pivot_of}
use Rattle.nr_lists.proofs.Listed.{inserted_counted, inserted_items}
use Rattle.nr_lists.proofs.chain.Chain.insert.Goals as goal

pub invariant_of-self-2 : goal.invariant_of-self-2
invariant_of-self-2 c =
    rw c.in_ok-len.ensures.more.0
    (inserted_counted c.self.inside.blocks.items c.insert.new.blocks.items c.self.inside.len c.in-Some.place c.find-block.result.0 c.find-block.result.1 c.beside.result
    c.args.side c.args.item c.self.invariant c.find-block.ensures.block c.find-block.ensures.place c.find-block.ensures.whole c.beside.ensures c.in_ok-insert.ensures.ok
    (rw (← c.in_ok-len.ensures.more.0) c.in_ok-len.ensures.more.1))

pub returns-clause-ok : goal.returns-clause-ok
returns-clause-ok c =
    inserted_items c.self.inside.blocks.items c.insert.new.blocks.items c.self.inside.len c.in-Some.place c.find-block.result.0 c.find-block.result.1 c.beside.result
    c.args.side c.args.item c.self.invariant c.find-block.ensures.block c.find-block.ensures.place c.find-block.ensures.whole c.beside.ensures c.in_ok-insert.ensures.ok
    c.args.pivot.now c.args.self.now c.self.view_is (c.in-Some.ensures.place ∙ ap (pivot_of c.args.pivot.now) (c.walk.ensures ∙ sym c.self.view_is))
