use Rattle.std.proofs.Common.{◌≡◌, rules}
use Rattle.std.specs.Prelude.{Some}
use Rattle.nr_model.specs.Lists.{place_of}
use Rattle.nr_lists.proofs.Listed.{written_counted, written_items}
use Rattle.nr_lists.proofs.chain.Chain.set.Goals as goal

pub invariant_of-self-in-Some : goal.invariant_of-self-in-Some
invariant_of-self-in-Some c =
    written_counted c.self.inside.blocks.items c.replace.new.blocks.items c.self.inside.len c.in-Some.place c.find-block.result.0 c.find-block.result.1 c.args.item
    c.self.invariant c.find-block.ensures.block c.find-block.ensures.place c.find-block.ensures.whole c.in_ok-replace-in-Some.ensures.ok c.in-Some.ensures.bound

pub returns-in_ok-replace-in-Some-clause-items : goal.returns-in_ok-replace-in-Some-clause-items
returns-in_ok-replace-in-Some-clause-items c =
    let found : Some c.in-Some.place ≡ place_of c.self.inside.len c.args.index = search (rules, c.in-Some.ensures.place) in
    written_items c.self.inside.blocks.items c.replace.new.blocks.items c.self.inside.len c.in-Some.place c.find-block.result.0 c.find-block.result.1 c.args.item
    c.self.invariant c.find-block.ensures.block c.find-block.ensures.place c.find-block.ensures.whole c.in_ok-replace-in-Some.ensures.ok c.args.index c.args.self.now
    c.in-Some.ensures.bound c.self.view_is found
