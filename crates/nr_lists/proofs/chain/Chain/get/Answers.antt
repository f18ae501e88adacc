use Rattle.std.proofs.Common.{◌≡◌, ◌∙◌, rules}
use Rattle.std.specs.Prelude.{Some}
use Rattle.nr_model.specs.Lists.{place_of}
use Rattle.nr_lists.proofs.Listed.{got}
use Rattle.nr_lists.proofs.chain.Chain.get.Goals as goal

pub returns : goal.returns
returns c =
    let found : Some c.in_ok-place.place ≡ place_of c.self.inside.len c.args.index = search (rules, c.in_ok-place.ensures.place) in
    c.get.ensures ∙ got c.self.inside.blocks.items c.args.self.now c.self.inside.len c.args.index c.in_ok-place.place c.find-block.result.0 c.find-block.result.1
    c.index.result.now c.self.invariant.counted c.self.view_is found c.find-block.ensures.block c.find-block.ensures.place c.find-block.ensures.whole
    c.index.ensures
