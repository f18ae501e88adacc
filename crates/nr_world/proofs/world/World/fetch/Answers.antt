use Rattle.std.proofs.Common.{rules, ◌≡◌, get_or}
use Rattle.nr_model.specs.Nodes.Steps as steps
use Rattle.nr_world.proofs.Shown.{takes_nothing}
use Rattle.nr_world.proofs.Logged.{fetched_steps, held_same}
use Rattle.nr_world.proofs.world.World.fetch.Goals as goal

pub returns-in-Some-why_not_fetch-clause-taken : goal.returns-in-Some-why_not_fetch-clause-taken
returns-in-Some-why_not_fetch-clause-taken c = takes_nothing c.args.self.now (steps.Fetch c.args.node) c.in-Some-why_not_fetch.reason c.in-Some-why_not_fetch.ensures.reason

pub invariant_of-self : goal.invariant_of-self
invariant_of-self c = λ still.
    let at : c.index_mut.result.now ≡ get_or c.self.inside.nodes.items c.args.node c.index_mut.result.now = search rules in
    held_same _ c.args.self.now c.args.node c.index_mut.result.now c.fetch.new.self (steps.Fetch c.args.node) c.self.view_is (c.self.invariant still)
    c.in_default-why_not_fetch.ensures.there at c.fetch.ensures.whole
    (fetched_steps _ c.args.self.now c.args.node c.index_mut.result.now c.fetch.new.self c.self.view_is c.in_default-why_not_fetch.ensures.there
    c.in_default-why_not_fetch.ensures.reason at c.fetch.ensures.fetched)

pub returns-clause-taken : goal.returns-clause-taken
returns-clause-taken c =
    let at : c.index_mut.result.now ≡ get_or c.self.inside.nodes.items c.args.node c.index_mut.result.now = search rules in
    fetched_steps _ c.args.self.now c.args.node c.index_mut.result.now c.fetch.new.self c.self.view_is c.in_default-why_not_fetch.ensures.there
    c.in_default-why_not_fetch.ensures.reason at c.fetch.ensures.fetched
