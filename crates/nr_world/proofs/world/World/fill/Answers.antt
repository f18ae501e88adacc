use Rattle.std.proofs.Common.{rules, ◌≡◌, get_or}
use Rattle.nr_model.specs.Nodes.Steps as steps
use Rattle.nr_world.proofs.Shown.{takes_nothing}
use Rattle.nr_world.proofs.Logged.{filled_steps, held_same}
use Rattle.nr_world.proofs.world.World.fill.Goals as goal

pub returns-in-Some-why_not_fill-clause-taken : goal.returns-in-Some-why_not_fill-clause-taken
returns-in-Some-why_not_fill-clause-taken c =
    takes_nothing c.args.self.now (steps.Fill c.args.node c.args.other) c.in-Some-why_not_fill.reason (λ events world past s. c.in-Some-why_not_fill.ensures.reason world s)

pub invariant_of-self : goal.invariant_of-self
invariant_of-self c = λ still.
    let at : c.index_mut.result.now ≡ get_or c.self.inside.nodes.items c.args.node c.index_mut.result.now = search rules in
    held_same _ c.args.self.now c.args.node c.index_mut.result.now c.fill.new.self (steps.Fill c.args.node c.args.other) c.self.view_is
    (c.self.invariant still) c.in_default-why_not_fill.ensures.there at c.fill.ensures.whole
    (filled_steps _ c.args.self.now c.args.node c.args.other c.index_mut.result.now c.fill.new.self c.self.view_is c.in_default-why_not_fill.ensures.there
    c.in_default-why_not_fill.ensures.reason at c.fill.ensures.filled)

pub returns-clause-taken : goal.returns-clause-taken
returns-clause-taken c =
    let at : c.index_mut.result.now ≡ get_or c.self.inside.nodes.items c.args.node c.index_mut.result.now = search rules in
    filled_steps _ c.args.self.now c.args.node c.args.other c.index_mut.result.now c.fill.new.self c.self.view_is c.in_default-why_not_fill.ensures.there
    c.in_default-why_not_fill.ensures.reason at c.fill.ensures.filled
