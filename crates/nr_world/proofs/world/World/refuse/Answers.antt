use Rattle.std.proofs.Common.{rules, ◌≡◌, ◌<◌, length, get_or, ap}
use Rattle.std.specs.Prelude.{is_some}
use Rattle.nr_model.specs.Nodes.Steps as steps
use Rattle.nr_world.specs.Batches.{ComesTo}
use Rattle.nr_world.proofs.Shown.{takes_nothing}
use Rattle.nr_world.proofs.Replayed.{opens, refuse_there, refused_all}
use Rattle.nr_world.proofs.world.World.refuse.Goals as goal

pub returns-in-Some-why_not_refuse-clause-taken : goal.returns-in-Some-why_not_refuse-clause-taken
returns-in-Some-why_not_refuse-clause-taken c =
    let comes : ComesTo c.args.self.now (steps.Refuse c.args.node) (steps.Idle c.in-Some-why_not_refuse.reason) = c.in-Some-why_not_refuse.ensures in
    takes_nothing c.args.self.now (steps.Refuse c.args.node) c.in-Some-why_not_refuse.reason comes.is

pub index_mut-requires : goal.index_mut-requires
index_mut-requires c =
    let comes : ComesTo c.args.self.now (steps.Refuse c.args.node) steps.Done = search (rules, c.in_default-why_not_refuse.ensures) in
    let o = opens _ c.args.self.now (steps.Refuse c.args.node) c.self.view_is (ap is_some c.in_default.is) c.self.invariant comes in
    let there : c.args.node < length c.self.inside.nodes.items = refuse_there _ c.args.node o.held o.comes in
    search rules

pub invariant_of-self : goal.invariant_of-self
invariant_of-self c = λ still.
    let comes : ComesTo c.args.self.now (steps.Refuse c.args.node) steps.Done = search (rules, c.in_default-why_not_refuse.ensures) in
    let at : c.index_mut.result.now ≡ get_or c.self.inside.nodes.items c.args.node c.index_mut.result.now = search rules in
    let o = opens _ c.args.self.now (steps.Refuse c.args.node) c.self.view_is (ap is_some c.in_default.is) c.self.invariant comes in
    (refused_all _ c.args.self.now c.args.node c.index_mut.result.now c.refuse.new.self c.self.view_is o at c.refuse.ensures.refused c.refuse.ensures.whole).1

pub returns-clause-taken : goal.returns-clause-taken
returns-clause-taken c =
    let comes : ComesTo c.args.self.now (steps.Refuse c.args.node) steps.Done = search (rules, c.in_default-why_not_refuse.ensures) in
    let at : c.index_mut.result.now ≡ get_or c.self.inside.nodes.items c.args.node c.index_mut.result.now = search rules in
    let o = opens _ c.args.self.now (steps.Refuse c.args.node) c.self.view_is (ap is_some c.in_default.is) c.self.invariant comes in
    (refused_all _ c.args.self.now c.args.node c.index_mut.result.now c.refuse.new.self c.self.view_is o at c.refuse.ensures.refused c.refuse.ensures.whole).0
