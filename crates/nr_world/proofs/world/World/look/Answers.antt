use Rattle.std.proofs.Common.{rules, ◌≡◌, ◌<◌, length, get_or, ap}
use Rattle.std.specs.Prelude.{is_some}
use Rattle.nr_model.specs.Nodes.Steps as steps
use Rattle.nr_world.specs.Batches.{ComesTo}
use Rattle.nr_world.proofs.Shown.{takes_nothing}
use Rattle.nr_world.proofs.Replayed.{opens, look_there, within_by, let_go_ready, looked_all}
use Rattle.nr_world.proofs.world.World.look.Goals as goal

pub returns-in-Some-why_not_look-clause-taken : goal.returns-in-Some-why_not_look-clause-taken
returns-in-Some-why_not_look-clause-taken c =
    let comes : ComesTo c.args.self.now (steps.Look c.args.node) (steps.Idle c.in-Some-why_not_look.reason) = c.in-Some-why_not_look.ensures in
    takes_nothing c.args.self.now (steps.Look c.args.node) c.in-Some-why_not_look.reason comes.is

pub index_mut-requires : goal.index_mut-requires
index_mut-requires c =
    let comes : ComesTo c.args.self.now (steps.Look c.args.node) steps.Done = search (rules, c.in_default-why_not_look.ensures) in
    let o = opens _ c.args.self.now (steps.Look c.args.node) c.self.view_is (ap is_some c.in_default.is) c.self.invariant comes in
    let there : c.args.node < length c.self.inside.nodes.items = look_there _ c.args.node o.held o.comes in
    search rules

pub read_at_tail-requires : goal.read_at_tail-requires
read_at_tail-requires c =
    let comes : ComesTo c.args.self.now (steps.Look c.args.node) steps.Done = search (rules, c.in_default-why_not_look.ensures) in
    let at : c.index_mut.result.now ≡ get_or c.self.inside.nodes.items c.args.node c.index_mut.result.now = search rules in
    let o = opens _ c.args.self.now (steps.Look c.args.node) c.self.view_is (ap is_some c.in_default.is) c.self.invariant comes in
    within_by _ c.args.node c.index_mut.result.now o.held (look_there _ c.args.node o.held o.comes) at

pub let_go-requires-clause-passed : goal.let_go-requires-clause-passed
let_go-requires-clause-passed c =
    let comes : ComesTo c.args.self.now (steps.Look c.args.node) steps.Done = search (rules, c.in_default-why_not_look.ensures) in
    let o = opens _ c.args.self.now (steps.Look c.args.node) c.self.view_is (ap is_some c.in_default.is) c.self.invariant comes in
    let_go_ready _ c.args.node c.read_at_tail.new.node c.deref.result.now o.held c.in-Ok.ensures.passed c.deref.ensures.value

pub let_go-requires-clause-fits : goal.let_go-requires-clause-fits
let_go-requires-clause-fits c =
    let comes : ComesTo c.args.self.now (steps.Look c.args.node) steps.Done = search (rules, c.in_default-why_not_look.ensures) in
    let o = opens _ c.args.self.now (steps.Look c.args.node) c.self.view_is (ap is_some c.in_default.is) c.self.invariant comes in
    o.held.fits

pub invariant_of-self : goal.invariant_of-self
invariant_of-self c = λ still.
    let comes : ComesTo c.args.self.now (steps.Look c.args.node) steps.Done = search (rules, c.in_default-why_not_look.ensures) in
    let at : c.index_mut.result.now ≡ get_or c.self.inside.nodes.items c.args.node c.index_mut.result.now = search rules in
    let o = opens _ c.args.self.now (steps.Look c.args.node) c.self.view_is (ap is_some c.in_default.is) c.self.invariant comes in
    (looked_all _ c.args.self.now c.args.node c.index_mut.result.now c.read_at_tail.new.node c.deref.result.now c.let_go.new.log c.self.view_is (ap is_some c.in_default.is) o at
    c.in-Ok.ensures.looked c.in-Ok.ensures.whole c.in-Ok.ensures.passed c.deref.ensures.value c.let_go.ensures.base
    c.let_go.ensures.entries).1

pub returns-in-Ok-clause-taken : goal.returns-in-Ok-clause-taken
returns-in-Ok-clause-taken c =
    let comes : ComesTo c.args.self.now (steps.Look c.args.node) steps.Done = search (rules, c.in_default-why_not_look.ensures) in
    let at : c.index_mut.result.now ≡ get_or c.self.inside.nodes.items c.args.node c.index_mut.result.now = search rules in
    let o = opens _ c.args.self.now (steps.Look c.args.node) c.self.view_is (ap is_some c.in_default.is) c.self.invariant comes in
    (looked_all _ c.args.self.now c.args.node c.index_mut.result.now c.read_at_tail.new.node c.deref.result.now c.let_go.new.log c.self.view_is (ap is_some c.in_default.is) o at
    c.in-Ok.ensures.looked c.in-Ok.ensures.whole c.in-Ok.ensures.passed c.deref.ensures.value c.let_go.ensures.base
    c.let_go.ensures.entries).0
