use Rattle.std.proofs.Common.{rules, ◌≡◌, ◌<◌, length, get_or, ap}
use Rattle.std.specs.Prelude.{is_some}
use Rattle.nr_model.specs.Nodes.Steps as steps
use Rattle.nr_world.specs.Batches.{ComesTo}
use Rattle.nr_world.proofs.Shown.{takes_nothing}
use Rattle.nr_world.proofs.Replayed.{opens, apply_there, within_by, apply_more, let_go_ready, applied_all}
use Rattle.nr_world.proofs.world.World.apply.Goals as goal

pub returns-in-Some-why_not_apply-clause-taken : goal.returns-in-Some-why_not_apply-clause-taken
returns-in-Some-why_not_apply-clause-taken c =
    let comes : ComesTo c.args.self.now (steps.Apply c.args.node) (steps.Idle c.in-Some-why_not_apply.reason) = c.in-Some-why_not_apply.ensures in
    takes_nothing c.args.self.now (steps.Apply c.args.node) c.in-Some-why_not_apply.reason comes.is

pub index_mut-requires : goal.index_mut-requires
index_mut-requires c =
    let comes : ComesTo c.args.self.now (steps.Apply c.args.node) steps.Done = search (rules, c.in_default-why_not_apply.ensures) in
    let o = opens _ c.args.self.now (steps.Apply c.args.node) c.self.view_is (ap is_some c.in_default.is) c.self.invariant comes in
    let there : c.args.node < length c.self.inside.nodes.items = apply_there _ c.args.node o.held o.comes in
    search rules

pub apply_next-requires-clause-within : goal.apply_next-requires-clause-within
apply_next-requires-clause-within c =
    let comes : ComesTo c.args.self.now (steps.Apply c.args.node) steps.Done = search (rules, c.in_default-why_not_apply.ensures) in
    let at : c.index_mut.result.now ≡ get_or c.self.inside.nodes.items c.args.node c.index_mut.result.now = search rules in
    let o = opens _ c.args.self.now (steps.Apply c.args.node) c.self.view_is (ap is_some c.in_default.is) c.self.invariant comes in
    within_by _ c.args.node c.index_mut.result.now o.held (apply_there _ c.args.node o.held o.comes) at

pub apply_next-requires-clause-more : goal.apply_next-requires-clause-more
apply_next-requires-clause-more c =
    let comes : ComesTo c.args.self.now (steps.Apply c.args.node) steps.Done = search (rules, c.in_default-why_not_apply.ensures) in
    let at : c.index_mut.result.now ≡ get_or c.self.inside.nodes.items c.args.node c.index_mut.result.now = search rules in
    let o = opens _ c.args.self.now (steps.Apply c.args.node) c.self.view_is (ap is_some c.in_default.is) c.self.invariant comes in
    apply_more _ c.args.node c.index_mut.result.now o at

pub let_go-requires-clause-passed : goal.let_go-requires-clause-passed
let_go-requires-clause-passed c =
    let comes : ComesTo c.args.self.now (steps.Apply c.args.node) steps.Done = search (rules, c.in_default-why_not_apply.ensures) in
    let o = opens _ c.args.self.now (steps.Apply c.args.node) c.self.view_is (ap is_some c.in_default.is) c.self.invariant comes in
    let_go_ready _ c.args.node c.apply_next.new.node c.deref.result.now o.held c.apply_next.ensures.within.base c.deref.ensures.value

pub let_go-requires-clause-fits : goal.let_go-requires-clause-fits
let_go-requires-clause-fits c = c.apply_next.ensures.within.fits

pub invariant_of-self : goal.invariant_of-self
invariant_of-self c = λ still.
    let comes : ComesTo c.args.self.now (steps.Apply c.args.node) steps.Done = search (rules, c.in_default-why_not_apply.ensures) in
    let at : c.index_mut.result.now ≡ get_or c.self.inside.nodes.items c.args.node c.index_mut.result.now = search rules in
    let o = opens _ c.args.self.now (steps.Apply c.args.node) c.self.view_is (ap is_some c.in_default.is) c.self.invariant comes in
    (applied_all _ c.args.self.now c.args.node c.index_mut.result.now c.apply_next.new.node c.deref.result.now c.let_go.new.log c.self.view_is (ap is_some c.in_default.is)
    o at
    c.apply_next.ensures.next c.apply_next.ensures.within c.apply_next.ensures.number c.deref.ensures.value c.let_go.ensures.base c.let_go.ensures.entries).1

pub returns-clause-taken : goal.returns-clause-taken
returns-clause-taken c =
    let comes : ComesTo c.args.self.now (steps.Apply c.args.node) steps.Done = search (rules, c.in_default-why_not_apply.ensures) in
    let at : c.index_mut.result.now ≡ get_or c.self.inside.nodes.items c.args.node c.index_mut.result.now = search rules in
    let o = opens _ c.args.self.now (steps.Apply c.args.node) c.self.view_is (ap is_some c.in_default.is) c.self.invariant comes in
    (applied_all _ c.args.self.now c.args.node c.index_mut.result.now c.apply_next.new.node c.deref.result.now c.let_go.new.log c.self.view_is (ap is_some c.in_default.is)
    o at
    c.apply_next.ensures.next c.apply_next.ensures.within c.apply_next.ensures.number c.deref.ensures.value c.let_go.ensures.base c.let_go.ensures.entries).0
