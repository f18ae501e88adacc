use Rattle.std.proofs.Common.{rules, refl, ap, ◌≡◌, get_or}
use Rattle.std.specs.Prelude.{is_some}
use Rattle.nr_model.specs.Nodes.Steps as steps
use Rattle.nr_world.proofs.Shown.{takes_nothing}
use Rattle.nr_world.proofs.Logged.{reserved_steps, held_steps}
use Rattle.nr_world.proofs.world.World.reserve.Goals as goal

pub returns-in-Some-why_not_reserve-clause-taken : goal.returns-in-Some-why_not_reserve-clause-taken
returns-in-Some-why_not_reserve-clause-taken c =
    takes_nothing c.args.self.now (steps.Reserve c.args.node) c.in-Some-why_not_reserve.reason (λ events world past s. c.in-Some-why_not_reserve.ensures.reason world s)

pub invariant_of-self : goal.invariant_of-self
invariant_of-self c = λ still.
    let at : c.index_mut.result.now ≡ get_or c.self.inside.nodes.items c.args.node c.index_mut.result.now = search rules in
    let there = c.in_default-why_not_reserve.ensures.there in
    held_steps _ c.args.self.now c.args.node c.index_mut.result.now c.reserve_next.new.node c.reserve_next.new.log (steps.Reserve c.args.node) c.self.view_is
    (c.self.invariant still) there at c.in-Ok.ensures.whole c.in-Ok.ensures.fits
    (reserved_steps _ c.args.self.now c.args.node _ c.index_mut.result.now c.reserve_next.new.node c.reserve_next.new.log _ c.self.view_is
    (c.self.invariant still) there c.in_default-why_not_reserve.ensures.reason at refl c.in-Ok.ensures.reserved refl c.in-Ok.ensures.entry
    c.reserve_next.ensures.base)

pub returns-in-Ok-clause-taken : goal.returns-in-Ok-clause-taken
returns-in-Ok-clause-taken c =
    let at : c.index_mut.result.now ≡ get_or c.self.inside.nodes.items c.args.node c.index_mut.result.now = search rules in
    reserved_steps _ c.args.self.now c.args.node _ c.index_mut.result.now c.reserve_next.new.node c.reserve_next.new.log _ c.self.view_is
    (c.self.invariant (ap is_some c.in_default.is)) c.in_default-why_not_reserve.ensures.there c.in_default-why_not_reserve.ensures.reason at refl
    c.in-Ok.ensures.reserved refl c.in-Ok.ensures.entry c.reserve_next.ensures.base
