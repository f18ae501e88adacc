use Rattle.std.proofs.Common.{rules, ◌≡◌, ◌<◌, length, get_or, ap, ◌∙◌}
use Rattle.std.specs.Prelude.{is_some}
use Rattle.nr_model.specs.Nodes.Steps as steps
use Rattle.nr_world.specs.declared.node.WorldNode.{WorldNode}
use Rattle.nr_world.specs.Batches.{ComesTo}
use Rattle.nr_world.proofs.Shown.{takes_nothing}
use Rattle.nr_world.proofs.Paired.{paired_many}
use Rattle.nr_world.proofs.Replayed.{opens, within_by}
use Rattle.nr_world.proofs.Revived.{may_revive, revived_all, copy_refused}
use Rattle.nr_world.proofs.world.World.revive.Goals as goal

pub returns-in-Some-why_not_revive-clause-taken : goal.returns-in-Some-why_not_revive-clause-taken
returns-in-Some-why_not_revive-clause-taken c =
    let comes : ComesTo c.args.self.now (steps.Revive c.args.node c.args.donor) (steps.Idle c.in-Some-why_not_revive.reason) = c.in-Some-why_not_revive.ensures in
    takes_nothing c.args.self.now (steps.Revive c.args.node c.args.donor) c.in-Some-why_not_revive.reason comes.is

pub index-requires : goal.index-requires
index-requires c =
    let comes : ComesTo c.args.self.now (steps.Revive c.args.node c.args.donor) steps.Done = search (rules, c.in_default-why_not_revive.ensures) in
    let o = opens _ c.args.self.now (steps.Revive c.args.node c.args.donor) c.self.view_is (ap is_some c.in_default.is) c.self.invariant comes in
    let there : c.args.donor < length c.self.inside.nodes.items = (may_revive _ c.args.node c.args.donor o).donor in
    search rules

pub returns-in_default-offer-clause-taken : goal.returns-in_default-offer-clause-taken
returns-in_default-offer-clause-taken c =
    let comes : ComesTo c.args.self.now (steps.Revive c.args.node c.args.donor) steps.Done = search (rules, c.in_default-why_not_revive.ensures) in
    copy_refused c.args.self.now c.args.node c.args.donor comes

pub tail-tail-requires : goal.tail-tail-requires
tail-tail-requires c =
    let comes : ComesTo c.args.self.now (steps.Revive c.args.node c.args.donor) steps.Done = search (rules, c.in_default-why_not_revive.ensures) in
    let o = opens _ c.args.self.now (steps.Revive c.args.node c.args.donor) c.self.view_is (ap is_some c.in_default.is) c.self.invariant comes in
    o.held.fits

pub index_mut-requires : goal.index_mut-requires
index_mut-requires c =
    let comes : ComesTo c.args.self.now (steps.Revive c.args.node c.args.donor) steps.Done = search (rules, c.in_default-why_not_revive.ensures) in
    let o = opens _ c.args.self.now (steps.Revive c.args.node c.args.donor) c.self.view_is (ap is_some c.in_default.is) c.self.invariant comes in
    let there : c.args.node < length c.self.inside.nodes.items = (may_revive _ c.args.node c.args.donor o).there in
    search rules

pub revive-requires-clause-down : goal.revive-requires-clause-down
revive-requires-clause-down c =
    let comes : ComesTo c.args.self.now (steps.Revive c.args.node c.args.donor) steps.Done = search (rules, c.in_default-why_not_revive.ensures) in
    let at : c.index_mut.result.now ≡ get_or c.self.inside.nodes.items c.args.node c.index_mut.result.now = search rules in
    let o = opens _ c.args.self.now (steps.Revive c.args.node c.args.donor) c.self.view_is (ap is_some c.in_default.is) c.self.invariant comes in
    ap (λ (x : WorldNode). x.replica.down) at ∙ (may_revive _ c.args.node c.args.donor o).down c.index_mut.result.now

pub revive-requires-clause-clients : goal.revive-requires-clause-clients
revive-requires-clause-clients c =
    let node : WorldNode = c.index_mut.result.now in
    let comes : ComesTo c.args.self.now (steps.Revive c.args.node c.args.donor) steps.Done = search (rules, c.in_default-why_not_revive.ensures) in
    let at : node ≡ get_or c.self.inside.nodes.items c.args.node node = search rules in
    let o = opens _ c.args.self.now (steps.Revive c.args.node c.args.donor) c.self.view_is (ap is_some c.in_default.is) c.self.invariant comes in
    let within = within_by _ c.args.node node o.held (may_revive _ c.args.node c.args.donor o).there at in
    paired_many node.replica.node 0 node.sessions node.replica.members within.whole.pairs

pub invariant_of-self : goal.invariant_of-self
invariant_of-self c = λ still.
    let comes : ComesTo c.args.self.now (steps.Revive c.args.node c.args.donor) steps.Done = search (rules, c.in_default-why_not_revive.ensures) in
    let at : c.index_mut.result.now ≡ get_or c.self.inside.nodes.items c.args.node c.index_mut.result.now = search rules in
    let other : c.index.result.now ≡ get_or c.self.inside.nodes.items c.args.donor c.index.result.now = search rules in
    let o = opens _ c.args.self.now (steps.Revive c.args.node c.args.donor) c.self.view_is (ap is_some c.in_default.is) c.self.invariant comes in
    (revived_all _ c.args.self.now c.args.node c.args.donor c.index_mut.result.now c.index.result.now c.revive.new.self c.in-Ok.offer c.tail-tail.result
    c.self.view_is o at other c.in-Ok.ensures.copied c.tail-tail.ensures c.revive.ensures.revived c.revive.ensures.whole).1

pub returns-clause-taken : goal.returns-clause-taken
returns-clause-taken c =
    let comes : ComesTo c.args.self.now (steps.Revive c.args.node c.args.donor) steps.Done = search (rules, c.in_default-why_not_revive.ensures) in
    let at : c.index_mut.result.now ≡ get_or c.self.inside.nodes.items c.args.node c.index_mut.result.now = search rules in
    let other : c.index.result.now ≡ get_or c.self.inside.nodes.items c.args.donor c.index.result.now = search rules in
    let o = opens _ c.args.self.now (steps.Revive c.args.node c.args.donor) c.self.view_is (ap is_some c.in_default.is) c.self.invariant comes in
    (revived_all _ c.args.self.now c.args.node c.args.donor c.index_mut.result.now c.index.result.now c.revive.new.self c.in-Ok.offer c.tail-tail.result
    c.self.view_is o at other c.in-Ok.ensures.copied c.tail-tail.ensures c.revive.ensures.revived c.revive.ensures.whole).0
