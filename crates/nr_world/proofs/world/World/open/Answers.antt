use Rattle.std.proofs.Common.{arith, refl, ◌≡◌, ◌<◌, get_or, length, ap, sym, ◌∙◌, subst, set}
use Rattle.std.specs.Prelude.{is_some}
use Rattle.nr_model.specs.Nodes.Steps as steps
use Rattle.nr_entry.specs.Jobs.{connection_of}
use Rattle.nr_world.specs.declared.node.WorldNode.{WorldNode}
use Rattle.nr_world.specs.WorldState.{WorldState}
use Rattle.nr_world.specs.Whole.{IsHeld}
use Rattle.nr_world.specs.Taken.{Steps}
use Rattle.nr_world.proofs.Standing.{has_worker}
use Rattle.nr_world.proofs.Connects.{idle_found, done_found, may_open, opened_in, held_many, held_whole, open_within, open_few, open_room, opens_on}
use Rattle.nr_world.proofs.Paired.{paired_many}
use Rattle.nr_world.proofs.world.World.open.Goals as goal

pub returns-in-Some-why_not_open-clause-taken : goal.returns-in-Some-why_not_open-clause-taken
returns-in-Some-why_not_open-clause-taken c =
    let v : WorldState = record {
      setup = c.self.inside.setup;
      nodes = c.self.inside.nodes.items;
      log = c.self.inside.log;
      failed = is_some c.self.inside.failed;
    } in
    subst (λ (w : WorldState). Steps w w (steps.Open c.args.node c.args.worker) (steps.Idle c.in-Some-why_not_open.reason)) c.self.view_is
    (idle_found v (steps.Open c.args.node c.args.worker) c.deref.result.now c.why_not_open.result c.in-Some-why_not_open.reason _ (λ setup world. refl)
    c.deref.ensures.value c.why_not_open.ensures c.in-Some-why_not_open.is)

pub why_not_open-requires-clause-sized : goal.why_not_open-requires-clause-sized
why_not_open-requires-clause-sized c = ap length c.deref.ensures.value ∙ held_many _ (c.self.invariant (ap is_some c.in_default.is))

pub index_mut-requires : goal.index_mut-requires
index_mut-requires c =
    let v : WorldState = record {
      setup = c.self.inside.setup;
      nodes = c.self.inside.nodes.items;
      log = c.self.inside.log;
      failed = is_some c.self.inside.failed;
    } in
    let e = done_found v (steps.Open c.args.node c.args.worker) c.deref.result.now c.why_not_open.result (opened_in c.args.node) c.deref.ensures.value
    c.why_not_open.ensures c.in_default-why_not_open.is in
    let held : IsHeld v = c.self.invariant (ap is_some c.in_default.is) in
    let within = open_within v c.args.node c.args.worker held e in
    omega (arith, within)

pub open-requires-clause-is_there : goal.open-requires-clause-is_there
open-requires-clause-is_there c =
    let v : WorldState = record {
      setup = c.self.inside.setup;
      nodes = c.self.inside.nodes.items;
      log = c.self.inside.log;
      failed = is_some c.self.inside.failed;
    } in
    let e = done_found v (steps.Open c.args.node c.args.worker) c.deref.result.now c.why_not_open.result (opened_in c.args.node) c.deref.ensures.value
    c.why_not_open.ensures c.in_default-why_not_open.is in
    let held : IsHeld v = c.self.invariant (ap is_some c.in_default.is) in
    let old : WorldNode = c.index_mut.result.now in
    let at : old ≡ get_or v.nodes c.args.node old = c.index_mut.ensures.value in
    let has = has_worker v c.args.node c.args.worker held (may_open v.setup v.nodes c.args.node c.args.worker _ e).worker in
    subst (λ (x : WorldNode). c.args.worker < length x.workers.items) (sym at) (has.place old).stands

pub open-requires-clause-clients : goal.open-requires-clause-clients
open-requires-clause-clients c =
    let v : WorldState = record {
      setup = c.self.inside.setup;
      nodes = c.self.inside.nodes.items;
      log = c.self.inside.log;
      failed = is_some c.self.inside.failed;
    } in
    let e = done_found v (steps.Open c.args.node c.args.worker) c.deref.result.now c.why_not_open.result (opened_in c.args.node) c.deref.ensures.value
    c.why_not_open.ensures c.in_default-why_not_open.is in
    let held : IsHeld v = c.self.invariant (ap is_some c.in_default.is) in
    let old = c.index_mut.result.now in
    let at : old ≡ get_or v.nodes c.args.node old = c.index_mut.ensures.value in
    paired_many c.args.node 0 old.sessions old.replica.members (held_whole v c.args.node old held (open_within v c.args.node c.args.worker held e)
    at).pairs

pub open-requires-clause-few : goal.open-requires-clause-few
open-requires-clause-few c =
    let v : WorldState = record {
      setup = c.self.inside.setup;
      nodes = c.self.inside.nodes.items;
      log = c.self.inside.log;
      failed = is_some c.self.inside.failed;
    } in
    let e = done_found v (steps.Open c.args.node c.args.worker) c.deref.result.now c.why_not_open.result (opened_in c.args.node) c.deref.ensures.value
    c.why_not_open.ensures c.in_default-why_not_open.is in
    open_few v c.args.node c.args.worker c.queue_limit.ensures.allowed.most_workers e

pub open-requires-clause-counts : goal.open-requires-clause-counts
open-requires-clause-counts c =
    let v : WorldState = record {
      setup = c.self.inside.setup;
      nodes = c.self.inside.nodes.items;
      log = c.self.inside.log;
      failed = is_some c.self.inside.failed;
    } in
    let e = done_found v (steps.Open c.args.node c.args.worker) c.deref.result.now c.why_not_open.result (opened_in c.args.node) c.deref.ensures.value
    c.why_not_open.ensures c.in_default-why_not_open.is in
    let held : IsHeld v = c.self.invariant (ap is_some c.in_default.is) in
    let old = c.index_mut.result.now in
    let at : old ≡ get_or v.nodes c.args.node old = c.index_mut.ensures.value in
    open_room v c.args.node c.args.worker old held at c.queue_limit.ensures.allowed.most_connections e

pub invariant_of-self : goal.invariant_of-self
invariant_of-self c = λ _.
    let v : WorldState = record {
      setup = c.self.inside.setup;
      nodes = c.self.inside.nodes.items;
      log = c.self.inside.log;
      failed = is_some c.self.inside.failed;
    } in
    let e = done_found v (steps.Open c.args.node c.args.worker) c.deref.result.now c.why_not_open.result (opened_in c.args.node) c.deref.ensures.value
    c.why_not_open.ensures c.in_default-why_not_open.is in
    let held : IsHeld v = c.self.invariant (ap is_some c.in_default.is) in
    let old = c.index_mut.result.now in
    let at : old ≡ get_or v.nodes c.args.node old = c.index_mut.ensures.value in
    (opens_on v c.args.node c.args.worker c.queue_limit.result old c.open.new.self c.in-Ok.conn held c.queue_limit.ensures.value at e
    c.in-Ok.ensures.opened c.in-Ok.ensures.conn c.in-Ok.ensures.whole).1

pub returns-in-Ok-clause-taken : goal.returns-in-Ok-clause-taken
returns-in-Ok-clause-taken c =
    let v : WorldState = record {
      setup = c.self.inside.setup;
      nodes = c.self.inside.nodes.items;
      log = c.self.inside.log;
      failed = is_some c.self.inside.failed;
    } in
    let e = done_found v (steps.Open c.args.node c.args.worker) c.deref.result.now c.why_not_open.result (opened_in c.args.node) c.deref.ensures.value
    c.why_not_open.ensures c.in_default-why_not_open.is in
    let held : IsHeld v = c.self.invariant (ap is_some c.in_default.is) in
    let old = c.index_mut.result.now in
    let at : old ≡ get_or v.nodes c.args.node old = c.index_mut.ensures.value in
    subst (λ (w : WorldState). Steps w (record { setup = v.setup; nodes = set v.nodes c.args.node c.open.new.self; log = v.log; failed = v.failed })
    (steps.Open c.args.node c.args.worker) (steps.Opened (connection_of c.in-Ok.conn))) c.self.view_is
    (opens_on v c.args.node c.args.worker c.queue_limit.result old c.open.new.self c.in-Ok.conn held c.queue_limit.ensures.value at e
    c.in-Ok.ensures.opened c.in-Ok.ensures.conn c.in-Ok.ensures.whole).0
