use Rattle.std.proofs.Common.{arith, refl, ◌≡◌, get_or, subst, set, ap}
use Rattle.std.specs.Prelude.{is_some}
use Rattle.nr_model.specs.Nodes.Steps as steps
use Rattle.nr_entry.specs.Jobs.{connection_of}
use Rattle.nr_replica.specs.Members.{fresh_member}
use Rattle.nr_world.specs.WorldState.{WorldState}
use Rattle.nr_world.specs.Whole.{IsHeld}
use Rattle.nr_world.specs.Taken.{Steps}
use Rattle.nr_world.proofs.Connects.{idle_found, done_found, there_node, may_close, ready, used, unclosed_yet, ends_by_bytes, closes_on}
use Rattle.nr_world.proofs.world.World.close.Goals as goal

pub returns-in-Some-why_not_close-clause-taken : goal.returns-in-Some-why_not_close-clause-taken
returns-in-Some-why_not_close-clause-taken c =
    let v : WorldState = record {
      setup = c.self.inside.setup;
      nodes = c.self.inside.nodes.items;
      log = c.self.inside.log;
      failed = is_some c.self.inside.failed;
    } in
    subst (λ (w : WorldState). Steps w w (steps.Close (connection_of c.args.conn) c.args.moment) (steps.Idle c.in-Some-why_not_close.reason)) c.self.view_is
    (idle_found v (steps.Close (connection_of c.args.conn) c.args.moment) c.deref.result.now c.why_not_close.result c.in-Some-why_not_close.reason _
    (λ setup world. refl) c.deref.ensures.value (c.why_not_close.ensures c.self.inside.setup c.args.moment) c.in-Some-why_not_close.is)

pub index_mut-requires : goal.index_mut-requires
index_mut-requires c =
    let v : WorldState = record {
      setup = c.self.inside.setup;
      nodes = c.self.inside.nodes.items;
      log = c.self.inside.log;
      failed = is_some c.self.inside.failed;
    } in
    let held : IsHeld v = c.self.invariant (ap is_some c.in_default.is) in
    let e = done_found v (steps.Close (connection_of c.args.conn) c.args.moment) c.deref.result.now c.why_not_close.result (λ _. steps.Done)
    c.deref.ensures.value (c.why_not_close.ensures c.self.inside.setup c.args.moment) c.in_default-why_not_close.is in
    let within = there_node v.nodes (connection_of c.args.conn) (may_close v.setup v.nodes (connection_of c.args.conn) c.args.moment e).there in
    omega (arith, within)

pub close-requires-clause-clients : goal.close-requires-clause-clients
close-requires-clause-clients c =
    let v : WorldState = record {
      setup = c.self.inside.setup;
      nodes = c.self.inside.nodes.items;
      log = c.self.inside.log;
      failed = is_some c.self.inside.failed;
    } in
    let held : IsHeld v = c.self.invariant (ap is_some c.in_default.is) in
    let e = done_found v (steps.Close (connection_of c.args.conn) c.args.moment) c.deref.result.now c.why_not_close.result (λ _. steps.Done)
    c.deref.ensures.value (c.why_not_close.ensures c.self.inside.setup c.args.moment) c.in_default-why_not_close.is in
    let old = c.index_mut.result.now in
    let at : old ≡ get_or v.nodes c.args.conn.node old = c.index_mut.ensures.value in
    (ready v c.args.conn old held at (may_close v.setup v.nodes (connection_of c.args.conn) c.args.moment e).there).clients

pub close-requires-clause-owed : goal.close-requires-clause-owed
close-requires-clause-owed c =
    let v : WorldState = record {
      setup = c.self.inside.setup;
      nodes = c.self.inside.nodes.items;
      log = c.self.inside.log;
      failed = is_some c.self.inside.failed;
    } in
    let held : IsHeld v = c.self.invariant (ap is_some c.in_default.is) in
    let e = done_found v (steps.Close (connection_of c.args.conn) c.args.moment) c.deref.result.now c.why_not_close.result (λ _. steps.Done)
    c.deref.ensures.value (c.why_not_close.ensures c.self.inside.setup c.args.moment) c.in_default-why_not_close.is in
    let old = c.index_mut.result.now in
    let at : old ≡ get_or v.nodes c.args.conn.node old = c.index_mut.ensures.value in
    (ready v c.args.conn old held at (may_close v.setup v.nodes (connection_of c.args.conn) c.args.moment e).there).whole.owed

pub close-requires-clause-is_there : goal.close-requires-clause-is_there
close-requires-clause-is_there c =
    let v : WorldState = record {
      setup = c.self.inside.setup;
      nodes = c.self.inside.nodes.items;
      log = c.self.inside.log;
      failed = is_some c.self.inside.failed;
    } in
    let held : IsHeld v = c.self.invariant (ap is_some c.in_default.is) in
    let e = done_found v (steps.Close (connection_of c.args.conn) c.args.moment) c.deref.result.now c.why_not_close.result (λ _. steps.Done)
    c.deref.ensures.value (c.why_not_close.ensures c.self.inside.setup c.args.moment) c.in_default-why_not_close.is in
    let old = c.index_mut.result.now in
    let at : old ≡ get_or v.nodes c.args.conn.node old = c.index_mut.ensures.value in
    (ready v c.args.conn old held at (may_close v.setup v.nodes (connection_of c.args.conn) c.args.moment e).there).stands

pub close-requires-clause-worker : goal.close-requires-clause-worker
close-requires-clause-worker c =
    let v : WorldState = record {
      setup = c.self.inside.setup;
      nodes = c.self.inside.nodes.items;
      log = c.self.inside.log;
      failed = is_some c.self.inside.failed;
    } in
    let held : IsHeld v = c.self.invariant (ap is_some c.in_default.is) in
    let e = done_found v (steps.Close (connection_of c.args.conn) c.args.moment) c.deref.result.now c.why_not_close.result (λ _. steps.Done)
    c.deref.ensures.value (c.why_not_close.ensures c.self.inside.setup c.args.moment) c.in_default-why_not_close.is in
    let old = c.index_mut.result.now in
    let at : old ≡ get_or v.nodes c.args.conn.node old = c.index_mut.ensures.value in
    (ready v c.args.conn old held at (may_close v.setup v.nodes (connection_of c.args.conn) c.args.moment e).there).worker

pub close-requires-clause-named : goal.close-requires-clause-named
close-requires-clause-named c =
    let v : WorldState = record {
      setup = c.self.inside.setup;
      nodes = c.self.inside.nodes.items;
      log = c.self.inside.log;
      failed = is_some c.self.inside.failed;
    } in
    let held : IsHeld v = c.self.invariant (ap is_some c.in_default.is) in
    let e = done_found v (steps.Close (connection_of c.args.conn) c.args.moment) c.deref.result.now c.why_not_close.result (λ _. steps.Done)
    c.deref.ensures.value (c.why_not_close.ensures c.self.inside.setup c.args.moment) c.in_default-why_not_close.is in
    let none = fresh_member (connection_of c.args.conn) 0 0 in
    let old = c.index_mut.result.now in
    let at : old ≡ get_or v.nodes c.args.conn.node old = c.index_mut.ensures.value in
    λ d. (ready v c.args.conn old held at (may_close v.setup v.nodes (connection_of c.args.conn) c.args.moment e).there).named d none
    (unclosed_yet v c.args.conn c.args.moment old none held at e)

pub close-requires-clause-unclosed : goal.close-requires-clause-unclosed
close-requires-clause-unclosed c =
    let v : WorldState = record {
      setup = c.self.inside.setup;
      nodes = c.self.inside.nodes.items;
      log = c.self.inside.log;
      failed = is_some c.self.inside.failed;
    } in
    let held : IsHeld v = c.self.invariant (ap is_some c.in_default.is) in
    let e = done_found v (steps.Close (connection_of c.args.conn) c.args.moment) c.deref.result.now c.why_not_close.result (λ _. steps.Done)
    c.deref.ensures.value (c.why_not_close.ensures c.self.inside.setup c.args.moment) c.in_default-why_not_close.is in
    let old = c.index_mut.result.now in
    let at : old ≡ get_or v.nodes c.args.conn.node old = c.index_mut.ensures.value in
    λ d. ends_by_bytes v c.args.conn c.args.moment old d held at e

pub close-requires-clause-counts : goal.close-requires-clause-counts
close-requires-clause-counts c =
    let v : WorldState = record {
      setup = c.self.inside.setup;
      nodes = c.self.inside.nodes.items;
      log = c.self.inside.log;
      failed = is_some c.self.inside.failed;
    } in
    let held : IsHeld v = c.self.invariant (ap is_some c.in_default.is) in
    let e = done_found v (steps.Close (connection_of c.args.conn) c.args.moment) c.deref.result.now c.why_not_close.result (λ _. steps.Done)
    c.deref.ensures.value (c.why_not_close.ensures c.self.inside.setup c.args.moment) c.in_default-why_not_close.is in
    let old = c.index_mut.result.now in
    let at : old ≡ get_or v.nodes c.args.conn.node old = c.index_mut.ensures.value in
    used v c.args.conn c.args.moment old held at e

pub invariant_of-self : goal.invariant_of-self
invariant_of-self c = λ _.
    let v : WorldState = record {
      setup = c.self.inside.setup;
      nodes = c.self.inside.nodes.items;
      log = c.self.inside.log;
      failed = is_some c.self.inside.failed;
    } in
    let held : IsHeld v = c.self.invariant (ap is_some c.in_default.is) in
    let e = done_found v (steps.Close (connection_of c.args.conn) c.args.moment) c.deref.result.now c.why_not_close.result (λ _. steps.Done)
    c.deref.ensures.value (c.why_not_close.ensures c.self.inside.setup c.args.moment) c.in_default-why_not_close.is in
    let old = c.index_mut.result.now in
    let at : old ≡ get_or v.nodes c.args.conn.node old = c.index_mut.ensures.value in
    (closes_on v c.args.conn c.args.moment old c.close.new.self held at e c.in-Ok.ensures.closed c.in-Ok.ensures.whole).1

pub returns-in-Ok-clause-taken : goal.returns-in-Ok-clause-taken
returns-in-Ok-clause-taken c =
    let v : WorldState = record {
      setup = c.self.inside.setup;
      nodes = c.self.inside.nodes.items;
      log = c.self.inside.log;
      failed = is_some c.self.inside.failed;
    } in
    let held : IsHeld v = c.self.invariant (ap is_some c.in_default.is) in
    let e = done_found v (steps.Close (connection_of c.args.conn) c.args.moment) c.deref.result.now c.why_not_close.result (λ _. steps.Done)
    c.deref.ensures.value (c.why_not_close.ensures c.self.inside.setup c.args.moment) c.in_default-why_not_close.is in
    let old = c.index_mut.result.now in
    let at : old ≡ get_or v.nodes c.args.conn.node old = c.index_mut.ensures.value in
    subst (λ (w : WorldState). Steps w (record { setup = v.setup; nodes = set v.nodes c.args.conn.node c.close.new.self; log = v.log; failed = v.failed })
    (steps.Close (connection_of c.args.conn) c.args.moment) steps.Done) c.self.view_is
    (closes_on v c.args.conn c.args.moment old c.close.new.self held at e c.in-Ok.ensures.closed c.in-Ok.ensures.whole).0
