use Rattle.std.proofs.Common.{arith, refl, ◌≡◌, get_or, subst, set, ap}
use Rattle.std.specs.Prelude.{is_some}
use Rattle.nr_model.specs.Nodes.Steps as steps
use Rattle.nr_entry.specs.Jobs.{connection_of}
use Rattle.nr_replica.specs.Members.{fresh_member}
use Rattle.nr_world.specs.WorldState.{WorldState}
use Rattle.nr_world.specs.Whole.{IsHeld}
use Rattle.nr_world.specs.Taken.{Steps}
use Rattle.nr_world.proofs.Connects.{idle_found, done_found, there_node, may_feed, ready, going, unclosed_fed, feeds_on}
use Rattle.nr_world.proofs.world.World.feed.Goals as goal

pub returns-in-Some-why_not_feed-clause-taken : goal.returns-in-Some-why_not_feed-clause-taken
returns-in-Some-why_not_feed-clause-taken c =
    let v : WorldState = record {
      setup = c.self.inside.setup;
      nodes = c.self.inside.nodes.items;
      log = c.self.inside.log;
      failed = is_some c.self.inside.failed;
    } in
    subst (λ (w : WorldState). Steps w w (steps.Feed (connection_of c.args.conn) c.args.moment c.args.bytes.now)
    (steps.Idle c.in-Some-why_not_feed.reason)) c.self.view_is
    (idle_found v (steps.Feed (connection_of c.args.conn) c.args.moment c.args.bytes.now) c.deref.result.now c.why_not_feed.result c.in-Some-why_not_feed.reason _
    (λ setup world. refl) c.deref.ensures.value (c.why_not_feed.ensures c.self.inside.setup c.args.moment c.args.bytes.now) c.in-Some-why_not_feed.is)

pub index_mut-requires : goal.index_mut-requires
index_mut-requires c =
    let v : WorldState = record {
      setup = c.self.inside.setup;
      nodes = c.self.inside.nodes.items;
      log = c.self.inside.log;
      failed = is_some c.self.inside.failed;
    } in
    let held : IsHeld v = c.self.invariant (ap is_some c.in_default.is) in
    let e = done_found v (steps.Feed (connection_of c.args.conn) c.args.moment c.args.bytes.now) c.deref.result.now c.why_not_feed.result (λ _. steps.Done)
    c.deref.ensures.value (c.why_not_feed.ensures c.self.inside.setup c.args.moment c.args.bytes.now) c.in_default-why_not_feed.is in
    let within = there_node v.nodes (connection_of c.args.conn) (may_feed v.setup v.nodes (connection_of c.args.conn) c.args.moment c.args.bytes.now
    e).there in
    omega (arith, within)

pub feed-requires-clause-clients : goal.feed-requires-clause-clients
feed-requires-clause-clients c =
    let v : WorldState = record {
      setup = c.self.inside.setup;
      nodes = c.self.inside.nodes.items;
      log = c.self.inside.log;
      failed = is_some c.self.inside.failed;
    } in
    let held : IsHeld v = c.self.invariant (ap is_some c.in_default.is) in
    let e = done_found v (steps.Feed (connection_of c.args.conn) c.args.moment c.args.bytes.now) c.deref.result.now c.why_not_feed.result (λ _. steps.Done)
    c.deref.ensures.value (c.why_not_feed.ensures c.self.inside.setup c.args.moment c.args.bytes.now) c.in_default-why_not_feed.is in
    let old = c.index_mut.result.now in
    let at : old ≡ get_or v.nodes c.args.conn.node old = c.index_mut.ensures.value in
    (ready v c.args.conn old held at (may_feed v.setup v.nodes (connection_of c.args.conn) c.args.moment c.args.bytes.now e).there).clients

pub feed-requires-clause-owed : goal.feed-requires-clause-owed
feed-requires-clause-owed c =
    let v : WorldState = record {
      setup = c.self.inside.setup;
      nodes = c.self.inside.nodes.items;
      log = c.self.inside.log;
      failed = is_some c.self.inside.failed;
    } in
    let held : IsHeld v = c.self.invariant (ap is_some c.in_default.is) in
    let e = done_found v (steps.Feed (connection_of c.args.conn) c.args.moment c.args.bytes.now) c.deref.result.now c.why_not_feed.result (λ _. steps.Done)
    c.deref.ensures.value (c.why_not_feed.ensures c.self.inside.setup c.args.moment c.args.bytes.now) c.in_default-why_not_feed.is in
    let old = c.index_mut.result.now in
    let at : old ≡ get_or v.nodes c.args.conn.node old = c.index_mut.ensures.value in
    (ready v c.args.conn old held at (may_feed v.setup v.nodes (connection_of c.args.conn) c.args.moment c.args.bytes.now e).there).whole.owed

pub feed-requires-clause-is_there : goal.feed-requires-clause-is_there
feed-requires-clause-is_there c =
    let v : WorldState = record {
      setup = c.self.inside.setup;
      nodes = c.self.inside.nodes.items;
      log = c.self.inside.log;
      failed = is_some c.self.inside.failed;
    } in
    let held : IsHeld v = c.self.invariant (ap is_some c.in_default.is) in
    let e = done_found v (steps.Feed (connection_of c.args.conn) c.args.moment c.args.bytes.now) c.deref.result.now c.why_not_feed.result (λ _. steps.Done)
    c.deref.ensures.value (c.why_not_feed.ensures c.self.inside.setup c.args.moment c.args.bytes.now) c.in_default-why_not_feed.is in
    let old = c.index_mut.result.now in
    let at : old ≡ get_or v.nodes c.args.conn.node old = c.index_mut.ensures.value in
    (ready v c.args.conn old held at (may_feed v.setup v.nodes (connection_of c.args.conn) c.args.moment c.args.bytes.now e).there).stands

pub feed-requires-clause-worker : goal.feed-requires-clause-worker
feed-requires-clause-worker c =
    let v : WorldState = record {
      setup = c.self.inside.setup;
      nodes = c.self.inside.nodes.items;
      log = c.self.inside.log;
      failed = is_some c.self.inside.failed;
    } in
    let held : IsHeld v = c.self.invariant (ap is_some c.in_default.is) in
    let e = done_found v (steps.Feed (connection_of c.args.conn) c.args.moment c.args.bytes.now) c.deref.result.now c.why_not_feed.result (λ _. steps.Done)
    c.deref.ensures.value (c.why_not_feed.ensures c.self.inside.setup c.args.moment c.args.bytes.now) c.in_default-why_not_feed.is in
    let old = c.index_mut.result.now in
    let at : old ≡ get_or v.nodes c.args.conn.node old = c.index_mut.ensures.value in
    (ready v c.args.conn old held at (may_feed v.setup v.nodes (connection_of c.args.conn) c.args.moment c.args.bytes.now e).there).worker

pub feed-requires-clause-named : goal.feed-requires-clause-named
feed-requires-clause-named c =
    let v : WorldState = record {
      setup = c.self.inside.setup;
      nodes = c.self.inside.nodes.items;
      log = c.self.inside.log;
      failed = is_some c.self.inside.failed;
    } in
    let held : IsHeld v = c.self.invariant (ap is_some c.in_default.is) in
    let e = done_found v (steps.Feed (connection_of c.args.conn) c.args.moment c.args.bytes.now) c.deref.result.now c.why_not_feed.result (λ _. steps.Done)
    c.deref.ensures.value (c.why_not_feed.ensures c.self.inside.setup c.args.moment c.args.bytes.now) c.in_default-why_not_feed.is in
    let none = fresh_member (connection_of c.args.conn) 0 0 in
    let old = c.index_mut.result.now in
    let at : old ≡ get_or v.nodes c.args.conn.node old = c.index_mut.ensures.value in
    λ d. (ready v c.args.conn old held at (may_feed v.setup v.nodes (connection_of c.args.conn) c.args.moment c.args.bytes.now e).there).named d none
    (unclosed_fed v c.args.conn c.args.moment c.args.bytes.now old none held at e)

pub feed-requires-clause-going : goal.feed-requires-clause-going
feed-requires-clause-going c = λ d.
    let v : WorldState = record {
      setup = c.self.inside.setup;
      nodes = c.self.inside.nodes.items;
      log = c.self.inside.log;
      failed = is_some c.self.inside.failed;
    } in
    let held : IsHeld v = c.self.invariant (ap is_some c.in_default.is) in
    let e = done_found v (steps.Feed (connection_of c.args.conn) c.args.moment c.args.bytes.now) c.deref.result.now c.why_not_feed.result (λ _. steps.Done)
    c.deref.ensures.value (c.why_not_feed.ensures c.self.inside.setup c.args.moment c.args.bytes.now) c.in_default-why_not_feed.is in
    let old = c.index_mut.result.now in
    let at : old ≡ get_or v.nodes c.args.conn.node old = c.index_mut.ensures.value in
    going v c.args.conn c.args.moment c.args.bytes.now old d held at e

pub invariant_of-self : goal.invariant_of-self
invariant_of-self c = λ _.
    let v : WorldState = record {
      setup = c.self.inside.setup;
      nodes = c.self.inside.nodes.items;
      log = c.self.inside.log;
      failed = is_some c.self.inside.failed;
    } in
    let held : IsHeld v = c.self.invariant (ap is_some c.in_default.is) in
    let e = done_found v (steps.Feed (connection_of c.args.conn) c.args.moment c.args.bytes.now) c.deref.result.now c.why_not_feed.result (λ _. steps.Done)
    c.deref.ensures.value (c.why_not_feed.ensures c.self.inside.setup c.args.moment c.args.bytes.now) c.in_default-why_not_feed.is in
    let old = c.index_mut.result.now in
    let at : old ≡ get_or v.nodes c.args.conn.node old = c.index_mut.ensures.value in
    (feeds_on v c.args.conn c.args.moment c.args.bytes.now old c.feed.new.self held at e c.in-Ok.ensures.fed c.in-Ok.ensures.whole).1

pub returns-in-Ok-clause-taken : goal.returns-in-Ok-clause-taken
returns-in-Ok-clause-taken c =
    let v : WorldState = record {
      setup = c.self.inside.setup;
      nodes = c.self.inside.nodes.items;
      log = c.self.inside.log;
      failed = is_some c.self.inside.failed;
    } in
    let held : IsHeld v = c.self.invariant (ap is_some c.in_default.is) in
    let e = done_found v (steps.Feed (connection_of c.args.conn) c.args.moment c.args.bytes.now) c.deref.result.now c.why_not_feed.result (λ _. steps.Done)
    c.deref.ensures.value (c.why_not_feed.ensures c.self.inside.setup c.args.moment c.args.bytes.now) c.in_default-why_not_feed.is in
    let old = c.index_mut.result.now in
    let at : old ≡ get_or v.nodes c.args.conn.node old = c.index_mut.ensures.value in
    subst (λ (w : WorldState). Steps w (record { setup = v.setup; nodes = set v.nodes c.args.conn.node c.feed.new.self; log = v.log; failed = v.failed })
    (steps.Feed (connection_of c.args.conn) c.args.moment c.args.bytes.now) steps.Done) c.self.view_is
    (feeds_on v c.args.conn c.args.moment c.args.bytes.now old c.feed.new.self held at e c.in-Ok.ensures.fed c.in-Ok.ensures.whole).0
