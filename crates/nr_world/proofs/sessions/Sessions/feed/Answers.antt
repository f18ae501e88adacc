use Rattle.nr_entry.specs.Jobs.{items_of}
use Rattle.nr_world.specs.Fed.{IsFed}
use Rattle.std.proofs.Common.{rules, ◌≡◌, true, false, Some, None, ap, ◌∙◌}
use Rattle.nr_session.specs.SessionState.{SessionState}
use Rattle.nr_world.specs.BySerial.{closed_session}
use Rattle.nr_world.proofs.BySerial.{found_at, now_set, now_at, fed_between}
use Rattle.nr_world.proofs.sessions.Sessions.feed.Goals as goal

pub unreachable-requires : goal.unreachable-requires
unreachable-requires c =
    let at = found_at c.self.inside.count c.args.serial c.self.inside.by_serial.entries c.args.self.now None closed_session c.self.view_is
    c.requires.is_there c.in_default.ensures.value in
    let no : true ≡ false = ap (λ (session : SessionState). session.ended) at ∙ c.requires.going closed_session in
    absurd (cc no)

pub feed_session-requires : goal.feed_session-requires
feed_session-requires c =
    let at = found_at c.self.inside.count c.args.serial c.self.inside.by_serial.entries c.args.self.now (Some c.in-Some.session.now) c.in-Some.session.now c.self.view_is
    c.requires.is_there c.in-Some.ensures.value in
    record { going = ap (λ (session : SessionState). session.ended) at ∙ c.requires.going c.in-Some.session.now }

pub returns-clause-others : goal.returns-clause-others
returns-clause-others c = λ d.
    let changes = (c.get_mut.follows.holds c.feed_session.new.session).3 (search rules) in
    now_set c.self.inside.count c.args.serial c.feed_session.new.session c.self.inside.by_serial.entries (c.get_mut.follows.lender c.feed_session.new.session).entries
    c.args.self.now d c.self.view_is c.requires.is_there changes.0

pub returns-clause-fed : goal.returns-clause-fed
returns-clause-fed c = λ d.
    let changes = (c.get_mut.follows.holds c.feed_session.new.session).3 (search rules) in
    let new = now_at c.self.inside.count c.args.serial c.feed_session.new.session c.self.inside.by_serial.entries (c.get_mut.follows.lender c.feed_session.new.session).entries
    c.args.self.now d c.self.view_is c.requires.is_there changes.0 in
    let old = found_at c.self.inside.count c.args.serial c.self.inside.by_serial.entries c.args.self.now (Some c.in-Some.session.now) d c.self.view_is
    c.requires.is_there c.in-Some.ensures.value in
    let fed = c.in_ok-feed_session.ensures in
    let is : IsFed c.args.milliseconds c.args.bytes.now c.in-Some.session.now c.feed_session.new.session (items_of c.args.pending.now.items) (items_of c.feed_session.new.pending.items) =
    record { client = fed.client; asked = fed.jobs; named = fed.connection; ends = fed.ended } in
    fed_between c.args.milliseconds c.args.bytes.now c.in-Some.session.now _ c.feed_session.new.session _ (items_of c.args.pending.now.items) (items_of c.feed_session.new.pending.items)
    old new is
