use Rattle.std.proofs.Common.{rules, ◌≡◌, true, false, Some, None, ap, sym, ◌∙◌}
use Rattle.nr_session.specs.SessionState.{SessionState}
use Rattle.nr_world.specs.Dropped.{fallen_session}
use Rattle.nr_world.proofs.BySerial.{found_at, now_changed}
use Rattle.nr_world.proofs.sessions.Sessions.fall.Goals as goal

pub returns-in_default : goal.returns-in_default
returns-in_default c = λ d.
    let at = found_at c.self.inside.count c.args.serial c.self.inside.by_serial.entries c.args.self.now None d c.self.view_is c.requires.is_there
    c.in_default.ensures.value in
    let no : true ≡ false = ap (λ (s : SessionState). s.ended) at ∙ c.requires.unclosed d ∙ ap (λ (s : SessionState). s.gave_end) (sym at) in
    absurd (cc no)

pub returns : goal.returns
returns c = λ d.
    let at = found_at c.self.inside.count c.args.serial c.self.inside.by_serial.entries c.args.self.now (Some c.in-Some.session.now) d c.self.view_is
    c.requires.is_there c.in-Some.ensures.value in
    let changes = (c.get_mut.follows.holds c.fall.new.self).3 (search rules) in
    now_changed (fallen_session c.args.dropped c.args.is_cut) c.self.inside.count c.args.serial c.in-Some.session.now c.fall.new.self
    c.self.inside.by_serial.entries (c.get_mut.follows.lender c.fall.new.self).entries c.args.self.now d c.self.view_is c.requires.is_there changes.0 at
    c.fall.ensures
