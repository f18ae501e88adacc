use Rattle.std.proofs.Common.{Some, None, ap, ◌∙◌}
use Rattle.nr_session.specs.SessionState.{SessionState}
use Rattle.nr_world.proofs.BySerial.{found_at}
use Rattle.nr_world.proofs.sessions.Sessions.fell.Goals as goal

pub returns-in-Some : goal.returns-in-Some
returns-in-Some c = λ d.
    c.fell.ensures
    ∙ ap (λ (session : SessionState). session.fell)
    (found_at c.self.inside.count c.args.serial c.self.inside.by_serial.entries c.args.self.now (Some c.in-Some.session.now) d c.self.view_is c.requires c.in-Some.ensures.value)

pub returns-in-None : goal.returns-in-None
returns-in-None c = λ d.
    ap (λ (session : SessionState). session.fell)
    (found_at c.self.inside.count c.args.serial c.self.inside.by_serial.entries c.args.self.now None d c.self.view_is c.requires c.in-None.ensures.value)
