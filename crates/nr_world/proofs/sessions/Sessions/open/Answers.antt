use Rattle.std.proofs.Common.{◌∷◌, ◌++◌, [], ◌+◌, refl, ap, ◌∙◌}
use Rattle.nr_session.specs.SessionState.{SessionState}
use Rattle.nr_world.proofs.BySerial.{now_more}
use Rattle.nr_world.proofs.sessions.Sessions.open.Goals as goal

pub returns : goal.returns
returns c =
    now_more c.self.inside.count (c.self.inside.count + 1) c.args.conn.serial c.new.result c.self.inside.by_serial.entries c.insert.new.self.entries c.args.self.now
    c.self.view_is c.requires.next refl c.in_ok-insert.ensures.updates.0
    ∙ ap (λ (session : SessionState). c.args.self.now ++ session ∷ []) c.new.ensures
