use Rattle.nr_world.proofs.BySerial.{count_is}
use Rattle.nr_world.proofs.sessions.Sessions.len.Goals as goal

pub returns : goal.returns
returns c = count_is c.self.inside.count c.self.inside.by_serial.entries c.args.self.now c.self.view_is
