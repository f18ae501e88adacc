use Rattle.std.proofs.Common.{Bool, None, Some, ◌∙◌}
use Rattle.nr_model.specs.Servers.{Watch, has_gone}
use Rattle.nr_entry.specs.Jobs.{connection_of}
use Rattle.nr_watch.proofs.Seen.{asked_seen}
use Rattle.nr_watch.proofs.watches.Watches.is_spoiled.Goals as goal

pub returns-in_default : goal.returns-in_default
returns-in_default c =
    let gone : Watch → Bool = λ w. has_gone c.args.now w.deadline in
    asked_seen c.self.inside.by_conn.entries c.args.self.now (connection_of c.args.conn) None gone c.self.view_is c.in_default.ensures.value

pub returns : goal.returns
returns c =
    let gone : Watch → Bool = λ w. has_gone c.args.now w.deadline in
    c.is_spoiled.ensures
    ∙ asked_seen c.self.inside.by_conn.entries c.args.self.now (connection_of c.args.conn) (Some c.in-Some.watched.now) gone c.self.view_is
    c.in-Some.ensures.value
