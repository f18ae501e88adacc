use Rattle.std.proofs.Common.{cond, Some, ap, ◌∙◌, rules}
use Rattle.nr_keyspace.specs.Joined.{key_of}
use Rattle.nr_watch.specs.Kept.{Watcher, is_conn, kept_at}
use Rattle.nr_watch.proofs.Found.{kept_changed}
use Rattle.nr_watch.proofs.Marking.{one_marked}
use Rattle.nr_watch.proofs.watches.mark.Goals as goal

pub returns-in-Some : goal.returns-in-Some
returns-in-Some c =
    let changes = (c.get_mut.follows.holds c.mark.new.self).3 (search rules) in
    let old = c.args.by_conn.now.entries in
    let new = (c.get_mut.follows.lender c.mark.new.self).entries in
    one_marked (key_of c.args.database c.args.name.now) c.args.conn old new c.in-Some.watched.now c.in-Some.ensures.value
    (λ d. kept_changed old new c.args.conn (Some c.mark.new.self) changes.1 changes.3 d
    ∙ ap (λ (w : Watcher). cond (is_conn d c.args.conn) (Some w) (kept_at d old)) c.mark.ensures)
