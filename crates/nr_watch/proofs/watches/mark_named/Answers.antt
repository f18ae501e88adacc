use Rattle.std.proofs.Common.{rules, ap, ◌∙◌}
use Rattle.std.proofs.lemmas.Map.Made.{map_same_pairs, lookup-map_values}
use Rattle.nr_model.specs.Keyspace.{live}
use Rattle.nr_watch.specs.Kept.{Watcher, Kept, marked_where, is_named_in, is_conn, kept_at}
use Rattle.nr_watch.proofs.watches.mark_named.Goals as goal

pub returns : goal.returns
returns c =
    let mark : Watcher → Watcher = marked_where (is_named_in (live c.args.keyspace.now c.args.now) c.args.source c.args.target) in
    let old = c.args.by_conn.now.entries in
    let marked = map_same_pairs _ mark _ (λ conn watched kept new f' ran. search rules) old c.retain.new.self.entries c.retain.ensures.filtered in
    record { at = λ d. ap (λ (kept : Kept). kept_at d kept) marked ∙ lookup-map_values mark (is_conn d) old }
