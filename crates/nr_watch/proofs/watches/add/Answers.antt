use Rattle.std.proofs.Common.{cond, Some, ap, ◌∙◌, rules}
use Rattle.nr_watch.specs.Kept.{Watcher, is_conn, kept_at, with_watch}
use Rattle.nr_watch.proofs.Found.{kept_changed, kept_alike}
use Rattle.nr_watch.proofs.Standing.{on_err}
use Rattle.nr_watch.proofs.watches.add.Goals as goal

pub returns-in_err-add-clause-err : goal.returns-in_err-add-clause-err
returns-in_err-add-clause-err c =
    let changes = (c.get_mut.follows.holds c.add.new.self).3 (search rules) in
    let old = c.args.by_conn.now.entries in
    let new = (c.get_mut.follows.lender c.add.new.self).entries in
    on_err c.from_residual.result (record {
      at = kept_alike old new c.args.conn c.in-Some.watched.now c.in-Some.ensures.value (λ d.
          kept_changed old new c.args.conn (Some c.add.new.self) changes.1 changes.3 d
          ∙ ap (λ (w : Watcher). cond (is_conn d c.args.conn) (Some w) (kept_at d old)) c.in_err-add.ensures.err);
    })

pub returns-in-Some-clause-ok : goal.returns-in-Some-clause-ok
returns-in-Some-clause-ok c =
    let changes = (c.get_mut.follows.holds c.add.new.self).3 (search rules) in
    let old = c.args.by_conn.now.entries in
    let new = (c.get_mut.follows.lender c.add.new.self).entries in
    record {
      at = λ d. kept_changed old new c.args.conn (Some c.add.new.self) changes.1 changes.3 d
          ∙ ap (λ (w : Watcher). cond (is_conn d c.args.conn) (Some w) (kept_at d old))
          (c.in_ok-add.ensures.ok ∙ ap (with_watch c.args.watch) c.in-Some.ensures.value);
    }

pub returns-in-Ok-clause-ok : goal.returns-in-Ok-clause-ok
returns-in-Ok-clause-ok c =
    let old = c.args.by_conn.now.entries in
    let new = c.insert.new.self.entries in
    let changes = rw c.get_mut.follows.holds-at-none at c.in-Ok.ensures.updates in
    record {
      at = λ d. kept_changed old new c.args.conn (Some c.in_ok-new.field-0) changes.1 changes.3 d
          ∙ ap (λ (w : Watcher). cond (is_conn d c.args.conn) (Some w) (kept_at d old))
          (c.in_ok-new.ensures.ok ∙ ap (with_watch c.args.watch) c.in_default.ensures.value);
    }
