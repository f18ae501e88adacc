use Rattle.std.proofs.Common.{[], ◌∷◌, ap, ◌∙◌}
use Rattle.nr_model.specs.Servers.{Watch, watches_added}
use Rattle.nr_entry.specs.Jobs.{connection_of}
use Rattle.nr_watch.specs.Watching.{Watching}
use Rattle.nr_watch.proofs.Standing.{on_err}
use Rattle.nr_watch.proofs.Seen.{seen_alike}
use Rattle.nr_watch.proofs.Putting.{added_seen}
use Rattle.nr_watch.proofs.watches.Watches.watch.Goals as goal

pub returns-in_err-begin-clause-err : goal.returns-in_err-begin-clause-err
returns-in_err-begin-clause-err c = on_err c.from_residual.result
    (seen_alike c.self.inside.by_conn.entries c.begin.new.by_conn.entries c.in_err-begin.ensures.err.at ∙ c.self.view_is)

pub returns-clause-ok : goal.returns-clause-ok
returns-clause-ok c =
    let begun : Watching → Watch → Watching =
    λ w v. record { watches = watches_added w.watches (connection_of c.args.conn) (v ∷ []); touched = w.touched } in
    added_seen c.self.inside.by_conn.entries c.begin.new.by_conn.entries c.args.conn c.new.result c.in_ok-begin.ensures.ok
    ∙ ap (λ (w : Watching). begun w c.new.result) c.self.view_is
    ∙ ap (begun c.args.self.now) c.new.ensures
