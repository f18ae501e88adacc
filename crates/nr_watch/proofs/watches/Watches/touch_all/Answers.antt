use Rattle.std.proofs.Common.{ap, ◌∙◌}
use Rattle.nr_model.specs.Keyspace.{live}
use Rattle.nr_model.specs.Commands.Server.{named_in}
use Rattle.nr_model.specs.Servers.{touched_by}
use Rattle.nr_watch.specs.Watching.{Watching}
use Rattle.nr_watch.proofs.Named.{named_seen}
use Rattle.nr_watch.proofs.watches.Watches.touch_all.Goals as goal

pub returns : goal.returns
returns c =
    let keyspace = live c.args.keyspace.now c.args.now in
    let keys = named_in keyspace c.args.source c.args.target in
    named_seen keyspace c.args.source c.args.target c.self.inside.by_conn.entries c.mark_named.new.by_conn.entries c.mark_named.ensures
    ∙ ap (λ (w : Watching). let after : Watching = record { watches = w.watches; touched = touched_by w.watches keys w.touched } in after) c.self.view_is
