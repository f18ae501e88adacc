use Rattle.std.proofs.Common.{sym, ap, ◌∙◌}
use Rattle.nr_model.specs.Names.{held}
use Rattle.nr_model.specs.Servers.{held_in, with_held_by}
use Rattle.nr_entry.specs.Jobs.{connection_of}
use Rattle.nr_emission.proofs.Holding.{none_left, no_name}
use Rattle.nr_emission.proofs.Sent.{on_ok}
use Rattle.nr_emission.proofs.subscribing.unsubscribe_held.Goals as goal

pub returns-then-is_none-clause-subs : goal.returns-then-is_none-clause-subs
returns-then-is_none-clause-subs g c =
    let h = held_in c.args.subs.now (connection_of c.args.conn) in
    on_ok c.acknowledge.result _
    (sym c.count-count.ensures.kept
    ∙ ap (with_held_by c.args.subs.now (connection_of c.args.conn))
    (sym (none_left c.args.kind h (no_name (λ name. name.now) (held c.args.kind h) c.first.result c.if-is_none.ensures c.first.ensures.first))))
