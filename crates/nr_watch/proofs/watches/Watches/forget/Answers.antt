use Rattle.std.proofs.Common.{List, ap, ◌∙◌, subst}
use Rattle.std.specs.FinMap as map
use Rattle.std.specs.FinSet as set
use Rattle.nr_entry.specs.Jobs.{connection_of}
use Rattle.nr_model.specs.Servers.{Watch}
use Rattle.nr_watch.specs.Watching.{Watching}
use Rattle.nr_watch.specs.Kept.{names_one, IsTakenOut}
use Rattle.nr_watch.proofs.Putting.{forgotten_seen, forgotten_indexed}
use Rattle.nr_watch.proofs.watches.Watches.forget.Goals as goal

pub returns-in_default : goal.returns-in_default
returns-in_default c =
    let own = connection_of c.args.conn in
    let forgotten : Watching → Watching = λ w. record { watches = map.remove w.watches own; touched = set.remove w.touched own } in
    forgotten_seen c.self.inside.by_conn.entries c.take.new.by_conn.entries c.args.conn c.take.ensures.taken ∙ ap forgotten c.self.view_is

pub returns : goal.returns
returns c =
    let own = connection_of c.args.conn in
    let forgotten : Watching → Watching = λ w. record { watches = map.remove w.watches own; touched = set.remove w.touched own } in
    forgotten_seen c.self.inside.by_conn.entries c.take.new.by_conn.entries c.args.conn c.take.ensures.taken ∙ ap forgotten c.self.view_is

pub invariant_of-self-2 : goal.invariant_of-self-2
invariant_of-self-2 c =
    let before = c.self.inside.by_name.conns.entries in
    let after = c.remove_each.new.self.conns.entries in
    forgotten_indexed c.self.inside.by_conn.entries c.take.new.by_conn.entries before after c.args.conn c.in-Some.watched c.self.invariant
    c.in-Some.ensures.value c.take.ensures.taken
    (subst (λ (watches : List Watch). IsTakenOut (λ name. names_one name watches) c.args.conn before after) c.watches.ensures c.remove_each.ensures)
