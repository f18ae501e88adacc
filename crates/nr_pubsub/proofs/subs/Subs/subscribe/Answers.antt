use Rattle.std.proofs.Common.{◌≡◌, sym, ap, ◌∙◌, subst}
use Rattle.nr_model.specs.Names.{how_many_held, subscribed}
use Rattle.nr_model.specs.Servers.{held_in, with_held_by}
use Rattle.nr_entry.specs.Jobs.{connection_of}
use Rattle.nr_pubsub.proofs.Subscribers.{held_inserted, held_own}
use Rattle.nr_pubsub.proofs.Exact.{subscribed_again, subscribed_with}
use Rattle.nr_pubsub.proofs.subs.Subs.subscribe.Goals as goal

pub returns-then-holds-clause-ok : goal.returns-then-holds-clause-ok
returns-then-holds-clause-ok c =
    let conn = connection_of c.args.conn in
    subst (λ m. m ≡ with_held_by m conn (subscribed c.args.kind (held_in m conn) c.args.name)) c.self.view_is
    (subscribed_again c.self.inside.holders conn c.args.kind c.args.name (sym c.holds.ensures.test ∙ c.if-holds.true) (c.holds.ensures.again c.if-holds.true))

pub returns-clause-ok : goal.returns-clause-ok
returns-clause-ok c =
    c.in_ok-begin.ensures.ok
    ∙ sym (subscribed_with c.args.self.now (connection_of c.args.conn) c.args.kind c.args.name (held_in c.args.self.now (connection_of c.args.conn)))

pub returns-clause-count : goal.returns-clause-count
returns-clause-count c =
    let conn = connection_of c.args.conn in
    let h = subscribed c.args.kind (held_in c.args.self.now conn) c.args.name in
    c.count-2.ensures.count ∙ ap (λ m. how_many_held (held_in m conn)) c.in_ok-begin.ensures.ok
    ∙ ap how_many_held (held_own c.args.self.now _ conn h (held_inserted c.args.self.now conn h))
