use Rattle.std.proofs.Common.{ap, ◌∙◌}
use Rattle.nr_model.specs.Names.{how_many_held, unsubscribed}
use Rattle.nr_model.specs.Servers.{held_in}
use Rattle.nr_entry.specs.Jobs.{connection_of}
use Rattle.nr_pubsub.proofs.Subscribers.{held_with, held_own}
use Rattle.nr_pubsub.proofs.Exact.{exact_unsubscribed}
use Rattle.nr_pubsub.proofs.subs.Subs.unsubscribe.Goals as goal

pub invariant_of-self : goal.invariant_of-self
invariant_of-self c =
    exact_unsubscribed c.self.inside.holders c.unsubscribe.new.self c.self.inside.indices c.remove.new.self
    (connection_of c.args.conn) c.args.kind c.args.name.now
    c.self.invariant c.remove.ensures c.unsubscribe.ensures

pub returns-clause-count : goal.returns-clause-count
returns-clause-count c =
    let conn = connection_of c.args.conn in
    let h = unsubscribed c.args.kind (held_in c.self.inside.holders conn) c.args.name.now in
    c.count.ensures.count ∙ ap (λ m. how_many_held (held_in m conn)) c.unsubscribe.ensures
    ∙ ap how_many_held (held_own c.self.inside.holders _ conn h (held_with c.self.inside.holders conn h))
    ∙ ap (λ m. how_many_held (unsubscribed c.args.kind (held_in m conn) c.args.name.now)) c.self.view_is
