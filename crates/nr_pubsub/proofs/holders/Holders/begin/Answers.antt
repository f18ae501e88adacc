use Rattle.std.proofs.Common.{◌∙◌}
use Rattle.std.specs.FinMap as finmap
use Rattle.nr_model.specs.Names.{subscribed}
use Rattle.nr_entry.specs.Jobs.{connection_of}
use Rattle.nr_pubsub.proofs.Held.{inserted_is}
use Rattle.nr_pubsub.proofs.holders.Holders.begin.Goals as goal

pub returns-clause-ok : goal.returns-clause-ok
returns-clause-ok c =
    inserted_is c.self.inside.by_conn.entries c.insert.new.self.entries (connection_of c.args.conn) c.subscribe.new.self c.in_ok-insert.ensures.updates.0
    ∙ (λ i. finmap.insert (c.self.view_is i) (connection_of c.args.conn)
    ((c.in_ok-subscribe.ensures.ok ∙ (λ j. subscribed c.args.kind (c.new-holding.ensures j) c.args.name)) i))
