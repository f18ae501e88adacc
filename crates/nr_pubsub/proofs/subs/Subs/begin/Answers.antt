use Rattle.std.proofs.Common.{ap, ◌∙◌}
use Rattle.std.specs.FinMap as finmap
use Rattle.nr_model.specs.Bytes.{Bytes}
use Rattle.nr_model.specs.Names.{subscribed}
use Rattle.nr_model.specs.Servers.{held_in}
use Rattle.nr_entry.specs.Jobs.{connection_of}
use Rattle.nr_model.proofs.Subscribed.{holds}
use Rattle.nr_pubsub.proofs.Exact.{exact_subscribed, exact_refused}
use Rattle.nr_pubsub.proofs.subs.Subs.begin.Goals as goal

pub invariant_of-self-in-Err : goal.invariant_of-self-in-Err
invariant_of-self-in-Err c = rw c.in-Err.ensures.err
    (exact_refused c.self.inside.holders c.self.inside.indices c.add.new.self c.remove.new.self
    (connection_of c.args.conn) c.args.kind c.args.name c.self.invariant
    (ap (λ m. holds c.args.kind c.args.name (held_in m (connection_of c.args.conn))) c.self.view_is ∙ c.requires) c.in_ok-add.ensures.ok c.remove.ensures)

pub invariant_of-self-in_default : goal.invariant_of-self-in_default
invariant_of-self-in_default c =
    exact_subscribed c.self.inside.holders c.subscribe.new.self c.self.inside.indices c.add.new.self
    (connection_of c.args.conn) c.args.kind c.args.name c.self.invariant
    c.in_ok-add.ensures.ok
    (c.in_default.ensures.ok ∙ ap (λ (n : Bytes). finmap.insert c.self.inside.holders (connection_of c.args.conn)
    (subscribed c.args.kind (held_in c.self.inside.holders (connection_of c.args.conn)) n)) c.in_ok-held_name.ensures.copied)
