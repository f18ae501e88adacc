use Rattle.std.proofs.Common.{◌≡◌, subst}
use Rattle.nr_model.specs.Servers.{held_in, with_held_by}
use Rattle.nr_entry.specs.Jobs.{connection_of}
use Rattle.nr_pubsub.proofs.Exact.{held_again}
use Rattle.nr_pubsub.proofs.subs.Subs.count.Goals as goal

pub returns-clause-kept : goal.returns-clause-kept
returns-clause-kept c =
    let conn = connection_of c.args.conn in
    subst (λ m. with_held_by m conn (held_in m conn) ≡ m) c.self.view_is (held_again c.self.inside.holders conn (c.self.invariant.something conn))
