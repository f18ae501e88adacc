use Rattle.std.proofs.Common.{sym}
use Rattle.nr_entry.specs.Jobs.{connection_of}
use Rattle.nr_pubsub.proofs.Exact.{exact_forgotten, exact_none}
use Rattle.nr_pubsub.proofs.subs.Subs.forget.Goals as goal

pub invariant_of-self : goal.invariant_of-self
invariant_of-self c =
    exact_forgotten c.self.inside.holders c.take.new.self c.self.inside.indices c.remove_all.new.self
    (connection_of c.args.conn) c.in-Some.holding c.self.invariant
    (sym c.in-Some.ensures.taken) c.remove_all.ensures c.in-Some.ensures.removed

pub invariant_of-self-in_default : goal.invariant_of-self-in_default
invariant_of-self-in_default c =
    exact_none c.self.inside.holders c.take.new.self c.self.inside.indices (connection_of c.args.conn) c.self.invariant (sym c.in_default.ensures.taken)
    c.in_default.ensures.removed
