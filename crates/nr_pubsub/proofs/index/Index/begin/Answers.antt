use Rattle.std.proofs.Common.{subst, Some, ◌∷◌, []}
use Rattle.nr_entry.specs.Jobs.{connection_of}
use Rattle.nr_pubsub.specs.Standings.{IsPlaced, standing_of}
use Rattle.nr_pubsub.proofs.Indexed.{begun, in_order, set_rises}
use Rattle.nr_pubsub.proofs.index.Index.begin.Goals as goal

pub invariant_of-self-2 : goal.invariant_of-self-2
invariant_of-self-2 c = in_order c.self.inside.by_name.entries c.insert.new.self.entries c.in_ok-copy.field-0 (Some c.in_ok-set.set) c.self.invariant
    c.in_ok-insert.ensures.ordered c.in_ok-insert.ensures.updates.0 (set_rises c.in_ok-set.set (connection_of c.args.conn) c.in_ok-set.ensures)

pub returns-clause-ok : goal.returns-clause-ok
returns-clause-ok c = subst (λ m. IsPlaced m (standing_of c.insert.new.self.entries) c.args.name.now (connection_of c.args.conn ∷ [])) c.self.view_is
    (begun c.self.inside.by_name.entries c.insert.new.self.entries c.args.name.now c.in_ok-copy.field-0 c.in_ok-set.set (connection_of c.args.conn)
    c.in_ok-insert.ensures.updates.0 c.in_ok-set.ensures c.in_ok-copy.ensures.copied)
