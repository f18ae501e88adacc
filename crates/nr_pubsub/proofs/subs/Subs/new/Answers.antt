use Rattle.nr_pubsub.proofs.Exact.{exact_empty}
use Rattle.nr_pubsub.proofs.subs.Subs.new.Goals as goal

pub invariant_of-result : goal.invariant_of-result
invariant_of-result c = exact_empty c.new.result c.new-2.result c.new.ensures c.new-2.ensures
