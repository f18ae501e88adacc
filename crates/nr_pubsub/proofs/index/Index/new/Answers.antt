use Rattle.nr_pubsub.proofs.Indexed.{none_in_order}
use Rattle.nr_pubsub.proofs.index.Index.new.Goals as goal

pub invariant_of-result : goal.invariant_of-result
invariant_of-result c = none_in_order c.new.result.entries c.new.ensures.empty
