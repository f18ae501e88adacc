use Rattle.nr_zsets.proofs.Indexed.{sorted_none}
use Rattle.nr_zsets.proofs.zset.Zset.new.Goals as goal

pub invariant_of-result : goal.invariant_of-result
invariant_of-result c = sorted_none _ _ c.new.ensures c.new-2.ensures.none
