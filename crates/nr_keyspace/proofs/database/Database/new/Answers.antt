use Rattle.nr_keyspace.proofs.Indexed.{empty_indexed}
use Rattle.nr_keyspace.proofs.database.Database.new.Goals as goal

pub invariant_of-result : goal.invariant_of-result
invariant_of-result c = rw (c.with_hasher.ensures.empty, c.new.ensures) empty_indexed
