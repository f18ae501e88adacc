use Rattle.std.proofs.Common.{subst}
use Rattle.std.specs.List.Sorted.{IsStrictlySortedBy}
use Rattle.nr_model.specs.Keyspace.{byte_cmp}
use Rattle.nr_pubsub.proofs.holding.Holding.first.Goals as goal

pub returns-clause-ordered : goal.returns-clause-ordered
returns-clause-ordered c = subst (IsStrictlySortedBy byte_cmp) c.names.ensures.names c.names.ensures.ordered
