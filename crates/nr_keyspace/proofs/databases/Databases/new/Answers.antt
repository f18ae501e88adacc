use Rattle.nr_keyspace.proofs.Joined.{none_stored}
use Rattle.nr_keyspace.proofs.databases.Databases.new.Goals as goal

pub returns : goal.returns
returns c = none_stored c.in_ok-empty_databases.field-0.items c.in_ok-empty_databases.ensures.empty
