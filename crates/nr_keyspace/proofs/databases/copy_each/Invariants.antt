use Rattle.std.proofs.Common.{◌≡◌, take}
use Rattle.nr_keyspace.proofs.databases.copy_each.Given as goal

abbrev pub invariant-loop-database : goal.invariant-loop-database
invariant-loop-database l = l.copies.items ≡ take l.database-index l.databases
