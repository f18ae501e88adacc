use Rattle.std.proofs.Common.{◌≡◌, ℕ, length}
use Rattle.std.specs.FinMap as map
use Rattle.nr_keyspace.specs.Joined.{store_at}
use Rattle.nr_keyspace.proofs.databases.empty_databases.Given as goal

abbrev pub invariant-loop : goal.invariant-loop
invariant-loop l = record {
  count : length l.databases.items ≡ l.counter;
  empty : (database : ℕ) → store_at l.databases.items database ≡ map.empty;
}
