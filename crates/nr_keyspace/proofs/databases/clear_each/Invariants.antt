use Rattle.std.proofs.Common.{◌≡◌, ℕ, cond, ltb}
use Rattle.std.specs.FinMap as map
use Rattle.nr_keyspace.specs.Joined.{store_at}
use Rattle.nr_keyspace.proofs.databases.clear_each.Given as goal

-- those so far are empty, and the others are as they were
abbrev pub invariant-loop-database : goal.invariant-loop-database
invariant-loop-database l = (k : ℕ) → store_at l.databases k ≡ cond (ltb k l.database-index) map.empty (store_at l.fn.databases k)
