use Rattle.std.proofs.Common.{◌≡◌, ℕ, cond, ltb}
use Rattle.std.specs.FinMap as map
use Rattle.nr_model.specs.Bytes.{Bytes}
use Rattle.nr_model.specs.Keyspace.{only_live}
use Rattle.nr_keyspace.specs.Joined.{store_at}
use Rattle.nr_keyspace.proofs.databases.sweep_each.Given as goal

-- those so far are swept, and the others are as they were
abbrev pub invariant-loop-database : goal.invariant-loop-database
invariant-loop-database l = (k : ℕ) (name : Bytes) → map.get (store_at l.databases k) name
    ≡ cond (ltb k l.database-index) (only_live l.now (map.get (store_at l.fn.databases k) name)) (map.get (store_at l.fn.databases k) name)
