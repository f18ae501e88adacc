use Rattle.std.proofs.Common.{◌≡◌}
use Rattle.std.specs.FinMap as map
use Rattle.nr_model.specs.Bytes.{Bytes}
use Rattle.nr_model.specs.Keyspace.{only_live}
use Rattle.nr_keyspace.proofs.database.Database.sweep.Given as goal

abbrev pub invariant-loop : goal.invariant-loop
invariant-loop l = (name : Bytes) → only_live l.now (map.get l.self name) ≡ only_live l.now (map.get l.fn.self name)

abbrev pub decreases-loop : goal.decreases-loop
decreases-loop l = map.len l.self
