use Rattle.std.proofs.Common.{◌≡◌, ◌+◌}
use Rattle.std.specs.FinMap as map
use Rattle.nr_model.specs.Bytes.{Bytes}
use Rattle.nr_model.specs.Keyspace.{only_live}
use Rattle.nr_keyspace.proofs.database.Database.sweep_some.Given as goal

abbrev pub invariant-loop : goal.invariant-loop
invariant-loop l = record {
  same_live : (name : Bytes) → only_live l.now (map.get l.self name) ≡ only_live l.now (map.get l.fn.self name);
  taken : map.len l.self + l.counter ≡ map.len l.fn.self;
}
