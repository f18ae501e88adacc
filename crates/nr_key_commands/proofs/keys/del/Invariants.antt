use Rattle.std.proofs.Common.{◌≡◌}
use Rattle.nr_model.specs.Keyspace.{live}
use Rattle.nr_key_commands.proofs.Removals.{Along}
use Rattle.nr_key_commands.proofs.keys.del.Given as goal

abbrev pub invariant-loop-name : goal.invariant-loop-name
invariant-loop-name g l = record {
  along : Along g.T.Touched.after l.fn.keyspace l.keyspace l.fn.touched l.touched l.removed l.database l.names l.name-index;
  swept : live l.keyspace l.now ≡ l.keyspace;
}
