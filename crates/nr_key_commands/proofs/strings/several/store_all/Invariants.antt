use Rattle.std.proofs.Common.{◌≡◌, fold, length, map}
use Rattle.nr_model.specs.Keyspace.{key_of}
use Rattle.nr_model.specs.Commands.Strings as strings
use Rattle.nr_key_commands.specs.Pairs.{couples}
use Rattle.nr_key_commands.proofs.strings.several.store_all.Given as goal

abbrev pub invariant-loop-name : goal.invariant-loop-name
invariant-loop-name g l = record {
  keyspace : strings.with_pairs l.keyspace l.database (couples l.left) ≡ strings.with_pairs l.fn.keyspace l.database (couples l.words);
  touched : fold g.T.Touched.after l.touched (map (λ pair. key_of l.database pair.0) (couples l.left))
      ≡ fold g.T.Touched.after l.fn.touched (map (λ pair. key_of l.database pair.0) (couples l.words));
}

abbrev pub decreases-loop-name : goal.decreases-loop-name
decreases-loop-name g l = length l.left
