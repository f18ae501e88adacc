use Rattle.std.proofs.Common.{◌≡◌, length}
use Rattle.std.specs.List.{list_any}
use Rattle.std.specs.FinMap as finmap
use Rattle.nr_model.specs.Keyspace.{key_of}
use Rattle.nr_key_commands.specs.Pairs.{couples}
use Rattle.nr_key_commands.proofs.strings.several.any_is_there.Given as goal

abbrev pub invariant-loop-name : goal.invariant-loop-name
invariant-loop-name l =
    list_any (λ pair. finmap.contains_key l.keyspace (key_of l.database pair.0)) (couples l.left)
    ≡ list_any (λ pair. finmap.contains_key l.keyspace (key_of l.database pair.0)) (couples l.words)

abbrev pub decreases-loop-name : goal.decreases-loop-name
decreases-loop-name l = length l.left
