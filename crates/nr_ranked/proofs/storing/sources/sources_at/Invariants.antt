use Rattle.std.proofs.Common.{◌≡◌, ◌++◌, drop, map}
use Rattle.std.specs.Prelude.{Ok}
use Rattle.nr_model.specs.Keyspace.{live}
use Rattle.nr_model.specs.Commands.Reading.{read_then}
use Rattle.nr_model.specs.Commands.SortedSets as sorted_sets
use Rattle.nr_ranked.specs.Storing.{scores_in}
use Rattle.nr_ranked.proofs.storing.sources.sources_at.Given as goal

-- what is held by those so far, and by those left, is what all hold
abbrev pub invariant-loop-name : goal.invariant-loop-name
invariant-loop-name l =
    read_then (sorted_sets.sources_at (live l.keyspace l.now) l.database (drop l.name-index l.names)) (λ others. Ok (map scores_in l.held.items ++ others))
    ≡ sorted_sets.sources_at (live l.keyspace l.now) l.database l.names
