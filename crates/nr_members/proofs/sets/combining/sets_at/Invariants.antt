use Rattle.std.proofs.Common.{◌≡◌, ◌++◌, drop, map}
use Rattle.std.specs.Prelude.{Ok}
use Rattle.nr_model.specs.Keyspace.{live}
use Rattle.nr_model.specs.Commands.Reading.{read_then}
use Rattle.nr_model.specs.Commands.Sets as sets
use Rattle.nr_sets.specs.Lent.{lent}
use Rattle.nr_members.proofs.sets.combining.sets_at.Given as goal

-- what is held by those so far, and by those left, is what all hold
abbrev pub invariant-loop-name : goal.invariant-loop-name
invariant-loop-name l =
    read_then (sets.sets_at (live l.keyspace l.now) l.database (drop l.name-index l.names)) (λ others. Ok (map lent l.held.items ++ others))
    ≡ sets.sets_at (live l.keyspace l.now) l.database l.names
