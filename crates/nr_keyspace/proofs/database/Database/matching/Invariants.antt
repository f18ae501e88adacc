use Rattle.std.proofs.Common.{◌≡◌, ◌++◌, map}
use Rattle.std.specs.Map.Iter.{deref}
use Rattle.nr_keyspace.proofs.Listed.{wanted_names}
use Rattle.nr_keyspace.proofs.database.Database.matching.Given as goal

-- what was taken, with what is wanted of the rest, is all
abbrev pub invariant-loop-name : goal.invariant-loop-name
invariant-loop-name l =
    map deref l.names.items ++ wanted_names l.now l.pattern l.name-iterator ≡ wanted_names l.now l.pattern l.initial.name-iterator
