-- A key that is given another deadline, and is gone at once where that is past.
use Rattle.std.specs.Prelude.{ℕ, ℤ, Option, Some, None}
use Rattle.nr_model.specs.Keyspace.{Key, Keyspace, Stored}
use Rattle.nr_model.specs.Commands.Keys.{held_until}

-- with this deadline, or none, where something was held
abbrev pub redated_until : ℕ → Keyspace → Key → Option Stored → Option ℤ → Keyspace
redated_until now keyspace key None deadline = keyspace
redated_until now keyspace key (Some stored) deadline = held_until now keyspace key (record { value = stored.value; deadline = deadline })
