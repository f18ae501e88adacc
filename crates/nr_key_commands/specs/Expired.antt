-- A key that is given another deadline.
use Rattle.std.specs.Prelude.{ℕ, ℤ, ◌&&◌, List, [], ◌∷◌, Option, Some, None, is_some, if◌then◌else◌}
use Rattle.nr_model.specs.Keyspace.{Key, Keyspace, Stored}
use Rattle.nr_model.specs.Commands.Strings.{GetExOptions}
use Rattle.nr_keyspace.specs.Redated.{redated_until}

-- the deadline, or none, that a key with this one is given, if it is given any
abbrev pub deadline_given : GetExOptions → Option ℤ → Option (Option ℤ)
deadline_given options held =
    elim options.deadline [ Some deadline ↦ Some (Some deadline) | None ↦ if options.persist && is_some held then Some None else None ]

-- and what is given to a key that is there
abbrev pub given_to : GetExOptions → Option Stored → Option (Option ℤ)
given_to options None = None
given_to options (Some stored) = deadline_given options stored.deadline

-- with what it is given
abbrev pub re_expired_at : ℕ → Keyspace → Key → Option Stored → Option (Option ℤ) → Keyspace
re_expired_at now keyspace key held None = keyspace
re_expired_at now keyspace key held (Some deadline) = redated_until now keyspace key held deadline

-- a key is touched where it is given any
abbrev pub touched_by : Key → Option (Option ℤ) → List Key
touched_by key None = []
touched_by key (Some deadline) = key ∷ []
