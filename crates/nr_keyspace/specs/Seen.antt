-- What commands see of the databases, though not all that is gone was taken out.
use Rattle.std.specs.Prelude.{ℕ, ℤ, Bool, true, Option, Some, None}
use Rattle.nr_model.specs.Keyspace.{Keyspace, live, is_live_at}

-- what was live at the latest sweep, and all where there was none
abbrev pub seen_after : Option ℕ → Keyspace → Keyspace
seen_after None keyspace = keyspace
seen_after (Some latest) keyspace = live keyspace latest

-- whether a key with this deadline is seen
abbrev pub is_seen_after : Option ℕ → Option ℤ → Bool
is_seen_after None deadline = true
is_seen_after (Some latest) deadline = is_live_at latest deadline
