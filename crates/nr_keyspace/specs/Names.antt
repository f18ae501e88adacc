-- The names of a database.
use Rattle.std.specs.Prelude.{ℕ}
use Rattle.std.specs.FinMap as map
use Rattle.nr_model.specs.Keyspace.{is_stored_live}
use Rattle.nr_keyspace.specs.Stores.{Store}

-- what of a database is live at a moment
abbrev pub live_store : Store → ℕ → Store
live_store store now = map.retain_keys store (λ name. is_stored_live now (map.get store name))
