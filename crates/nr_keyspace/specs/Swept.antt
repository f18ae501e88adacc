-- What is gone is taken out a few keys at a time, of one database after another.
use Rattle.std.specs.Prelude.{◌≡◌, ◌≢◌, ℕ, ◌+◌, ◌%◌, ◌≤◌, Bool, true, false, length, if◌then◌else◌}
use Rattle.std.specs.FinMap as map
use Rattle.nr_model.specs.Bytes.{Bytes}
use Rattle.nr_model.specs.Keyspace.{Key, Keyspace, key_of, live, names_in, how_many_databases}

-- of one database either four keys were taken out, and there may be more, or nothing that is gone is left there; the others are as they were
pub record IsSweptAt (now database : ℕ) (more : Bool) (old new : Keyspace) : Type 0 where
  pub few : length (names_in old database) ≤ length (names_in new database) + 4
  pub taken : more ≡ true → length (names_in new database) + 4 ≡ length (names_in old database)
  pub none_left : more ≡ false → (name : Bytes) → map.get (live new now) (key_of database name) ≡ map.get new (key_of database name)
  pub others : (key : Key) → key.database ≢ database → map.get new key ≡ map.get old key

-- that database is the one whose turn it was, and the turn stays there or passes on where nothing that is gone is left
pub record IsSweptInTurn (now turn turn' : ℕ) (old new : Keyspace) : Type 0 where
  pub more : Bool
  pub passes : turn' ≡ (if more then turn else ((turn + 1) % how_many_databases))
  pub swept : IsSweptAt now turn more old new
