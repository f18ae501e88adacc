-- The databases as one keyspace.
use Rattle.std.specs.Prelude.{◌≡◌, ℕ, suc, List, [], ◌∷◌, slice_index_or}
use Rattle.std.specs.FinMap as map
use Rattle.nr_model.specs.Bytes.{Bytes}
use Rattle.nr_model.specs.Keyspace.{Keyspace, Stored, only_live}
pub use Rattle.nr_model.specs.Keyspace.{key_of, other_of, exchanged}
use Rattle.nr_keyspace.specs.Stores.{Store}

-- with each of these in a database
abbrev pub with_entries : ℕ → List (Bytes × Stored) → Keyspace → Keyspace
with_entries database [] keyspace = keyspace
with_entries database (e ∷ entries) keyspace = map.insert (with_entries database entries keyspace) (key_of database e.0) e.1

-- the databases from a number on
abbrev pub joined_from : ℕ → List Store → Keyspace
joined_from database [] = map.empty
joined_from database (store ∷ stores) = with_entries database (map.entries store) (joined_from (suc database) stores)

abbrev pub joined : List Store → Keyspace
joined stores = joined_from 0 stores

-- the database of a number, or an empty one
abbrev pub store_at : List Store → ℕ → Store
store_at stores database = slice_index_or stores database map.empty

-- in each database what is live at a moment stays, and nothing else
pub record IsSwept (now : ℕ) (old new : List Store) : Type 0 where
  pub left : (database : ℕ) (name : Bytes) → map.get (store_at new database) name ≡ only_live now (map.get (store_at old database) name)
