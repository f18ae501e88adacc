-- What happened so far along a sequence, the newest first.
use Rattle.std.specs.Prelude.{ℕ, cond, max, List, [], ◌∷◌}
use Rattle.std.specs.FinMap as map
use Rattle.nr_model.specs.Replies.{Reply}
use Rattle.nr_model.specs.Keyspace.{Key, Keyspace}
use Rattle.nr_model.specs.Items.{Connection, same_connection, Item, is_update}

-- a reply or a message to a connection
pub record Emission : Type 0 where
  pub connection : Connection
  pub reply : Reply

-- an item that was executed: at which moment, what it left (the keyspace, its connection's database), which keys it touched, and what it emitted
pub record Event : Type 0 where
  pub item : Item
  pub now : ℕ
  pub keyspace : Keyspace
  pub database : ℕ
  pub touched : List Key
  pub emitted : List Emission

abbrev pub Past : Type 0
Past = List Event

abbrev pub keyspace_after : Past → Keyspace
keyspace_after [] = map.empty
keyspace_after (event ∷ older) = event.keyspace

-- the database that the connection's last item left, and at first 0
abbrev pub database_of : Connection → Past → ℕ
database_of c [] = 0
database_of c (event ∷ older) = cond (same_connection event.item.connection c) event.database (database_of c older)

-- the greatest moment of the logged items, 0 where there is none
abbrev pub logged_moment : Past → ℕ
logged_moment [] = 0
logged_moment (event ∷ older) = cond (is_update event.item.deed) (max event.item.moment (logged_moment older)) (logged_moment older)

-- An item's now: the greatest of its moment and the moments of the logged items before it. A clock that runs back moves no item back.
abbrev pub now_of : Past → Item → ℕ
now_of past item = max item.moment (logged_moment past)
