-- How what is watched is kept: by connection, and by name beside it.
use Rattle.std.specs.Prelude.{◌≡◌, ℕ, ◌==◌, Bool, true, false, not, cond, ◌&&◌, ◌||◌, List, [], ◌∷◌, ◌++◌, Option, Some, None, filter, bytes_eq, refl}
use Rattle.std.specs.Prelude as prelude
use Rattle.std.specs.List.{list_any}
use Rattle.std.specs.Option.{option_map}
use Rattle.std.specs.Ordering.{eq_by_cmp}
use Rattle.std.specs.Map.{lookup}
use Rattle.std.specs.BTreeSet.{BTreeSet}
use Rattle.std.specs.Coded.{Coded, code_by, coded×, coded_bool, coded_list}
use Rattle.std.specs.FinMap as map
use Rattle.std.specs.FinSet as set
use Rattle.nr_model.specs.Bytes.{Bytes}
use Rattle.nr_model.specs.Keyspace.{Key, key_of, Keyspace, byte_cmp}
use Rattle.nr_model.specs.Items.{Connection, connection_cmp}
use Rattle.nr_model.specs.Sequential.Watches.{same_key}
use Rattle.nr_model.specs.Servers.{Watch}
use Rattle.nr_entry.specs.declared.conn.ConnId.{ConnId}
use Rattle.nr_entry.specs.Jobs.{connection_of}
use Rattle.nr_watch.specs.Watching.{Watching, coded_watch}

-- what one connection watches, and whether a key of that was touched
pub record Watcher : Type 0 where
  pub watches : List Watch
  pub touched : Bool

abbrev pub marked_at : Key → Watcher → Watcher
marked_at key w = record w { touched = w.touched || list_any (λ watch. same_key watch.key key) w.watches }

abbrev pub marked_where : (Key → Bool) → Watcher → Watcher
marked_where hits w = record w { touched = w.touched || list_any (λ watch. hits watch.key) w.watches }

-- a key of one database by a name that a key of another has
abbrev pub is_named_in : Keyspace → ℕ → ℕ → Key → Bool
is_named_in keyspace source target key = key.database == target && map.contains_key keyspace (key_of source key.name)

abbrev pub coded_watcher : Coded Watcher
coded_watcher = code_by (List Watch × Bool) (coded× (coded_list coded_watch) coded_bool) (λ w. (w.watches, w.touched))
    (λ p. record { watches = p.0; touched = p.1 }) (λ _. refl)

-- what each connection watches
abbrev pub Kept : Type 0
Kept = List (ConnId × Watcher)

abbrev pub is_conn : Connection → ConnId → Bool
is_conn c conn = eq_by_cmp connection_cmp c (connection_of conn)

abbrev pub kept_at : Connection → Kept → Option Watcher
kept_at c kept = lookup (is_conn c) kept

abbrev pub watches_at : Option Watcher → List Watch
watches_at None = []
watches_at (Some watcher) = watcher.watches

abbrev pub is_marked : Option Watcher → Bool
is_marked None = false
is_marked (Some watcher) = watcher.touched

-- as contracts see it
abbrev pub watches_of : Kept → map.FinMap connection_cmp (List Watch)
watches_of kept = map.from_entries (prelude.map (λ e. (connection_of e.0, e.1.watches)) kept)

abbrev pub touched_of : Kept → set.FinSet connection_cmp
touched_of kept = set.from_list (filter (λ c. is_marked (kept_at c kept)) (prelude.map (λ e. connection_of e.0) kept))

abbrev pub watching_of : Kept → Watching
watching_of kept = record { watches = watches_of kept; touched = touched_of kept }

-- one watch more
abbrev pub with_watch : Watch → Option Watcher → Watcher
with_watch watch None = record { watches = watch ∷ []; touched = false }
with_watch watch (Some watcher) = record watcher { watches = watcher.watches ++ watch ∷ [] }

-- this is kept for a connection, or nothing, and for everyone else what was kept
pub record IsPut (conn : ConnId) (w : Option Watcher) (old new : Kept) : Type 0 where
  pub at : (c : Connection) → kept_at c new ≡ cond (is_conn c conn) w (kept_at c old)

pub record IsKeptAsBefore (old new : Kept) : Type 0 where
  pub at : (c : Connection) → kept_at c new ≡ kept_at c old

-- of the connections that pass a test, those that watch a key are marked
pub record IsMarked (key : Key) (among : Connection → Bool) (old new : Kept) : Type 0 where
  pub at : (c : Connection) → kept_at c new ≡ cond (among c) (option_map (marked_at key) (kept_at c old)) (kept_at c old)

-- those that watch a key that passes a test are marked
pub record IsMarkedWhere (hits : Key → Bool) (old new : Kept) : Type 0 where
  pub at : (c : Connection) → kept_at c new ≡ option_map (marked_where hits) (kept_at c old)

-- the connections that stand at each name
abbrev pub Index : Type 0
Index = List (Bytes × BTreeSet ConnId)

abbrev pub is_among : Connection → Option (BTreeSet ConnId) → Bool
is_among c None = false
is_among c (Some conns) = list_any (is_conn c) conns.keys

abbrev pub is_name : Bytes → Bytes → Bool
is_name name stored = eq_by_cmp byte_cmp name stored

abbrev pub stands : Index → Bytes → Connection → Bool
stands index name c = is_among c (lookup (is_name name) index)

-- there is one at least
abbrev pub has_one : List ConnId → Bool
has_one [] = false
has_one (conn ∷ conns) = true

abbrev pub has_somebody : Option (BTreeSet ConnId) → Bool
has_somebody None = true
has_somebody (Some conns) = has_one conns.keys

-- somebody stands at each of the names
abbrev pub IsHeld : Index → Type 0
IsHeld index = (name : Bytes) → has_somebody (lookup (is_name name) index) ≡ true

-- a key of this name is watched, in any database
abbrev pub names_one : Bytes → List Watch → Bool
names_one name watches = list_any (λ w. bytes_eq w.key.name name) watches

-- a connection stands at a name exactly where it watches a key of that name
pub record IsIndexed (kept : Kept) (index : Index) : Type 0 where
  pub at : (c : Connection) (name : Bytes) → stands index name c ≡ names_one name (watches_at (kept_at c kept))

-- a connection stands at the names that pass a test too, or no more, and everyone else as before
pub record IsAdded (passes : Bytes → Bool) (conn : ConnId) (old new : Index) : Type 0 where
  pub at : (name : Bytes) (c : Connection) → stands new name c ≡ ((passes name && is_conn c conn) || stands old name c)

pub record IsTakenOut (passes : Bytes → Bool) (conn : ConnId) (old new : Index) : Type 0 where
  pub at : (name : Bytes) (c : Connection) → stands new name c ≡ (not (passes name && is_conn c conn) && stands old name c)

pub record IsAsBefore (old new : Index) : Type 0 where
  pub at : (name : Bytes) (c : Connection) → stands new name c ≡ stands old name c
