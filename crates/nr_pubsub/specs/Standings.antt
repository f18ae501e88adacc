-- The connections at each name, as contracts see an index.
use Rattle.std.specs.Prelude.{◌≡◌, cond, not, List, [], ◌∷◌, map, filter, Option, Some, None, unwrap_or}
use Rattle.std.specs.Coded.{Coded, coded_list}
use Rattle.std.specs.Ordering.{eq_by_cmp}
use Rattle.std.specs.List.{list_any}
use Rattle.std.specs.List.Sorted.{IsStrictlySortedBy}
use Rattle.std.specs.BTreeSet.{BTreeSet}
use Rattle.std.specs.FinMap as finmap
use Rattle.nr_model.specs.Bytes.{Bytes}
use Rattle.nr_model.specs.Keyspace.{byte_cmp, coded_bytes}
use Rattle.nr_model.specs.Items.{Connection, connection_cmp}
use Rattle.nr_entry.specs.Jobs.{connection_of}
use Rattle.nr_entry.specs.declared.conn.ConnId.{ConnId}
use Rattle.nr_pubsub.specs.Holdings.{coded_connection}

-- at each name that some connection stands at, the connections in order
abbrev pub Standing : Type 0
Standing = finmap.FinMap byte_cmp (List Connection)

abbrev pub coded_standing : Coded Standing
coded_standing = finmap.code coded_bytes (coded_list coded_connection)

-- who stands at a name
abbrev pub standing_at : Standing → Bytes → List Connection
standing_at all name = unwrap_or (finmap.get all name) []

-- a list that is kept only where it has items
abbrev pub some_of : List Connection → Option (List Connection)
some_of [] = None
some_of (c ∷ cs) = Some (c ∷ cs)

abbrev pub without : Connection → List Connection → List Connection
without c cs = filter (λ d. not (eq_by_cmp connection_cmp c d)) cs

-- at one name there are these, and at each other those that were
pub record IsPlaced (old new : Standing) (name : Bytes) (after : List Connection) : Type 0 where
  pub found : (q : Bytes) → finmap.get new q ≡ cond (eq_by_cmp byte_cmp q name) (some_of after) (finmap.get old q)

-- a connection was taken away from each of these names
pub record IsLeft (old new : Standing) (names : List Bytes) (c : Connection) : Type 0 where
  pub found : (q : Bytes) → finmap.get new q ≡ cond (list_any (eq_by_cmp byte_cmp q) names) (some_of (without c (standing_at old q))) (finmap.get old q)

-- the code's connections as those of the definitions
abbrev pub connections : List ConnId → List Connection
connections conns = map connection_of conns

abbrev pub standing_entries : List (Bytes × BTreeSet ConnId) → List (Bytes × List Connection)
standing_entries entries = map (λ e. (e.0, connections e.1.keys)) entries

abbrev pub standing_of : List (Bytes × BTreeSet ConnId) → Standing
standing_of entries = finmap.from_entries (standing_entries entries)

-- names and the connections at each are in order
pub record IsInOrder (entries : List (Bytes × BTreeSet ConnId)) : Type 0 where
  pub names : IsStrictlySortedBy byte_cmp (map (λ e. e.0) entries)
  pub each : (q : Bytes) → IsStrictlySortedBy connection_cmp (standing_at (standing_of entries) q)
