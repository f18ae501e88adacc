-- The bytes that are kept for connections, until they were written.
use Rattle.std.specs.Prelude.{◌≡◌, Bool, cond, List, [], ◌++◌, Option, Some, None}
use Rattle.std.specs.Option.{option_map}
use Rattle.std.specs.Ordering.{eq_by_cmp}
use Rattle.std.specs.Map.{lookup}
use Rattle.nr_model.specs.Bytes.{Bytes}
use Rattle.nr_model.specs.Items.{Connection, connection_cmp}
use Rattle.nr_model.specs.Connections.{Handed, handed_to}
use Rattle.nr_entry.specs.declared.conn.ConnId.{ConnId}
use Rattle.nr_entry.specs.Jobs.{connection_of}

-- of each connection that is open here, those that were handed out for it and not yet written
abbrev pub Taps : Type 0
Taps = List (ConnId × Bytes)

abbrev pub is_conn : Connection → ConnId → Bool
is_conn c conn = eq_by_cmp connection_cmp c (connection_of conn)

abbrev pub kept_at : Connection → Taps → Option Bytes
kept_at c taps = lookup (is_conn c) taps

-- this is kept for a connection, or nothing, and for the others what was
pub record IsPut (conn : ConnId) (kept : Option Bytes) (old new : Taps) : Type 0 where
  pub at : (c : Connection) → kept_at c new ≡ cond (is_conn c conn) kept (kept_at c old)

-- of what was handed out, each connection's is kept behind what was, where it is open here
pub record AreKept (handed : List Handed) (old new : Taps) : Type 0 where
  pub at : (c : Connection) → kept_at c new ≡ option_map (λ (bytes : Bytes). bytes ++ handed_to c handed) (kept_at c old)

-- an empty tap for the connection that was opened, where one was
abbrev pub IsTapped : Option ConnId → Taps → Taps → Type 0
IsTapped None old new = new ≡ old
IsTapped (Some conn) old new = IsPut conn (Some []) old new
