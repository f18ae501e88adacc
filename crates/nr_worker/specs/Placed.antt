-- The seats of a worker's connections, by serial, and how each call changes them.
use Rattle.std.specs.Prelude.{◌≡◌, ℕ, ◌==◌, Bool, false, cond, Option, None, Some, List, [], map, filter, length}
use Rattle.std.specs.List.{list_all}
use Rattle.std.specs.Map.{lookup}
use Rattle.std.specs.Ordering.{eq_by_cmp, nat_cmp}
use Rattle.std.specs.Coded.{Coded, coded×, coded_ℕ, coded_list}
use Rattle.nr_model.specs.Bytes.{Bytes}
use Rattle.nr_model.specs.Items.{Item}
use Rattle.nr_entry.specs.Jobs.{item_of}
use Rattle.nr_entry.specs.declared.conn.ConnId.{ConnId}
use Rattle.nr_worker.specs.Seated.{OpenConnectionState, coded_seat, listens, takes, HasFed, HasStopped}
use Rattle.nr_worker.specs.declared.open_connections.Closed.{Closed}
use Rattle.nr_worker.specs.declared.open_connections.Closed.TheVariants.{Absent, Ended, Last}

-- by serial, what is kept of each connection that is open
abbrev pub OpenConnectionsState : Type 0
OpenConnectionsState = List (ℕ × OpenConnectionState)

abbrev pub coded_seats : Coded OpenConnectionsState
coded_seats = coded_list (coded× coded_ℕ coded_seat)

abbrev pub seat_at : ℕ → OpenConnectionsState → Option OpenConnectionState
seat_at serial seats = lookup (eq_by_cmp nat_cmp serial) seats

-- this stands at a serial now, or nothing, and at the others what did
pub record IsPut (serial : ℕ) (seat : Option OpenConnectionState) (old new : OpenConnectionsState) : Type 0 where
  pub at : (other : ℕ) → seat_at other new ≡ cond (serial == other) seat (seat_at other old)

-- whether there is a seat that takes bytes
abbrev pub takes_here : Option OpenConnectionState → Bool
takes_here None = false
takes_here (Some s) = takes s

-- whether there is a seat for which messages may come
abbrev pub listens_here : Option OpenConnectionState → Bool
listens_here None = false
listens_here (Some s) = listens s

-- the bytes that wait, none where there is no seat
abbrev pub pending_here : Option OpenConnectionState → Bytes
pending_here None = []
pending_here (Some s) = s.pending

-- whether nothing waits to be written at any of them
abbrev pub are_written : OpenConnectionsState → Bool
are_written seats = list_all (λ (entry : ℕ × OpenConnectionState). length entry.1.pending == 0) seats

-- the connections of a node whose seats take bytes, in the order of their serials
abbrev pub open_ones : ℕ → OpenConnectionsState → List ConnId
open_ones node seats = map (λ (entry : ℕ × OpenConnectionState). record { node = node; serial = entry.0 }) (filter (λ (entry : ℕ × OpenConnectionState). takes entry.1) seats)

-- the seat at a serial was fed, and no other
pub record FeedsSeat (serial moment : ℕ) (piece : Bytes) (old new : OpenConnectionsState) (before after : List Item) : Type 0 where
  pub was : OpenConnectionState
  pub is : OpenConnectionState
  pub there : seat_at serial old ≡ Some was
  pub put : IsPut serial (Some is) old new
  pub fed : HasFed moment piece was is before after

-- or was not fed to the end
pub record StopsSeat (serial moment : ℕ) (piece : Bytes) (old new : OpenConnectionsState) (before after : List Item) : Type 0 where
  pub was : OpenConnectionState
  pub is : OpenConnectionState
  pub there : seat_at serial old ≡ Some was
  pub put : IsPut serial (Some is) old new
  pub stopped : HasStopped moment piece was is before after

-- what closing came to: whether there was a seat, and its last job
abbrev pub closed_seen : Closed → Option (Option Item)
closed_seen Absent = None
closed_seen Ended = Some None
closed_seen (Last job) = Some (Some (item_of job))
