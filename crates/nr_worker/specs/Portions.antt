-- What becomes of the pieces that were handed out for a worker's connections.
use Rattle.std.specs.Prelude.{◌≡◌, ℕ, ◌+◌, ◌<◌, ◌≤◌, ◌^◌, ◌==◌, Bool, true, not, ◌&&◌, ◌||◌, cond, Option, None, Some, List, [], ◌∷◌, ◌++◌, map, filter, drop, length}
use Rattle.std.specs.List.{list_any, AllByRecursion}
use Rattle.std.specs.Option.{option_map}
use Rattle.nr_model.specs.Bytes.{Bytes, IsBeginningOf}
use Rattle.nr_model.specs.Items.{Connection}
use Rattle.nr_model.specs.Connections as connections
use Rattle.nr_entry.specs.Jobs.{connection_of}
use Rattle.nr_node.specs.declared.collecting.LastPiece.{LastPiece}
use Rattle.nr_worker.specs.Seated.{OpenConnectionState}
use Rattle.nr_worker.specs.Placed.{OpenConnectionsState, seat_at}

-- what was handed out for a connection: how many bytes before it, these bytes, and whether they are the last
pub record Portion : Type 0 where
  pub connection : Connection
  pub from : ℕ
  pub bytes : Bytes
  pub last : Bool

abbrev pub portion_of : LastPiece → Portion
portion_of handed = record { connection = connection_of handed.piece.conn; from = handed.piece.from; bytes = handed.piece.bytes.items; last = handed.is_cut }

-- a piece, and whether it was kept
pub record PortionArrival : Type 0 where
  pub portion : Portion
  pub kept : Bool

-- the pieces that were kept
abbrev pub kept_of : List PortionArrival → List Portion
kept_of [] = []
kept_of (arrival ∷ arrivals) = cond arrival.kept (arrival.portion ∷ kept_of arrivals) (kept_of arrivals)

-- those for a serial
abbrev pub arrivals_at : ℕ → List PortionArrival → List PortionArrival
arrivals_at serial arrivals = filter (λ (arrival : PortionArrival). arrival.portion.connection.serial == serial) arrivals

-- all their bytes
abbrev pub bytes_of : List Portion → Bytes
bytes_of [] = []
bytes_of (portion ∷ portions) = portion.bytes ++ bytes_of portions

-- whether each begins where the one before ended, the first at a count
abbrev pub follow : ℕ → List Portion → Bool
follow count [] = true
follow count (portion ∷ portions) = portion.from == count && follow (count + length portion.bytes) portions

-- no more bytes are taken behind it: it was lost, or is the last
abbrev pub cuts : PortionArrival → Bool
cuts arrival = not arrival.kept || arrival.portion.last

-- a piece is the next of a seat for which nothing waits, and no more than it holds
pub record IsNext (limit : ℕ) (seat : OpenConnectionState) (portion : Portion) : Type 0 where
  pub none : seat.pending ≡ []
  pub next : portion.from ≡ seat.handed
  pub few : length portion.bytes ≤ limit
  pub counted : seat.handed + length portion.bytes < 2 ^ 64

-- Pieces came to a seat: those that were kept follow one another and what was handed out before, and wait behind what waited. It is cut
-- where one was lost or was the last, and only there. The first is kept where it is the next and nothing waited.
pub record Grows (limit : ℕ) (arrivals : List PortionArrival) (old new : OpenConnectionState) : Type 0 where
  pub session : new.session ≡ old.session
  pub pending : new.pending ≡ old.pending ++ bytes_of (kept_of arrivals)
  pub handed : new.handed ≡ old.handed + length (bytes_of (kept_of arrivals))
  pub follows : follow old.handed (kept_of arrivals) ≡ true
  pub cut : new.cut ≡ (old.cut || list_any cuts arrivals)
  pub within : length old.pending ≤ limit → length new.pending ≤ limit
  pub first : (arrival : PortionArrival) (others : List PortionArrival) → arrivals ≡ arrival ∷ others → IsNext limit old arrival.portion → arrival.kept ≡ true

-- where there is no seat they were lost
abbrev pub GrowsHere : ℕ → List PortionArrival → Option OpenConnectionState → Option OpenConnectionState → Type 0
GrowsHere limit arrivals None None = kept_of arrivals ≡ []
GrowsHere limit arrivals (Some old) (Some new) = Grows limit arrivals old new
GrowsHere limit arrivals _ _ = ⊥

-- Pieces came to the seats of their serials, in their order.
pub record AcceptsPortions (limit : ℕ) (portions : List Portion) (old new : OpenConnectionsState) : Type 0 where
  pub arrivals : List PortionArrival
  pub are : map (λ (arrival : PortionArrival). arrival.portion) arrivals ≡ portions
  pub at : (serial : ℕ) → GrowsHere limit (arrivals_at serial arrivals) (seat_at serial old) (seat_at serial new)

-- what was handed out by that
abbrev pub handed_of : Portion → connections.Handed
handed_of portion = record { connection = portion.connection; bytes = portion.bytes }

abbrev pub handed_by : List PortionArrival → List connections.Handed
handed_by arrivals = map handed_of (kept_of arrivals)

-- the seat of a connection, where all seats are those of a node
abbrev pub seat_of : ℕ → OpenConnectionsState → Connection → Option OpenConnectionState
seat_of node seats c = cond (c.node == node) (seat_at c.serial seats) None

-- this holds of each connection and its seat
abbrev pub EachSeat : (Connection → OpenConnectionState → Type 0) → ℕ → OpenConnectionsState → Type 0
EachSeat P node seats = (c : Connection) (s : OpenConnectionState) → seat_of node seats c ≡ Some s → P c s

-- the bytes that wait for a connection that is open
abbrev pub waiting_of : ℕ → OpenConnectionsState → Connection → Option Bytes
waiting_of node seats c = option_map (λ (s : OpenConnectionState). s.pending) (seat_of node seats c)

-- a piece is of what is emitted for its connection
pub record IsPieceOf (emitted : Connection → Bytes) (portion : Portion) : Type 0 where
  pub begins : IsBeginningOf portion.bytes (drop portion.from (emitted portion.connection))

-- pieces for connections of a node
abbrev pub AreOfNode : ℕ → List Portion → Type 0
AreOfNode node portions = AllByRecursion (λ (portion : Portion). portion.connection.node ≡ node) portions

-- What was handed out for each connection begins what is emitted for it, and is counted where it is open.
pub record HasHandedOut (emitted : Connection → Bytes) (node : ℕ) (seats : OpenConnectionsState) (handed : Connection → Bytes) : Type 0 where
  pub begins : (c : Connection) → IsBeginningOf (handed c) (emitted c)
  pub counted : EachSeat (λ c s. s.handed ≡ length (handed c)) node seats

-- What was handed out waits at the seats of its connections, behind what waited, and nothing where there is none.
pub record HandsOut (node : ℕ) (handed : List connections.Handed) (old new : OpenConnectionsState) : Type 0 where
  pub waiting : (c : Connection)
      → waiting_of node new c ≡ option_map (λ (bytes : Bytes). bytes ++ connections.handed_to c handed) (waiting_of node old c)
  pub none : (c : Connection) → seat_of node old c ≡ None → (connections.handed_to c handed ≡ []) × (seat_of node new c ≡ None)
