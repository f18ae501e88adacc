-- The rule of the log: what holds between any two steps, whatever the threads do.
-- There is one log of entries, in the order of their reservations. Word 0 is the tail, their number. Each node has a history, which only its
-- own seat prolongs, and a cell for each place.
use Rattle.std.specs.Prelude.{◌≡◌, ◌≢◌, ℕ, suc, ◌+◌, ◌^◌, ◌<◌, ◌≤◌, List, [], ◌++◌, length, replicate, slice_index, slice_index_or, Option, Some, None, MatchOption}
use mathlib.Core.Option.{some}
use mathlib.Core.Option as maybe
use lib.ListN.{get_elem?}
use Rattle.std.specs.Arc.{arc_value}
use Rattle.std.specs.declared.sync.Arc.{Arc}
use Rattle.std.specs.declared.alloc.Global.{Global}
use Rattle.nr_model.specs.Bytes.{IsBeginningOf}
use Rattle.nr_entry.specs.declared.entry.Entry.{Entry}
use Rattle.nr_log_end.specs.Numbers.{AreRising}
use Rattle.nr_log_end.specs.declared.standing.Standing.{Standing}
use Rattle.nr_log_end.specs.declared.standing.LogEvent.{LogEvent}
use Rattle.nr_log_end.specs.Standings.{applied_of, record_of, known_of, own_entries, jobs_in}
use Rattle.atomic_table.specs.Table.{State}
use Rattle.nr_oplog.specs.declared.view.LogView.{LogView}
use Rattle.nr_oplog.specs.Layout.{passed_word, stamp_word, slot_of, words_of, slots_of}

abbrev pub Share : Type 0
Share = Arc Entry Global

abbrev pub Homes : Type 0
Homes = List (maybe.Option (Option Share))

-- A node's cell for the entry of a number: empty; taken by the seat that reserved the number, which puts the node's share into it; full;
-- or taken by the node's own seat, which took the share out and hasn't passed the entry.
pub data Phase : Type 0 where
  empty : Phase
  filling : Phase
  full : Phase
  lifted : Phase

-- the log begins with the entries that the node has passed, and the numbers of each of its connections rise along what it did and the log behind that
abbrev pub RisesAlong : List Entry → ℕ → List LogEvent → Type 0
RisesAlong log node past = (behind : List Entry) × (applied_of past ++ behind ≡ log) × AreRising node (record_of past ++ jobs_in behind)

module _ (nodes places : ℕ) where
  -- A node's word says how many entries it has applied and passed. The log begins with these, and has at most as many more as there are
  -- places.
  pub record NodeOk (log : List Entry) (words : List ℕ) (applied : List Entry) (node : ℕ) : Type 0 where
    pub counts : slice_index words (passed_word node) ≡ length applied
    pub room : length log ≤ length applied + places
    pub begins : IsBeginningOf applied log

  -- The stamp of a full cell, and of one that was lifted, is 1 more than the number, and that of another is less. A full cell has a share
  -- of the entry of that number. One that was lifted is that of the entry behind those that the node has passed.
  module _ (log : List Entry) (words : List ℕ) (homes : Homes) (passed node number : ℕ) where
    abbrev pub CellOk : Phase → Type 0
    CellOk empty = (slice_index words (stamp_word nodes places node number) ≤ number) × (get_elem? homes (slot_of places node number) ≡ some (some None))
    CellOk filling = (slice_index words (stamp_word nodes places node number) ≤ number) × (number < length log)
    CellOk full = (slice_index words (stamp_word nodes places node number) ≡ suc number) × (number < length log)
        × ((share : Share) × (get_elem? homes (slot_of places node number) ≡ some (some (Some share))) × (get_elem? log number ≡ some (arc_value share)))
    CellOk lifted = (slice_index words (stamp_word nodes places node number) ≡ suc number) × (number < length log) × (number ≡ passed)

  -- the seat's view is of this node
  abbrev pub Owns : LogView → ℕ → Type 0
  Owns v node = (v.standing.node ≤ node) × (node < v.upto)

  -- the log begins with what was known, and the node's history with what was done
  abbrev pub IsPartOf : List Entry → (ℕ → List LogEvent) → Standing → Type 0
  IsPartOf log past s = IsBeginningOf (known_of s) log × IsBeginningOf s.history (past s.node)

  -- What the seat of a node knows: the node's whole history, its reservations, which are the node's entries in the log, and whether the
  -- cell of the next entry is lifted.
  pub record OwnerOk (log : List Entry) (past : ℕ → List LogEvent) (applied : ℕ → List Entry) (phase : ℕ → ℕ → Phase) (shape : ℕ × ℕ) (history : List LogEvent)
      (reservations : List (ℕ × Entry)) (held : Option Entry) (node : ℕ) : Type 0 where
    pub there : node < nodes
    pub shaped : (shape.0 ≡ nodes) × (shape.1 ≡ places)
    pub whole : past node ≡ history
    pub own : reservations ≡ own_entries node log
    pub holds : MatchOption held (phase node (length (applied node)) ≢ lifted) (λ entry. phase node (length (applied node)) ≡ lifted)

  -- A share of the number `at` that waits for its cell: its entry is the one reserved, of the seat's node, and nobody else touches the cell.
  pub record FillerOk (log : List Entry) (applied : ℕ → List Entry) (phase : ℕ → ℕ → Phase) (at seat busy node : ℕ) (entry : Entry) : Type 0 where
    pub there : node < nodes
    pub near : at < length log
    pub reserved : get_elem? log at ≡ some entry
    pub own : entry.node ≡ seat
    pub waits : length (applied node) ≤ at
    pub idle : busy ≢ suc node → phase node at ≡ empty
    pub taken : busy ≡ suc node → phase node at ≡ filling

  pub record SeatOk (log : List Entry) (past : ℕ → List LogEvent) (applied : ℕ → List Entry) (phase : ℕ → ℕ → Phase) (v : LogView) : Type 0 where
    pub part : IsPartOf log past v.standing
    pub told : IsPartOf log past v.told
    pub seen : v.standing.seen ≤ length log
    pub met : (node : ℕ) → node < nodes → slice_index v.met node ≤ length (applied node)
    pub owns : (node : ℕ) → Owns v node → OwnerOk log past applied phase (v.standing.nodes, v.places) v.standing.history v.standing.reservations v.standing.held node
    pub fills : (node : ℕ) (entry : Entry) → Owns v v.standing.node → slice_index_or v.standing.unfilled node None ≡ Some entry
        → FillerOk log applied phase v.standing.at v.standing.node v.filling node entry

  pub record LogRule (s : State (Option Share) LogView) : Type 0 where
    pub log : List Entry
    pub past : ℕ → List LogEvent
    pub applied : ℕ → List Entry
    pub phase : ℕ → ℕ → Phase
    pub some_place : 0 < places
    pub sized : (length s.words ≡ words_of nodes places) × (length s.homes ≡ slots_of nodes places)
    pub tail_is : slice_index s.words 0 ≡ length log
    pub bounded : length log ≤ 2 ^ 63
    pub whose : (number : ℕ) (entry : Entry) → get_elem? log number ≡ some entry → entry.node < nodes
    pub applied_is : (node : ℕ) → applied node ≡ applied_of (past node)
    pub rising : (node : ℕ) → RisesAlong log node (past node)
    pub each_node : (node : ℕ) → node < nodes → NodeOk log s.words (applied node) node
    pub each_cell : (node number : ℕ) → node < nodes → length (applied node) ≤ number → number < length (applied node) + places
        → CellOk log s.words s.homes (length (applied node)) node number (phase node number)
    pub each_seat : (id : ℕ) (v : LogView) → get_elem? s.views id ≡ some v → SeatOk log past applied phase v
    pub apart : (id other : ℕ) (v w : LogView) (node : ℕ) → get_elem? s.views id ≡ some v → get_elem? s.views other ≡ some w → Owns v node → Owns w node → id ≡ other

  abbrev pub first_standing : ℕ → Standing
  first_standing node = record { node = node; nodes = nodes; history = []; held = None; seen = 0; reservations = []; at = 0; unfilled = [] }

  -- the view of a seat of the nodes from `node` on and below `upto`, as the log is opened
  abbrev pub opening_view : ℕ → ℕ → LogView
  opening_view node upto = record { standing = first_standing node; places = places; upto = upto; met = replicate nodes 0; looks = []; filling = 0; told = first_standing node }

  -- the first seat is that of all nodes
  abbrev pub first_view : LogView
  first_view = opening_view 0 nodes
