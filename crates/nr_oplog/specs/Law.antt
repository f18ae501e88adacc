-- What the rule of the log says of counts that were met, and of whose each entry is.
use Rattle.std.specs.Prelude.{◌≡◌, ◌≢◌, ℕ, ◌<◌, ◌≤◌, ◌==◌, List, [], ◌∷◌, filter, slice_index, Option}
use mathlib.Core.Option.{some}
use lib.ListN.{get_elem?}
use Rattle.atomic_table.specs.Table.{State}
use Rattle.nr_entry.specs.declared.entry.Entry.{Entry}
use Rattle.nr_log_end.specs.Standings.{passed_of}
use Rattle.nr_oplog.specs.declared.view.LogView.{LogView}
use Rattle.nr_oplog.specs.Rule.{Share, Owns, LogRule}

-- what one seat has met of a node is at most what the node's own seat has passed
abbrev pub HoldsOfCounts : Type 0
HoldsOfCounts = (nodes places : ℕ) (s : State (Option Share) LogView) → LogRule nodes places s → (node : ℕ) → node < nodes → (id other : ℕ) (v w : LogView) → get_elem? s.views id ≡ some v → get_elem? s.views other ≡ some w
    → Owns nodes places w node → slice_index v.met node ≤ passed_of w.standing

-- what a seat has reserved of a number
abbrev pub reserved_at : ℕ → LogView → List (ℕ × Entry)
reserved_at number v = filter (λ (r : ℕ × Entry). r.0 == number) v.standing.reservations

-- A number is reserved for an entry of one node: the node's own seat has reserved it once, and no other node's seat ever did.
pub record IsReservedOnce (nodes places : ℕ) (s : State (Option Share) LogView) (number : ℕ) : Type 0 where
  pub entry : Entry
  pub there : entry.node < nodes
  pub by : (id : ℕ) (v : LogView) → get_elem? s.views id ≡ some v → Owns nodes places v entry.node → reserved_at number v ≡ (number, entry) ∷ []
  pub alone : (id node : ℕ) (v : LogView) → get_elem? s.views id ≡ some v → Owns nodes places v node → node ≢ entry.node → reserved_at number v ≡ []

-- so is each number below the tail, which is word 0
abbrev pub HoldsOfEntries : Type 0
HoldsOfEntries = (nodes places : ℕ) (s : State (Option Share) LogView) → LogRule nodes places s → (number : ℕ) → number < slice_index s.words 0
    → IsReservedOnce nodes places s number
