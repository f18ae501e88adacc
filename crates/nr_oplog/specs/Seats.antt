-- Seats at the log, and what their calls say.
use Rattle.std.specs.Prelude.{◌≡◌, ℕ, suc, ◌+◌, ◌<◌, ◌≤◌, List, [], ◌∷◌, ◌++◌, length, slice_index, Option, option_map, Some}
use Rattle.std.specs.Arc.{arc_value}
use Rattle.atomic_table.specs.Table.{Me}
use Rattle.atomic_table.specs.declared.shared.Seat.{Seat}
use Rattle.nr_entry.specs.Jobs.{items_of}
use Rattle.nr_entry.specs.declared.entry.Entry.{Entry}
use Rattle.nr_log_end.specs.Numbers.{AreRising}
use Rattle.nr_log_end.specs.Standings.{logged}
use Rattle.nr_oplog.specs.declared.view.LogView.{LogView}
use Rattle.nr_log_end.specs.declared.standing.Load.{Load}
use Rattle.nr_log_end.specs.declared.standing.Load.TheVariants.{Passed}
use Rattle.nr_oplog.specs.Rule.{Share}

abbrev Sat : Type 0
Sat = Seat (Option Share) LogView

abbrev pub IsSameSeat : Sat → Sat → Type 0
IsSameSeat s t = (t.table_id ≡ s.table_id) × (t.id ≡ s.id)

-- the view of a node's seat at a log of this shape
abbrev pub IsOfNode : LogView → ℕ → ℕ → Type 0
IsOfNode v nodes places = (v.standing.nodes ≡ nodes) × (v.places ≡ places) × (v.upto ≡ suc v.standing.node) × (v.standing.node < nodes)

-- a share of an entry of the seat's node, with numbers that go on rising behind those that the node has logged
abbrev pub HasShareFor : LogView → Option Share → Type 0
HasShareFor v said = (entry : Entry) × (option_map arc_value said ≡ Some entry) × (entry.node ≡ v.standing.node)
    × AreRising v.standing.node (logged v.standing ++ items_of entry.jobs.items)

-- only passed counts were loaded, none of them less than the one met before
abbrev pub CountsOf : Me (Option Share) LogView → Me (Option Share) LogView → Type 0
CountsOf m n = (n.1 ≡ m.1) × (n.0 ≡ record m.0 { met = n.0.met; looks = n.0.looks }) × (length n.0.met ≡ length m.0.met)
    × ((node : ℕ) → slice_index m.0.met node ≤ slice_index n.0.met node)

-- the last of the loads made since found that the count of one of the nodes is all places behind the tail
abbrev pub IsBehind : ℕ → ℕ → ℕ → LogView → LogView → Type 0
IsBehind nodes places tail v w = (before : List Load) × (node : ℕ) × (count : ℕ)
    × (w.looks ≡ v.looks ++ (before ++ Passed node count ∷ [])) × (count + places ≤ tail) × (node < nodes)
