-- What each step tells its seat.
use Rattle.std.specs.Prelude.{◌≡◌, ◌≢◌, ◌⊎◌, ℕ, suc, ◌^◌, ◌<◌, ◌≤◌, List, [], ◌∷◌, ◌++◌, length, slice_index, slice_set, Option, option_map, Some, None, nat_le, if◌then◌else◌}
use mathlib.Core.Option.{some}
use Rattle.std.specs.Arc.{arc_value}
use Rattle.atomic_table.specs.Table.{Me, Step, rest}
use Rattle.nr_model.specs.Bytes.{IsBeginningOf}
use Rattle.nr_entry.specs.declared.entry.Entry.{Entry}
use Rattle.nr_entry.specs.Shares.{shares_of}
use Rattle.nr_log_end.specs.Numbers.{AreRising}
use Rattle.nr_log_end.specs.declared.standing.Standing.{Standing}
use Rattle.nr_log_end.specs.declared.standing.LogEvent.{LogEvent}
use Rattle.nr_log_end.specs.Standings.{done_with, record_of, known_of, passed_of, logged, StandsInLog, RisesBefore, reserved_as, filled_for, fetched_with, passed_on}
use Rattle.nr_oplog.specs.declared.view.LogView.{LogView}
use Rattle.nr_log_end.specs.declared.standing.Load.TheVariants.{Tail, Passed, Unfilled}
use Rattle.nr_oplog.specs.Layout.{passed_word, stamp_word, slot_of}
use Rattle.nr_oplog.specs.Rule.{Share, opening_view}

abbrev Sat : Type 0
Sat = Me (Option Share) LogView

abbrev At : Type 0
At = Step (Option Share)

-- the tail was loaded, and is n
abbrev pub with_tail : ℕ → LogView → LogView
with_tail n v = record v { standing = record v.standing { seen = n }; looks = v.looks ++ Tail n ∷ [] }

-- the tail was loaded, and this is noted that the node did
abbrev pub with_done : List LogEvent → ℕ → LogView → LogView
with_done turns n v = record v { standing = done_with turns n v.standing; looks = v.looks ++ Tail n ∷ [] }

-- the node may do this next: it adds nothing to its record, or the numbers of its connections go on rising behind those that it has logged
abbrev pub MayFollow : List LogEvent → Standing → Type 0
MayFollow turns s = (record_of turns ≡ []) ⊎ AreRising s.node (logged (done_with turns s.seen s))

-- a node's passed count was loaded, and is n
abbrev pub with_passed : ℕ → ℕ → LogView → LogView
with_passed node n v = record v { met = slice_set v.met node n; looks = v.looks ++ Passed node n ∷ [] }

abbrev pub saw_tail : Sat → ℕ → Sat → Type 0
saw_tail m n m' = (m'.1 ≡ m.1) × (m'.0 ≡ with_tail n m.0) × (m.0.standing.seen ≤ n) × StandsInLog m'.0.standing

abbrev pub saw_tail_and_did : List LogEvent → Sat → ℕ → Sat → Type 0
saw_tail_and_did turns m n m' = (m'.1 ≡ m.1) × (m'.0 ≡ with_done turns n m.0) × (m.0.standing.seen ≤ n)

abbrev pub saw_passed : At → Sat → ℕ → Sat → Type 0
saw_passed st m n m' = (m'.1 ≡ m.1) × ((node : ℕ) → st.word ≡ passed_word node → (m'.0 ≡ with_passed node n m.0) × (slice_index m.0.met node ≤ n)
    × (m.0.upto ≡ suc m.0.standing.node → node ≡ m.0.standing.node → n ≡ passed_of m.0.standing))

-- the tail was as expected, and the number is reserved; or it was not
abbrev pub claimed : At → Sat → ℕ → Sat → Type 0
claimed st m n m' =
    (m'.1 ≡ m.1)
    × (n ≡ st.first → (said : Option Share) (entry : Entry) → st.said ≡ some said → option_map arc_value said ≡ Some entry
    → m'.0 ≡ record m.0 { standing = reserved_as n (shares_of entry m.0.standing.nodes) m.0.standing })
    × (n ≢ st.first → (m'.0 ≡ record m.0 { standing = record m.0.standing { seen = n } }) × (m.0.standing.seen ≤ n))

-- the cell of a node for the number reserved last was taken, empty
abbrev pub took_to_fill : At → Sat → ℕ → Sat → Type 0
took_to_fill st m n m' =
    (node : ℕ) → node < m.0.standing.nodes → st.word ≡ stamp_word m.0.standing.nodes m.0.places node m.0.standing.at
    → (m'.0 ≡ record m.0 { filling = suc node }) × (m'.1 ≡ (slot_of m.0.places node m.0.standing.at, None) ∷ m.1)

-- the cell that was taken is given back, full
abbrev pub filled : Sat → Sat → Type 0
filled m m' = (m'.1 ≡ rest m.1) × ((node : ℕ) → m.0.filling ≡ suc node → m'.0 ≡ record m.0 { standing = filled_for node m.0.standing; filling = 0 })

-- the cell of the next entry was looked at, and is not full
abbrev pub with_unfilled : LogView → LogView
with_unfilled v = record v { looks = v.looks ++ Unfilled (passed_of v.standing) ∷ [] }

-- the next cell is full, and taken; or it is not
abbrev pub looked_for_next : At → Sat → ℕ → Sat → Type 0
looked_for_next st m n m' =
    StandsInLog m'.0.standing
    × (n ≡ suc (passed_of m.0.standing)
    → (passed_of m.0.standing < 2 ^ 63)
    × ((share : Share) × (m'.0 ≡ record m.0 { standing = fetched_with (arc_value share) m.0.standing }) × (m'.1 ≡ (slot_of m.0.places m.0.standing.node (passed_of m.0.standing), Some share) ∷ m.1)))
    × (n ≢ suc (passed_of m.0.standing) → st.word ≡ stamp_word m.0.standing.nodes m.0.places m.0.standing.node (passed_of m.0.standing) → m' ≡ (with_unfilled m.0, m.1))

-- the entry that was held is passed, and its cell is given back, empty
abbrev pub passed_next : Sat → Sat → Type 0
passed_next m m' = (m'.1 ≡ rest m.1) × (m'.0 ≡ record m.0 { standing = passed_on m.0.standing })

-- one of two lists is a beginning of the other
abbrev pub AreComparable : {A : Type 0} → List A → List A → Type 0
AreComparable xs ys = (length xs ≤ length ys → IsBeginningOf xs ys) × (length ys ≤ length xs → IsBeginningOf ys xs)

-- Two standings at one log: of what they know of it the one begins the other, and so it is with what they did, where they are of one node. The numbers of each
-- connection of the one's node rise along its record and the entries behind that which the other knows.
abbrev pub AreOfOneLog : Standing → Standing → Type 0
AreOfOneLog s t = AreComparable (known_of s) (known_of t) × (s.node ≡ t.node → AreComparable s.history t.history)
    × RisesBefore s (known_of t) × RisesBefore t (known_of s)

-- the tail was loaded, and is n, which the standing doesn't show
abbrev pub with_look : ℕ → LogView → LogView
with_look n v = record v { looks = v.looks ++ Tail n ∷ [] }

abbrev pub compared : Sat → ℕ → Sat → Type 0
compared m n m' = (m'.1 ≡ m.1) × (m'.0 ≡ with_look n m.0) × AreOfOneLog m.0.standing m.0.told

-- the later of two standings of one node: that with the longer history
abbrev pub later_of : Standing → Standing → Standing
later_of s t = if nat_le (length s.history) (length t.history) then t else s

-- the tail was loaded, and is n, and the standing is the later of what it was and what the seat was told
abbrev pub with_later : ℕ → LogView → LogView
with_later n v = record v { standing = record (later_of v.standing v.told) { seen = n }; looks = v.looks ++ Tail n ∷ [] }

abbrev pub adopted : Sat → ℕ → Sat → Type 0
adopted m n m' = (m'.1 ≡ m.1) × (m'.0 ≡ with_later n m.0) × AreOfOneLog m.0.standing m.0.told

-- the seat of the first of these nodes, and that of the others
abbrev pub node_left : LogView → LogView
node_left v = opening_view v.standing.nodes v.places (suc v.standing.node) v.upto

abbrev pub node_right : LogView → LogView
node_right v = opening_view v.standing.nodes v.places v.standing.node (suc v.standing.node)

-- a token, which is the seat of no node
abbrev pub token_view : LogView → LogView
token_view v = record { standing = v.standing; places = v.places; upto = 0; met = []; looks = []; filling = 0; told = v.standing }

abbrev pub with_told : LogView → LogView → LogView
with_told v w = record v { told = w.standing }

abbrev pub nobody : LogView
nobody = opening_view 0 0 0 0
