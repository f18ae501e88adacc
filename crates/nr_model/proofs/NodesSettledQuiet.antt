-- A world in which no step of a round is enabled: nothing is held, and every node has passed the log.
use Rattle.std.proofs.Common.{◌≡◌, ℕ, zero, suc, ◌+◌, ◌-◌, ◌<◌, ◌≤◌, Bool, true, false, not, cond, inl, inr, List, [], ◌∷◌, length, take, refl, ap, sym, ◌∙◌, arith, ltb, eqb}
use Rattle.std.specs.Prelude.{◌==◌, ◌&&◌, nat_lt, slice_index_or}
use Rattle.std.specs.List.{list_any, list_all}
use Rattle.std.proofs.lemmas.Bool.{cases_Bool, both_ways, and_from, and_right, or_from, not-true, eqb-true, ne_eqb, lt-ltb}
use Rattle.std.proofs.lemmas.List.{get_or_past}
use Rattle.nr_model.specs.Items.{Item, is_update}
use Rattle.nr_model.specs.Entries.{Jobs, leading, leads_as_update, leads_as_read, entry_jobs, read_jobs}
use Rattle.nr_model.specs.Connections.{Setup}
use Rattle.nr_model.specs.Nodes.{Node, World, no_node, node_at, logged_at, tail_of}
use Rattle.nr_model.specs.Nodes.Steps.{Outcome, Done, idle_where, is_node, is_worker, is_empty, has_place, is_filled, are_filled, next_fetch}
use Rattle.nr_model.specs.declared.reason.Reason.{Reason}
use Rattle.nr_model.specs.declared.reason.Reason.TheVariants.{NoSuch, Busy, Nothing, Full, NotYet, Down}
use Rattle.nr_model.specs.Nodes.Pasts.{is_done}
use Rattle.nr_model.proofs.NodesSteps.{AreSized}
use Rattle.nr_model.proofs.NodesExecutedLists.{lt_or_le}
use Rattle.nr_model.proofs.NodesSettledDropped.{AreDropped}
use Rattle.nr_model.proofs.NodesSettledStill.{IsStill}

-- a step that isn't done for a reason that doesn't hold isn't done for a later one
pub past_reason : (holds : Bool) (reason : Reason) (otherwise : Outcome) → holds ≡ false → is_done (idle_where holds reason otherwise) ≡ false
    → is_done otherwise ≡ false
past_reason true reason otherwise e idle = absurd (cc e)
past_reason false reason otherwise e idle = idle

-- and the last reason holds
pub last_reason : (holds : Bool) (reason : Reason) → is_done (idle_where holds reason Done) ≡ false → holds ≡ true
last_reason true reason idle = refl
last_reason false reason idle = absurd (cc idle)

-- a node and a worker that there are
a_node : (setup : Setup) (n : ℕ) → n < setup.nodes → not (is_node setup n) ≡ false
a_node setup n there = ap not (lt-ltb n setup.nodes there)

pub a_worker : (setup : Setup) (n w : ℕ) → n < setup.nodes → w < setup.workers → not (is_worker setup n w) ≡ false
a_worker setup n w there within =
    ap not (and_from (ltb n setup.nodes) (ltb w setup.workers) (lt-ltb n setup.nodes there) (lt-ltb w setup.workers within))

-- nothing is held: none to apply
pub still_held : (setup : Setup) (world : World) → IsStill setup world → (n : ℕ) → n < setup.nodes → (node_at n world).fetched ≡ false
still_held setup world still n there =
    let idle = past_reason (not (is_node setup n)) NoSuch _ (a_node setup n there) (still.applies n there) in
    not-true (node_at n world).fetched (last_reason (not (node_at n world).fetched) Nothing idle)

-- every cell is filled
still_cell : (setup : Setup) (world : World) → IsStill setup world → (n t : ℕ) → n < setup.nodes → t < setup.nodes
    → slice_index_or (node_at n world).unfilled t false ≡ false
still_cell setup world still n t there cell =
    let known = ap not (and_from (ltb n setup.nodes) (ltb t setup.nodes) (lt-ltb n setup.nodes there) (lt-ltb t setup.nodes cell)) in
    let idle = past_reason (not (is_node setup n && is_node setup t)) NoSuch _ known (still.fills n t there cell) in
    let unfilled = slice_index_or (node_at n world).unfilled t false in
    not-true unfilled (last_reason (not unfilled) Nothing idle)

none_unfilled : (cells : List Bool) → ((t : ℕ) → t < length cells → slice_index_or cells t false ≡ false) → list_any (λ (b : Bool). b) cells ≡ false
none_unfilled [] each = refl
none_unfilled (b ∷ cells) each =
    or_from b (list_any (λ (c : Bool). c) cells) (each 0 (omega arith)) (none_unfilled cells (λ t below. each (suc t) (omega arith)))

pub still_filled : (setup : Setup) (world : World) → AreSized setup world → IsStill setup world → (n : ℕ) → n < setup.nodes
    → list_any (λ (b : Bool). b) (node_at n world).unfilled ≡ false
still_filled setup world sized still n there =
    let long = sized.nodes in
    let cells = (sized.each n (omega arith)).cells in
    none_unfilled (node_at n world).unfilled (λ t below. still_cell setup world still n t there (omega arith))

-- so every entry is filled for each node
still_entry : (setup : Setup) (world : World) → AreSized setup world → IsStill setup world → (n x : ℕ) → n < setup.nodes → is_filled world n x ≡ true
still_entry setup world sized still n x there =
    let m = (logged_at x world).node in
    let long = sized.nodes in
    let unfilled = slice_index_or (node_at m world).unfilled n false in
    let none : unfilled ≡ false = elim (lt_or_le m (length world.nodes)) [
      | inl below ↦ still_cell setup world still m n (omega arith) there
      | inr past ↦ ap (λ (node : Node). slice_index_or node.unfilled n false) (get_or_past world.nodes m no_node past)
    ] in
    ap not (and_right (eqb (node_at m world).at x) unfilled none)

still_entries : (setup : Setup) (world : World) → AreSized setup world → IsStill setup world → (n x count : ℕ) → n < setup.nodes
    → are_filled world n x count ≡ true
still_entries setup world sized still n x zero there = refl
still_entries setup world sized still n x (suc count) there =
    and_from (is_filled world n x) (are_filled world n (suc x) count) (still_entry setup world sized still n x there)
    (still_entries setup world sized still n (suc x) count there)

-- and each has passed all
pub still_passed : (setup : Setup) (world : World) → AreSized setup world → IsStill setup world → (n : ℕ) → n < setup.nodes
    → (node_at n world).passed ≡ tail_of world
still_passed setup world sized still n there =
    let node = node_at n world in
    let first = past_reason (not (is_node setup n)) NoSuch _ (a_node setup n there) (still.fetches n there) in
    let second = past_reason node.fetched Busy _ (still_held setup world still n there) first in
    elim (cases_Bool (node.passed == tail_of world)) [
      | inl e ↦ eqb-true node.passed (tail_of world) e
      | inr other ↦
          let filled = still_entry setup world sized still n node.passed there in
          let third = past_reason (node.passed == tail_of world) Nothing _ other second in
          absurd (both_ways (not (is_filled world n node.passed)) (ap not filled) (last_reason (not (is_filled world n node.passed)) NotYet third))
    ]

-- no read leads at a node that is up
still_reads : (setup : Setup) (world : World) → AreSized setup world → IsStill setup world → (n : ℕ) → n < setup.nodes → (node_at n world).down ≡ false
    → is_empty (read_jobs (node_at n world).waiting) ≡ true
still_reads setup world sized still n there up =
    let node = node_at n world in
    let none = is_empty (read_jobs node.waiting) in
    let filled = are_filled world n (next_fetch node) (tail_of world - next_fetch node) in
    let first = past_reason (not (is_node setup n)) NoSuch _ (a_node setup n there) (still.looks n there) in
    let second = past_reason node.down Down _ up first in
    elim (cases_Bool none) [
      | inl e ↦ e
      | inr some ↦
          let all = still_entries setup world sized still n (next_fetch node) (tail_of world - next_fetch node) there in
          let third = past_reason none Nothing _ some second in
          absurd (both_ways (not filled) (ap not all) (last_reason (not filled) NotYet third))
    ]

-- the next entry finds a place
all_nodes : (test : Node → Bool) (nodes : List Node) → ((n : ℕ) → n < length nodes → test (slice_index_or nodes n no_node) ≡ true) → list_all test nodes ≡ true
all_nodes test [] each = refl
all_nodes test (node ∷ nodes) each =
    and_from (test node) (list_all test nodes) (each 0 (omega arith)) (all_nodes test nodes (λ n below. each (suc n) (omega arith)))

still_place : (setup : Setup) (world : World) → AreSized setup world → IsStill setup world → 1 ≤ setup.places → has_place setup world ≡ true
still_place setup world sized still places =
    all_nodes (λ (node : Node). nat_lt (tail_of world) (node.passed + setup.places)) world.nodes (λ n below.
    let long = sized.nodes in
    let passed = still_passed setup world sized still n (omega arith) in
    lt-ltb (tail_of world) ((node_at n world).passed + setup.places) (omega arith))

-- so no update leads
still_updates : (setup : Setup) (world : World) → AreSized setup world → IsStill setup world → 1 ≤ setup.places → (n : ℕ) → n < setup.nodes
    → (node_at n world).down ≡ false → is_empty (entry_jobs (node_at n world).waiting) ≡ true
still_updates setup world sized still places n there up =
    let node = node_at n world in
    let none = is_empty (entry_jobs node.waiting) in
    let first = past_reason (not (is_node setup n)) NoSuch _ (a_node setup n there) (still.reserves n there) in
    let second = past_reason node.down Down _ up first in
    let third = past_reason (list_any (λ (b : Bool). b) node.unfilled) Busy _ (still_filled setup world sized still n there) second in
    elim (cases_Bool none) [
      | inl e ↦ e
      | inr some ↦
          let fourth = past_reason none Nothing _ some third in
          absurd (both_ways (not (has_place setup world)) (ap not (still_place setup world sized still places))
          (last_reason (not (has_place setup world)) Full fourth))
    ]

-- no job at all
pub empty_is : (jobs : Jobs) → is_empty jobs ≡ true → jobs ≡ []
empty_is [] e = refl
empty_is (job ∷ jobs) e = absurd (both_ways (eqb (suc (length jobs)) 0) (ne_eqb (suc (length jobs)) 0 (λ f. omega arith)) e)

none_taken : (room : ℕ) (jobs : Jobs) → is_empty (take (suc room) jobs) ≡ true → jobs ≡ []
none_taken room [] e = refl
none_taken room (job ∷ jobs) e =
    let more = take room jobs in absurd (both_ways (eqb (suc (length more)) 0) (ne_eqb (suc (length more)) 0 (λ f. omega arith)) e)

-- the first job would lead
first_leads : (leads : Jobs → Item → Bool) (job : Item) (jobs : Jobs) → leads [] job ≡ true → leading leads [] (job ∷ jobs) ≡ [] → ⊥
first_leads leads job jobs leader none =
    let more = leading leads (job ∷ []) jobs in
    let some : job ∷ more ≡ [] = sym (ap (λ (b : Bool). cond b (job ∷ more) more) leader) ∙ none in
    let long : suc (length more) ≡ 0 = ap length some in
    omega arith

none_leads : (jobs : Jobs) → leading leads_as_update [] jobs ≡ [] → leading leads_as_read [] jobs ≡ [] → jobs ≡ []
none_leads [] updates reads = refl
none_leads (job ∷ jobs) updates reads = elim (cases_Bool (is_update job.deed)) [
  | inl e ↦ absurd (first_leads leads_as_update job jobs (ap (λ (b : Bool). b && true) e) updates)
  | inr e ↦ absurd (first_leads leads_as_read job jobs (ap (λ (b : Bool). not b && true) e) reads)
]

none_wait : (jobs : Jobs) → is_empty (entry_jobs jobs) ≡ true → is_empty (read_jobs jobs) ≡ true → jobs ≡ []
none_wait jobs updates reads =
    none_leads jobs (none_taken 1023 (leading leads_as_update [] jobs) updates) (empty_is (leading leads_as_read [] jobs) reads)

-- so none waits
pub still_waiting : (setup : Setup) (world : World) → AreSized setup world → AreDropped world → IsStill setup world → 1 ≤ setup.places
    → (n : ℕ) → n < setup.nodes → (node_at n world).waiting ≡ []
still_waiting setup world sized dropped still places n there =
    let node = node_at n world in
    let long = sized.nodes in
    elim (cases_Bool node.down) [
      | inl down ↦ (dropped n (omega arith) down).waiting
      | inr up ↦ none_wait node.waiting (still_updates setup world sized still places n there up) (still_reads setup world sized still n there up)
    ]
