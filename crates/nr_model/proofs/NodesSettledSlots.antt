-- In such a world no slot is used, no job is pending and no byte waits for a connection.
use Rattle.std.proofs.Common.{◌≡◌, ℕ, zero, suc, ◌+◌, ◌<◌, ◌≤◌, Bool, true, false, not, cond, inl, inr, List, [], ◌∷◌, length, drop, refl, ap, sym, ◌∙◌, arith}
use Rattle.std.specs.Prelude.{◌==◌, ◌&&◌, ◌||◌, flat_map, slice_index_or}
use Rattle.std.proofs.lemmas.Bool.{cases_Bool, both_ways, and_parts, not-true, eqb-true, eq-eqb}
use Rattle.std.proofs.lemmas.List.{drop_all}
use Rattle.nr_model.specs.Bytes.{Bytes}
use Rattle.nr_model.specs.Items.{Connection}
use Rattle.nr_model.specs.Entries.{Jobs}
use Rattle.nr_model.specs.Connections.{Setup, Handed, is_some_bytes}
use Rattle.nr_model.specs.Nodes.{Client, fresh_client, Slot, Empty, Posted, Lifted, Answered, Logged, Node, World, node_at, worker_at, client_of, log_of, tail_of}
use Rattle.nr_model.specs.Nodes.Steps.{Done, idle_where, is_worker, is_client, is_empty, is_free, is_posted, is_lifted, is_answered, owed_in, collected}
use Rattle.nr_model.specs.declared.reason.Reason.TheVariants.{NoSuch, Down, Busy, Nothing, NotYet}
use Rattle.nr_model.specs.Nodes.Pasts.{is_done}
use Rattle.nr_model.specs.Nodes.Explained.{jobs_executed, waiting_for}
use Rattle.nr_model.proofs.NodesSteps.{AreSized, a_client}
use Rattle.nr_model.proofs.NodesOwnPlaces.{ArePlaced}
use Rattle.nr_model.proofs.NodesOwnShaped.{AreShaped}
use Rattle.nr_model.proofs.NodesExecutedLists.{count}
use Rattle.nr_model.proofs.NodesExecutedFits.{serves, owing}
use Rattle.nr_model.proofs.NodesExecutedNodes.{own_entry, first_owed, owed_from, standing_of}
use Rattle.nr_model.proofs.NodesExecutedWorlds.{AreFit}
use Rattle.nr_model.proofs.NodesSettledDropped.{AreDropped}
use Rattle.nr_model.proofs.NodesSettledStill.{IsStill}
use Rattle.nr_model.proofs.NodesSettledQuiet.{past_reason, last_reason, a_worker, empty_is, still_passed, still_waiting}

-- what is known of a world
pub record IsQuiet (setup : Setup) (world : World) : Type 0 where
  pub still : IsStill setup world
  pub sized : AreSized setup world
  pub placed : ArePlaced world
  pub shaped : AreShaped setup world.nodes
  pub fit : AreFit world
  pub dropped : AreDropped world

-- a node that is up has applied all
pub quiet_applied : (setup : Setup) (world : World) → IsQuiet setup world → (n : ℕ) → n < setup.nodes → (node_at n world).down ≡ false
    → (node_at n world).applied ≡ tail_of world
quiet_applied setup world q n there up =
    let long = q.sized.nodes in (q.placed n (omega arith)).applied up ∙ still_passed setup world q.sized q.still n there

-- where none waits and all is applied none is owed
none_owing : (r w : ℕ) (log : List Logged) (executed : Jobs) (node : Node) → node.waiting ≡ [] → node.applied ≡ length log
    → owing w (standing_of r log executed node) ≡ 0
none_owing r w log executed node waiting applied =
    let test = serves w node.clients in
    let from = owed_from node.resumed node.applied in
    let none : drop (first_owed node.resumed node.applied) log ≡ [] = drop_all (first_owed node.resumed node.applied) log (omega arith) in
    λ i. count test (waiting i) + count test (flat_map (own_entry r) (none i))

-- nothing that a step would do
empty_slot : (slot : Slot) (down : Bool) → is_answered slot ≡ false → (down ≡ false → is_posted slot ≡ false) → (down ≡ false → owed_in slot ≡ 0)
    → is_done (idle_where (not (is_lifted slot || (down && is_posted slot))) Nothing (idle_where (not down && not (owed_in slot == 0)) NotYet Done)) ≡ false
    → slot ≡ Empty
empty_slot Empty down answered posted owed idle = refl
empty_slot (Posted jobs) true answered posted owed idle = absurd (both_ways true idle refl)
empty_slot (Posted jobs) false answered posted owed idle = absurd (both_ways true (posted refl) refl)
empty_slot (Lifted count) true answered posted owed idle = absurd (both_ways true idle refl)
empty_slot (Lifted count) false answered posted owed idle =
    let none : not (count == 0) ≡ false = ap not (eq-eqb count 0 (owed refl)) in
    absurd (both_ways true (past_reason (not (count == 0)) NotYet Done none idle) refl)
empty_slot (Answered executed) down answered posted owed idle = absurd (both_ways true answered refl)

-- what a collect would take and hand out
record IsCollected (world : World) (n w : ℕ) : Type 0 where
  answered : is_answered (worker_at w (node_at n world)).slot ≡ false
  none : length (collected w (node_at n world).clients) ≡ 0

still_collected : (setup : Setup) (world : World) → IsStill setup world → (n w : ℕ) → n < setup.nodes → w < setup.workers → IsCollected world n w
still_collected setup world still n w there within =
    let answered = is_answered (worker_at w (node_at n world)).slot in
    let many = length (collected w (node_at n world).clients) in
    let idle = past_reason (not (is_worker setup n w)) NoSuch _ (a_worker setup n w there within) (still.collects n w there within) in
    let both = and_parts (not answered) (many == 0) (last_reason (not answered && many == 0) Nothing idle) in
    record { answered = not-true answered both.0; none = eqb-true many 0 both.1 }

-- so each slot is empty
pub quiet_slot : (setup : Setup) (world : World) → IsQuiet setup world → 1 ≤ setup.places → (n w : ℕ) → n < setup.nodes → w < setup.workers
    → (worker_at w (node_at n world)).slot ≡ Empty
quiet_slot setup world q places n w there within =
    let node = node_at n world in
    let slot = (worker_at w node).slot in
    let known = a_worker setup n w there within in
    let long = q.sized.nodes in
    empty_slot slot node.down (still_collected setup world q.still n w there within).answered
    (λ up.
    let first = past_reason (not (is_worker setup n w)) NoSuch _ known (q.still.lifts n w there within) in
    not-true (is_posted slot) (last_reason (not (is_posted slot)) Nothing (past_reason node.down Down _ up first)))
    (λ up. (q.fit.nodes n (omega arith) w).owed up
    ∙ none_owing n w (log_of world.taken) (jobs_executed world) node
    (still_waiting setup world q.sized q.dropped q.still places n there) (quiet_applied setup world q n there up))
    (past_reason (not (is_worker setup n w)) NoSuch _ known (q.still.answers n w there within))

-- and no job is pending
pub quiet_pending : (setup : Setup) (world : World) → IsQuiet setup world → 1 ≤ setup.places → (n w : ℕ) → n < setup.nodes → w < setup.workers
    → (worker_at w (node_at n world)).pending ≡ []
quiet_pending setup world q places n w there within =
    let node = node_at n world in
    let worker = worker_at w node in
    let long = q.sized.nodes in
    elim (cases_Bool node.down) [
      | inl down ↦ (q.dropped n (omega arith) down).pending w
      | inr up ↦
          let first = past_reason (not (is_worker setup n w)) NoSuch _ (a_worker setup n w there within) (q.still.posts n w there within) in
          let second = past_reason node.down Down _ up first in
          let free : not (is_free worker.slot) ≡ false = ap (λ (s : Slot). not (is_free s)) (quiet_slot setup world q places n w there within) in
          empty_is worker.pending (last_reason (is_empty worker.pending) Nothing (past_reason (not (is_free worker.slot)) Busy _ free second))
    ]

-- a collect that hands out nothing finds no bytes
no_bytes : (waiting : Bytes) → is_some_bytes waiting ≡ false → waiting ≡ []
no_bytes [] e = refl
no_bytes (b ∷ waiting) e = absurd (both_ways true e refl)

-- none of the clients behind either
none_behind : (w : ℕ) (client : Client) (clients : List Client) → length (collected w (client ∷ clients)) ≡ 0
    → ((client.worker == w && is_some_bytes client.queue.waiting) ≡ false) × (length (collected w clients) ≡ 0)
none_behind w client clients none =
    let more = collected w clients in
    let handed : Handed = record { connection = client.queue.connection; bytes = client.queue.waiting } in
    let test = client.worker == w && is_some_bytes client.queue.waiting in
    elim (cases_Bool test) [
      | inl e ↦
          let long : suc (length more) ≡ 0 = sym (ap (λ (b : Bool). length (cond b (handed ∷ more) more)) e) ∙ none in
          absurd (omega arith)
      | inr e ↦ (e, sym (ap (λ (b : Bool). length (cond b (handed ∷ more) more)) e) ∙ none)
    ]

none_collected : (w : ℕ) (clients : List Client) (s : ℕ) (d : Client) → length (collected w clients) ≡ 0 → s < length clients
    → (slice_index_or clients s d).worker ≡ w → (slice_index_or clients s d).queue.waiting ≡ []
none_collected w [] s d none there own = absurd (omega arith)
none_collected w (client ∷ clients) zero d none there own =
    let waiting = client.queue.waiting in
    no_bytes waiting (sym (ap (λ (b : Bool). b && is_some_bytes waiting) (eq-eqb client.worker w own)) ∙ (none_behind w client clients none).0)
none_collected w (client ∷ clients) (suc s) d none there own = none_collected w clients s d (none_behind w client clients none).1 (omega arith) own

-- so none wait
pub quiet_bytes : (setup : Setup) (world : World) → IsQuiet setup world → (c : Connection) → waiting_for world c ≡ []
quiet_bytes setup world q c =
    let waiting = (client_of c world).queue.waiting in
    elim (cases_Bool (is_client world c)) [
      | inr e ↦ ap (λ (b : Bool). cond b waiting []) e
      | inl e ↦
          let is = a_client world c e in
          let there = is.there in
          let long = q.sized.nodes in
          let node = node_at c.node world in
          let w = (client_of c world).worker in
          let within = ((q.shaped c.node is.there).named c.serial is.stands).worker in
          let none = (still_collected setup world q.still c.node w (omega arith) within).none in
          ap (λ (b : Bool). cond b waiting []) e
          ∙ none_collected w node.clients c.serial (fresh_client 0 0 (record { node = 0; serial = 0 })) none is.stands refl
    ]
