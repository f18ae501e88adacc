-- The parts of a round: batches are lifted, cells filled, entries passed, and answers and bytes collected.
use Rattle.std.proofs.Common.{◌≡◌, ◌≢◌, ℕ, suc, ◌+◌, ◌<◌, Bool, true, false, not, cond, ◌⊎◌, inl, inr, List, [], ◌∷◌, length, map, get_or, set, replicate, refl, ap, sym, ◌∙◌, subst, arith}
use Rattle.std.specs.Prelude.{◌&&◌, ◌||◌, ◌==◌, nat_lt, flat_map, slice_index_or}
use Rattle.std.specs.List.{range_with_len}
use Rattle.std.proofs.lemmas.Bool.{cases_Bool, cond_both, lt-ltb, not-true, eqb-true, and_parts, and_from}
use Rattle.std.proofs.lemmas.Bool.Decides.{eqb_tells}
use Rattle.std.proofs.Math.Bool.{and-false}
use Rattle.std.proofs.lemmas.List.{get_or_past}
use Rattle.nr_model.specs.Entries.{left_by_entry}
use Rattle.nr_model.specs.Connections.{Setup, Handed, is_some_bytes}
use Rattle.nr_model.specs.Nodes.{Client, Slot, Empty, Posted, Lifted, Answered, Worker, fresh_worker, Node, no_node, World, node_at, worker_at, with_worker, tail_of}
use Rattle.nr_model.specs.Nodes.Steps.{Step, Post, Lift, Reserve, Fill, Answer, Collect, Done, Refused, idle_where, is_node, is_worker, is_posted, is_lifted, is_answered, owed_in, collected, outcome, posted_jobs, posted_worker, lifted_node, emptied, cleared, collected_node, after_step}
use Rattle.nr_model.specs.declared.reason.Reason.TheVariants.{NoSuch, Down, Nothing, NotYet}
use Rattle.nr_model.specs.Nodes.Pasts.{is_done}
use Rattle.nr_model.specs.Nodes.Settling.{for_workers, lifting, reserving, answering}
use Rattle.nr_model.proofs.NodesSteps.{AreSized}
use Rattle.nr_model.proofs.NodesExecutedLists.{lt_or_le}
use Rattle.nr_model.proofs.NodesExecutedNodes.{at_set}
use Rattle.nr_model.proofs.NodesRoundsLeft.{by_outcome}
use Rattle.nr_model.proofs.NodesRoundsRuns.{idle_tells, at_keep, sized_run, Leads, leads_on, leads_one, leads_all, leads_mapped, leads_weaker}

-- what was put in its place holds there, where it holds of what there is none of
pub at_put : {A : Type 0} (P : A → Type 0) (xs : List A) (d : A) (n : ℕ) (x : A) → P x → P d → P (get_or (set xs n x) n d)
at_put {A} P xs d n x p none =
    at_set (λ (k : ℕ) (y : A). k ≡ n → P y) xs n x d (λ h e. p) (λ h e. subst P (sym (get_or_past xs n d h)) none) (λ k other e. absurd (other e)) n refl

-- a number in range
pub is_in : (n count : ℕ) → n < count → not (nat_lt n count) ≡ false
is_in n count h = ap not (lt-ltb n count h)

pub is_worker_in : (setup : Setup) (n w : ℕ) → n < setup.nodes → w < setup.workers → not (is_worker setup n w) ≡ false
is_worker_in setup n w h g = ap not (and_from (nat_lt n setup.nodes) (nat_lt w setup.workers) (lt-ltb n setup.nodes h) (lt-ltb w setup.workers g))

-- a list with none
pub empty_list : {A : Type 0} (xs : List A) → (length xs == 0) ≡ true → xs ≡ []
empty_list [] e = refl
empty_list (x ∷ xs) e = let none = eqb-true (suc (length xs)) 0 e in absurd (omega arith)

-- steps for each worker
pub leads_workers : (setup : Setup) (steps : ℕ → ℕ → List Step) (J : ℕ → ℕ → World → Type 0)
    → ((n w : ℕ) → n < setup.nodes → w < setup.workers → Leads setup (steps n w) (J n w) (J n (w + 1)))
    → ((n : ℕ) (world : World) → J n setup.workers world → J (n + 1) 0 world)
    → Leads setup (for_workers setup steps) (J 0 0) (J setup.nodes 0)
leads_workers setup steps J each next =
    leads_all setup (λ n. flat_map (steps n) (range_with_len 0 setup.workers)) (λ n. J n 0) setup.nodes
    (λ n below.
    leads_weaker setup (flat_map (steps n) (range_with_len 0 setup.workers)) (J n 0) (J n setup.workers) (J (n + 1) 0)
    (leads_all setup (steps n) (J n) setup.workers (λ w under. each n w below under)) (next n))

-- a worker of a node stands before another
abbrev pub Before : ℕ → ℕ → ℕ → ℕ → Type 0
Before m v n w = (m < n) ⊎ ((m ≡ n) × (v < w))

before_other : (m v n w : ℕ) → Before m v n w → m ≡ n → v ≢ w
before_other m v n w before e f = elim before [ inl h ↦ omega arith | inr h ↦ let g = h.1 in omega arith ]

before_next : (m v n w : ℕ) → Before m v n (w + 1) → Before m v n w ⊎ ((m ≡ n) × (v ≡ w))
before_next m v n w before = elim before [
  | inl h ↦ inl (inl h)
  | inr h ↦ elim (eqb_tells v w) [ inl e ↦ inr (h.0, e.1) | inr e ↦ let g = h.1 in let other = e.1 in inl (inr (h.0, omega arith)) ]
]

before_all : (m v n w count : ℕ) → v < count → Before m v (n + 1) 0 → Before m v n count
before_all m v n w count h before = elim before [
  | inl g ↦ elim (lt_or_le m n) [ inl f ↦ inl f | inr f ↦ inr (omega arith, h) ]
  | inr g ↦ let none = g.1 in absurd (omega arith)
]

-- a worker's batch was lifted, where its node is up
abbrev pub IsTaken : ℕ → Node → Type 0
IsTaken v node = node.down ≡ false → is_posted (worker_at v node).slot ≡ false

abbrev pub AreTaken : Setup → World → Type 0
AreTaken setup world = (m v : ℕ) → m < setup.nodes → v < setup.workers → IsTaken v (node_at m world)

abbrev TakenTo : Setup → ℕ → ℕ → World → Type 0
TakenTo setup n w world = (m v : ℕ) → m < setup.nodes → v < setup.workers → Before m v n w → IsTaken v (node_at m world)

post_taken : (setup : Setup) (n w : ℕ) (world : World) (refused : Refused) → TakenTo setup n w world
    → TakenTo setup n w (after_step setup world (Post n w) refused)
post_taken setup n w world refused j =
    let node = node_at n world in
    by_outcome (TakenTo setup n w) (outcome setup world (Post n w)) setup world (Post n w) refused (λ idle. j)
    (λ done m v hm hv before.
    at_keep (IsTaken v) world.nodes no_node m n (with_worker w (posted_worker (worker_at w node)) node)
    (λ e p up. at_keep (λ (x : Worker). is_posted x.slot ≡ false) node.workers fresh_worker v w (posted_worker (worker_at w node))
    (λ f q. absurd (before_other m v n w before e f)) (p up)) (j m v hm hv before))

lift_keeps : (setup : Setup) (n w m v : ℕ) (world : World) (refused : Refused) → IsTaken v (node_at m world)
    → IsTaken v (node_at m (after_step setup world (Lift n w) refused))
lift_keeps setup n w m v world refused p =
    let node = node_at n world in
    by_outcome (λ (x : World). IsTaken v (node_at m x)) (outcome setup world (Lift n w)) setup world (Lift n w) refused (λ idle. p)
    (λ done.
    at_keep (IsTaken v) world.nodes no_node m n (lifted_node w node)
    (λ e p up. at_keep (λ (x : Worker). is_posted x.slot ≡ false) node.workers fresh_worker v w
    (record (worker_at w node) { slot = Lifted (length (posted_jobs (worker_at w node).slot)) }) (λ f q. refl) (p up)) p)

lift_taken : (setup : Setup) (n w : ℕ) (world : World) (refused : Refused) → n < setup.nodes → w < setup.workers
    → IsTaken w (node_at n (after_step setup world (Lift n w) refused))
lift_taken setup n w world refused hn hw =
    let node = node_at n world in
    let slot = (worker_at w node).slot in
    by_outcome (λ (x : World). IsTaken w (node_at n x)) (outcome setup world (Lift n w)) setup world (Lift n w) refused
    (λ idle up.
    let there = idle_tells (not (is_worker setup n w)) NoSuch _ idle (is_worker_in setup n w hn hw) in
    let on = idle_tells node.down Down _ there up in
    elim (cases_Bool (is_posted slot)) [
      | inl e ↦ absurd (cc (idle_tells (not (is_posted slot)) Nothing Done on (ap not e)))
      | inr e ↦ e
    ])
    (λ done.
    at_put (IsTaken w) world.nodes no_node n (lifted_node w node)
    (λ up. at_put (λ (x : Worker). is_posted x.slot ≡ false) node.workers fresh_worker w
    (record (worker_at w node) { slot = Lifted (length (posted_jobs slot)) }) refl refl) (λ up. refl))

pub lifting_leads : (setup : Setup) → Leads setup (lifting setup) (λ world. Unit {0}) (AreTaken setup)
lifting_leads setup world events run p =
    let all = leads_workers setup (λ n w. Post n w ∷ Lift n w ∷ []) (TakenTo setup)
    (λ n w hn hw.
    leads_on setup (Post n w ∷ []) (Lift n w ∷ []) (TakenTo setup n w) (TakenTo setup n w) (TakenTo setup n (w + 1))
    (leads_one setup (Post n w) (TakenTo setup n w) (TakenTo setup n w) (post_taken setup n w))
    (leads_one setup (Lift n w) (TakenTo setup n w) (TakenTo setup n (w + 1))
    (λ world refused j m v hm hv before. elim (before_next m v n w before) [
      | inl old ↦ lift_keeps setup n w m v world refused (j m v hm hv old)
      | inr new ↦
          subst (λ (k : ℕ). IsTaken v (node_at k (after_step setup world (Lift n w) refused))) (sym new.0)
          (subst (λ (k : ℕ). IsTaken k (node_at n (after_step setup world (Lift n w) refused))) (sym new.1) (lift_taken setup n w world refused hn hw))
    ])))
    (λ n world j m v hm hv before. j m v hm hv (before_all m v n 0 setup.workers hv before))
    world events run (λ m v hm hv before. elim before [ inl h ↦ absurd (omega arith) | inr h ↦ let none = h.1 in absurd (omega arith) ]) in
    λ m v hm hv. all m v hm hv (inl hm)

-- the cells of a node's entry
abbrev pub cell : Node → ℕ → Bool
cell node t = slice_index_or node.unfilled t false

abbrev CellsTo : Setup → ℕ → ℕ → World → Type 0
CellsTo setup n t world = (m s : ℕ) → m < setup.nodes → s < setup.nodes → Before m s n t → cell (node_at m world) s ≡ false

-- filled up to one, and the batches were lifted
record FilledTo (setup : Setup) (n t : ℕ) (world : World) : Type 0 where
  taken : AreTaken setup world
  cells : CellsTo setup n t world

reserve_filled : (setup : Setup) (n : ℕ) (world : World) (refused : Refused) → FilledTo setup n 0 world
    → FilledTo setup n 0 (after_step setup world (Reserve n) refused)
reserve_filled setup n world refused j =
    let node = node_at n world in
    let new : Node = record node { waiting = left_by_entry node.waiting; at = tail_of world; unfilled = replicate setup.nodes true } in
    by_outcome (FilledTo setup n 0) (outcome setup world (Reserve n)) setup world (Reserve n) refused (λ idle. j)
    (λ done. record {
      taken = λ m v hm hv. at_keep (IsTaken v) world.nodes no_node m n new (λ e p. p) (j.taken m v hm hv);
      cells = λ m s hm hs before.
          at_keep (λ (x : Node). cell x s ≡ false) world.nodes no_node m n new
          (λ e p. elim before [ inl h ↦ absurd (omega arith) | inr h ↦ let none = h.1 in absurd (omega arith) ]) (j.cells m s hm hs before);
    })

-- a cell that is filled
fill_cell : (setup : Setup) (n t : ℕ) (world : World) (refused : Refused) → n < setup.nodes → t < setup.nodes
    → cell (node_at n (after_step setup world (Fill n t) refused)) t ≡ false
fill_cell setup n t world refused hn ht =
    let node = node_at n world in
    by_outcome (λ (x : World). cell (node_at n x) t ≡ false) (outcome setup world (Fill n t)) setup world (Fill n t) refused
    (λ idle.
    let there = idle_tells (not (is_node setup n && is_node setup t)) NoSuch _ idle
    (ap not (and_from (nat_lt n setup.nodes) (nat_lt t setup.nodes) (lt-ltb n setup.nodes hn) (lt-ltb t setup.nodes ht))) in
    elim (cases_Bool (cell node t)) [
      | inl e ↦ absurd (cc (idle_tells (not (cell node t)) Nothing Done there (ap not e)))
      | inr e ↦ e
    ])
    (λ done.
    at_put (λ (x : Node). cell x t ≡ false) world.nodes no_node n (record node { unfilled = set node.unfilled t false })
    (at_put (λ (b : Bool). b ≡ false) node.unfilled false t false refl refl) refl)

fill_keeps : (setup : Setup) (n t m s : ℕ) (world : World) (refused : Refused) → cell (node_at m world) s ≡ false
    → cell (node_at m (after_step setup world (Fill n t) refused)) s ≡ false
fill_keeps setup n t m s world refused p =
    let node = node_at n world in
    by_outcome (λ (x : World). cell (node_at m x) s ≡ false) (outcome setup world (Fill n t)) setup world (Fill n t) refused (λ idle. p)
    (λ done.
    at_keep (λ (x : Node). cell x s ≡ false) world.nodes no_node m n (record node { unfilled = set node.unfilled t false })
    (λ e q. at_keep (λ (b : Bool). b ≡ false) node.unfilled false s t false (λ f r. refl) q) p)

fill_taken : (setup : Setup) (n t m v : ℕ) (world : World) (refused : Refused) → IsTaken v (node_at m world)
    → IsTaken v (node_at m (after_step setup world (Fill n t) refused))
fill_taken setup n t m v world refused p =
    let node = node_at n world in
    by_outcome (λ (x : World). IsTaken v (node_at m x)) (outcome setup world (Fill n t)) setup world (Fill n t) refused (λ idle. p)
    (λ done. at_keep (IsTaken v) world.nodes no_node m n (record node { unfilled = set node.unfilled t false }) (λ e q. q) p)

fill_filled : (setup : Setup) (n t : ℕ) → n < setup.nodes → t < setup.nodes → (world : World) (refused : Refused) → FilledTo setup n t world
    → FilledTo setup n (t + 1) (after_step setup world (Fill n t) refused)
fill_filled setup n t hn ht world refused j = record {
  taken = λ m v hm hv. fill_taken setup n t m v world refused (j.taken m v hm hv);
  cells = λ m s hm hs before. elim (before_next m s n t before) [
    | inl old ↦ fill_keeps setup n t m s world refused (j.cells m s hm hs old)
    | inr new ↦
        let after = after_step setup world (Fill n t) refused in
        subst (λ (k : ℕ). cell (node_at k after) s ≡ false) (sym new.0)
        (subst (λ (k : ℕ). cell (node_at n after) k ≡ false) (sym new.1) (fill_cell setup n t world refused hn ht))
  ];
}

reserving_to : (setup : Setup) → Leads setup (reserving setup) (FilledTo setup 0 0) (FilledTo setup setup.nodes 0)
reserving_to setup =
    leads_all setup (λ n. Reserve n ∷ map (Fill n) (range_with_len 0 setup.nodes)) (λ n. FilledTo setup n 0) setup.nodes
    (λ n below.
    leads_on setup (Reserve n ∷ []) (map (Fill n) (range_with_len 0 setup.nodes)) (FilledTo setup n 0) (FilledTo setup n 0) (FilledTo setup (n + 1) 0)
    (leads_one setup (Reserve n) (FilledTo setup n 0) (FilledTo setup n 0) (reserve_filled setup n))
    (leads_weaker setup (map (Fill n) (range_with_len 0 setup.nodes)) (FilledTo setup n 0) (FilledTo setup n setup.nodes) (FilledTo setup (n + 1) 0)
    (leads_mapped setup (Fill n) (FilledTo setup n) setup.nodes
    (λ t under. leads_one setup (Fill n t) (FilledTo setup n t) (FilledTo setup n (t + 1)) (fill_filled setup n t below under)))
    (λ world j. record { taken = j.taken; cells = λ m s hm hs before. j.cells m s hm hs (before_all m s n 0 setup.nodes hs before) })))

-- all cells are filled
abbrev pub AreFilled : World → Type 0
AreFilled world = (m s : ℕ) → cell (node_at m world) s ≡ false

-- of the nodes that there are, and so of all
all_filled : (setup : Setup) (world : World) → AreSized setup world → CellsTo setup setup.nodes 0 world → AreFilled world
all_filled setup world sized cells m s =
    let long = sized.nodes in
    elim (lt_or_le m setup.nodes) [
      | inr past ↦ subst (λ (x : Node). cell x s ≡ false) (sym (get_or_past world.nodes m no_node (omega arith))) refl
      | inl there ↦ elim (lt_or_le s setup.nodes) [
        | inl under ↦ cells m s there under (inl there)
        | inr over ↦ let wide = (sized.each m (omega arith)).cells in get_or_past (node_at m world).unfilled s false (omega arith)
      ]
    ]

pub reserving_leads : (setup : Setup) → Leads setup (reserving setup) (λ world. AreSized setup world × AreTaken setup world)
    (λ world. AreTaken setup world × AreFilled world)
reserving_leads setup world events run p =
    let j = reserving_to setup world events run (record {
      taken = p.1;
      cells = λ m s hm hs before. elim before [ inl h ↦ absurd (omega arith) | inr h ↦ let none = h.1 in absurd (omega arith) ];
    }) in
    (j.taken, all_filled setup _ (sized_run setup events world p.0) j.cells)

-- a node holds nothing and has passed the whole log
pub record HasPassed (tail : ℕ) (node : Node) : Type 0 where
  pub free : node.fetched ≡ false
  pub passed : node.passed ≡ tail

abbrev pub HavePassed : Setup → World → Type 0
HavePassed setup world = (m : ℕ) → m < setup.nodes → HasPassed (tail_of world) (node_at m world)

-- a slot between rounds: it is empty, or some of its batch's jobs are owed at a node that is up
abbrev pub CalmSlot : Bool → Slot → Type 0
CalmSlot down Empty = Unit {0}
CalmSlot down (Posted jobs) = ⊥
CalmSlot down (Lifted owed) = (down ≡ false) × ((owed == 0) ≡ false)
CalmSlot down (Answered executed) = ⊥

-- and before its answer is taken
abbrev MidSlot : Bool → Slot → Type 0
MidSlot down Empty = Unit {0}
MidSlot down (Posted jobs) = ⊥
MidSlot down (Lifted owed) = (down ≡ false) × ((owed == 0) ≡ false)
MidSlot down (Answered executed) = Unit {0}

-- nothing waits for the connections of a worker, and so with its slot
pub record IsCalm (v : ℕ) (node : Node) : Type 0 where
  pub none : collected v node.clients ≡ []
  pub slot : CalmSlot node.down (worker_at v node).slot

-- what an answer leaves that isn't done
mid_slot : (down : Bool) (slot : Slot) → (down ≡ false → is_posted slot ≡ false)
    → is_done (idle_where (not (is_lifted slot || (down && is_posted slot))) Nothing (idle_where (not down && not (owed_in slot == 0)) NotYet Done)) ≡ false
    → MidSlot down slot
mid_slot down Empty taken idle = tt
mid_slot true (Posted jobs) taken idle = absurd (cc idle)
mid_slot false (Posted jobs) taken idle = let h = taken refl in absurd (cc h)
mid_slot true (Lifted owed) taken idle = absurd (cc idle)
mid_slot false (Lifted owed) taken idle = elim (cases_Bool (owed == 0)) [
  | inl e ↦ absurd (cc (idle_tells (not (owed == 0)) NotYet Done idle (ap not e)))
  | inr e ↦ (refl, e)
]
mid_slot down (Answered executed) taken idle = tt

calm_slot : (down : Bool) (slot : Slot) → MidSlot down slot → is_answered slot ≡ false → CalmSlot down slot
calm_slot down Empty mid e = tt
calm_slot down (Posted jobs) mid e = mid
calm_slot down (Lifted owed) mid e = mid
calm_slot down (Answered executed) mid e = absurd (cc e)

cleared_calm : (down : Bool) (slot : Slot) → MidSlot down slot → CalmSlot down (cleared slot)
cleared_calm down Empty mid = tt
cleared_calm down (Posted jobs) mid = mid
cleared_calm down (Lifted owed) mid = mid
cleared_calm down (Answered executed) mid = tt

calm_cleared : (down : Bool) (slot : Slot) → CalmSlot down slot → CalmSlot down (cleared slot)
calm_cleared down Empty calm = tt
calm_cleared down (Posted jobs) calm = calm
calm_cleared down (Lifted owed) calm = calm
calm_cleared down (Answered executed) calm = tt

posted_cleared : (slot : Slot) → is_posted slot ≡ false → is_posted (cleared slot) ≡ false
posted_cleared Empty e = e
posted_cleared (Posted jobs) e = e
posted_cleared (Lifted owed) e = e
posted_cleared (Answered executed) e = refl

-- what is collected of clients that were handed what waits for them
none_there : (b : Bool) (h : Handed) (more : List Handed) → cond b (h ∷ more) more ≡ [] → (b ≡ false) × (more ≡ [])
none_there true h more e = absurd (cc e)
none_there false h more e = (refl, e)

emptied_test : (v w : ℕ) (client : Client) → (client.worker == v && is_some_bytes client.queue.waiting) ≡ false
    → ((emptied w client).worker == v && is_some_bytes (emptied w client).queue.waiting) ≡ false
emptied_test v w client e =
    cond_both (client.worker == w) _ _ (λ (c : Client). (c.worker == v && is_some_bytes c.queue.waiting) ≡ false) (λ own. and-false (client.worker == v)) (λ other. e)

emptied_here : (w : ℕ) (client : Client) → ((emptied w client).worker == w && is_some_bytes (emptied w client).queue.waiting) ≡ false
emptied_here w client =
    cond_both (client.worker == w) _ _ (λ (c : Client). (c.worker == w && is_some_bytes c.queue.waiting) ≡ false) (λ own. and-false (client.worker == w))
    (λ other. ap (λ (b : Bool). b && is_some_bytes client.queue.waiting) other)

none_collected : (v w : ℕ) (clients : List Client) → collected v clients ≡ [] → collected v (map (emptied w) clients) ≡ []
none_collected v w [] e = refl
none_collected v w (client ∷ clients) e =
    let parts = none_there (client.worker == v && is_some_bytes client.queue.waiting) _ (collected v clients) e in
    let more = none_collected v w clients parts.1 in
    let next = emptied w client in
    ap (λ (b : Bool). cond b (record { connection = next.queue.connection; bytes = next.queue.waiting } ∷ collected v (map (emptied w) clients))
    (collected v (map (emptied w) clients))) (emptied_test v w client parts.0) ∙ more

all_collected : (w : ℕ) (clients : List Client) → collected w (map (emptied w) clients) ≡ []
all_collected w [] = refl
all_collected w (client ∷ clients) =
    let next = emptied w client in
    ap (λ (b : Bool). cond b (record { connection = next.queue.connection; bytes = next.queue.waiting } ∷ collected w (map (emptied w) clients))
    (collected w (map (emptied w) clients))) (emptied_here w client) ∙ all_collected w clients

-- calm up to a worker
record CalmTo (setup : Setup) (n w : ℕ) (world : World) : Type 0 where
  taken : AreTaken setup world
  filled : AreFilled world
  passed : HavePassed setup world
  calm : (m v : ℕ) → m < setup.nodes → v < setup.workers → Before m v n w → IsCalm v (node_at m world)

answer_calm : (setup : Setup) (n w : ℕ) (world : World) (refused : Refused) → CalmTo setup n w world
    → CalmTo setup n w (after_step setup world (Answer n w) refused)
answer_calm setup n w world refused j =
    let node = node_at n world in
    let worker : Worker = record (worker_at w node) { slot = Answered (not node.down) } in
    let new = with_worker w worker node in
    by_outcome (CalmTo setup n w) (outcome setup world (Answer n w)) setup world (Answer n w) refused (λ idle. j)
    (λ done. record {
      taken = λ m v hm hv.
          at_keep (IsTaken v) world.nodes no_node m n new
          (λ e p up. at_keep (λ (x : Worker). is_posted x.slot ≡ false) node.workers fresh_worker v w worker (λ f q. refl) (p up)) (j.taken m v hm hv);
      filled = λ m s. at_keep (λ (x : Node). cell x s ≡ false) world.nodes no_node m n new (λ e p. p) (j.filled m s);
      passed = λ m hm.
          at_keep (HasPassed (tail_of world)) world.nodes no_node m n new (λ e p. record { free = p.free; passed = p.passed }) (j.passed m hm);
      calm = λ m v hm hv before.
          at_keep (IsCalm v) world.nodes no_node m n new
          (λ e p. record {
            none = p.none;
            slot = at_keep (λ (x : Worker). CalmSlot node.down x.slot) node.workers fresh_worker v w worker
                (λ f q. absurd (before_other m v n w before e f)) p.slot;
          }) (j.calm m v hm hv before);
    })

answer_mid : (setup : Setup) (n w : ℕ) (world : World) (refused : Refused) → n < setup.nodes → w < setup.workers → AreTaken setup world
    → MidSlot (node_at n (after_step setup world (Answer n w) refused)).down (worker_at w (node_at n (after_step setup world (Answer n w) refused))).slot
answer_mid setup n w world refused hn hw taken =
    let node = node_at n world in
    let worker : Worker = record (worker_at w node) { slot = Answered (not node.down) } in
    by_outcome (λ (x : World). MidSlot (node_at n x).down (worker_at w (node_at n x)).slot) (outcome setup world (Answer n w)) setup world (Answer n w) refused
    (λ idle. mid_slot node.down (worker_at w node).slot (taken n w hn hw) (idle_tells (not (is_worker setup n w)) NoSuch _ idle (is_worker_in setup n w hn hw)))
    (λ done.
    at_put (λ (x : Node). MidSlot x.down (worker_at w x).slot) world.nodes no_node n (with_worker w worker node)
    (at_put (λ (x : Worker). MidSlot node.down x.slot) node.workers fresh_worker w worker tt tt) tt)

collect_calm : (setup : Setup) (n w : ℕ) (world : World) (refused : Refused) → CalmTo setup n w world
    → CalmTo setup n w (after_step setup world (Collect n w) refused)
collect_calm setup n w world refused j =
    let node = node_at n world in
    let slot = (worker_at w node).slot in
    let worker : Worker = record (worker_at w node) { slot = cleared slot } in
    let new = collected_node w node in
    by_outcome (CalmTo setup n w) (outcome setup world (Collect n w)) setup world (Collect n w) refused (λ idle. j)
    (λ done. record {
      taken = λ m v hm hv.
          at_keep (IsTaken v) world.nodes no_node m n new
          (λ e p up. at_keep (λ (x : Worker). is_posted x.slot ≡ false) node.workers fresh_worker v w worker (λ f q. posted_cleared slot q) (p up)) (j.taken m v hm hv);
      filled = λ m s. at_keep (λ (x : Node). cell x s ≡ false) world.nodes no_node m n new (λ e p. p) (j.filled m s);
      passed = λ m hm.
          at_keep (HasPassed (tail_of world)) world.nodes no_node m n new (λ e p. record { free = p.free; passed = p.passed }) (j.passed m hm);
      calm = λ m v hm hv before.
          at_keep (IsCalm v) world.nodes no_node m n new
          (λ e p. record {
            none = none_collected v w node.clients p.none;
            slot = at_keep (λ (x : Worker). CalmSlot node.down x.slot) node.workers fresh_worker v w worker (λ f q. calm_cleared node.down slot q) p.slot;
          }) (j.calm m v hm hv before);
    })

collect_here : (setup : Setup) (n w : ℕ) (world : World) (refused : Refused) → n < setup.nodes → w < setup.workers
    → MidSlot (node_at n world).down (worker_at w (node_at n world)).slot → IsCalm w (node_at n (after_step setup world (Collect n w) refused))
collect_here setup n w world refused hn hw mid =
    let node = node_at n world in
    let slot = (worker_at w node).slot in
    let none = length (collected w node.clients) == 0 in
    by_outcome (λ (x : World). IsCalm w (node_at n x)) (outcome setup world (Collect n w)) setup world (Collect n w) refused
    (λ idle.
    let there = idle_tells (not (is_worker setup n w)) NoSuch _ idle (is_worker_in setup n w hn hw) in
    elim (cases_Bool (not (is_answered slot) && none)) [
      | inl e ↦
          let both = and_parts (not (is_answered slot)) none e in
          record { none = empty_list (collected w node.clients) both.1; slot = calm_slot node.down slot mid (not-true (is_answered slot) both.0) }
      | inr e ↦ absurd (cc (idle_tells (not (is_answered slot) && none) Nothing Done there e))
    ])
    (λ done.
    at_put (IsCalm w) world.nodes no_node n (collected_node w node)
    (record {
      none = all_collected w node.clients;
      slot = at_put (λ (x : Worker). CalmSlot node.down x.slot) node.workers fresh_worker w (record (worker_at w node) { slot = cleared slot })
          (cleared_calm node.down slot mid) tt;
    }) (record { none = refl; slot = tt }))

answering_to : (setup : Setup) → Leads setup (answering setup) (CalmTo setup 0 0) (CalmTo setup setup.nodes 0)
answering_to setup =
    leads_workers setup (λ n w. Answer n w ∷ Collect n w ∷ []) (CalmTo setup)
    (λ n w hn hw.
    let Mid = λ (x : World). CalmTo setup n w x × MidSlot (node_at n x).down (worker_at w (node_at n x)).slot in
    leads_on setup (Answer n w ∷ []) (Collect n w ∷ []) (CalmTo setup n w) Mid (CalmTo setup n (w + 1))
    (leads_one setup (Answer n w) (CalmTo setup n w) Mid
    (λ world refused j. (answer_calm setup n w world refused j, answer_mid setup n w world refused hn hw j.taken)))
    (leads_one setup (Collect n w) Mid (CalmTo setup n (w + 1))
    (λ world refused j.
    let after = after_step setup world (Collect n w) refused in
    let next = collect_calm setup n w world refused j.0 in
    record {
      taken = next.taken;
      filled = next.filled;
      passed = next.passed;
      calm = λ m v hm hv before. elim (before_next m v n w before) [
        | inl old ↦ next.calm m v hm hv old
        | inr new ↦
            subst (λ (k : ℕ). IsCalm v (node_at k after)) (sym new.0)
            (subst (λ (k : ℕ). IsCalm k (node_at n after)) (sym new.1) (collect_here setup n w world refused hn hw j.1))
      ];
    })))
    (λ n world j. record {
      taken = j.taken;
      filled = j.filled;
      passed = j.passed;
      calm = λ m v hm hv before. j.calm m v hm hv (before_all m v n 0 setup.workers hv before);
    })

-- Between rounds: all cells are filled, every node has passed the whole log and holds nothing, and each worker is calm.
pub record IsCalmWorld (setup : Setup) (world : World) : Type 0 where
  pub filled : AreFilled world
  pub passed : HavePassed setup world
  pub calm : (m v : ℕ) → m < setup.nodes → v < setup.workers → IsCalm v (node_at m world)

-- before the answers
pub record IsPassedWorld (setup : Setup) (world : World) : Type 0 where
  pub taken : AreTaken setup world
  pub filled : AreFilled world
  pub passed : HavePassed setup world

pub answering_leads : (setup : Setup) → Leads setup (answering setup) (IsPassedWorld setup) (IsCalmWorld setup)
answering_leads setup world events run p =
    let j = answering_to setup world events run (record {
      taken = p.taken;
      filled = p.filled;
      passed = p.passed;
      calm = λ m v hm hv before. elim before [ inl h ↦ absurd (omega arith) | inr h ↦ let none = h.1 in absurd (omega arith) ];
    }) in
    record { filled = j.filled; passed = j.passed; calm = λ m v hm hv. j.calm m v hm hv (inl hm) }
