-- A node goes through the log, and the entries that every node has passed go: what is shown, and that the world is held.
use Rattle.std.proofs.Common.{◌≡◌, ℕ, zero, suc, ◌+◌, ◌-◌, ◌<◌, ◌≤◌, ◌^◌, Bool, true, false, cond, List, [], ◌∷◌, ◌++◌, length, map, drop, get_or, set, refl, ap, sym, ◌∙◌, subst, arith, None}
use Rattle.std.specs.Prelude.{not, ◌&&◌, min}
use Rattle.std.proofs.lemmas.Bool.{not-false, ltb-true, lt-ltb, le-ltb, ne_eqb, cond_both}
use Rattle.std.proofs.lemmas.List.{append-nil, length-drop, get_or-drop, drop-drop}
use Rattle.nr_model.specs.Items.{Connection}
use Rattle.nr_model.specs.Entries.{Jobs, read_jobs}
use Rattle.nr_entry.specs.Waiting.{has_some}
use Rattle.nr_model.specs.Connections as traffic
use Rattle.nr_model.specs.Nodes as nodes
use Rattle.nr_model.specs.Nodes.Steps as steps
use Rattle.nr_model.specs.declared.reason.Reason.{Reason}
use Rattle.nr_model.specs.declared.reason.Reason.TheVariants as reasons
use Rattle.nr_model.specs.Nodes.Pasts.{Event, IsPast}
use Rattle.nr_model.proofs.NodesSteps.{AreSized, each_sized, by_look}
use Rattle.nr_model.proofs.NodesOwnShape.{IsShaped}
use Rattle.nr_model.proofs.NodesOwnShaped.{each_shaped}
use Rattle.nr_model.proofs.NodesOwnPlaces.{IsPlaced, ArePlaced, each_placed, log_of-append}
use Rattle.nr_model.proofs.NodesOwnAdvance.{advanced_passed, advanced_by_passed}
use Rattle.nr_session.specs.SessionState.{SessionState}
use Rattle.nr_replica.specs.Members.{Member, AreNumbered}
use Rattle.nr_world.specs.declared.node.WorldNode.{WorldNode}
use Rattle.nr_world.specs.declared.log.Log.{Log}
use Rattle.nr_world.specs.Served.{clients_seen, node_seen, refused_node, applied_node}
use Rattle.nr_world.specs.Logs.{log_seen}
use Rattle.nr_world.specs.Advanced.{IsOf, IsApplied, HasRun}
use Rattle.nr_world.specs.WorldState.{WorldState, Shows}
use Rattle.nr_world.specs.Whole.{IsWhole, AreWhole, IsHeld}
use Rattle.nr_world.specs.Taken.{Steps}
use Rattle.nr_world.specs.Batches.{ComesTo}
use Rattle.nr_world.specs.Replayed.{IsWithin, IsNext, IsAhead, HasLooked, HavePassed, least_of}
use Rattle.nr_world.proofs.Refusing.{nothing_is_refused, apply_refused, look_refused}
use Rattle.nr_world.proofs.Shown.{nodes_many, tail_is, node_is, shows_changed, whole_at, whole_set, held_on, takes_done}
use Rattle.nr_world.proofs.Kept.{paired_long}
use Rattle.nr_world.proofs.Joined.{none_yet, one_more, looked_up}

-- what every past tells
pub sized_of : (setup : traffic.Setup) (events : List Event) (world : nodes.World) → IsPast setup events world → AreSized setup world
sized_of setup events world past = subst (AreSized setup) (sym past.1) (each_sized setup events)

pub placed_of : (setup : traffic.Setup) (events : List Event) (world : nodes.World) → IsPast setup events world → ArePlaced world
placed_of setup events world past = subst ArePlaced (sym past.1) (each_placed setup events)

pub shaped_of : (setup : traffic.Setup) (events : List Event) (world : nodes.World) → IsPast setup events world
    → (n : ℕ) → n < length world.nodes → IsShaped setup n (nodes.node_at n world)
shaped_of setup events world past =
    subst (λ (w : nodes.World). (n : ℕ) → n < length w.nodes → IsShaped setup n (nodes.node_at n w)) (sym past.1) (each_shaped setup events).shaped

pub as_many_nodes : (v : WorldState) → IsHeld v → length v.nodes ≡ v.setup.nodes
as_many_nodes v held = nodes_many v held.world held.shows ∙ (sized_of v.setup held.events held.world held.past).nodes

-- the first reason that holds
pub idle_done : (holds : Bool) (reason : Reason) (otherwise : steps.Outcome) → steps.idle_where holds reason otherwise ≡ steps.Done
    → (holds ≡ false) × (otherwise ≡ steps.Done)
idle_done true reason otherwise e = absurd (cc e)
idle_done false reason otherwise e = (refl, e)

-- a number of no node, and of a node: what is asked of it is asked of the node there
pub no_such : (setup : traffic.Setup) (n : ℕ) (otherwise : steps.Outcome) → setup.nodes ≤ n
    → steps.idle_where (not (steps.is_node setup n)) reasons.NoSuch otherwise ≡ steps.Idle reasons.NoSuch
no_such setup n otherwise h = ap (λ (b : Bool). steps.idle_where (not b) reasons.NoSuch otherwise) (le-ltb n setup.nodes h)

pub such : (v : WorldState) (world : nodes.World) (n : ℕ) (d : WorldNode) (asked : nodes.Node → steps.Outcome) → Shows v world → n < v.setup.nodes
    → n < length v.nodes
    → steps.idle_where (not (steps.is_node v.setup n)) reasons.NoSuch (asked (nodes.node_at n world)) ≡ asked (node_seen (get_or v.nodes n d))
such v world n d asked s h there =
    ap (λ (b : Bool). steps.idle_where (not b) reasons.NoSuch (asked (nodes.node_at n world))) (lt-ltb n v.setup.nodes h)
    ∙ ap asked (node_is v world n d s there)

abbrev pub apply_asked : nodes.Node → steps.Outcome
apply_asked node = steps.idle_where (not node.fetched) reasons.Nothing steps.Done

abbrev pub look_asked : nodes.World → ℕ → nodes.Node → steps.Outcome
look_asked world n node =
    steps.idle_where node.down reasons.Down
    (steps.idle_where (steps.is_empty (read_jobs node.waiting)) reasons.Nothing
    (steps.idle_where (not (steps.are_filled world n (steps.next_fetch node) (nodes.tail_of world - steps.next_fetch node))) reasons.NotYet steps.Done))

abbrev pub refuse_asked : nodes.Node → steps.Outcome
refuse_asked node = steps.idle_where node.down reasons.Down steps.Done

-- a step of a node that may be done: the node is there
there_is : (v : WorldState) (n : ℕ) → IsHeld v → not (steps.is_node v.setup n) ≡ false → n < length v.nodes
there_is v n held e =
    let below : n < v.setup.nodes = ltb-true n v.setup.nodes (not-false (steps.is_node v.setup n) e) in
    let many = as_many_nodes v held in
    omega arith

pub apply_there : (v : WorldState) (n : ℕ) → IsHeld v → ComesTo v (steps.Apply n) steps.Done → n < length v.nodes
apply_there v n held asks =
    there_is v n held
    (idle_done (not (steps.is_node v.setup n)) reasons.NoSuch (apply_asked (nodes.node_at n held.world)) (asks.is held.events held.world held.past held.shows)).0

pub look_there : (v : WorldState) (n : ℕ) → IsHeld v → ComesTo v (steps.Look n) steps.Done → n < length v.nodes
look_there v n held asks =
    there_is v n held
    (idle_done (not (steps.is_node v.setup n)) reasons.NoSuch (look_asked held.world n (nodes.node_at n held.world))
    (asks.is held.events held.world held.past held.shows)).0

pub refuse_there : (v : WorldState) (n : ℕ) → IsHeld v → ComesTo v (steps.Refuse n) steps.Done → n < length v.nodes
refuse_there v n held asks =
    there_is v n held
    (idle_done (not (steps.is_node v.setup n)) reasons.NoSuch (refuse_asked (nodes.node_at n held.world)) (asks.is held.events held.world held.past held.shows)).0

-- names of connections that are named one by one
numbered_all : (n serial : ℕ) (sessions : List SessionState) (members : List Member) (c : Connection) → length sessions ≡ length members
    → ((i : ℕ) → i < length (clients_seen sessions members)
    → (get_or (clients_seen sessions members) i (nodes.fresh_client 0 0 c)).queue.connection ≡ record { node = n; serial = serial + i })
    → AreNumbered n serial members
numbered_all n serial [] [] c h each = tt
numbered_all n serial [] (m ∷ members) c h each = absurd (omega arith)
numbered_all n serial (s ∷ sessions) [] c h each = absurd (omega arith)
numbered_all n serial (s ∷ sessions) (m ∷ members) c h each =
    let here : serial + 0 ≡ serial = omega arith in (
      each 0 (omega arith) ∙ ap (λ (k : ℕ). record { node = n; serial = k }) here,
      numbered_all n (suc serial) sessions members c (omega arith)
          (λ i below.
          let further : serial + suc i ≡ suc serial + i = omega arith in
          each (suc i) (omega arith) ∙ ap (λ (k : ℕ). record { node = n; serial = k }) further),
    )

-- each node of a world that is held is within its log
pub within_at : (v : WorldState) (n : ℕ) (d : WorldNode) → IsHeld v → n < length v.nodes → IsWithin v.log (get_or v.nodes n d)
within_at v n d held there =
    let node = get_or v.nodes n d in
    let zero_first : 0 + n ≡ n = omega arith in
    let whole : IsWhole n node = subst (λ (k : ℕ). IsWhole k node) zero_first (whole_at v.nodes 0 n d there held.whole) in
    let many = nodes_many v held.world held.shows in
    let here : n < length held.world.nodes = omega arith in
    let is = node_is v held.world n d held.shows there in
    let named = (subst (IsShaped v.setup n) is (shaped_of v.setup held.events held.world held.past n here)).named in
    let long = paired_long n 0 node.sessions node.replica.members whole.pairs in
    let numbered : AreNumbered n 0 node.replica.members =
    numbered_all n 0 node.sessions node.replica.members (record { node = 0; serial = 0 }) long
    (λ i below. (named i below).connection ∙ ap (λ (k : ℕ). record { node = n; serial = k }) (let e : i ≡ 0 + i = omega arith in e)) in
    let placed = subst (IsPlaced (nodes.tail_of held.world)) is (placed_of v.setup held.events held.world held.past n here) in
    let tail = tail_is v held.world held.shows in
    record {
      whole = subst (λ (k : ℕ). IsWhole k node) (sym whole.number) whole;
      numbered = subst (λ (k : ℕ). AreNumbered k 0 node.replica.members) (sym whole.number) numbered;
      base = subst (λ (x : nodes.Node). v.log.base ≤ x.passed) is (held.shows.passed n here);
      tail = let within = placed.within in omega arith;
      fits = held.fits;
    }

-- one that holds an entry that it fetched has not passed it
pub fetched_within : (v : WorldState) (n : ℕ) (d : WorldNode) → IsHeld v → n < length v.nodes → (get_or v.nodes n d).is_fetched ≡ true
    → (get_or v.nodes n d).passed < v.log.base + length (log_seen v.log)
fetched_within v n d held there fetched =
    let many = nodes_many v held.world held.shows in
    let here : n < length held.world.nodes = omega arith in
    let placed = subst (IsPlaced (nodes.tail_of held.world)) (node_is v held.world n d held.shows there)
    (placed_of v.setup held.events held.world held.past n here) in
    let tail = tail_is v held.world held.shows in
    let below = placed.held fetched in
    omega arith

pub apply_within : (v : WorldState) (n : ℕ) (d : WorldNode) → IsHeld v → ComesTo v (steps.Apply n) steps.Done
    → (get_or v.nodes n d).passed < v.log.base + length (log_seen v.log)
apply_within v n d held asks =
    let there = apply_there v n held asks in
    let first = idle_done (not (steps.is_node v.setup n)) reasons.NoSuch (apply_asked (nodes.node_at n held.world))
    (asks.is held.events held.world held.past held.shows) in
    let free = (idle_done (not (nodes.node_at n held.world).fetched) reasons.Nothing steps.Done first.1).0 in
    let fetched = ap (λ (x : nodes.Node). x.fetched) (sym (node_is v held.world n d held.shows there)) ∙ not-false (nodes.node_at n held.world).fetched free in
    fetched_within v n d held there fetched

-- the entry that a node applies is that of all entries
pub next_is : (n : ℕ) (log : Log) (all : List nodes.Logged) (entry : nodes.Logged) (old new : nodes.Node) → log.base ≤ old.passed
    → log_seen log ≡ drop log.base all
    → entry ≡ get_or (log_seen log) (old.passed - log.base) (record { node = 0; jobs = [] }) → IsApplied n entry old new → IsNext n all old new
next_is n log all entry old new base is at applied =
    let far : log.base + (old.passed - log.base) ≡ old.passed = omega arith in
    let d : nodes.Logged = record { node = 0; jobs = [] } in
    let same : entry ≡ get_or all old.passed d =
    at ∙ ap (λ (xs : List nodes.Logged). get_or xs (old.passed - log.base) d) is ∙ get_or-drop log.base all (old.passed - log.base) d
    ∙ ap (λ (k : ℕ). get_or all k d) far in
    record {
      refused = applied.refused;
      of_entry = subst (λ (e : nodes.Logged). IsOf n e old applied.refused) same applied.of_entry;
      state = applied.state ∙ ap (λ (e : nodes.Logged). applied_node applied.refused n e old) same;
    }

-- the least count
pub least_most : (most : ℕ) (xs : List WorldNode) → least_of most xs ≤ most
least_most most [] = omega arith
least_most most (x ∷ xs) = let more = least_most (min most x.passed) xs in omega arith

pub least_low : (low most : ℕ) (xs : List WorldNode) → low ≤ most → HavePassed low xs → low ≤ least_of most xs
least_low low most [] h passed = h
least_low low most (x ∷ xs) h passed = let here : low ≤ x.passed = passed.0 in least_low low (min most x.passed) xs (omega arith) passed.1

least_seen : (most : ℕ) (xs : List WorldNode) (n : ℕ) → n < length xs → least_of most xs ≤ (get_or (map node_seen xs) n nodes.no_node).passed
least_seen most [] n h = absurd (omega arith)
least_seen most (x ∷ xs) zero h = let more = least_most (min most x.passed) xs in omega arith
least_seen most (x ∷ xs) (suc n) h = least_seen (min most x.passed) xs n (omega arith)

passed_all : (low : ℕ) (xs : List WorldNode) → ((n : ℕ) → n < length xs → low ≤ (get_or (map node_seen xs) n nodes.no_node).passed) → HavePassed low xs
passed_all low [] each = tt
passed_all low (x ∷ xs) each = (each 0 (omega arith), passed_all low xs (λ n h. each (suc n) (omega arith)))

pub shown_passed : (v : WorldState) (world : nodes.World) → Shows v world → HavePassed v.log.base v.nodes
shown_passed v world s =
    let many = nodes_many v world s in
    passed_all v.log.base v.nodes (λ n h.
    subst (λ (xs : List nodes.Node). v.log.base ≤ (get_or xs n nodes.no_node).passed) (sym s.nodes) (s.passed n (omega arith)))

-- the entries that every node has passed are let go
pub record IsLetGo (old new : WorldState) : Type 0 where
  pub setup : new.setup ≡ old.setup
  pub still : new.failed ≡ false
  pub nodes : new.nodes ≡ old.nodes
  pub base : new.log.base ≡ least_of (old.log.base + length (log_seen old.log)) old.nodes
  pub entries : log_seen new.log ≡ drop (new.log.base - old.log.base) (log_seen old.log)

pub shows_let_go : (old new : WorldState) (world : nodes.World) → IsLetGo old new → Shows old world → Shows new world
shows_let_go old new world g s =
    let tail = tail_is old world s in
    let many = nodes_many old world s in
    let most = least_most (old.log.base + length (log_seen old.log)) old.nodes in
    let low = least_low old.log.base (old.log.base + length (log_seen old.log)) old.nodes (omega arith) (shown_passed old world s) in
    let is = g.base in
    let far : old.log.base + (new.log.base - old.log.base) ≡ new.log.base = omega arith in
    record {
      still = g.still;
      nodes = ap (map node_seen) g.nodes ∙ s.nodes;
      log = g.entries ∙ ap (drop (new.log.base - old.log.base)) s.log ∙ drop-drop (new.log.base - old.log.base) old.log.base (nodes.log_of world.taken)
          ∙ ap (λ (k : ℕ). drop k (nodes.log_of world.taken)) far;
      base = omega arith;
      passed = λ n h.
          let least = least_seen (old.log.base + length (log_seen old.log)) old.nodes n (omega arith) in
          let here : least_of (old.log.base + length (log_seen old.log)) old.nodes ≤ (nodes.node_at n world).passed =
          subst (λ (xs : List nodes.Node). least_of (old.log.base + length (log_seen old.log)) old.nodes ≤ (get_or xs n nodes.no_node).passed) s.nodes least in
          omega arith;
    }

pub fits_let_go : (old new : WorldState) → IsLetGo old new → HavePassed old.log.base old.nodes → old.log.base + length (log_seen old.log) < 2 ^ 64
    → new.log.base + length (log_seen new.log) < 2 ^ 64
fits_let_go old new g passed fits =
    let most = least_most (old.log.base + length (log_seen old.log)) old.nodes in
    let low = least_low old.log.base (old.log.base + length (log_seen old.log)) old.nodes (omega arith) passed in
    let is = g.base in
    let long : length (log_seen new.log) ≡ length (log_seen old.log) - (new.log.base - old.log.base) = ap length g.entries
    ∙ length-drop (new.log.base - old.log.base) (log_seen old.log) in
    omega arith

-- another node in its place, where it has passed no fewer entries
passed_set : (low : ℕ) (xs : List WorldNode) (n : ℕ) (x : WorldNode) → low ≤ x.passed → HavePassed low xs → HavePassed low (set xs n x)
passed_set low [] n x h passed = tt
passed_set low (y ∷ xs) zero x h passed = (h, passed.1)
passed_set low (y ∷ xs) (suc n) x h passed = (passed.0, passed_set low xs n x h passed.1)

abbrev pub with_node : WorldState → ℕ → WorldNode → WorldState
with_node v n x = record v { nodes = set v.nodes n x }

pub passed_with : (v : WorldState) (n : ℕ) (x : WorldNode) → IsHeld v → v.log.base ≤ x.passed → HavePassed v.log.base (set v.nodes n x)
passed_with v n x held h = passed_set v.log.base v.nodes n x h (shown_passed v held.world held.shows)

whole_with : (v : WorldState) (n : ℕ) (d x : WorldNode) → IsHeld v → n < length v.nodes → IsWhole (get_or v.nodes n d).replica.node x → AreWhole 0 (set v.nodes n x)
whole_with v n d x held there whole =
    let number = (whole_at v.nodes 0 n d there held.whole).number in
    whole_set v.nodes 0 n x (subst (λ (k : ℕ). IsWhole k x) number whole) held.whole

number_at : (v : WorldState) (n : ℕ) (d : WorldNode) → IsHeld v → n < length v.nodes → (get_or v.nodes n d).replica.node ≡ n
number_at v n d held there = (whole_at v.nodes 0 n d there held.whole).number ∙ (let e : 0 + n ≡ n = omega arith in e)

-- an apply
abbrev pub Nexts : Log → WorldNode → WorldNode → Type 0
Nexts log old new = (all : List nodes.Logged) → log_seen log ≡ drop log.base all → IsNext old.replica.node all (node_seen old) (node_seen new)

next_at : (m n : ℕ) (log : List nodes.Logged) (old at new : nodes.Node) → m ≡ n → old ≡ at → IsNext m log old new → IsNext n log at new
next_at m n log old at new e f h =
    subst (λ (y : nodes.Node). IsNext n log y new) f (subst (λ (k : ℕ). IsNext k log old new) e h)

pub takes_apply : (old new : WorldState) (n : ℕ) (d x : WorldNode) → IsHeld old → ComesTo old (steps.Apply n) steps.Done → Nexts old.log (get_or old.nodes n d) x
    → IsLetGo (with_node old n x) new → Steps old new (steps.Apply n) steps.Done
takes_apply old new n d x held asks nexts g =
    let there = apply_there old n held asks in
    let node = get_or old.nodes n d in
    let number = number_at old n d held there in
    takes_done old new (steps.Apply n) g.setup (λ _. refl) (λ _. refl) (λ events world past s.
    let log = nodes.log_of world.taken in
    let back : node_seen node ≡ nodes.node_at n world = sym (node_is old world n d s there) in
    let next = next_at node.replica.node n log (node_seen node) (nodes.node_at n world) (node_seen x) number back (nexts log s.log) in
    let many = nodes_many old world s in
    let tail = tail_is old world s in
    let below = apply_within old n d held asks in
    let same : node.passed ≡ (nodes.node_at n world).passed = ap (λ (y : nodes.Node). y.passed) back in
    let after = steps.advanced next.refused n log (nodes.node_at n world) in
    let one = advanced_passed next.refused n log (nodes.node_at n world) in
    let base = s.passed n (omega arith) in (
      next.refused,
      apply_refused world n (node_seen x) next (omega (arith, many, there)) (omega (arith, tail, below, same)),
      asks.is events world past s,
      shows_let_go (with_node old n x) new (nodes.with_node n after world) g
          (shows_changed old world (nodes.with_node n after world) n x after s there next.state refl refl (omega arith)),
    ))

pub held_on_let_go : (old new : WorldState) (n : ℕ) (d x : WorldNode) (step : steps.Step) (outcome : steps.Outcome) → IsHeld old → n < length old.nodes
    → Steps old new step outcome → IsLetGo (with_node old n x) new → IsWhole (get_or old.nodes n d).replica.node x → old.log.base ≤ x.passed → IsHeld new
held_on_let_go old new n d x step outcome held there takes g whole base =
    held_on old new step outcome [] None held takes
    (subst (AreWhole 0) (sym g.nodes) (whole_with old n d x held there whole))
    (fits_let_go (with_node old n x) new g (passed_with old n x held base) held.fits)

-- a look
abbrev pub Looks : Log → WorldNode → WorldNode → Type 0
Looks log old new =
    (all : List nodes.Logged) → log_seen log ≡ drop log.base all
    → HasLooked old.replica.node (log.base + length (log_seen log)) all (node_seen old) (node_seen new)

looked_at : (m n tail count : ℕ) (log : List nodes.Logged) (old at new : nodes.Node) → m ≡ n → tail ≡ count → old ≡ at → HasLooked m tail log old new
    → HasLooked n count log at new
looked_at m n tail count log old at new e f g h =
    subst (λ (y : nodes.Node). HasLooked n count log y new) g
    (subst (λ (t : ℕ). HasLooked n t log old new) f (subst (λ (k : ℕ). HasLooked k tail log old new) e h))

shows_looked : (v : WorldState) (world : nodes.World) (n : ℕ) (x : WorldNode) → Shows v world → n < length v.nodes
    → (h : HasLooked n (nodes.tail_of world) (nodes.log_of world.taken) (nodes.node_at n world) (node_seen x))
    → Shows (with_node v n x) (steps.looked h.refused n world)
shows_looked v world n x s there h =
    let tail = nodes.tail_of world in
    let log = nodes.log_of world.taken in
    let many = nodes_many v world s in
    let base = s.passed n (omega arith) in
    let far : h.ahead.passed ≡ (nodes.node_at n world).passed + (tail - (nodes.node_at n world).passed) =
    ap (λ (y : nodes.Node). y.passed) h.went ∙ advanced_by_passed (tail - (nodes.node_at n world).passed) h.refused n log (nodes.node_at n world) in
    let reads = steps.with_reads h.refused.cuts tail h.ahead in
    by_look (Shows (with_node v n x)) h.refused n world h.ahead h.went
    (λ down. shows_changed v world (nodes.with_node n h.ahead world) n x h.ahead s there
    (h.state ∙ ap (λ (b : Bool). cond b h.ahead reads) down) refl refl (omega arith))
    (λ up. shows_changed v world
    (record (nodes.with_node n reads world) { taken = world.taken ++ nodes.Reads n h.ahead.applied (read_jobs h.ahead.waiting) ∷ [] }) n x reads s there
    (h.state ∙ ap (λ (b : Bool). cond b h.ahead reads) up) refl
    (log_of-append world.taken (nodes.Reads n h.ahead.applied (read_jobs h.ahead.waiting) ∷ []) ∙ append-nil log) (omega arith))

pub takes_look : (old new : WorldState) (n : ℕ) (d x : WorldNode) → IsHeld old → ComesTo old (steps.Look n) steps.Done → Looks old.log (get_or old.nodes n d) x
    → IsLetGo (with_node old n x) new → Steps old new (steps.Look n) steps.Done
takes_look old new n d x held asks looks g =
    let there = look_there old n held asks in
    let number = number_at old n d held there in
    takes_done old new (steps.Look n) g.setup (λ _. refl) (λ _. refl) (λ events world past s.
    let log = nodes.log_of world.taken in
    let node = get_or old.nodes n d in
    let looked = looked_at node.replica.node n (old.log.base + length (log_seen old.log)) (nodes.tail_of world) log (node_seen node) (nodes.node_at n world)
    (node_seen x)
    number (tail_is old world s) (sym (node_is old world n d s there)) (looks log s.log) in
    let many = nodes_many old world s in
    let tail = tail_is old world s in
    let within = (within_at old n d held there).tail in
    let same : (nodes.node_at n world).passed ≡ node.passed = ap (λ (y : nodes.Node). y.passed) (node_is old world n d s there) in (
      looked.refused,
      look_refused world n (node_seen x) looked (omega (arith, many, there)) (omega (arith, tail, within, same)),
      asks.is events world past s,
      shows_let_go (with_node old n x) new (steps.looked looked.refused n world) g (shows_looked old world n x s there looked),
    ))

-- a refusal
pub takes_refuse : (old : WorldState) (n : ℕ) (d x : WorldNode) → IsHeld old → ComesTo old (steps.Refuse n) steps.Done
    → node_seen x ≡ refused_node (node_seen (get_or old.nodes n d))
    → Steps old (with_node old n x) (steps.Refuse n) steps.Done
takes_refuse old n d x held asks seen =
    let there = refuse_there old n held asks in
    takes_done old (with_node old n x) (steps.Refuse n) refl (λ _. refl) (λ _. refl) (λ events world past s.
    let many = nodes_many old world s in
    let after : nodes.Node = record (nodes.node_at n world) { refused = true } in (
      steps.nothing_refused,
      nothing_is_refused world (steps.Refuse n) steps.Done,
      asks.is events world past s,
      shows_changed old world (nodes.with_node n after world) n x after s there (seen ∙ ap refused_node (sym (node_is old world n d s there))) refl refl
          (s.passed n (omega arith)),
    ))

pub held_refuse : (old : WorldState) (n : ℕ) (d x : WorldNode) → IsHeld old → ComesTo old (steps.Refuse n) steps.Done
    → node_seen x ≡ refused_node (node_seen (get_or old.nodes n d))
    → IsWhole (get_or old.nodes n d).replica.node x → IsHeld (with_node old n x)
held_refuse old n d x held asks seen whole =
    let there = refuse_there old n held asks in
    held_on old (with_node old n x) (steps.Refuse n) steps.Done [] None held (takes_refuse old n d x held asks seen) (whole_with old n d x held there whole)
    held.fits

-- a world as its fields are, where a step of it may be done
pub record Opens (a : WorldState) (step : steps.Step) : Type 0 where
  pub held : IsHeld a
  pub comes : ComesTo a step steps.Done

pub opens : (a v : WorldState) (step : steps.Step) → a ≡ v → a.failed ≡ false → (a.failed ≡ false → IsHeld a) → ComesTo v step steps.Done → Opens a step
opens a v step is up held comes = record { held = held up; comes = subst (λ (b : WorldState). ComesTo b step steps.Done) (sym is) comes }

pub held_by : (a v : WorldState) → a ≡ v → v.failed ≡ false → (a.failed ≡ false → IsHeld a) → IsHeld a
held_by a v is up held = held (ap (λ (b : WorldState). b.failed) is ∙ up)

pub inside_by : (a : WorldState) (n : ℕ) → IsHeld a → n < a.setup.nodes → n < length a.nodes
inside_by a n held h = let many = as_many_nodes a held in omega arith

pub such_by : (a v : WorldState) (world : nodes.World) (n : ℕ) (x : WorldNode) (asked : nodes.Node → steps.Outcome) → a ≡ v → IsHeld a → Shows v world
    → n < a.setup.nodes → x ≡ get_or a.nodes n x
    → steps.idle_where (not (steps.is_node v.setup n)) reasons.NoSuch (asked (nodes.node_at n world)) ≡ asked (node_seen x)
such_by a v world n x asked is held s h at =
    subst (λ (b : WorldState). steps.idle_where (not (steps.is_node b.setup n)) reasons.NoSuch (asked (nodes.node_at n world)) ≡ asked (node_seen x)) is
    (such a world n x asked (subst (λ (b : WorldState). Shows b world) (sym is) s) h (inside_by a n held h) ∙ ap (λ (y : WorldNode). asked (node_seen y)) (sym at))

pub fails : (b : Bool) (reason : Reason) (otherwise : steps.Outcome) → b ≡ false → steps.idle_where b reason otherwise ≡ otherwise
fails b reason otherwise e = ap (λ (x : Bool). steps.idle_where x reason otherwise) e

pub holds : (b : Bool) (reason : Reason) (otherwise : steps.Outcome) → b ≡ true → steps.idle_where b reason otherwise ≡ steps.Idle reason
holds b reason otherwise e = ap (λ (x : Bool). steps.idle_where x reason otherwise) e

pub empty_is : (jobs : Jobs) → steps.is_empty jobs ≡ not (has_some jobs)
empty_is [] = refl
empty_is (job ∷ jobs) = ne_eqb (suc (length jobs)) 0 (λ e. omega (arith, e))

-- a node at its place is within the log
pub within_by : (a : WorldState) (n : ℕ) (x : WorldNode) → IsHeld a → n < length a.nodes → x ≡ get_or a.nodes n x → IsWithin a.log x
within_by a n x held there at = subst (IsWithin a.log) (sym at) (within_at a n x held there)

fetched_by : (v : WorldState) (m : ℕ) (y : WorldNode) → IsHeld v → m < length v.nodes → y ≡ get_or v.nodes m y → y.is_fetched ≡ true
    → y.passed < v.log.base + length (log_seen v.log)
fetched_by v m y h t e f =
    let below = fetched_within v m y h t (ap (λ (z : WorldNode). z.is_fetched) (sym e) ∙ f) in
    subst (λ (z : WorldNode). z.passed < v.log.base + length (log_seen v.log)) (sym e) below

pub fetch_fits : (a : WorldState) (n : ℕ) (x : WorldNode) → IsHeld a → n < length a.nodes → x ≡ get_or a.nodes n x → x.is_fetched ≡ true → x.passed + 1 < 2 ^ 64
fetch_fits a n x held there at e =
    let below = fetched_by a n x held there at e in
    let fits = held.fits in
    omega arith

next_within : (a : WorldState) (n : ℕ) (x : WorldNode) → IsHeld a → n < length a.nodes → x ≡ get_or a.nodes n x
    → (a.log.base ≤ steps.next_fetch (node_seen x)) × (steps.next_fetch (node_seen x) ≤ a.log.base + length (log_seen a.log))
next_within a n x held there at =
    let within = within_by a n x held there at in
    let base = within.base in
    let tail = within.tail in
    cond_both x.is_fetched (suc x.passed) x.passed (λ (k : ℕ). (a.log.base ≤ k) × (k ≤ a.log.base + length (log_seen a.log)))
    (λ e. let below = fetched_by a n x held there at e in (omega arith, omega arith)) (λ e. (omega arith, omega arith))

pub next_ready : (a v : WorldState) (n : ℕ) (x : WorldNode) (next : ℕ) → a ≡ v → IsHeld a → n < length a.nodes → x ≡ get_or a.nodes n x
    → next ≡ steps.next_fetch (node_seen x)
    → (v.log.base ≤ next) × (next ≤ v.log.base + length (log_seen v.log))
next_ready a v n x next is held there at e =
    subst (λ (b : WorldState). (b.log.base ≤ next) × (next ≤ b.log.base + length (log_seen b.log))) is
    (subst (λ (k : ℕ). (a.log.base ≤ k) × (k ≤ a.log.base + length (log_seen a.log))) (sym e) (next_within a n x held there at))

pub there_by : (a v : WorldState) (n : ℕ) → a ≡ v → n < length a.nodes → n < length v.nodes
there_by a v n is there = subst (λ (b : WorldState). n < length b.nodes) is there

-- what a look asks, by what was found
pub look_down : (world : nodes.World) (n : ℕ) (x : nodes.Node) → x.down ≡ true → look_asked world n x ≡ steps.Idle reasons.Down
look_down world n x e = holds x.down reasons.Down _ e

pub look_nothing : (world : nodes.World) (n : ℕ) (x : nodes.Node) → x.down ≡ false → has_some (read_jobs x.waiting) ≡ false
    → look_asked world n x ≡ steps.Idle reasons.Nothing
look_nothing world n x up none =
    fails x.down reasons.Down _ up ∙ holds (steps.is_empty (read_jobs x.waiting)) reasons.Nothing _ (empty_is (read_jobs x.waiting) ∙ ap not none)

pub look_filled : (world : nodes.World) (n : ℕ) (x : nodes.Node) (next : ℕ) (filled : Bool) → x.down ≡ false → has_some (read_jobs x.waiting) ≡ true
    → next ≡ steps.next_fetch x → filled ≡ steps.are_filled world n next (nodes.tail_of world - next)
    → look_asked world n x ≡ steps.idle_where (not filled) reasons.NotYet steps.Done
look_filled world n x next filled up some e f =
    fails x.down reasons.Down _ up ∙ fails (steps.is_empty (read_jobs x.waiting)) reasons.Nothing _ (empty_is (read_jobs x.waiting) ∙ ap not some)
    ∙ ap (λ (b : Bool). steps.idle_where (not b) reasons.NotYet steps.Done)
    (ap (λ (k : ℕ). steps.are_filled world n k (nodes.tail_of world - k)) (sym e) ∙ sym f)

-- cells that are filled, from an entry on
pub fill_step : (world : nodes.World) (n x tail : ℕ) → x < tail → steps.is_filled world n x ≡ true
    → steps.are_filled world n (x + 1) (tail - (x + 1)) ≡ steps.are_filled world n x (tail - x)
fill_step world n x tail h e =
    let count : suc (tail - suc x) ≡ tail - x = omega arith in
    let next : x + 1 ≡ suc x = omega arith in
    ap (λ (k : ℕ). steps.are_filled world n k (tail - k)) next
    ∙ ap (λ (b : Bool). b && steps.are_filled world n (suc x) (tail - suc x)) (sym e)
    ∙ ap (steps.are_filled world n x) count

pub fill_stop : (world : nodes.World) (n x tail : ℕ) → x < tail → steps.is_filled world n x ≡ false → false ≡ steps.are_filled world n x (tail - x)
fill_stop world n x tail h e =
    let count : suc (tail - suc x) ≡ tail - x = omega arith in
    ap (λ (b : Bool). b && steps.are_filled world n (suc x) (tail - suc x)) (sym e) ∙ ap (steps.are_filled world n x) count

pub fill_end : (world : nodes.World) (n x tail : ℕ) → tail ≤ x → true ≡ steps.are_filled world n x (tail - x)
fill_end world n x tail h = ap (steps.are_filled world n x) (let e : 0 ≡ tail - x = omega arith in e)

pub tail_by : (a v : WorldState) (world : nodes.World) → a ≡ v → Shows v world → a.log.base + length (log_seen a.log) ≡ nodes.tail_of world
tail_by a v world is s = tail_is a world (subst (λ (b : WorldState). Shows b world) (sym is) s)

-- the loop over entries
pub none_at : (n count : ℕ) (log : List nodes.Logged) (node : nodes.Node) → count ≡ 0 → IsAhead n count log node node
none_at n count log node e = subst (λ (k : ℕ). IsAhead n k log node node) (sym e) (none_yet n log node)

pub goes_on : (m n from at : ℕ) (log : List nodes.Logged) (old mid new : nodes.Node) → m ≡ n → from ≤ at → IsAhead n (at - from) log old mid
    → IsNext m log mid new
    → IsAhead n (at + 1 - from) log old new
goes_on m n from at log old mid new e h ahead next =
    let count : suc (at - from) ≡ at + 1 - from = omega arith in
    subst (λ (k : ℕ). IsAhead n k log old new) count (one_more n (at - from) log old mid new ahead (subst (λ (k : ℕ). IsNext k log mid new) e next))

-- a step of one node, whole
abbrev pub with_log : WorldState → List WorldNode → Log → Bool → WorldState
with_log a nodes log failed = record { setup = a.setup; nodes = nodes; log = log; failed = failed }

let_go_is : (a : WorldState) (n : ℕ) (x : WorldNode) (nodes : List WorldNode) (log : Log) (failed : Bool) → failed ≡ false → nodes ≡ set a.nodes n x
    → log.base ≡ least_of (a.log.base + length (log_seen a.log)) nodes → log_seen log ≡ drop (log.base - a.log.base) (log_seen a.log)
    → IsLetGo (with_node a n x) (with_log a (set a.nodes n x) log failed)
let_go_is a n x nodes log failed still is base entries = record {
  setup = refl;
  still = still;
  nodes = refl;
  base = base ∙ ap (least_of (a.log.base + length (log_seen a.log))) is;
  entries = entries;
}

pub let_go_ready : (a : WorldState) (n : ℕ) (x : WorldNode) (nodes : List WorldNode) → IsHeld a → a.log.base ≤ x.passed → nodes ≡ set a.nodes n x
    → HavePassed a.log.base nodes
let_go_ready a n x nodes held h is = subst (HavePassed a.log.base) (sym is) (passed_with a n x held h)

pub refused_all : (a v : WorldState) (n : ℕ) (d x : WorldNode) → a ≡ v → Opens a (steps.Refuse n) → d ≡ get_or a.nodes n d → node_seen x ≡ refused_node (node_seen d)
    → ((k : ℕ) → IsWhole k d → IsWhole k x) → (Steps v (with_node a n x) (steps.Refuse n) steps.Done) × IsHeld (with_node a n x)
refused_all a v n d x is o at seen whole =
    let there = refuse_there a n o.held o.comes in
    let seen_there : node_seen x ≡ refused_node (node_seen (get_or a.nodes n d)) = seen ∙ ap (λ (y : WorldNode). refused_node (node_seen y)) at in
    let within = within_by a n d o.held there at in
    let kept : IsWhole (get_or a.nodes n d).replica.node x = subst (λ (y : WorldNode). IsWhole y.replica.node x) at (whole d.replica.node within.whole) in (
      subst (λ (b : WorldState). Steps b (with_node a n x) (steps.Refuse n) steps.Done) is (takes_refuse a n d x o.held o.comes seen_there),
      held_refuse a n d x o.held o.comes seen_there kept,
    )

pub applied_all : (a v : WorldState) (n : ℕ) (d x : WorldNode) (nodes : List WorldNode) (log : Log) → a ≡ v → a.failed ≡ false → Opens a (steps.Apply n)
    → d ≡ get_or a.nodes n d
    → Nexts a.log d x → IsWithin a.log x → x.replica.node ≡ d.replica.node → nodes ≡ set a.nodes n x
    → log.base ≡ least_of (a.log.base + length (log_seen a.log)) nodes → log_seen log ≡ drop (log.base - a.log.base) (log_seen a.log)
    → (Steps v (with_log a (set a.nodes n x) log a.failed) (steps.Apply n) steps.Done) × IsHeld (with_log a (set a.nodes n x) log a.failed)
applied_all a v n d x nodes log is up o at nexts within number all base entries =
    let new = with_log a (set a.nodes n x) log a.failed in
    let there = apply_there a n o.held o.comes in
    let g = let_go_is a n x nodes log a.failed up all base entries in
    let takes = takes_apply a new n d x o.held o.comes (subst (λ (y : WorldNode). Nexts a.log y x) at nexts) g in
    let named : x.replica.node ≡ (get_or a.nodes n d).replica.node = number ∙ ap (λ (y : WorldNode). y.replica.node) at in (
      subst (λ (b : WorldState). Steps b new (steps.Apply n) steps.Done) is takes,
      held_on_let_go a new n d x (steps.Apply n) steps.Done o.held there takes g (subst (λ (k : ℕ). IsWhole k x) named within.whole) within.base,
    )

pub looked_all : (a v : WorldState) (n : ℕ) (d x : WorldNode) (nodes : List WorldNode) (log : Log) → a ≡ v → a.failed ≡ false → Opens a (steps.Look n)
    → d ≡ get_or a.nodes n d
    → Looks a.log d x → IsWhole d.replica.node x → a.log.base ≤ x.passed → nodes ≡ set a.nodes n x
    → log.base ≡ least_of (a.log.base + length (log_seen a.log)) nodes → log_seen log ≡ drop (log.base - a.log.base) (log_seen a.log)
    → (Steps v (with_log a (set a.nodes n x) log a.failed) (steps.Look n) steps.Done) × IsHeld (with_log a (set a.nodes n x) log a.failed)
looked_all a v n d x nodes log is up o at looks whole passed all base entries =
    let new = with_log a (set a.nodes n x) log a.failed in
    let there = look_there a n o.held o.comes in
    let g = let_go_is a n x nodes log a.failed up all base entries in
    let takes = takes_look a new n d x o.held o.comes (subst (λ (y : WorldNode). Looks a.log y x) at looks) g in (
      subst (λ (b : WorldState). Steps b new (steps.Look n) steps.Done) is takes,
      held_on_let_go a new n d x (steps.Look n) steps.Done o.held there takes g (subst (λ (y : WorldNode). IsWhole y.replica.node x) at whole) passed,
    )

-- the reads behind the entries that it caught up with
pub read_looked : (log : Log) (old mid new : WorldNode) (all : List nodes.Logged) → mid.replica.node ≡ old.replica.node
    → old.passed ≤ log.base + length (log_seen log)
    → IsAhead old.replica.node (log.base + length (log_seen log) - old.passed) all (node_seen old) (node_seen mid) → mid.replica.down ≡ false
    → HasRun mid.replica.node (log.base + length (log_seen log)) (node_seen mid) (node_seen new)
    → HasLooked old.replica.node (log.base + length (log_seen log)) all (node_seen old) (node_seen new)
read_looked log old mid new all same within ahead up run =
    looked_up old.replica.node (log.base + length (log_seen log)) all (node_seen old) (node_seen mid) (node_seen new) ahead within up
    (subst (λ (n : ℕ). HasRun n (log.base + length (log_seen log)) (node_seen mid) (node_seen new)) same run)

pub apply_more : (a : WorldState) (n : ℕ) (d : WorldNode) → Opens a (steps.Apply n) → d ≡ get_or a.nodes n d → d.passed < a.log.base + length (log_seen a.log)
apply_more a n d o at = subst (λ (y : WorldNode). y.passed < a.log.base + length (log_seen a.log)) (sym at) (apply_within a n d o.held o.comes)
