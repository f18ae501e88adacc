-- Entries are reserved, filled and fetched: what each step does to a world that is held.
use Rattle.std.proofs.Common.{◌≡◌, ◌≢◌, ℕ, zero, suc, ◌+◌, ◌-◌, ◌<◌, ◌≤◌, ◌^◌, Bool, true, false, not, List, [], ◌∷◌, ◌++◌, length, drop, get_or, set}
use Rattle.std.proofs.Common.{refl, ap, sym, ◌∙◌, subst, arith, None}
use Rattle.std.specs.Prelude.{◌&&◌, ◌==◌, nat_lt}
use Rattle.std.specs.List.{list_any, list_all, AllByRecursion}
use Rattle.std.proofs.lemmas.Bool.{lt-ltb, ne_eqb}
use Rattle.std.proofs.lemmas.List.{length-append, get_or-drop, drop-append-le}
use Rattle.std.proofs.lemmas.List.Folds.{list_all-map}
use Rattle.nr_model.specs.Connections as traffic
use Rattle.nr_model.specs.Entries.{Jobs, entry_jobs}
use Rattle.nr_model.specs.Nodes as nodes
use Rattle.nr_model.specs.Nodes.Steps as steps
use Rattle.nr_model.specs.declared.reason.Reason.{Reason}
use Rattle.nr_model.specs.declared.reason.Reason.TheVariants as reasons
use Rattle.nr_model.specs.Nodes.Pasts.{Event, IsPast}
use Rattle.nr_model.proofs.NodesSteps.{AreSized, each_sized}
use Rattle.nr_model.proofs.NodesOwnShaped.{IsTakenIn, IsShapedWorld, each_shaped}
use Rattle.nr_model.proofs.NodesOwnPlaces.{ArePlaced, each_placed, log_of-append}
use Rattle.nr_entry.specs.Waiting.{has_some}
use Rattle.nr_world.specs.declared.node.WorldNode.{WorldNode}
use Rattle.nr_world.specs.declared.log.Log.{Log}
use Rattle.nr_world.specs.Served.{node_seen, reserved_node, filled_node, fetched_node}
use Rattle.nr_world.specs.Logs.{log_seen}
use Rattle.nr_world.specs.WorldState.{WorldState, Shows}
use Rattle.nr_world.specs.Whole.{IsWhole, IsHeld}
use Rattle.nr_world.specs.Taken.{Steps}
use Rattle.nr_world.proofs.Sides.{any_default}
use Rattle.nr_world.proofs.Refusing.{nothing_is_refused}
use Rattle.nr_world.proofs.Shown.{nodes_many, tail_is, node_is, shows_changed, whole_at, whole_set, held_on, takes_done}

-- the world that a world shows that is held
sized_of : (v : WorldState) (h : IsHeld v) → AreSized v.setup h.world
sized_of v h = subst (AreSized v.setup) (sym h.past.1) (each_sized v.setup h.events)

shaped_of : (v : WorldState) (h : IsHeld v) → IsShapedWorld v.setup h.world
shaped_of v h = subst (IsShapedWorld v.setup) (sym h.past.1) (each_shaped v.setup h.events)

placed_of : (v : WorldState) (h : IsHeld v) → ArePlaced h.world
placed_of v h = subst ArePlaced (sym h.past.1) (each_placed v.setup h.events)

-- as many nodes as its setup says, and cells of each
pub nodes_all : (v : WorldState) → IsHeld v → length v.nodes ≡ v.setup.nodes
nodes_all v h = nodes_many v h.world h.shows ∙ (sized_of v h).nodes

pub cells_all : (v : WorldState) (n : ℕ) (d : WorldNode) → IsHeld v → n < length v.nodes → length (get_or v.nodes n d).unfilled.items ≡ v.setup.nodes
cells_all v n d h there =
    let many = nodes_many v h.world h.shows in
    ap (λ (node : nodes.Node). length node.unfilled) (sym (node_is v h.world n d h.shows there)) ∙ ((sized_of v h).each n (omega arith)).cells

-- a node has passed no fewer entries than were let go, and no more than were reserved
pub passed_least : (v : WorldState) (n : ℕ) (d : WorldNode) → IsHeld v → n < length v.nodes → v.log.base ≤ (get_or v.nodes n d).passed
passed_least v n d h there =
    let many = nodes_many v h.world h.shows in
    let is : (nodes.node_at n h.world).passed ≡ (get_or v.nodes n d).passed = ap (λ (node : nodes.Node). node.passed) (node_is v h.world n d h.shows there) in
    let least = h.shows.passed n (omega arith) in
    omega arith

pub passed_most : (v : WorldState) (n : ℕ) (d : WorldNode) → IsHeld v → n < length v.nodes → (get_or v.nodes n d).passed ≤ v.log.base + length (log_seen v.log)
passed_most v n d h there =
    let many = nodes_many v h.world h.shows in
    let is : (nodes.node_at n h.world).passed ≡ (get_or v.nodes n d).passed = ap (λ (node : nodes.Node). node.passed) (node_is v h.world n d h.shows there) in
    let tail = tail_is v h.world h.shows in
    let most = (placed_of v h n (omega arith)).within in
    omega arith

-- the node of an entry stands among the nodes
logged_stands : (all : List nodes.Node) (taken : List nodes.Taken) (x : ℕ) (d : nodes.Logged) → AllByRecursion (IsTakenIn all) taken
    → x < length (nodes.log_of taken) → (get_or (nodes.log_of taken) x d).node < length all
logged_stands all [] x d are h = absurd (omega arith)
logged_stands all (nodes.Entry n jobs ∷ taken) zero d are h = are.0.there
logged_stands all (nodes.Entry n jobs ∷ taken) (suc x) d are h = logged_stands all taken x d are.1 (omega arith)
logged_stands all (nodes.Reads n count jobs ∷ taken) x d are h = logged_stands all taken x d are.1 h

abbrev pub no_entry : nodes.Logged
no_entry = record { node = 0; jobs = [] }

-- an entry that is shown
pub logged_is : (v : WorldState) (world : nodes.World) (x : ℕ) → Shows v world → v.log.base ≤ x
    → get_or (log_seen v.log) (x - v.log.base) no_entry ≡ nodes.logged_at x world
logged_is v world x s h =
    ap (λ (log : List nodes.Logged). get_or log (x - v.log.base) no_entry) s.log
    ∙ get_or-drop v.log.base (nodes.log_of world.taken) (x - v.log.base) no_entry
    ∙ ap (λ (k : ℕ). get_or (nodes.log_of world.taken) k no_entry) (let e : v.log.base + (x - v.log.base) ≡ x = omega arith in e)

pub owner_stands : (v : WorldState) (x : ℕ) (entry : nodes.Logged) → IsHeld v → v.log.base ≤ x → x < v.log.base + length (log_seen v.log)
    → entry ≡ get_or (log_seen v.log) (x - v.log.base) no_entry → entry.node < length v.nodes
owner_stands v x entry h base tail is =
    let many = nodes_many v h.world h.shows in
    let long = tail_is v h.world h.shows in
    let same : entry.node ≡ (nodes.logged_at x h.world).node = ap (λ (e : nodes.Logged). e.node) (is ∙ logged_is v h.world x h.shows base) in
    let stands = logged_stands h.world.nodes h.world.taken x no_entry (shaped_of v h).taken (omega arith) in
    omega arith

-- whether a cell of it is filled
pub filled_is : (v : WorldState) (world : nodes.World) (x t : ℕ) (entry : nodes.Logged) (by : WorldNode) → Shows v world → v.log.base ≤ x
    → entry ≡ get_or (log_seen v.log) (x - v.log.base) no_entry → entry.node < length v.nodes → by ≡ get_or v.nodes entry.node by
    → not (by.at == x && get_or by.unfilled.items t false) ≡ steps.is_filled world t x
filled_is v world x t entry by s base is there at =
    let owner : node_seen by ≡ nodes.node_at (nodes.logged_at x world).node world =
    ap node_seen at ∙ sym (node_is v world entry.node by s there) ∙ ap (λ (e : nodes.Logged). nodes.node_at e.node world) (is ∙ logged_is v world x s base) in
    ap (λ (b : nodes.Node). not (b.at == x && get_or b.unfilled t false)) owner

-- a place for the next entry
pub place_is : (v : WorldState) (world : nodes.World) → Shows v world
    → list_all (λ (node : WorldNode). nat_lt (v.log.base + length (log_seen v.log)) (node.passed + v.setup.places)) v.nodes ≡ steps.has_place v.setup world
place_is v world s =
    sym (list_all-map (λ (node : nodes.Node). nat_lt (v.log.base + length (log_seen v.log)) (node.passed + v.setup.places)) node_seen v.nodes)
    ∙ (λ i. list_all (λ (node : nodes.Node). nat_lt (tail_is v world s i) (node.passed + v.setup.places)) (s.nodes i))

-- one entry more is shown
pub shows_logged : (v : WorldState) (world : nodes.World) (n : ℕ) (jobs : Jobs) (log : Log) → Shows v world
    → log_seen log ≡ log_seen v.log ++ record { node = n; jobs = jobs } ∷ [] → log.base ≡ v.log.base
    → Shows (record v { log = log }) (record world { taken = world.taken ++ nodes.Entry n jobs ∷ [] })
shows_logged v world n jobs log s seen base =
    let entry : nodes.Logged = record { node = n; jobs = jobs } in
    let all : nodes.log_of (world.taken ++ nodes.Entry n jobs ∷ []) ≡ nodes.log_of world.taken ++ entry ∷ [] = log_of-append world.taken
    (nodes.Entry n jobs ∷ []) in
    let long : length (nodes.log_of (world.taken ++ nodes.Entry n jobs ∷ [])) ≡ nodes.tail_of world + 1 =
    ap (λ (es : List nodes.Logged). length es) all ∙ length-append (nodes.log_of world.taken) (entry ∷ []) in
    let below = s.base in
    record {
      still = s.still;
      nodes = s.nodes;
      log = seen
          ∙ ap (λ (es : List nodes.Logged). es ++ entry ∷ []) s.log
          ∙ sym (drop-append-le v.log.base (nodes.log_of world.taken) (entry ∷ []) below)
          ∙ (λ i. drop (sym base i) (sym all i));
      base = omega arith;
      passed = λ m there. subst (λ (k : ℕ). k ≤ (nodes.node_at m world).passed) (sym base) (s.passed m there);
    }

-- a node fills a cell
pub filled_takes : (v : WorldState) (n t : ℕ) (d x : WorldNode) → n < length v.nodes
    → ((world : nodes.World) → Shows v world → steps.outcome v.setup world (steps.Fill n t) ≡ steps.Done)
    → node_seen x ≡ filled_node t (node_seen (get_or v.nodes n d))
    → Steps v (record v { nodes = set v.nodes n x }) (steps.Fill n t) steps.Done
filled_takes v n t d x there is seen =
    takes_done v (record v { nodes = set v.nodes n x }) (steps.Fill n t) refl (λ world. refl) (λ world. refl)
    (λ events world past s.
    let many = nodes_many v world s in
    let at = node_is v world n d s there in (
      steps.nothing_refused,
      nothing_is_refused world (steps.Fill n t) steps.Done,
      is world s,
      shows_changed v world (steps.effect v.setup world (steps.Fill n t) steps.nothing_refused) n x (filled_node t (nodes.node_at n world)) s there
          (seen ∙ ap (filled_node t) (sym at)) refl refl (s.passed n (omega arith)),
    ))

-- a node fetches its next entry
pub fetched_takes : (v : WorldState) (n : ℕ) (d x : WorldNode) → n < length v.nodes
    → ((events : List Event) (world : nodes.World) → IsPast v.setup events world → Shows v world → steps.outcome v.setup world (steps.Fetch n) ≡ steps.Done)
    → node_seen x ≡ fetched_node (node_seen (get_or v.nodes n d))
    → Steps v (record v { nodes = set v.nodes n x }) (steps.Fetch n) steps.Done
fetched_takes v n d x there is seen =
    takes_done v (record v { nodes = set v.nodes n x }) (steps.Fetch n) refl (λ world. refl) (λ world. refl)
    (λ events world past s.
    let many = nodes_many v world s in
    let at = node_is v world n d s there in (
      steps.nothing_refused,
      nothing_is_refused world (steps.Fetch n) steps.Done,
      is events world past s,
      shows_changed v world (steps.effect v.setup world (steps.Fetch n) steps.nothing_refused) n x (fetched_node (nodes.node_at n world)) s there
          (seen ∙ ap fetched_node (sym at)) refl refl (s.passed n (omega arith)),
    ))

-- a node reserves an entry
pub reserved_takes : (v : WorldState) (n count tail : ℕ) (d x : WorldNode) (log : Log) (entry : nodes.Logged) → n < length v.nodes
    → ((world : nodes.World) → Shows v world → steps.outcome v.setup world (steps.Reserve n) ≡ steps.Done)
    → count ≡ v.setup.nodes → tail ≡ v.log.base + length (log_seen v.log)
    → node_seen x ≡ reserved_node count tail (node_seen (get_or v.nodes n d))
    → entry ≡ record { node = n; jobs = entry_jobs (node_seen (get_or v.nodes n d)).waiting }
    → log_seen log ≡ log_seen v.log ++ entry ∷ [] → log.base ≡ v.log.base
    → Steps v (record v { nodes = set v.nodes n x; log = log }) (steps.Reserve n) steps.Done
reserved_takes v n count tail d x log entry there is cells end seen entry_is more base =
    takes_done v (record v { nodes = set v.nodes n x; log = log }) (steps.Reserve n) refl (λ world. refl) (λ world. refl)
    (λ events world past s.
    let many = nodes_many v world s in
    let node = nodes.node_at n world in
    let at = node_is v world n d s there in
    let next : nodes.Node = reserved_node v.setup.nodes (nodes.tail_of world) node in
    let last : tail ≡ nodes.tail_of world = end ∙ tail_is v world s in
    let sees : node_seen x ≡ next = seen ∙ (λ i. reserved_node (cells i) (last i) (sym at i)) in
    let jobs : entry ≡ record { node = n; jobs = entry_jobs node.waiting } =
    entry_is ∙ ap (λ (y : nodes.Node). record { node = n; jobs = entry_jobs y.waiting }) (sym at) in
    let shows = shows_changed v world (nodes.with_node n next world) n x next s there sees refl refl (s.passed n (omega arith)) in (
      steps.nothing_refused,
      nothing_is_refused world (steps.Reserve n) steps.Done,
      is world s,
      shows_logged (record v { nodes = set v.nodes n x }) (nodes.with_node n next world) n (entry_jobs node.waiting) log shows
          (more ∙ ap (λ (e : nodes.Logged). log_seen v.log ++ e ∷ []) jobs) base,
    ))

-- the world behind it is held
pub held_changed : (v : WorldState) (n : ℕ) (d x : WorldNode) (log : Log) (step : steps.Step) → IsHeld v → n < length v.nodes
    → ((m : ℕ) → IsWhole m (get_or v.nodes n d) → IsWhole m x) → log.base + length (log_seen log) < 2 ^ 64
    → Steps v (record v { nodes = set v.nodes n x; log = log }) step steps.Done
    → IsHeld (record v { nodes = set v.nodes n x; log = log })
held_changed v n d x log step h there whole fits takes =
    held_on v (record v { nodes = set v.nodes n x; log = log }) step steps.Done [] None h takes
    (whole_set v.nodes 0 n x (whole (0 + n) (whole_at v.nodes 0 n d there h.whole)) h.whole) fits

-- the first reason holds, or it doesn't
pub holds : (b : Bool) (reason : Reason) (otherwise : steps.Outcome) → b ≡ true → steps.idle_where b reason otherwise ≡ steps.Idle reason
holds b reason otherwise e = ap (λ (x : Bool). steps.idle_where x reason otherwise) e

pub fails : (b : Bool) (reason : Reason) (otherwise : steps.Outcome) → b ≡ false → steps.idle_where b reason otherwise ≡ otherwise
fails b reason otherwise e = ap (λ (x : Bool). steps.idle_where x reason otherwise) e

is_node_true : (setup : traffic.Setup) (n : ℕ) → n < setup.nodes → not (steps.is_node setup n) ≡ false
is_node_true setup n h = ap not (lt-ltb n setup.nodes h)

pub some_lead : (jobs : Jobs) → has_some jobs ≡ true → steps.is_empty jobs ≡ false
some_lead [] e = absurd (cc e)
some_lead (job ∷ jobs) e = ne_eqb (suc (length jobs)) 0 (λ f. absurd (cc f))

pub cell_is : (cells : List Bool) (t : ℕ) (cell : Bool) → t < length cells → cell ≡ get_or cells t cell → get_or cells t false ≡ cell
cell_is cells t cell there at = any_default cells t false cell there ∙ sym at

-- what the outcomes are of a node that there is
pub outcome_of_reserve : (v : WorldState) (world : nodes.World) (n : ℕ) (x : WorldNode) → Shows v world → n < v.setup.nodes → n < length v.nodes
    → x ≡ get_or v.nodes n x
    → steps.outcome v.setup world (steps.Reserve n)
    ≡ steps.idle_where x.replica.down reasons.Down
    (steps.idle_where (list_any steps.is_true x.unfilled.items) reasons.Busy
    (steps.idle_where (steps.is_empty (entry_jobs (node_seen x).waiting)) reasons.Nothing
    (steps.idle_where (not (steps.has_place v.setup world)) reasons.Full steps.Done)))
outcome_of_reserve v world n x s within there at =
    let node : nodes.node_at n world ≡ node_seen x = node_is v world n x s there ∙ ap node_seen (sym at) in
    fails (not (steps.is_node v.setup n)) reasons.NoSuch _ (is_node_true v.setup n within)
    ∙ ap (λ (y : nodes.Node). steps.idle_where y.down reasons.Down
    (steps.idle_where (list_any steps.is_true y.unfilled) reasons.Busy
    (steps.idle_where (steps.is_empty (entry_jobs y.waiting)) reasons.Nothing
    (steps.idle_where (not (steps.has_place v.setup world)) reasons.Full steps.Done)))) node

pub outcome_of_fill : (v : WorldState) (world : nodes.World) (n t : ℕ) (x : WorldNode) → Shows v world → n < v.setup.nodes → t < v.setup.nodes → n < length v.nodes
    → x ≡ get_or v.nodes n x
    → steps.outcome v.setup world (steps.Fill n t) ≡ steps.idle_where (not (get_or x.unfilled.items t false)) reasons.Nothing steps.Done
outcome_of_fill v world n t x s within other there at =
    let node : nodes.node_at n world ≡ node_seen x = node_is v world n x s there ∙ ap node_seen (sym at) in
    fails (not (steps.is_node v.setup n && steps.is_node v.setup t)) reasons.NoSuch _
    (λ i. not (lt-ltb n v.setup.nodes within i && lt-ltb t v.setup.nodes other i))
    ∙ ap (λ (y : nodes.Node). steps.idle_where (not (get_or y.unfilled t false)) reasons.Nothing steps.Done) node

pub outcome_of_fetch : (v : WorldState) (world : nodes.World) (n : ℕ) (x : WorldNode) → Shows v world → n < v.setup.nodes → n < length v.nodes
    → x ≡ get_or v.nodes n x
    → steps.outcome v.setup world (steps.Fetch n)
    ≡ steps.idle_where x.is_fetched reasons.Busy
    (steps.idle_where (x.passed == (v.log.base + length (log_seen v.log))) reasons.Nothing
    (steps.idle_where (not (steps.is_filled world n x.passed)) reasons.NotYet steps.Done))
outcome_of_fetch v world n x s within there at =
    let node : nodes.node_at n world ≡ node_seen x = node_is v world n x s there ∙ ap node_seen (sym at) in
    let tail : nodes.tail_of world ≡ v.log.base + length (log_seen v.log) = sym (tail_is v world s) in
    fails (not (steps.is_node v.setup n)) reasons.NoSuch _ (is_node_true v.setup n within)
    ∙ (λ i. steps.idle_where (node i).fetched reasons.Busy
    (steps.idle_where ((node i).passed == tail i) reasons.Nothing
    (steps.idle_where (not (steps.is_filled world n (node i).passed)) reasons.NotYet steps.Done)))

-- The parts of a world, w, seen through a borrow, and the world v that they are.
pub record IsOpen (w v : WorldState) : Type 0 where
  pub view : w ≡ v
  pub still : v.failed ≡ false
  pub held : w.failed ≡ false → IsHeld w

pub opened : (w v : WorldState) → w ≡ v → v.failed ≡ false → (w.failed ≡ false → IsHeld w) → IsOpen w v
opened w v view still held = record { view = view; still = still; held = held }

module _ (w v : WorldState) (o : IsOpen w v) where
  pub held_by : IsHeld v
  held_by = subst IsHeld o.view (o.held (ap (λ (u : WorldState). u.failed) o.view ∙ o.still))

  pub within_by : (n : ℕ) → n < w.setup.nodes → n < v.setup.nodes
  within_by n h = subst (λ (u : WorldState). n < u.setup.nodes) o.view h

  pub there_by : (n : ℕ) → n < w.setup.nodes → n < length v.nodes
  there_by n h = let all = nodes_all v held_by in let within = within_by n h in omega arith

  pub inside_by : (n : ℕ) → n < w.setup.nodes → n < length w.nodes
  inside_by n h = subst (λ (u : WorldState). n < length u.nodes) (sym o.view) (there_by n h)

  pub at_by : (n : ℕ) (x : WorldNode) → x ≡ get_or w.nodes n x → x ≡ get_or v.nodes n x
  at_by n x at = subst (λ (u : WorldState). x ≡ get_or u.nodes n x) o.view at

  -- a node has as many cells as there are nodes
  pub cells_by : (n t : ℕ) (x : WorldNode) → n < w.setup.nodes → t < w.setup.nodes → x ≡ get_or w.nodes n x → t < length x.unfilled.items
  cells_by n t x here other at =
      let within = within_by t other in
      let cells : length x.unfilled.items ≡ v.setup.nodes =
      ap (λ (y : WorldNode). length y.unfilled.items) (at_by n x at) ∙ cells_all v n x held_by (there_by n here) in
      omega arith

  -- it has passed entries that are kept, and no more than were reserved
  pub least_by : (n : ℕ) (x : WorldNode) → n < w.setup.nodes → x ≡ get_or w.nodes n x → v.log.base ≤ x.passed
  least_by n x here at = subst (λ (y : WorldNode). v.log.base ≤ y.passed) (sym (at_by n x at)) (passed_least v n x held_by (there_by n here))

  pub most_by : (n tail : ℕ) (x : WorldNode) → n < w.setup.nodes → x ≡ get_or w.nodes n x → tail ≡ w.log.base + length (log_seen w.log) → x.passed ≢ tail
      → x.passed < v.log.base + length (log_seen v.log)
  most_by n tail x here at end other =
      let same : tail ≡ v.log.base + length (log_seen v.log) = end ∙ ap (λ (u : WorldState). u.log.base + length (log_seen u.log)) o.view in
      let most : x.passed ≤ v.log.base + length (log_seen v.log) =
      subst (λ (y : WorldNode). y.passed ≤ v.log.base + length (log_seen v.log)) (sym (at_by n x at)) (passed_most v n x held_by (there_by n here)) in
      omega arith

  pub tail_by : (tail : ℕ) → tail ≡ w.log.base + length (log_seen w.log) → tail ≡ v.log.base + length (log_seen v.log)
  tail_by tail end = end ∙ ap (λ (u : WorldState). u.log.base + length (log_seen u.log)) o.view

  -- the node of an entry
  pub entry_by : (x : ℕ) (entry : nodes.Logged) → entry ≡ get_or (log_seen w.log) (x - w.log.base) no_entry
      → entry ≡ get_or (log_seen v.log) (x - v.log.base) no_entry
  entry_by x entry is = subst (λ (u : WorldState). entry ≡ get_or (log_seen u.log) (x - u.log.base) no_entry) o.view is

  pub owner_by : (x : ℕ) (entry : nodes.Logged) → v.log.base ≤ x → x < v.log.base + length (log_seen v.log)
      → entry ≡ get_or (log_seen w.log) (x - w.log.base) no_entry → entry.node < length v.nodes
  owner_by x entry base tail is = owner_stands v x entry held_by base tail (entry_by x entry is)

  pub owner_inside : (x : ℕ) (entry : nodes.Logged) → v.log.base ≤ x → x < v.log.base + length (log_seen v.log)
      → entry ≡ get_or (log_seen w.log) (x - w.log.base) no_entry → entry.node < length w.nodes
  owner_inside x entry base tail is = subst (λ (u : WorldState). entry.node < length u.nodes) (sym o.view) (owner_by x entry base tail is)

  -- a cell of it
  pub cell_by : (x t : ℕ) (entry : nodes.Logged) (by : WorldNode) → v.log.base ≤ x → x < v.log.base + length (log_seen v.log)
      → entry ≡ get_or (log_seen w.log) (x - w.log.base) no_entry → by ≡ get_or w.nodes entry.node by → t < length v.nodes → t < length by.unfilled.items
  cell_by x t entry by base tail is at there =
      let all = nodes_all v held_by in
      let cells : length by.unfilled.items ≡ v.setup.nodes =
      ap (λ (y : WorldNode). length y.unfilled.items) (at_by entry.node by at) ∙ cells_all v entry.node by held_by (owner_by x entry base tail is) in
      omega arith

  pub filled_by : (world : nodes.World) (x t : ℕ) (entry : nodes.Logged) (by : WorldNode) → v.log.base ≤ x → x < v.log.base + length (log_seen v.log)
      → entry ≡ get_or (log_seen w.log) (x - w.log.base) no_entry → by ≡ get_or w.nodes entry.node by → Shows v world
      → not (by.at == x && get_or by.unfilled.items t false) ≡ steps.is_filled world t x
  filled_by world x t entry by base tail is at s =
      filled_is v world x t entry by s base (entry_by x entry is) (owner_by x entry base tail is) (at_by entry.node by at)

  -- a place for the next entry
  pub place_by : (world : nodes.World) (all : List WorldNode) (tail places : ℕ) → all ≡ w.nodes → tail ≡ w.log.base + length (log_seen w.log)
      → places ≡ w.setup.places
      → Shows v world → list_all (λ (node : WorldNode). nat_lt tail (node.passed + places)) all ≡ steps.has_place v.setup world
  place_by world all tail places is end many s =
      (λ i. list_all (λ (node : WorldNode). nat_lt (end i) (node.passed + many i)) (is i))
      ∙ ap (λ (u : WorldState). list_all (λ (node : WorldNode). nat_lt (u.log.base + length (log_seen u.log)) (node.passed + u.setup.places)) u.nodes) o.view
      ∙ place_is v world s

-- the parts of a world, w, that were written, where they were those of the world v
pub filled_steps : (w v : WorldState) (n t : ℕ) (old new : WorldNode) → w ≡ v → n < length v.nodes
    → ((world : nodes.World) → Shows v world → steps.outcome v.setup world (steps.Fill n t) ≡ steps.Done)
    → old ≡ get_or w.nodes n old → node_seen new ≡ filled_node t (node_seen old)
    → Steps v (record w { nodes = set w.nodes n new }) (steps.Fill n t) steps.Done
filled_steps w v n t old new e there is at seen =
    subst (λ (u : WorldState). n < length u.nodes → ((world : nodes.World) → Shows u world → steps.outcome u.setup world (steps.Fill n t) ≡ steps.Done)
    → Steps u (record w { nodes = set w.nodes n new }) (steps.Fill n t) steps.Done) e
    (λ there is. filled_takes w n t old new there is (seen ∙ ap (λ (y : WorldNode). filled_node t (node_seen y)) at)) there is

pub fetched_steps : (w v : WorldState) (n : ℕ) (old new : WorldNode) → w ≡ v → n < length v.nodes
    → ((events : List Event) (world : nodes.World) → IsPast v.setup events world → Shows v world → steps.outcome v.setup world (steps.Fetch n) ≡ steps.Done)
    → old ≡ get_or w.nodes n old → node_seen new ≡ fetched_node (node_seen old)
    → Steps v (record w { nodes = set w.nodes n new }) (steps.Fetch n) steps.Done
fetched_steps w v n old new e there is at seen =
    subst (λ (u : WorldState). n < length u.nodes
    → ((events : List Event) (world : nodes.World) → IsPast u.setup events world → Shows u world → steps.outcome u.setup world (steps.Fetch n) ≡ steps.Done)
    → Steps u (record w { nodes = set w.nodes n new }) (steps.Fetch n) steps.Done) e
    (λ there is. fetched_takes w n old new there is (seen ∙ ap (λ (y : WorldNode). fetched_node (node_seen y)) at)) there is

pub reserved_steps : (w v : WorldState) (n tail : ℕ) (old new : WorldNode) (log : Log) (entry : nodes.Logged) → w ≡ v → IsHeld w
    → n < length v.nodes
    → ((world : nodes.World) → Shows v world → steps.outcome v.setup world (steps.Reserve n) ≡ steps.Done)
    → old ≡ get_or w.nodes n old → tail ≡ w.log.base + length (log_seen w.log)
    → node_seen new ≡ reserved_node (length old.unfilled.items) tail (node_seen old)
    → entry ≡ record { node = old.replica.node; jobs = entry_jobs (node_seen old).waiting }
    → log_seen log ≡ log_seen w.log ++ entry ∷ [] → log.base ≡ w.log.base
    → Steps v (record w { nodes = set w.nodes n new; log = log }) (steps.Reserve n) steps.Done
reserved_steps w v n tail old new log entry e h there is at end seen entry_is more base =
    subst (λ (u : WorldState). n < length u.nodes → ((world : nodes.World) → Shows u world → steps.outcome u.setup world (steps.Reserve n) ≡ steps.Done)
    → Steps u (record w { nodes = set w.nodes n new; log = log }) (steps.Reserve n) steps.Done) e
    (λ there is.
    let number : (get_or w.nodes n old).replica.node ≡ n = (whole_at w.nodes 0 n old there h.whole).number ∙ (let same : 0 + n ≡ n = omega arith in same) in
    let cells : length old.unfilled.items ≡ w.setup.nodes = ap (λ (y : WorldNode). length y.unfilled.items) at ∙ cells_all w n old h there in
    let entry_at : entry ≡ record { node = n; jobs = entry_jobs (node_seen (get_or w.nodes n old)).waiting } =
    entry_is ∙ ap (λ (y : WorldNode). record { node = y.replica.node; jobs = entry_jobs (node_seen y).waiting }) at
    ∙ ap (λ (k : ℕ). record { node = k; jobs = entry_jobs (node_seen (get_or w.nodes n old)).waiting }) number in
    reserved_takes w n (length old.unfilled.items) tail old new log entry there is cells end
    (seen ∙ ap (λ (y : WorldNode). reserved_node (length old.unfilled.items) tail (node_seen y)) at) entry_at more base) there is

-- it is held behind the step
pub held_steps : (w v : WorldState) (n : ℕ) (old new : WorldNode) (log : Log) (step : steps.Step) → w ≡ v → IsHeld w → n < length v.nodes
    → old ≡ get_or w.nodes n old → ((m : ℕ) → IsWhole m old → IsWhole m new) → log.base + length (log_seen log) < 2 ^ 64
    → Steps v (record w { nodes = set w.nodes n new; log = log }) step steps.Done
    → IsHeld (record w { nodes = set w.nodes n new; log = log })
held_steps w v n old new log step e h there at whole fits takes =
    held_changed w n old new log step h (subst (λ (u : WorldState). n < length u.nodes) (sym e) there)
    (λ m is. whole m (subst (λ (y : WorldNode). IsWhole m y) (sym at) is)) fits
    (subst (λ (u : WorldState). Steps u (record w { nodes = set w.nodes n new; log = log }) step steps.Done) (sym e) takes)

pub held_same : (w v : WorldState) (n : ℕ) (old new : WorldNode) (step : steps.Step) → w ≡ v → IsHeld w → n < length v.nodes
    → old ≡ get_or w.nodes n old → ((m : ℕ) → IsWhole m old → IsWhole m new)
    → Steps v (record w { nodes = set w.nodes n new }) step steps.Done → IsHeld (record w { nodes = set w.nodes n new })
held_same w v n old new step e h there at whole takes =
    held_changed w n old new w.log step h (subst (λ (u : WorldState). n < length u.nodes) (sym e) there)
    (λ m is. whole m (subst (λ (y : WorldNode). IsWhole m y) (sym at) is)) h.fits
    (subst (λ (u : WorldState). Steps u (record w { nodes = set w.nodes n new }) step steps.Done) (sym e) takes)
