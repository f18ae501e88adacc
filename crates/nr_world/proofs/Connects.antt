-- A world whose connections are opened, fed and closed.
use Rattle.std.proofs.Common.{◌≡◌, ℕ, ◌+◌, ◌<◌, ◌≤◌, ◌^◌, Bool, true, false, cond, List, [], length, map, get_or, set, refl, ap, sym, ◌∙◌, subst, arith, None, Some, Option, ltb}
use Rattle.std.specs.Prelude.{not, ◌&&◌, ◌||◌, nat_le}
use Rattle.std.proofs.lemmas.Bool.{and_parts, and_left, or_parts, or_left, ltb-true, le-ltb, lt-ltb, not_from_true, not_from_false, not-false, cond-true, cond-false, leb-false}
use Rattle.std.proofs.lemmas.List.{length-map}
use Rattle.nr_model.specs.Bytes.{Bytes}
use Rattle.nr_model.specs.Items.{Connection}
use Rattle.nr_model.specs.Connections as traffic
use Rattle.nr_model.specs.Nodes as nodes
use Rattle.nr_model.specs.Nodes.Steps as steps
use Rattle.nr_model.specs.declared.reason.Reason.TheVariants as reasons
use Rattle.nr_model.specs.Nodes.Steps.{Opened, Done, Idle}
use Rattle.nr_model.specs.Nodes.Pasts.{Event, IsPast, is_done, handed_by, answer_by}
use Rattle.nr_model.specs.Modes.{plain}
use Rattle.nr_model.proofs.NodesSteps.{AreSized, each_sized, came_plainly}
use Rattle.nr_model.proofs.NodesOwnShaped.{IsShapedWorld, each_shaped}
use Rattle.nr_entry.specs.Jobs.{connection_of}
use Rattle.nr_entry.specs.declared.conn.ConnId.{ConnId}
use Rattle.nr_session.specs.SessionState.{SessionState}
use Rattle.nr_world.specs.declared.node.WorldNode.{WorldNode}
use Rattle.nr_model.specs.declared.reason.Reason.{Reason}
use Rattle.nr_world.specs.Served.{client_seen, node_seen, opened_node}
use Rattle.nr_world.specs.Workers.{worker_seen}
use Rattle.nr_replica.specs.Members.{Member, fresh_member}
use Rattle.nr_world.specs.WorldState.{WorldState, Shows}
use Rattle.nr_world.specs.Whole.{ArePaired, IsWhole, AreWhole, IsHeld}
use Rattle.nr_world.specs.Taken.{idle_or, Steps}
use Rattle.nr_world.specs.Connected.{seen_world, is_over, takes_none}
use Rattle.nr_world.proofs.Sides.{length-both}
use Rattle.nr_world.proofs.Refusing.{nothing_is_refused}
use Rattle.nr_world.proofs.Paired.{paired_many, pair_at, some_in_use, client_of_pair, or_false, not_either}
use Rattle.nr_world.proofs.Shown.{seen_at, node_is, nodes_many, shows_changed, whole_at, whole_set, held_on, takes_nothing}

-- of every past
pub sized_of : (setup : traffic.Setup) (events : List Event) (world : nodes.World) → IsPast setup events world → AreSized setup world
sized_of setup events world past = subst (AreSized setup) (sym past.1) (each_sized setup events)

pub shaped_of : (setup : traffic.Setup) (events : List Event) (world : nodes.World) → IsPast setup events world → IsShapedWorld setup world
shaped_of setup events world past = subst (IsShapedWorld setup) (sym past.1) (each_shaped setup events)

-- one of whole nodes
pub whole_of : (xs : List WorldNode) (n : ℕ) (d : WorldNode) → n < length xs → AreWhole 0 xs → d ≡ get_or xs n d → IsWhole n d
whole_of xs n d h whole at =
    subst (IsWhole n) (sym at) (subst (λ k. IsWhole k (get_or xs n d)) (let e : 0 + n ≡ n = omega arith in e) (whole_at xs 0 n d h whole))

-- a held world has its nodes, and each is whole
pub held_many : (v : WorldState) → IsHeld v → length v.nodes ≡ v.setup.nodes
held_many v held = nodes_many v held.world held.shows ∙ (sized_of v.setup held.events held.world held.past).nodes

pub held_whole : (v : WorldState) (n : ℕ) (d : WorldNode) → IsHeld v → n < length v.nodes → d ≡ get_or v.nodes n d → IsWhole n d
held_whole v n d held h at = whole_of v.nodes n d h held.whole at

-- what is seen of a node
pub seen_in : (xs : List WorldNode) (n : ℕ) (d : WorldNode) → n < length xs → d ≡ get_or xs n d → nodes.node_at n (seen_world xs) ≡ node_seen d
seen_in xs n d h at = seen_at xs n d nodes.no_node h ∙ ap node_seen (sym at)

-- how many connections are seen of a whole node
pub clients_many : (n : ℕ) (node : WorldNode) → IsWhole n node → length (node_seen node).clients ≡ length node.sessions
clients_many n node w = length-both client_seen node.sessions node.replica.members (paired_many n 0 node.sessions node.replica.members w.pairs)

abbrev pub no_session : SessionState
no_session = record { connection = record { node = 0; serial = 0 }; rest = []; mode = plain; next = 0; fed = 0; ended = false; gave_end = false; lost = None; fell = false }

-- the worker of a connection is one of its node's
pub worker_within : (v : WorldState) (n serial : ℕ) (node : WorldNode) (d : Member) → IsHeld v → n < length v.nodes → node ≡ get_or v.nodes n node
    → serial < length node.sessions → (get_or node.replica.members serial d).worker < length node.workers.items
worker_within v n serial node d held h at there =
    let w = held_whole v n node held h at in
    let sized = sized_of v.setup held.events held.world held.past in
    let shaped = (shaped_of v.setup held.events held.world held.past).shaped in
    let many = nodes_many v held.world held.shows in
    let is : nodes.node_at n held.world ≡ node_seen node = node_is v held.world n node held.shows h ∙ ap node_seen (sym at) in
    let clients = clients_many n node w in
    let pairs = paired_many n 0 node.sessions node.replica.members w.pairs in
    let stands : n < length held.world.nodes = omega arith in
    let workers : length (node_seen node).workers ≡ v.setup.workers = ap (λ (x : nodes.Node). length x.workers) (sym is) ∙ (sized.each n stands).workers in
    let owed = w.owed in
    let both : length (node_seen node).workers ≡ length node.workers.items = length-both worker_seen node.workers.items node.replica.owed (sym owed) in
    let same : length (nodes.node_at n held.world).clients ≡ length (node_seen node).clients = ap (λ (x : nodes.Node). length x.clients) is in
    let named = ((shaped n stands).named serial (omega arith)).worker in
    let worker : (nodes.client_at serial (nodes.node_at n held.world)).worker ≡ (get_or node.replica.members serial d).worker =
    ap (λ (x : nodes.Node). (nodes.client_at serial x).worker) is
    ∙ ap (λ (x : nodes.Client). x.worker) (client_of_pair node serial no_session d (nodes.fresh_client 0 0 (record { node = 0; serial = 0 })) there pairs) in
    omega arith

-- the session of a connection that isn't closed has its name
pub named_there : (n serial : ℕ) (node : WorldNode) (d : SessionState) (m : Member) → IsWhole n node → serial < length node.sessions
    → (get_or node.replica.members serial m).is_closed ≡ false → (get_or node.sessions serial d).connection ≡ record { node = n; serial = serial }
named_there n serial node d m w there unclosed =
    (pair_at n 0 serial node.sessions node.replica.members d m there w.pairs).named unclosed
    ∙ (let e : 0 + serial ≡ serial = omega arith in λ i. record { node = n; serial = e i })

-- which connection is there
pub no_such_node : (xs : List WorldNode) (c : Connection) → length xs ≤ c.node → steps.is_client (seen_world xs) c ≡ false
no_such_node xs c h = let many = length-map xs node_seen in and_left _ _ (le-ltb c.node (length (map node_seen xs)) (omega arith))

pub such_node : (xs : List WorldNode) (c : Connection) (d : WorldNode) → AreWhole 0 xs → c.node < length xs → d ≡ get_or xs c.node d
    → ltb c.serial (length d.sessions) ≡ steps.is_client (seen_world xs) c
such_node xs c d whole h at =
    let many = length-map xs node_seen in
    let w = whole_of xs c.node d h whole at in
    let long : length (nodes.node_at c.node (seen_world xs)).clients ≡ length d.sessions =
    ap (λ (x : nodes.Node). length x.clients) (seen_in xs c.node d h at) ∙ clients_many c.node d w in
    sym (ap (λ (b : Bool). b && ltb c.serial (length (nodes.node_at c.node (seen_world xs)).clients))
    (lt-ltb c.node (length (map node_seen xs)) (omega arith))
    ∙ ap (ltb c.serial) long)

pub there_node : (xs : List WorldNode) (c : Connection) → steps.is_client (seen_world xs) c ≡ true → c.node < length xs
there_node xs c e =
    let many = length-map xs node_seen in
    let below = ltb-true c.node (length (map node_seen xs)) (and_parts _ _ e).0 in
    omega arith

pub there_serial : (xs : List WorldNode) (c : Connection) (d : WorldNode) → AreWhole 0 xs → steps.is_client (seen_world xs) c ≡ true → d ≡ get_or xs c.node d
    → c.serial < length d.sessions
there_serial xs c d whole e at =
    let h = there_node xs c e in
    let same = such_node xs c d whole h at in
    ltb-true c.serial (length d.sessions) (same ∙ e)

-- a connection takes no more bytes
or_other : (a b c : Bool) → ((a || b) || c) ≡ (a || (b || c))
or_other true b c = refl
or_other false b c = refl

pub ended_is : (node : WorldNode) (serial n : ℕ) (s : SessionState) (m : Member) → ArePaired n 0 node.sessions node.replica.members → serial < length
    node.sessions
    → ((get_or node.sessions serial s).ended || (get_or node.replica.members serial m).outbox.cut) ≡ takes_none
    (nodes.client_at serial (node_seen node))
ended_is node serial n s m pairs h =
    let pair = pair_at n 0 serial node.sessions node.replica.members s m h pairs in
    let session = get_or node.sessions serial s in
    let member = get_or node.replica.members serial m in
    ap (λ (b : Bool). b || member.outbox.cut) pair.ended
    ∙ or_other session.gave_end member.is_closed member.outbox.cut
    ∙ ap takes_none (sym (client_of_pair node serial s m (nodes.fresh_client 0 0 (record { node = 0; serial = 0 })) h
    (paired_many n 0 node.sessions node.replica.members pairs)))

pub ended_first : (node : WorldNode) (serial n : ℕ) (s : SessionState) (m : Member) (b : Bool) → ArePaired n 0 node.sessions node.replica.members → serial
    < length node.sessions
    → s ≡ get_or node.sessions serial s → b ≡ s.ended → b ≡ true → b ≡ takes_none (nodes.client_at serial (node_seen node))
ended_first node serial n s m b pairs h at is holds =
    let ended : (get_or node.sessions serial s).ended ≡ true = sym (ap (λ (x : SessionState). x.ended) at) ∙ sym is ∙ holds in
    holds ∙ sym (or_left _ (get_or node.replica.members serial m).outbox.cut ended) ∙ ended_is node serial n s m pairs h

pub ended_second : (node : WorldNode) (serial n : ℕ) (s : SessionState) (m : Member) (b cut : Bool) → ArePaired n 0 node.sessions node.replica.members →
    serial < length node.sessions
    → s ≡ get_or node.sessions serial s → b ≡ s.ended → b ≡ false → m ≡ get_or node.replica.members serial m → cut ≡ m.outbox.cut
    → cut ≡ takes_none (nodes.client_at serial (node_seen node))
ended_second node serial n s m b cut pairs h at is fails atm cut_is =
    let ended : (get_or node.sessions serial s).ended ≡ false = sym (ap (λ (x : SessionState). x.ended) at) ∙ sym is ∙ fails in
    cut_is ∙ ap (λ (x : Member). x.outbox.cut) atm
    ∙ sym (ap (λ (x : Bool). x || (get_or node.replica.members serial m).outbox.cut) ended)
    ∙ ended_is node serial n s m pairs h

-- or whatever becomes of its node
pub overrun_is : (node : WorldNode) (serial : ℕ) (s : SessionState) (m : Member) → length node.sessions ≡ length node.replica.members → serial < length node.sessions
    → ((get_or node.replica.members serial m).outbox.cut && not (get_or node.sessions serial s).fell) ≡ steps.is_overrun (nodes.client_at serial (node_seen node))
overrun_is node serial s m many h =
    ap steps.is_overrun (sym (client_of_pair node serial s m (nodes.fresh_client 0 0 (record { node = 0; serial = 0 })) h many))

pub over_first : (node : WorldNode) (serial n : ℕ) (s : SessionState) (m : Member) (b : Bool) → ArePaired n 0 node.sessions node.replica.members
    → serial < length node.sessions → b ≡ (get_or node.sessions serial s).ended → b ≡ true → b ≡ is_over (nodes.client_at serial (node_seen node))
over_first node serial n s m b pairs h is holds =
    let session = get_or node.sessions serial s in
    let member = get_or node.replica.members serial m in
    let overrun = member.outbox.cut && not session.fell in
    let pair = pair_at n 0 serial node.sessions node.replica.members s m h pairs in
    let either : (session.gave_end || member.is_closed) ≡ true = sym pair.ended ∙ sym is ∙ holds in
    holds ∙ sym (or_left (session.gave_end || member.is_closed) overrun either) ∙ or_other session.gave_end member.is_closed overrun
    ∙ ap is_over (sym (client_of_pair node serial s m (nodes.fresh_client 0 0 (record { node = 0; serial = 0 })) h
    (paired_many n 0 node.sessions node.replica.members pairs)))

pub over_second : (node : WorldNode) (serial n : ℕ) (s : SessionState) (m : Member) (b r : Bool) → ArePaired n 0 node.sessions node.replica.members
    → serial < length node.sessions → b ≡ (get_or node.sessions serial s).ended → b ≡ false → r ≡ steps.is_overrun (nodes.client_at serial (node_seen node))
    → r ≡ is_over (nodes.client_at serial (node_seen node))
over_second node serial n s m b r pairs h is fails over =
    let session = get_or node.sessions serial s in
    let member = get_or node.replica.members serial m in
    let pair = pair_at n 0 serial node.sessions node.replica.members s m h pairs in
    let client = client_of_pair node serial s m (nodes.fresh_client 0 0 (record { node = 0; serial = 0 })) h
    (paired_many n 0 node.sessions node.replica.members pairs) in
    let neither = or_parts session.gave_end member.is_closed (sym pair.ended ∙ sym is ∙ fails) in
    over ∙ ap steps.is_overrun client
    ∙ sym (λ i. neither.0 i || (neither.1 i || (member.outbox.cut && not session.fell)))
    ∙ ap is_over (sym client)

-- whether it was cut
pub cut_is_so : (node : WorldNode) (serial : ℕ) (s : SessionState) (m : Member) → length node.sessions ≡ length node.replica.members → serial < length node.sessions
    → (get_or node.replica.members serial m).outbox.cut ≡ (nodes.client_at serial (node_seen node)).queue.cut
cut_is_so node serial s m many h =
    ap (λ (client : nodes.Client). client.queue.cut) (sym (client_of_pair node serial s m (nodes.fresh_client 0 0 (record { node = 0; serial = 0 })) h many))

pub closed_is_so : (node : WorldNode) (serial : ℕ) (s : SessionState) (m : Member) → length node.sessions ≡ length node.replica.members → serial < length
    node.sessions
    → (get_or node.replica.members serial m).is_closed ≡ (nodes.client_at serial (node_seen node)).closed
closed_is_so node serial s m many h =
    ap (λ (client : nodes.Client). client.closed) (sym (client_of_pair node serial s m (nodes.fresh_client 0 0 (record { node = 0; serial = 0 })) h many))

-- one that does hasn't ended
pub going_there : (node : WorldNode) (serial n : ℕ) (s : SessionState) (m : Member) → ArePaired n 0 node.sessions node.replica.members → serial < length
    node.sessions
    → takes_none (nodes.client_at serial (node_seen node)) ≡ false → (get_or node.sessions serial s).ended ≡ false
going_there node serial n s m pairs h e = (or_parts _ _ (ended_is node serial n s m pairs h ∙ e)).0

-- the outcomes by what was found
pub open_none : (setup : traffic.Setup) (xs : List WorldNode) (n w : ℕ) → steps.is_worker setup n w ≡ false → steps.outcome setup (seen_world xs)
    (steps.Open n w) ≡ steps.Idle reasons.NoSuch
open_none setup xs n w e = cond-true (not (steps.is_worker setup n w)) _ _ (not_from_false _ e)

pub open_some : (setup : traffic.Setup) (xs : List WorldNode) (n w : ℕ) (d : WorldNode) (many down : Bool) → steps.is_worker setup n w ≡ true
    → n < length xs → d ≡ get_or xs n d → IsWhole n d → nat_le setup.connections d.in_use ≡ many → d.replica.down ≡ down
    → steps.outcome setup (seen_world xs) (steps.Open n w)
    ≡ steps.idle_where many reasons.TooMany (steps.idle_where down reasons.Down
    (steps.Opened (record { node = n; serial = length (nodes.node_at n (seen_world xs)).clients })))
open_some setup xs n w d many down is h at whole m p =
    let seen = seen_in xs n d h at in
    let opened = steps.Opened (record { node = n; serial = length (nodes.node_at n (seen_world xs)).clients }) in
    cond-false (not (steps.is_worker setup n w)) _ _ (not_from_true _ is)
    ∙ (λ i. steps.idle_where (nat_le setup.connections (steps.in_use (seen i))) reasons.TooMany (steps.idle_where (seen i).down reasons.Down opened))
    ∙ (λ i. steps.idle_where (nat_le setup.connections (sym whole.counted i)) reasons.TooMany (steps.idle_where (p i) reasons.Down opened))
    ∙ (λ i. steps.idle_where (m i) reasons.TooMany (steps.idle_where down reasons.Down opened))

pub feed_none : (setup : traffic.Setup) (xs : List WorldNode) (c : Connection) (time : ℕ) (bytes : Bytes) → steps.is_client (seen_world xs) c ≡ false
    → steps.outcome setup (seen_world xs) (steps.Feed c time bytes) ≡ steps.Idle reasons.NoSuch
feed_none setup xs c time bytes e = cond-true (not (steps.is_client (seen_world xs) c)) _ _ (not_from_false _ e)

pub feed_some : (setup : traffic.Setup) (xs : List WorldNode) (c : Connection) (time : ℕ) (bytes : Bytes) (d : WorldNode) (over down cut : Bool)
    → steps.is_client (seen_world xs) c ≡ true → d ≡ get_or xs c.node d → is_over (nodes.client_at c.serial (node_seen d)) ≡ over → d.replica.down ≡ down
    → (nodes.client_at c.serial (node_seen d)).queue.cut ≡ cut
    → steps.outcome setup (seen_world xs) (steps.Feed c time bytes)
    ≡ steps.idle_where over reasons.Ended (steps.idle_where down reasons.Down (steps.idle_where cut reasons.Ended steps.Done))
feed_some setup xs c time bytes d over down cut is at e p q =
    let seen = seen_in xs c.node d (there_node xs c is) at in
    let asked : nodes.Node → steps.Outcome = λ (node : nodes.Node).
    steps.idle_where (is_over (nodes.client_at c.serial node)) reasons.Ended
    (steps.idle_where node.down reasons.Down (steps.idle_where (nodes.client_at c.serial node).queue.cut reasons.Ended steps.Done)) in
    cond-false (not (steps.is_client (seen_world xs) c)) _ _ (not_from_true _ is)
    ∙ ap asked seen
    ∙ (λ i. steps.idle_where (e i) reasons.Ended (steps.idle_where (p i) reasons.Down (steps.idle_where (q i) reasons.Ended steps.Done)))

pub close_none : (setup : traffic.Setup) (xs : List WorldNode) (c : Connection) (time : ℕ) → steps.is_client (seen_world xs) c ≡ false
    → steps.outcome setup (seen_world xs) (steps.Close c time) ≡ steps.Idle reasons.NoSuch
close_none setup xs c time e = cond-true (not (steps.is_client (seen_world xs) c)) _ _ (not_from_false _ e)

pub close_some : (setup : traffic.Setup) (xs : List WorldNode) (c : Connection) (time : ℕ) (d : WorldNode) (closed down : Bool) → steps.is_client (seen_world xs) c ≡
    true
    → d ≡ get_or xs c.node d → (nodes.client_at c.serial (node_seen d)).closed ≡ closed → d.replica.down ≡ down
    → steps.outcome setup (seen_world xs) (steps.Close c time) ≡ steps.idle_where closed reasons.Ended (steps.idle_where down reasons.Down steps.Done)
close_some setup xs c time d closed down is at e p =
    let seen = seen_in xs c.node d (there_node xs c is) at in
    cond-false (not (steps.is_client (seen_world xs) c)) _ _ (not_from_true _ is)
    ∙ (λ i. steps.idle_where (nodes.client_at c.serial (seen i)).closed reasons.Ended (steps.idle_where (seen i).down reasons.Down steps.Done))
    ∙ (λ i. steps.idle_where (e i) reasons.Ended (steps.idle_where (p i) reasons.Down steps.Done))

-- what an outcome tells that isn't idle
not_idle : (b : Bool) (reason : Reason) (o other : steps.Outcome) → is_done other ≡ true → steps.idle_where b reason o ≡ other → (b ≡ false) ×
    (o ≡ other)
not_idle true reason o other done e = absurd (let no : false ≡ true = ap is_done e ∙ done in cc)
not_idle false reason o other done e = (refl, e)

pub record MayOpen (setup : traffic.Setup) (world : nodes.World) (n w : ℕ) : Type 0 where
  pub worker : steps.is_worker setup n w ≡ true
  pub room : nat_le setup.connections (steps.in_use (nodes.node_at n world)) ≡ false

pub may_open : (setup : traffic.Setup) (xs : List WorldNode) (n w : ℕ) (c : Connection) → steps.outcome setup (seen_world xs) (steps.Open n w) ≡ steps.Opened c
    → MayOpen setup (seen_world xs) n w
may_open setup xs n w c e =
    let a = not_idle _ reasons.NoSuch _ (steps.Opened c) refl e in
    let b = not_idle _ reasons.TooMany _ (steps.Opened c) refl a.1 in
    record { worker = not-false _ a.0; room = b.0 }

-- one that isn't over and isn't cut takes bytes
goes_on : (client : nodes.Client) → is_over client ≡ false → client.queue.cut ≡ false → takes_none client ≡ false
goes_on client over cut =
    let first = or_parts client.ended (client.closed || steps.is_overrun client) over in
    let second = or_parts client.closed (steps.is_overrun client) first.1 in
    (λ i. first.0 i || (second.0 i || cut i))

pub record MayFeed (world : nodes.World) (c : Connection) : Type 0 where
  pub there : steps.is_client world c ≡ true
  pub going : takes_none (nodes.client_of c world) ≡ false

pub may_feed : (setup : traffic.Setup) (xs : List WorldNode) (c : Connection) (time : ℕ) (bytes : Bytes) → steps.outcome setup (seen_world xs)
    (steps.Feed c time bytes) ≡ steps.Done
    → MayFeed (seen_world xs) c
may_feed setup xs c time bytes e =
    let a = not_idle _ reasons.NoSuch _ steps.Done refl e in
    let b = not_idle _ reasons.Ended _ steps.Done refl a.1 in
    let d = not_idle _ reasons.Down _ steps.Done refl b.1 in
    let cut = (not_idle _ reasons.Ended steps.Done steps.Done refl d.1).0 in
    record { there = not-false _ a.0; going = goes_on (nodes.client_of c (seen_world xs)) b.0 cut }

pub record MayClose (world : nodes.World) (c : Connection) : Type 0 where
  pub there : steps.is_client world c ≡ true
  pub unclosed : (nodes.client_of c world).closed ≡ false

pub may_close : (setup : traffic.Setup) (xs : List WorldNode) (c : Connection) (time : ℕ) → steps.outcome setup (seen_world xs) (steps.Close c time) ≡ steps.Done
    → MayClose (seen_world xs) c
may_close setup xs c time e =
    let a = not_idle _ reasons.NoSuch _ steps.Done refl e in
    let b = not_idle _ reasons.Ended _ steps.Done refl a.1 in
    record { there = not-false _ a.0; unclosed = b.0 }

-- the outcome in each world that is shown
abbrev pub IsBlind : steps.Step → Type 0
IsBlind step = (setup : traffic.Setup) (world : nodes.World) → steps.outcome setup world step ≡ steps.outcome setup
    (record { nodes = world.nodes; taken = []; fed = []; closed = []; batches = [] }) step

pub outcome_in : (v : WorldState) (world : nodes.World) (step : steps.Step) → IsBlind step → Shows v world
    → steps.outcome v.setup world step ≡ steps.outcome v.setup (seen_world v.nodes) step
outcome_in v world step blind s =
    blind v.setup world ∙ ap (λ (ns : List nodes.Node). steps.outcome v.setup (record { nodes = ns; taken = []; fed = []; closed = []; batches = [] })
    step) (sym s.nodes)

-- nothing was done
pub idles : (v : WorldState) (step : steps.Step) (reason : Reason) → IsBlind step
    → steps.outcome v.setup (seen_world v.nodes) step ≡ steps.Idle reason → Steps v v step (steps.Idle reason)
idles v step reason blind e = takes_nothing v step reason (λ events world past s. outcome_in v world step blind s ∙ e)

-- what a step that is done does
by_done : (P : nodes.World → Type 0) (o : steps.Outcome) (setup : traffic.Setup) (world : nodes.World) (step : steps.Step) → is_done o ≡ true
    → P (steps.effect setup world step steps.nothing_refused) → P (steps.effect_by o setup world step steps.nothing_refused)
by_done P (Opened c) setup world step e p = p
by_done P Done setup world step e p = p
by_done P (Idle reason) setup world step e p = absurd (cc e)

-- with another node in a place
abbrev pub changed : WorldState → ℕ → WorldNode → WorldState
changed v n x = record v { nodes = set v.nodes n x }

-- a step that changed one node
pub changes : (v : WorldState) (step : steps.Step) (o : steps.Outcome) (n : ℕ) (old x : WorldNode) (change : nodes.Node → nodes.Node) → IsBlind step → is_done o ≡ true
    → ((world : nodes.World) → handed_by world step ≡ []) → ((world : nodes.World) → answer_by world step ≡ None)
    → n < length v.nodes → old ≡ get_or v.nodes n old
    → steps.outcome v.setup (seen_world v.nodes) step ≡ o → node_seen x ≡ change (node_seen old) → (change (node_seen old)).passed ≡ (node_seen old).passed
    → ((world : nodes.World) → (steps.effect v.setup world step steps.nothing_refused).nodes ≡ set world.nodes n (change (nodes.node_at n world)))
    → ((world : nodes.World) → (steps.effect v.setup world step steps.nothing_refused).taken ≡ world.taken)
    → Steps v (changed v n x) step o
changes v step o n old x change blind done same none h at e seen passed nodes_are taken_are = record {
  setup = refl;
  taken = λ events world past s.
      let out = came_plainly v.setup world step ∙ outcome_in v world step blind s ∙ e in
      let is : nodes.node_at n world ≡ node_seen old = node_is v world n old s h ∙ ap node_seen (sym at) in
      let after = steps.effect v.setup world step steps.nothing_refused in
      let many = nodes_many v world s in
      let before : v.log.base ≤ (nodes.node_at n world).passed = s.passed n (omega arith) in
      let at_least : v.log.base ≤ (change (node_seen old)).passed = subst (λ k. v.log.base ≤ k) (ap (λ (y : nodes.Node). y.passed) is ∙ sym passed) before in
      let shown = shows_changed v world after n x (change (node_seen old)) s h seen
      (nodes_are world ∙ ap (λ (y : nodes.Node). set world.nodes n (change y)) is) (ap nodes.log_of (taken_are world)) at_least in
      record {
        refused = steps.nothing_refused;
        event = record {
          outcome_is = sym out;
          handed_is = sym (ap (λ (b : Bool). cond b (handed_by world step) []) done ∙ same world);
          answer_is = sym (ap (λ (b : Bool). cond b (answer_by world step) None) done ∙ none world);
          refused_are = nothing_is_refused world step o;
        };
        shows = subst (λ (p : steps.Outcome). Shows (changed v n x) (steps.effect_by p v.setup world step steps.nothing_refused)) (sym out)
            (by_done (λ (w : nodes.World). Shows (changed v n x) w) o v.setup world step done shown);
      };
}

-- and leaves a world that is held
pub changed_held : (v : WorldState) (step : steps.Step) (o : steps.Outcome) (n : ℕ) (x : WorldNode) → IsHeld v → Steps v (changed v n x) step o → IsWhole n x →
    IsHeld (changed v n x)
changed_held v step o n x held takes whole = held_on v (changed v n x) step o [] None held takes
    (whole_set v.nodes 0 n x (subst (λ k. IsWhole k x) (let e : n ≡ 0 + n = omega arith in e) whole) held.whole) held.fits

-- of a test of the nodes: what was found, or that nothing was
pub none_found : (r : Option Reason) → ((reason : Reason) → r ≡ Some reason → ⊥) → r ≡ None
none_found None f = refl
none_found (Some reason) f = absurd (f reason refl)

pub idle_found : (v : WorldState) (step : steps.Step) (xs : List WorldNode) (r : Option Reason) (reason : Reason) (o : steps.Outcome) → IsBlind step → xs ≡ v.nodes
    → steps.outcome v.setup (seen_world xs) step ≡ idle_or r o → r ≡ Some reason → Steps v v step (steps.Idle reason)
idle_found v step xs r reason o blind same e is =
    idles v step reason blind
    (subst (λ (ys : List WorldNode). steps.outcome v.setup (seen_world ys) step ≡ steps.Idle reason) same
    (e ∙ ap (λ (q : Option Reason). idle_or q o) is))

pub done_found : (v : WorldState) (step : steps.Step) (xs : List WorldNode) (r : Option Reason) (o : List WorldNode → steps.Outcome) → xs ≡ v.nodes
    → steps.outcome v.setup (seen_world xs) step ≡ idle_or r (o xs) → r ≡ None → steps.outcome v.setup (seen_world v.nodes) step ≡ o v.nodes
done_found v step xs r o same e none =
    subst (λ (ys : List WorldNode). steps.outcome v.setup (seen_world ys) step ≡ o ys) same (e ∙ ap (λ (q : Option Reason). idle_or q (o xs)) none)

-- each step as it is taken
abbrev pub opened_in : ℕ → List WorldNode → steps.Outcome
opened_in n xs = steps.Opened (record { node = n; serial = length (nodes.node_at n (seen_world xs)).clients })

pub opens : (v : WorldState) (n w limit : ℕ) (old x : WorldNode) (conn : ConnId) → IsHeld v → limit ≡ v.setup.queue_limit → n < length v.nodes → old ≡ get_or
    v.nodes n old
    → steps.outcome v.setup (seen_world v.nodes) (steps.Open n w) ≡ opened_in n v.nodes → node_seen x ≡ opened_node limit old.replica.node w (node_seen old)
    → connection_of conn ≡ record { node = old.replica.node; serial = length old.replica.members }
    → Steps v (changed v n x) (steps.Open n w) (steps.Opened (connection_of conn))
opens v n w limit old x conn held l h at e seen name =
    let whole = held_whole v n old held h at in
    let many : length old.replica.members ≡ length (nodes.node_at n (seen_world v.nodes)).clients =
    sym (ap (λ (y : nodes.Node). length y.clients) (seen_in v.nodes n old h at) ∙ clients_many n old whole ∙ paired_many n 0 old.sessions
    old.replica.members whole.pairs) in
    subst (λ (c : Connection). Steps v (changed v n x) (steps.Open n w) (steps.Opened c))
    (sym (name ∙ (λ i. record { node = whole.number i; serial = many i })))
    (changes v (steps.Open n w) (opened_in n v.nodes) n old x (opened_node v.setup.queue_limit n w) (λ setup world. refl) refl (λ world. refl)
    (λ world. refl) h at e
    (seen ∙ (λ i. opened_node (l i) (whole.number i) w (node_seen old))) refl (λ world. refl) (λ world. refl))

pub feeds : (v : WorldState) (conn : ConnId) (time : ℕ) (bytes : Bytes) (old x : WorldNode) → conn.node < length v.nodes → old ≡ get_or v.nodes conn.node old
    → steps.outcome v.setup (seen_world v.nodes) (steps.Feed (connection_of conn) time bytes) ≡ steps.Done
    → node_seen x ≡ steps.fed_node (connection_of conn) time bytes (node_seen old)
    → Steps v (changed v conn.node x) (steps.Feed (connection_of conn) time bytes) steps.Done
feeds v conn time bytes old x h at e seen =
    changes v (steps.Feed (connection_of conn) time bytes) steps.Done conn.node old x (steps.fed_node (connection_of conn) time bytes)
    (λ setup world. refl) refl (λ world. refl) (λ world. refl) h at e seen refl (λ world. refl) (λ world. refl)

pub closes : (v : WorldState) (conn : ConnId) (time : ℕ) (old x : WorldNode) → conn.node < length v.nodes → old ≡ get_or v.nodes conn.node old
    → steps.outcome v.setup (seen_world v.nodes) (steps.Close (connection_of conn) time) ≡ steps.Done
    → node_seen x ≡ steps.closed_node (connection_of conn) time (node_seen old)
    → Steps v (changed v conn.node x) (steps.Close (connection_of conn) time) steps.Done
closes v conn time old x h at e seen =
    changes v (steps.Close (connection_of conn) time) steps.Done conn.node old x (steps.closed_node (connection_of conn) time) (λ setup world. refl) refl
    (λ world. refl) (λ world. refl) h at e seen refl (λ world. refl) (λ world. refl)

-- a node that a connection is opened at is there, and has room for it
pub open_within : (v : WorldState) (n w : ℕ) → IsHeld v → steps.outcome v.setup (seen_world v.nodes) (steps.Open n w) ≡ opened_in n v.nodes → n < length
    v.nodes
open_within v n w held e =
    let below = ltb-true n v.setup.nodes (and_parts _ _ (may_open v.setup v.nodes n w _ e).worker).0 in
    let many = held_many v held in
    omega arith

-- and the number of its worker is small
pub open_few : (v : WorldState) (n w : ℕ) → v.setup.workers ≤ 16
    → steps.outcome v.setup (seen_world v.nodes) (steps.Open n w) ≡ opened_in n v.nodes → w < 256
open_few v n w most e =
    let below : w < v.setup.workers = ltb-true w v.setup.workers (and_parts _ _ (may_open v.setup v.nodes n w _ e).worker).1 in
    omega arith

pub open_room : (v : WorldState) (n w : ℕ) (old : WorldNode) → IsHeld v → old ≡ get_or v.nodes n old → v.setup.connections ≤ 1024
    → steps.outcome v.setup (seen_world v.nodes) (steps.Open n w) ≡ opened_in n v.nodes → old.in_use + 1 < 2 ^ 64
open_room v n w old held at few e =
    let h = open_within v n w held e in
    let fewer = leb-false v.setup.connections (steps.in_use (nodes.node_at n (seen_world v.nodes))) (may_open v.setup v.nodes n w _ e).room in
    let counted : old.in_use ≡ steps.in_use (nodes.node_at n (seen_world v.nodes)) = (held_whole v n old held h at).counted ∙ ap steps.in_use
    (sym (seen_in v.nodes n old h at)) in
    omega arith

pub opens_on : (v : WorldState) (n w limit : ℕ) (old x : WorldNode) (conn : ConnId) → IsHeld v → limit ≡ v.setup.queue_limit → old ≡ get_or v.nodes n old
    → steps.outcome v.setup (seen_world v.nodes) (steps.Open n w) ≡ opened_in n v.nodes → node_seen x ≡ opened_node limit old.replica.node w (node_seen old)
    → connection_of conn ≡ record { node = old.replica.node; serial = length old.replica.members } → ((m : ℕ) → IsWhole m old → IsWhole m x)
    → Steps v (changed v n x) (steps.Open n w) (steps.Opened (connection_of conn)) × IsHeld (changed v n x)
opens_on v n w limit old x conn held l at e seen name whole =
    let h = open_within v n w held e in
    let taken = opens v n w limit old x conn held l h at e seen name in
    (taken, changed_held v (steps.Open n w) (steps.Opened (connection_of conn)) n x held taken (whole n (held_whole v n old held h at)))

-- a connection that is fed or closed is there
pub feeds_on : (v : WorldState) (conn : ConnId) (time : ℕ) (bytes : Bytes) (old x : WorldNode) → IsHeld v → old ≡ get_or v.nodes conn.node old
    → steps.outcome v.setup (seen_world v.nodes) (steps.Feed (connection_of conn) time bytes) ≡ steps.Done
    → node_seen x ≡ steps.fed_node (connection_of conn) time bytes (node_seen old) → ((m : ℕ) → IsWhole m old → IsWhole m x)
    → Steps v (changed v conn.node x) (steps.Feed (connection_of conn) time bytes) steps.Done × IsHeld (changed v conn.node x)
feeds_on v conn time bytes old x held at e seen whole =
    let h = there_node v.nodes (connection_of conn) (may_feed v.setup v.nodes (connection_of conn) time bytes e).there in
    let taken = feeds v conn time bytes old x h at e seen in (
      taken,
      changed_held v (steps.Feed (connection_of conn) time bytes) steps.Done conn.node x held taken
          (whole conn.node (held_whole v conn.node old held h at)),
    )

pub closes_on : (v : WorldState) (conn : ConnId) (time : ℕ) (old x : WorldNode) → IsHeld v → old ≡ get_or v.nodes conn.node old
    → steps.outcome v.setup (seen_world v.nodes) (steps.Close (connection_of conn) time) ≡ steps.Done
    → node_seen x ≡ steps.closed_node (connection_of conn) time (node_seen old)
    → ((d : Member) → (m : ℕ) → (get_or old.replica.members conn.serial d).is_closed ≡ false → IsWhole m old → IsWhole m x)
    → Steps v (changed v conn.node x) (steps.Close (connection_of conn) time) steps.Done × IsHeld (changed v conn.node x)
closes_on v conn time old x held at e seen whole =
    let may = may_close v.setup v.nodes (connection_of conn) time e in
    let h = there_node v.nodes (connection_of conn) may.there in
    let w = held_whole v conn.node old held h at in
    let none = fresh_member (connection_of conn) 0 0 in
    let stands = there_serial v.nodes (connection_of conn) old held.whole may.there at in
    let unclosed : (get_or old.replica.members conn.serial none).is_closed ≡ false =
    closed_is_so old conn.serial no_session none (paired_many conn.node 0 old.sessions old.replica.members w.pairs) stands
    ∙ ap (λ (y : nodes.Node). (nodes.client_at conn.serial y).closed) (sym (seen_in v.nodes conn.node old h at)) ∙ may.unclosed in
    let taken = closes v conn time old x h at e seen in
    (taken, changed_held v (steps.Close (connection_of conn) time) steps.Done conn.node x held taken (whole none conn.node unclosed w))

-- what a node's feed and close ask for
pub record IsReady (conn : ConnId) (old : WorldNode) : Type 0 where
  pub whole : IsWhole conn.node old
  pub clients : length old.sessions ≡ length old.replica.members
  pub stands : conn.serial < length old.sessions
  pub worker : (d : Member) → (get_or old.replica.members conn.serial d).worker < length old.workers.items
  pub named : (d : SessionState) (m : Member) → (get_or old.replica.members conn.serial m).is_closed ≡ false
      → (get_or old.sessions conn.serial d).connection ≡ connection_of conn

pub ready : (v : WorldState) (conn : ConnId) (old : WorldNode) → IsHeld v → old ≡ get_or v.nodes conn.node old → steps.is_client (seen_world v.nodes)
    (connection_of conn) ≡ true → IsReady conn old
ready v conn old held at there =
    let h = there_node v.nodes (connection_of conn) there in
    let w = held_whole v conn.node old held h at in
    let stands = there_serial v.nodes (connection_of conn) old held.whole there at in
    record {
      whole = w;
      clients = paired_many conn.node 0 old.sessions old.replica.members w.pairs;
      stands = stands;
      worker = λ d. worker_within v conn.node conn.serial old d held h at stands;
      named = λ d m unclosed. named_there conn.node conn.serial old d m w stands unclosed;
    }

pub going : (v : WorldState) (conn : ConnId) (time : ℕ) (bytes : Bytes) (old : WorldNode) (d : SessionState) → IsHeld v → old ≡ get_or v.nodes conn.node old
    → steps.outcome v.setup (seen_world v.nodes) (steps.Feed (connection_of conn) time bytes) ≡ steps.Done →
    (get_or old.sessions conn.serial d).ended ≡ false
going v conn time bytes old d held at e =
    let may = may_feed v.setup v.nodes (connection_of conn) time bytes e in
    let h = there_node v.nodes (connection_of conn) may.there in
    let r = ready v conn old held at may.there in
    going_there old conn.serial conn.node d (fresh_member (connection_of conn) 0 0) r.whole.pairs r.stands
    (ap (λ (y : nodes.Node). takes_none (nodes.client_at conn.serial y)) (sym (seen_in v.nodes conn.node old h at)) ∙ may.going)

-- it isn't closed, nor is one that can be closed
pub unclosed_fed : (v : WorldState) (conn : ConnId) (time : ℕ) (bytes : Bytes) (old : WorldNode) (m : Member) → IsHeld v → old ≡ get_or v.nodes conn.node old
    → steps.outcome v.setup (seen_world v.nodes) (steps.Feed (connection_of conn) time bytes) ≡ steps.Done
    → (get_or old.replica.members conn.serial m).is_closed ≡ false
unclosed_fed v conn time bytes old m held at e =
    let r = ready v conn old held at (may_feed v.setup v.nodes (connection_of conn) time bytes e).there in
    let pair = pair_at conn.node 0 conn.serial old.sessions old.replica.members no_session m r.stands r.whole.pairs in
    not_either (get_or old.sessions conn.serial no_session).gave_end (get_or old.replica.members conn.serial m).is_closed
    (sym (going v conn time bytes old no_session held at e) ∙ pair.ended)

pub unclosed_yet : (v : WorldState) (conn : ConnId) (time : ℕ) (old : WorldNode) (m : Member) → IsHeld v → old ≡ get_or v.nodes conn.node old
    → steps.outcome v.setup (seen_world v.nodes) (steps.Close (connection_of conn) time) ≡ steps.Done
    → (get_or old.replica.members conn.serial m).is_closed ≡ false
unclosed_yet v conn time old m held at e =
    let may = may_close v.setup v.nodes (connection_of conn) time e in
    let r = ready v conn old held at may.there in
    closed_is_so old conn.serial no_session m r.clients r.stands ∙ ap (λ (y : nodes.Node). (nodes.client_at conn.serial y).closed)
    (sym (seen_in v.nodes conn.node old (there_node v.nodes (connection_of conn) may.there) at)) ∙ may.unclosed

pub ends_by_bytes : (v : WorldState) (conn : ConnId) (time : ℕ) (old : WorldNode) (d : SessionState) → IsHeld v → old ≡ get_or v.nodes conn.node old
    → steps.outcome v.setup (seen_world v.nodes) (steps.Close (connection_of conn) time) ≡ steps.Done
    → (get_or old.sessions conn.serial d).ended ≡ (get_or old.sessions conn.serial d).gave_end
ends_by_bytes v conn time old d held at e =
    let none = fresh_member (connection_of conn) 0 0 in
    let r = ready v conn old held at (may_close v.setup v.nodes (connection_of conn) time e).there in
    let pair = pair_at conn.node 0 conn.serial old.sessions old.replica.members d none r.stands r.whole.pairs in
    pair.ended ∙ or_false (get_or old.sessions conn.serial d).gave_end _ (unclosed_yet v conn time old none held at e)

pub used : (v : WorldState) (conn : ConnId) (time : ℕ) (old : WorldNode) → IsHeld v → old ≡ get_or v.nodes conn.node old
    → steps.outcome v.setup (seen_world v.nodes) (steps.Close (connection_of conn) time) ≡ steps.Done → 0 < old.in_use
used v conn time old held at e =
    let may = may_close v.setup v.nodes (connection_of conn) time e in
    let r = ready v conn old held at may.there in
    let none = fresh_member (connection_of conn) 0 0 in
    some_in_use conn.node old conn.serial no_session none r.whole r.stands (unclosed_yet v conn time old none held at e)
