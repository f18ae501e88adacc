-- The names of a world's connections: no step changes those that there are, and only an open adds one.
use Rattle.std.proofs.Common.{◌≡◌, ℕ, zero, suc, ◌+◌, ◌-◌, Bool, true, false, cond, List, [], ◌∷◌, length, map, take, get_or, set, refl, ◌∙◌, ltb}
use Rattle.std.specs.Prelude.{◌||◌, ◌==◌, Option, Some, None}
use Rattle.std.proofs.lemmas.List.{length-set}
use Rattle.std.proofs.Math.Seq.{map-set_same}
use Rattle.nr_model.specs.Bytes.{Bytes}
use Rattle.nr_model.specs.Items.{Connection}
use Rattle.nr_model.specs.Queues.{Queue, takes, put, puts, received, with_bytes, cut_off}
use Rattle.nr_model.specs.Servers.{emitted_all}
use Rattle.nr_model.specs.Entries.{entry_items, read_jobs}
use Rattle.nr_model.specs.Connections.{Setup}
use Rattle.nr_model.specs.Nodes.{Client, fresh_client, Node, World, Taken, Logged, no_node, node_at, client_at, with_node, log_of, tail_of}
use Rattle.nr_model.specs.Nodes.Steps.{Step, Open, Feed, Post, Lift, Reserve, Fill, Fetch, Apply, Look, Answer, Collect, Close, Refuse, Revive, Outcome, Opened, Done, Idle, Refused, Cut, came_to, fed_client, closed_client, delivered_to, cut_of, texts_for, emptied, dropped_jobs, fallen_client, fallen, falls_at, cut_client, with_entry, with_reads, advanced, advanced_by, effect, effect_by, after_step}

-- the name of a connection, and those of a node's connections
abbrev pub name_of : Client → Connection
name_of client = client.queue.connection

abbrev pub names : Node → List Connection
names node = map name_of node.clients

-- what comes into a queue leaves its name
put_named : (q : Queue) (text : Bytes) → (put q text).connection ≡ q.connection
put_named q text = elim (takes q text) as (λ b. (cond b (with_bytes q text) (cut_off q)).connection ≡ q.connection) [ true ↦ refl | false ↦ refl ]

puts_named : (q : Queue) (texts : List Bytes) → (puts q texts).connection ≡ q.connection
puts_named q [] = refl
puts_named q (text ∷ texts) = puts_named (put q text) texts ∙ put_named q text

received_named : (after : Option ℕ) (q : Queue) (texts : List Bytes) → (received after q texts).connection ≡ q.connection
received_named None q texts = puts_named q texts
received_named (Some n) q texts =
    elim (ltb n (length texts)) as (λ b. (cond b (cut_off (puts q (take n texts))) (puts q texts)).connection ≡ q.connection) [
      | true ↦ puts_named q (take n texts)
      | false ↦ puts_named q texts
    ]

-- a change of each client that leaves its name
each_named : (f : Client → Client) → ((client : Client) → name_of (f client) ≡ name_of client) → (clients : List Client)
    → map name_of (map f clients) ≡ map name_of clients
each_named f same [] = refl
each_named f same (client ∷ clients) = λ i. same client i ∷ each_named f same clients i

emptied_named : (w : ℕ) (client : Client) → name_of (emptied w client) ≡ name_of client
emptied_named w client =
    let gone = record client { queue = record client.queue { waiting = []; handed = client.queue.handed + length client.queue.waiting } } in
    elim (client.worker == w) as (λ b. name_of (cond b gone client) ≡ name_of client) [ true ↦ refl | false ↦ refl ]

with_entry_named : (cuts : List Cut) (n : ℕ) (entry : Logged) (node : Node) → names (with_entry cuts n entry node) ≡ names node
with_entry_named cuts n entry node =
    let es = emitted_all node.server (entry_items entry.jobs) in
    each_named (delivered_to cuts node.passed es)
    (λ client. received_named (cut_of cuts node.passed client.queue.connection) client.queue (texts_for client.queue.connection es)) node.clients

pub advanced_named : (refused : Refused) (n : ℕ) (log : List Logged) (node : Node) → names (advanced refused n log node) ≡ names node
advanced_named refused n log node =
    let entry = get_or log node.passed (record { node = 0; jobs = [] }) in
    let moved = with_entry refused.cuts n entry node in
    elim node.down as (λ down. names (cond down node (cond (node.refused || falls_at refused.falls node.passed) (fallen node) moved)) ≡ names node) [
      | true ↦ refl
      | false ↦ elim (node.refused || falls_at refused.falls node.passed) as (λ falls. names (cond falls (fallen node) moved) ≡ names node) [
        | true ↦ each_named (fallen_client (dropped_jobs node)) (λ client. refl) node.clients
        | false ↦ with_entry_named refused.cuts n entry node
      ]
    ]

pub advanced_by_named : (count : ℕ) (refused : Refused) (n : ℕ) (log : List Logged) (node : Node)
    → names (advanced_by count refused n log node) ≡ names node
advanced_by_named zero refused n log node = refl
advanced_by_named (suc count) refused n log node =
    advanced_by_named count refused n log (advanced refused n log node) ∙ advanced_named refused n log node

with_reads_named : (cuts : List Cut) (tail : ℕ) (node : Node) → names (with_reads cuts tail node) ≡ names node
with_reads_named cuts tail node =
    let es = emitted_all node.server (read_jobs node.waiting) in
    each_named (delivered_to cuts tail es)
    (λ client. received_named (cut_of cuts tail client.queue.connection) client.queue (texts_for client.queue.connection es)) node.clients

-- the same names, in as many nodes
pub record AreAlike (before after : List Node) : Type 0 where
  pub many : length after ≡ length before
  pub named : (m : ℕ) → names (get_or after m no_node) ≡ names (get_or before m no_node)

pub alike_same : (nodes : List Node) → AreAlike nodes nodes
alike_same nodes = record { many = refl; named = λ m. refl }

at_set : (xs : List Node) (n m : ℕ) (x : Node) → names x ≡ names (get_or xs n no_node)
    → names (get_or (set xs n x) m no_node) ≡ names (get_or xs m no_node)
at_set [] n m x is = refl
at_set (y ∷ ys) zero zero x is = is
at_set (y ∷ ys) zero (suc m) x is = refl
at_set (y ∷ ys) (suc n) zero x is = refl
at_set (y ∷ ys) (suc n) (suc m) x is = at_set ys n m x is

alike_set : (xs : List Node) (n : ℕ) (x : Node) → names x ≡ names (get_or xs n no_node) → AreAlike xs (set xs n x)
alike_set xs n x is = record { many = length-set xs n x; named = λ m. at_set xs n m x is }

-- a step that isn't enabled, and one that is
pub by_outcome : (P : World → Type 0) (o : Outcome) (setup : Setup) (world : World) (step : Step) (refused : Refused) → P world
    → P (effect setup world step refused) → P (effect_by o setup world step refused)
by_outcome P (Opened c) setup world step refused idle done = done
by_outcome P Done setup world step refused idle done = done
by_outcome P (Idle reason) setup world step refused idle done = idle

abbrev pub is_open : Step → Bool
is_open (Open n w) = true
is_open _ = false

looked_alike : (down : Bool) (world : World) (n : ℕ) (ahead read : Node) (taken : List Taken) → names ahead ≡ names (node_at n world)
    → names read ≡ names (node_at n world)
    → AreAlike world.nodes (cond down (with_node n ahead world) (record (with_node n read world) { taken = taken })).nodes
looked_alike true world n ahead read taken a r = alike_set world.nodes n ahead a
looked_alike false world n ahead read taken a r = alike_set world.nodes n read r

-- each step but an open leaves the names
effect_alike : (setup : Setup) (world : World) (step : Step) (refused : Refused) → is_open step ≡ false
    → AreAlike world.nodes (effect setup world step refused).nodes
effect_alike setup world (Open n w) refused is = absurd (cc is)
effect_alike setup world (Feed c time bytes) refused is =
    let node = node_at c.node world in
    let client = client_at c.serial node in
    alike_set world.nodes c.node _
    (map-set_same name_of node.clients c.serial (fed_client client bytes) (fresh_client 0 0 (record { node = 0; serial = 0 })) refl)
effect_alike setup world (Post n w) refused is = alike_set world.nodes n _ refl
effect_alike setup world (Lift n w) refused is = alike_set world.nodes n _ refl
effect_alike setup world (Reserve n) refused is = alike_set world.nodes n _ refl
effect_alike setup world (Fill n t) refused is = alike_set world.nodes n _ refl
effect_alike setup world (Fetch n) refused is = alike_set world.nodes n _ refl
effect_alike setup world (Apply n) refused is =
    alike_set world.nodes n _ (advanced_named refused n (log_of world.taken) (node_at n world))
effect_alike setup world (Look n) refused is =
    let node = node_at n world in
    let tail = tail_of world in
    let ahead = advanced_by (tail - node.passed) refused n (log_of world.taken) node in
    let went : names ahead ≡ names node = advanced_by_named (tail - node.passed) refused n (log_of world.taken) node in
    looked_alike ahead.down world n ahead (with_reads refused.cuts tail ahead) _ went (with_reads_named refused.cuts tail ahead ∙ went)
effect_alike setup world (Answer n w) refused is = alike_set world.nodes n _ refl
effect_alike setup world (Collect n w) refused is =
    alike_set world.nodes n _ (each_named (emptied w) (emptied_named w) (node_at n world).clients)
effect_alike setup world (Close c time) refused is =
    let node = node_at c.node world in
    let client = client_at c.serial node in
    alike_set world.nodes c.node _
    (map-set_same name_of node.clients c.serial (closed_client client) (fresh_client 0 0 (record { node = 0; serial = 0 })) refl)
effect_alike setup world (Refuse n) refused is = alike_set world.nodes n _ refl
effect_alike setup world (Revive n f) refused is =
    alike_set world.nodes n _ (each_named cut_client (λ client. refl) (node_at n world).clients)

pub step_alike : (setup : Setup) (world : World) (step : Step) (refused : Refused) → is_open step ≡ false
    → AreAlike world.nodes (after_step setup world step refused).nodes
step_alike setup world step refused is =
    by_outcome (λ (w : World). AreAlike world.nodes w.nodes) (came_to setup world step refused) setup world step refused (alike_same world.nodes)
    (effect_alike setup world step refused is)
