-- A node comes back with a copy of another one's server: what becomes of it, and of the world.
use Rattle.std.proofs.Common.{◌≡◌, ℕ, suc, ◌+◌, ◌<◌, Bool, true, false, cond, List, [], ◌∷◌, length, map, get_or, refl, ap, sym, ◌∙◌, subst, arith, Option, None, ltb}
use Rattle.std.specs.Prelude.{filter, not, ◌&&◌, ◌||◌, ◌==◌}
use Rattle.std.specs.List.{list_any}
use Rattle.std.proofs.lemmas.Bool.{and_parts, and_from, lt-ltb, ltb-true, not-false}
use Rattle.nr_model.specs.Servers.{Server}
use Rattle.nr_model.specs.Nodes as nodes
use Rattle.nr_model.specs.Nodes.Steps as steps
use Rattle.nr_model.specs.Nodes.Steps.{cut_client, has_batch, is_busy, revived}
use Rattle.nr_model.specs.declared.reason.Reason.TheVariants as reasons
use Rattle.nr_model.proofs.NodesSteps.{came_plainly}
use Rattle.nr_session.specs.SessionState.{SessionState}
use Rattle.nr_replica.specs.Members.{Member, cut_member}
use Rattle.nr_replica.specs.Replicas.{ReplicaState}
use Rattle.nr_world.specs.declared.worker.Slot.{Slot}
use Rattle.nr_world.specs.declared.worker.Slot.TheVariants.{Empty, Posted, Lifted, Answered}
use Rattle.nr_world.specs.declared.worker.WorldWorker.{WorldWorker}
use Rattle.nr_world.specs.declared.node.WorldNode.{WorldNode}
use Rattle.nr_world.specs.Workers.{slot_seen, worker_seen}
use Rattle.nr_world.specs.Served.{client_seen, clients_seen, workers_seen, node_seen}
use Rattle.nr_world.specs.Logs.{log_seen}
use Rattle.nr_world.specs.WorldState.{WorldState, Shows}
use Rattle.nr_world.specs.Whole.{ArePaired, IsWhole, IsHeld}
use Rattle.nr_world.specs.Taken.{Steps}
use Rattle.nr_world.specs.Batches.{ComesTo}
use Rattle.nr_world.proofs.Sides.{length-both}
use Rattle.nr_world.proofs.Changed.{seen_from}
use Rattle.nr_world.proofs.Refusing.{nothing_is_refused, copy_is_refused}
use Rattle.nr_world.proofs.Shown.{nodes_many, tail_is, node_is, shows_changed, whole_at, whole_set, held_on, takes_done}
use Rattle.nr_world.proofs.Replayed.{Opens, idle_done, as_many_nodes, with_node}

-- its queues are cut
clients_cut : (sessions : List SessionState) (members : List Member)
    → clients_seen sessions (map cut_member members) ≡ map cut_client (clients_seen sessions members)
clients_cut [] members = refl
clients_cut (s ∷ sessions) [] = refl
clients_cut (s ∷ sessions) (m ∷ members) = ap (λ (more : List nodes.Client). cut_client (client_seen s m) ∷ more) (clients_cut sessions members)

paired_cut : (n serial : ℕ) (sessions : List SessionState) (members : List Member) → ArePaired n serial sessions members
    → ArePaired n serial sessions (map cut_member members)
paired_cut n serial [] [] p = tt
paired_cut n serial [] (m ∷ members) p = absurd p
paired_cut n serial (s ∷ sessions) [] p = absurd p
paired_cut n serial (s ∷ sessions) (m ∷ members) p =
    (record { named = p.0.named; ended = p.0.ended; shut = λ is. refl }, paired_cut n (suc serial) sessions members p.1)

abbrev count_open : List nodes.Client → ℕ
count_open clients = length (filter (λ (client : nodes.Client). not client.closed) clients)

one_open : (b : Bool) (x y : nodes.Client) (xs ys : List nodes.Client) → length xs ≡ length ys → length (cond b (x ∷ xs) xs) ≡ length (cond b (y ∷ ys) ys)
one_open true x y xs ys h = ap suc h
one_open false x y xs ys h = h

open_cut : (sessions : List SessionState) (members : List Member)
    → count_open (clients_seen sessions (map cut_member members)) ≡ count_open (clients_seen sessions members)
open_cut [] members = refl
open_cut (s ∷ sessions) [] = refl
open_cut (s ∷ sessions) (m ∷ members) =
    one_open (not m.is_closed) (client_seen s (cut_member m)) (client_seen s m)
    (filter (λ (client : nodes.Client). not client.closed) (clients_seen sessions (map cut_member members)))
    (filter (λ (client : nodes.Client). not client.closed) (clients_seen sessions members)) (open_cut sessions members)

abbrev pub revived_replica : ℕ → Server → ReplicaState → ReplicaState
revived_replica applied server replica = record replica { members = map cut_member replica.members; applied = applied; server = server; down = false; fell = None }

pub revived_is : (node : WorldNode) (replica : ReplicaState) (server : Server) (count tail : ℕ) → length node.sessions ≡ length node.replica.members
    → replica ≡ revived_replica node.passed server node.replica → count ≡ length node.sessions
    → record (seen_from node replica node.sessions node.workers.items) { since = count; resumed = tail } ≡ revived tail server (node_seen node)
revived_is node replica server count tail many state counts =
    let clients = clients_cut node.sessions node.replica.members in
    let long : count ≡ length (clients_seen node.sessions node.replica.members) =
    counts ∙ sym (length-both client_seen node.sessions node.replica.members many) in
    ap (λ (r : ReplicaState). record (seen_from node r node.sessions node.workers.items) { since = count; resumed = tail }) state
    ∙ (λ i. record (revived tail server (node_seen node)) { clients = clients i; since = long i })

pub whole_revived : (n : ℕ) (old new : WorldNode) (applied : ℕ) (server : Server) → new.replica ≡ revived_replica applied server old.replica
    → new.sessions ≡ old.sessions → length new.workers.items ≡ length old.workers.items → new.in_use ≡ old.in_use → IsWhole n old → IsWhole n new
whole_revived n old new applied server replica sessions workers used whole =
    let members = ap (λ (r : ReplicaState). r.members) replica in
    record {
      number = ap (λ (r : ReplicaState). r.node) replica ∙ whole.number;
      pairs = subst (λ (ss : List SessionState). ArePaired n 0 ss new.replica.members) (sym sessions)
          (subst (λ (ms : List Member). ArePaired n 0 old.sessions ms) (sym members)
          (paired_cut n 0 old.sessions old.replica.members whole.pairs));
      owed = ap (λ (r : ReplicaState). length r.owed) replica ∙ whole.owed ∙ sym workers;
      counted = used ∙ whole.counted ∙ sym (open_cut old.sessions old.replica.members)
          ∙ ap count_open (sym (λ i. clients_seen (sessions i) (members i)));
    }

-- a batch of one of a node's workers
same_batch : (worker : WorldWorker) (o q : Option ℕ) → has_batch (worker_seen worker o) ≡ has_batch (worker_seen worker q)
same_batch worker o q = by_slot worker.slot o q where
  by_slot : (slot : Slot) (o q : Option ℕ)
      → (steps.is_posted (slot_seen slot o) || steps.is_lifted (slot_seen slot o))
      ≡ (steps.is_posted (slot_seen slot q) || steps.is_lifted (slot_seen slot q))
  by_slot Empty o q = refl
  by_slot (Posted jobs) o q = refl
  by_slot Lifted o q = refl
  by_slot (Answered executed) o q = refl

pub any_seen : (workers : List WorldWorker) (owed : List (Option ℕ)) → length owed ≡ length workers
    → list_any (λ (worker : WorldWorker). has_batch (worker_seen worker None)) workers ≡ list_any has_batch (workers_seen workers owed)
any_seen [] owed h = refl
any_seen (worker ∷ workers) [] h = absurd (omega arith)
any_seen (worker ∷ workers) (o ∷ owed) h =
    let here = same_batch worker None o in
    let more = any_seen workers owed (omega arith) in
    λ i. here i || more i

-- what a revival asks of the other node and of this one
abbrev pub revive_asked : nodes.Node → nodes.Node → steps.Outcome
revive_asked donor node =
    steps.idle_where donor.down reasons.Down
    (steps.idle_where (is_busy node) reasons.Busy
    (steps.idle_where (not node.down) reasons.Nothing (steps.idle_where (not (node.passed == donor.passed)) reasons.NotYet steps.Done)))

pub asks_by : (a v : WorldState) (world : nodes.World) (n f : ℕ) (node donor : WorldNode) → a ≡ v → IsHeld a → Shows v world
    → n < a.setup.nodes → f < a.setup.nodes → node ≡ get_or a.nodes n node → donor ≡ get_or a.nodes f donor
    → steps.outcome v.setup world (steps.Revive n f) ≡ revive_asked (node_seen donor) (node_seen node)
asks_by a v world n f node donor is held s here there at other =
    subst (λ (b : WorldState). steps.outcome b.setup world (steps.Revive n f) ≡ revive_asked (node_seen donor) (node_seen node)) is
    (let shows = subst (λ (b : WorldState). Shows b world) (sym is) s in
    let many = as_many_nodes a held in
    let mine : nodes.node_at n world ≡ node_seen node = node_is a world n node shows (omega arith) ∙ ap node_seen (sym at) in
    let others : nodes.node_at f world ≡ node_seen donor = node_is a world f donor shows (omega arith) ∙ ap node_seen (sym other) in
    let such : (steps.is_node a.setup n && steps.is_node a.setup f) ≡ true = and_from _ _ (lt-ltb n a.setup.nodes here) (lt-ltb f a.setup.nodes there) in
    ap (λ (b : Bool). steps.idle_where (not b) reasons.NoSuch (revive_asked (nodes.node_at f world) (nodes.node_at n world))) such
    ∙ (λ i. revive_asked (others i) (mine i)))

-- a node that comes back is there, and so is the other one
pub record MayRevive (a : WorldState) (n f : ℕ) : Type 0 where
  pub there : n < length a.nodes
  pub donor : f < length a.nodes
  pub down : (d : WorldNode) → (get_or a.nodes n d).replica.down ≡ true

pub may_revive : (a : WorldState) (n f : ℕ) → Opens a (steps.Revive n f) → MayRevive a n f
may_revive a n f o =
    let held = o.held in
    let world = held.world in
    let node = nodes.node_at n world in
    let donor = nodes.node_at f world in
    let many = as_many_nodes a held in
    let first = idle_done (not (steps.is_node a.setup n && steps.is_node a.setup f)) reasons.NoSuch (revive_asked donor node)
    (o.comes.is held.events world held.past held.shows) in
    let both = and_parts (ltb n a.setup.nodes) (ltb f a.setup.nodes) (not-false (steps.is_node a.setup n && steps.is_node a.setup f) first.0) in
    let here : n < a.setup.nodes = ltb-true n a.setup.nodes both.0 in
    let there : f < a.setup.nodes = ltb-true f a.setup.nodes both.1 in
    let second = idle_done donor.down reasons.Down _ first.1 in
    let third = idle_done (is_busy node) reasons.Busy _ second.1 in
    let fourth = idle_done (not node.down) reasons.Nothing _ third.1 in
    let stands : n < length a.nodes = omega arith in
    record {
      there = stands;
      donor = omega arith;
      down = λ d. ap (λ (x : nodes.Node). x.down) (sym (node_is a world n d held.shows stands)) ∙ not-false node.down fourth.0;
    }

-- it comes back
takes_revive : (v : WorldState) (n f : ℕ) (d e x : WorldNode) (server : Server) (tail : ℕ) → Opens v (steps.Revive n f)
    → server ≡ (get_or v.nodes f e).replica.server → tail ≡ v.log.base + length (log_seen v.log)
    → node_seen x ≡ revived tail server (node_seen (get_or v.nodes n d)) → Steps v (with_node v n x) (steps.Revive n f) steps.Done
takes_revive v n f d e x server tail o copied end seen =
    let may = may_revive v n f o in
    let there = may.there in
    takes_done v (with_node v n x) (steps.Revive n f) refl (λ _. refl) (λ _. refl) (λ events world past s.
    let many = nodes_many v world s in
    let mine = node_is v world n d s there in
    let given : server ≡ (nodes.node_at f world).server = copied ∙ ap (λ (y : nodes.Node). y.server) (sym (node_is v world f e s may.donor)) in
    let last : tail ≡ nodes.tail_of world = end ∙ tail_is v world s in
    let after = revived (nodes.tail_of world) (nodes.node_at f world).server (nodes.node_at n world) in (
      steps.nothing_refused,
      nothing_is_refused world (steps.Revive n f) steps.Done,
      came_plainly v.setup world (steps.Revive n f) ∙ o.comes.is events world past s,
      shows_changed v world (nodes.with_node n after world) n x after s there (seen ∙ (λ i. revived (last i) (given i) (sym mine i))) refl refl
          (s.passed n (omega arith)),
    ))

pub revived_all : (a v : WorldState) (n f : ℕ) (d e x : WorldNode) (server : Server) (tail : ℕ) → a ≡ v → Opens a (steps.Revive n f) → d ≡ get_or a.nodes n d
    → e ≡ get_or a.nodes f e → server ≡ e.replica.server → tail ≡ a.log.base + length (log_seen a.log) → node_seen x ≡ revived tail server (node_seen d)
    → ((k : ℕ) → IsWhole k d → IsWhole k x) → (Steps v (with_node a n x) (steps.Revive n f) steps.Done) × IsHeld (with_node a n x)
revived_all a v n f d e x server tail is o at other copied end seen whole =
    let there = (may_revive a n f o).there in
    let takes = takes_revive a n f d e x server tail o (copied ∙ ap (λ (y : WorldNode). y.replica.server) other) end
    (seen ∙ ap (λ (y : WorldNode). revived tail server (node_seen y)) at) in
    let kept : IsWhole (0 + n) x = whole (0 + n) (subst (IsWhole (0 + n)) (sym at) (whole_at a.nodes 0 n d there o.held.whole)) in (
      subst (λ (b : WorldState). Steps b (with_node a n x) (steps.Revive n f) steps.Done) is takes,
      held_on a (with_node a n x) (steps.Revive n f) steps.Done [] None o.held takes (whole_set a.nodes 0 n x kept o.held.whole) o.held.fits,
    )

-- memory is refused for the copy: nothing is done
pub copy_refused : (v : WorldState) (n f : ℕ) → ComesTo v (steps.Revive n f) steps.Done → Steps v v (steps.Revive n f) (steps.Idle reasons.NoMemory)
copy_refused v n f comes = record {
  setup = refl;
  taken = λ events world past s.
      let refused : steps.Refused = record { falls = None; cuts = []; copy = true } in
      let is : steps.came_to v.setup world (steps.Revive n f) refused ≡ steps.Idle reasons.NoMemory =
      ap (steps.with_copy refused) (comes.is events world past s) in
      record {
        refused = refused;
        event = record { outcome_is = sym is; handed_is = refl; answer_is = refl; refused_are = copy_is_refused world n f (steps.Idle reasons.NoMemory) };
        shows = subst (λ (o : steps.Outcome). Shows v (steps.effect_by o v.setup world (steps.Revive n f) refused)) (sym is) s;
      };
}
