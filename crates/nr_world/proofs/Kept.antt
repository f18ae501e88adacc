-- What is delivered to a node's connections leaves the node whole.
use Rattle.std.proofs.Common.{◌≡◌, ℕ, suc, Bool, true, false, cond, List, [], ◌∷◌, length, take, refl, ap, sym, ◌∙◌, Option, Some, None}
use Rattle.std.specs.Prelude.{filter, not, ◌||◌, ◌==◌, nat_lt}
use Rattle.std.proofs.lemmas.Bool.{cond_both}
use Rattle.nr_model.specs.Bytes.{Bytes}
use Rattle.nr_model.specs.Items.{Connection}
use Rattle.nr_model.specs.Queues.{Queue, takes, with_bytes, cut_off, put, puts, received}
use Rattle.nr_model.specs.Servers.{emitted_all}
use Rattle.nr_model.specs.Entries.{Jobs, entry_items, read_jobs}
use Rattle.nr_model.specs.Nodes as nodes
use Rattle.nr_model.specs.Nodes.Steps.{in_use, texts_for}
use Rattle.nr_entry.specs.declared.entry.Entry.{Entry}
use Rattle.nr_entry.specs.Jobs.{items_of}
use Rattle.nr_session.specs.SessionState.{SessionState}
use Rattle.nr_replica.specs.Members.{Member, AreReceived, AreNumbered}
use Rattle.nr_replica.specs.Replicas.{ReplicaState, owed_from, IsAppliedAs, HasRead}
use Rattle.nr_replica.proofs.Received.{received_connection}
use Rattle.nr_world.specs.declared.worker.WorldWorker.{WorldWorker}
use Rattle.nr_world.specs.declared.node.WorldNode.{WorldNode}
use Rattle.nr_world.specs.Served.{client_seen, clients_seen}
use Rattle.nr_world.specs.Whole.{ArePaired, IsWhole}
use Rattle.nr_world.proofs.Changed.{seen_by}

-- a queue that is cut stays so
puts_cut : (q : Queue) (texts : List Bytes) → q.cut ≡ true → (puts q texts).cut ≡ true
puts_cut q [] e = e
puts_cut q (text ∷ texts) e =
    puts_cut (put q text) texts (cond_both (takes q text) (with_bytes q text) (cut_off q) (λ (x : Queue). x.cut ≡ true) (λ fits. e) (λ full. refl))

received_cut : (at : Option ℕ) (q : Queue) (texts : List Bytes) → q.cut ≡ true → (received at q texts).cut ≡ true
received_cut None q texts e = puts_cut q texts e
received_cut (Some n) q texts e =
    cond_both (nat_lt n (length texts)) (cut_off (puts q (take n texts))) (puts q texts) (λ (x : Queue). x.cut ≡ true) (λ few. refl)
    (λ many. puts_cut q texts e)

pub pairs_kept : (texts : Connection → List Bytes) (n serial : ℕ) (sessions : List SessionState) (olds news : List Member) → AreReceived texts olds news
    → ArePaired n serial sessions olds → ArePaired n serial sessions news
pairs_kept texts n serial [] [] [] r p = tt
pairs_kept texts n serial [] [] (new ∷ news) r p = absurd r
pairs_kept texts n serial [] (old ∷ olds) news r p = absurd p
pairs_kept texts n serial (s ∷ sessions) [] news r p = absurd p
pairs_kept texts n serial (s ∷ sessions) (old ∷ olds) [] r p = absurd r
pairs_kept texts n serial (s ∷ sessions) (old ∷ olds) (new ∷ news) r p =
    let closed : old.is_closed ≡ new.is_closed = ap (λ (m : Member). m.is_closed) (sym r.0.1) in (
      record {
        named = λ open_one. p.0.named (closed ∙ open_one);
        ended = p.0.ended ∙ ap (λ (b : Bool). s.gave_end || b) closed;
        shut = λ is. ap (λ (m : Member). m.outbox.cut) r.0.1 ∙ received_cut r.0.0 old.outbox (texts old.outbox.connection) (p.0.shut (closed ∙ is));
      },
      pairs_kept texts n (suc serial) sessions olds news r.1 p.1,
    )

-- as many are open
one_open : (b : Bool) (x : nodes.Client) (xs : List nodes.Client) → length (cond b (x ∷ xs) xs) ≡ cond b (suc (length xs)) (length xs)
one_open true x xs = refl
one_open false x xs = refl

abbrev count_open : List nodes.Client → ℕ
count_open clients = length (filter (λ (client : nodes.Client). not client.closed) clients)

open_kept : (texts : Connection → List Bytes) (sessions : List SessionState) (olds news : List Member) → AreReceived texts olds news
    → count_open (clients_seen sessions news) ≡ count_open (clients_seen sessions olds)
open_kept texts [] olds news r = refl
open_kept texts (s ∷ sessions) [] [] r = refl
open_kept texts (s ∷ sessions) [] (new ∷ news) r = absurd r
open_kept texts (s ∷ sessions) (old ∷ olds) [] r = absurd r
open_kept texts (s ∷ sessions) (old ∷ olds) (new ∷ news) r =
    let closed : new.is_closed ≡ old.is_closed = ap (λ (m : Member). m.is_closed) r.0.1 in
    let more = open_kept texts sessions olds news r.1 in
    one_open (not new.is_closed) (client_seen s new) (filter (λ (client : nodes.Client). not client.closed) (clients_seen sessions news))
    ∙ (λ i. cond (not (closed i)) (suc (more i)) (more i))
    ∙ sym (one_open (not old.is_closed) (client_seen s old) (filter (λ (client : nodes.Client). not client.closed) (clients_seen sessions olds)))

-- each has its name
pub numbered_kept : (texts : Connection → List Bytes) (n serial : ℕ) (olds news : List Member) → AreReceived texts olds news → AreNumbered n serial olds
    → AreNumbered n serial news
numbered_kept texts n serial [] [] r k = tt
numbered_kept texts n serial [] (new ∷ news) r k = absurd r
numbered_kept texts n serial (old ∷ olds) [] r k = absurd r
numbered_kept texts n serial (old ∷ olds) (new ∷ news) r k = (
  ap (λ (m : Member). m.outbox.connection) r.0.1 ∙ received_connection r.0.0 old.outbox (texts old.outbox.connection) ∙ k.0,
  numbered_kept texts n (suc serial) olds news r.1 k.1,
)

-- as much is owed of
owed_long : (w : ℕ) (members : List Member) (jobs : Jobs) (owed : List (Option ℕ)) → length (owed_from w members jobs owed) ≡ length owed
owed_long w members jobs [] = refl
owed_long w members jobs (o ∷ owed) = ap suc (owed_long (suc w) members jobs owed)

owed_by : (own : Bool) (members : List Member) (jobs : Jobs) (owed : List (Option ℕ)) → length (cond own (owed_from 0 members jobs owed) owed) ≡ length owed
owed_by true members jobs owed = owed_long 0 members jobs owed
owed_by false members jobs owed = refl

owed_as : (counted own : Bool) (members : List Member) (jobs : Jobs) (owed : List (Option ℕ))
    → length (cond counted (cond own (owed_from 0 members jobs owed) owed) owed) ≡ length owed
owed_as true own members jobs owed = owed_by own members jobs owed
owed_as false own members jobs owed = refl

-- a node with another replica and other workers is whole
pub record IsKept (n : ℕ) (node : WorldNode) (replica : ReplicaState) (workers : List WorldWorker) : Type 0 where
  pub number : replica.node ≡ n
  pub pairs : ArePaired n 0 node.sessions replica.members
  pub owed : length replica.owed ≡ length workers
  pub counted : node.in_use ≡ in_use (seen_by node replica workers)

pub kept_applied : (n : ℕ) (counted : Bool) (node : WorldNode) (entry : Entry) (replica : ReplicaState)
    → IsAppliedAs counted entry node.replica replica → IsWhole n node
    → IsKept n node replica node.workers.items
kept_applied n counted node entry replica a w =
    let es = emitted_all node.replica.server (entry_items (items_of entry.jobs.items)) in
    record {
      number = ap (λ (r : ReplicaState). r.node) a.state ∙ w.number;
      pairs = pairs_kept (λ c. texts_for c es) n 0 node.sessions node.replica.members replica.members a.delivered w.pairs;
      owed = ap (λ (r : ReplicaState). length r.owed) a.state
          ∙ owed_as counted (entry.node == node.replica.node) node.replica.members (items_of entry.jobs.items) node.replica.owed ∙ w.owed;
      counted = w.counted ∙ sym (open_kept (λ c. texts_for c es) node.sessions node.replica.members replica.members a.delivered);
    }

pub kept_read : (n : ℕ) (node : WorldNode) (replica : ReplicaState) → HasRead node.replica replica → IsWhole n node → IsKept n node replica node.workers.items
kept_read n node replica a w =
    let jobs = read_jobs (items_of node.replica.waiting) in
    let es = emitted_all node.replica.server jobs in
    record {
      number = ap (λ (r : ReplicaState). r.node) a.state ∙ w.number;
      pairs = pairs_kept (λ c. texts_for c es) n 0 node.sessions node.replica.members replica.members a.delivered w.pairs;
      owed = ap (λ (r : ReplicaState). length r.owed) a.state ∙ owed_long 0 node.replica.members jobs node.replica.owed ∙ w.owed;
      counted = w.counted ∙ sym (open_kept (λ c. texts_for c es) node.sessions node.replica.members replica.members a.delivered);
    }

-- its connections have their names
pub numbered_applied : (n : ℕ) (counted : Bool) (old new : ReplicaState) (entry : Entry) → IsAppliedAs counted entry old new → AreNumbered n 0 old.members
    → AreNumbered n 0 new.members
numbered_applied n counted old new entry a k =
    numbered_kept (λ c. texts_for c (emitted_all old.server (entry_items (items_of entry.jobs.items)))) n 0 old.members new.members a.delivered k

-- as many sessions as members
pub paired_long : (n serial : ℕ) (sessions : List SessionState) (members : List Member) → ArePaired n serial sessions members → length sessions ≡ length members
paired_long n serial [] [] p = refl
paired_long n serial [] (m ∷ members) p = absurd p
paired_long n serial (s ∷ sessions) [] p = absurd p
paired_long n serial (s ∷ sessions) (m ∷ members) p = ap suc (paired_long n (suc serial) sessions members p.1)
