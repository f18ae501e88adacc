-- A node's jobs are dropped: what its connections note, and that the node stays whole.
use Rattle.std.proofs.Common.{◌≡◌, ℕ, zero, suc, ◌+◌, ◌<◌, ◌≤◌, Bool, true, false, cond, inl, inr, List, [], ◌∷◌, ◌++◌, length, map, get_or, set, Option, None, refl, ap, sym, ◌∙◌, subst, arith}
use Rattle.std.specs.Prelude.{flat_map, filter, not, is_some, ◌||◌}
use Rattle.std.proofs.lemmas.Bool.{cases_Bool}
use Rattle.std.proofs.lemmas.List.{set-get_or}
use Rattle.nr_model.specs.Items.{Connection}
use Rattle.nr_model.specs.Entries.{Jobs}
use Rattle.nr_model.specs.Asked.{own_jobs, first_number}
use Rattle.nr_model.specs.Nodes as nodes
use Rattle.nr_model.specs.Nodes.Steps.{posted_jobs, dropped_jobs, fallen_client}
use Rattle.nr_entry.specs.Jobs.{items_of}
use Rattle.nr_session.specs.SessionState.{SessionState}
use Rattle.nr_replica.specs.Members.{Member, AreNumbered}
use Rattle.nr_replica.specs.Replicas.{ReplicaState}
use Rattle.nr_world.specs.declared.worker.Slot.{Slot}
use Rattle.nr_world.specs.declared.worker.Slot.TheVariants.{Empty, Posted, Lifted, Answered}
use Rattle.nr_world.specs.declared.worker.WorldWorker.{WorldWorker}
use Rattle.nr_world.specs.declared.node.WorldNode.{WorldNode}
use Rattle.nr_world.specs.Workers.{slot_seen}
use Rattle.nr_world.specs.Served.{client_seen, clients_seen, workers_seen, node_seen, dropped_node}
use Rattle.nr_world.specs.Dropped.{posted_at, pending_at, dropped_of, fallen_session, session_after, sessions_after}
use Rattle.nr_world.specs.Forgotten.{AreForgotten}
use Rattle.nr_world.specs.Whole.{IsPair, ArePaired, IsWhole}
use Rattle.nr_world.proofs.Changed.{seen_from}
use Rattle.nr_world.proofs.Forgotten.{forgotten_all}
use Rattle.nr_world.proofs.Paired.{or_false}

-- what a session keeps
kept_connection : (closed : Bool) (dropped : Option ℕ) (cut : Bool) (s : SessionState)
    → (cond closed s (fallen_session dropped cut s)).connection ≡ s.connection
kept_connection true dropped cut s = refl
kept_connection false dropped cut s = refl

kept_ended : (closed : Bool) (dropped : Option ℕ) (cut : Bool) (s : SessionState) → (cond closed s (fallen_session dropped cut s)).ended ≡ s.ended
kept_ended true dropped cut s = refl
kept_ended false dropped cut s = refl

kept_end : (closed : Bool) (dropped : Option ℕ) (cut : Bool) (s : SessionState) → (cond closed s (fallen_session dropped cut s)).gave_end ≡ s.gave_end
kept_end true dropped cut s = refl
kept_end false dropped cut s = refl

pair_after : (n serial : ℕ) (dropped : Jobs) (s : SessionState) (m : Member) → IsPair n serial s m → IsPair n serial (session_after dropped s m) m
pair_after n serial dropped s m p =
    let first = first_number (own_jobs m.outbox.connection dropped) in
    record {
      named = λ open_one. kept_connection m.is_closed first m.outbox.cut s ∙ p.named open_one;
      ended = kept_ended m.is_closed first m.outbox.cut s ∙ p.ended ∙ ap (λ (b : Bool). b || m.is_closed) (sym (kept_end m.is_closed first m.outbox.cut s));
      shut = p.shut;
    }

pub paired_after : (n serial : ℕ) (dropped : Jobs) (sessions : List SessionState) (members : List Member) → ArePaired n serial sessions members
    → ArePaired n serial (sessions_after dropped sessions members) members
paired_after n serial dropped [] [] p = tt
paired_after n serial dropped [] (m ∷ members) p = absurd p
paired_after n serial dropped (s ∷ sessions) [] p = absurd p
paired_after n serial dropped (s ∷ sessions) (m ∷ members) p =
    (pair_after n serial dropped s m p.0, paired_after n (suc serial) dropped sessions members p.1)

-- the first of these have noted it
abbrev pub first_after : ℕ → Jobs → List SessionState → List Member → List SessionState
first_after zero dropped sessions members = sessions
first_after (suc n) dropped [] members = []
first_after (suc n) dropped (s ∷ sessions) [] = s ∷ sessions
first_after (suc n) dropped (s ∷ sessions) (m ∷ members) = session_after dropped s m ∷ first_after n dropped sessions members

pub first_long : (n : ℕ) (dropped : Jobs) (sessions : List SessionState) (members : List Member)
    → length (first_after n dropped sessions members) ≡ length sessions
first_long zero dropped sessions members = refl
first_long (suc n) dropped [] members = refl
first_long (suc n) dropped (s ∷ sessions) [] = refl
first_long (suc n) dropped (s ∷ sessions) (m ∷ members) = ap suc (first_long n dropped sessions members)

pub first_paired : (k n serial : ℕ) (dropped : Jobs) (sessions : List SessionState) (members : List Member) → ArePaired n serial sessions members
    → ArePaired n serial (first_after k dropped sessions members) members
first_paired zero n serial dropped sessions members p = p
first_paired (suc k) n serial dropped [] [] p = tt
first_paired (suc k) n serial dropped [] (m ∷ members) p = absurd p
first_paired (suc k) n serial dropped (s ∷ sessions) [] p = absurd p
first_paired (suc k) n serial dropped (s ∷ sessions) (m ∷ members) p =
    (pair_after n serial dropped s m p.0, first_paired k n (suc serial) dropped sessions members p.1)

further : (n : ℕ) (dropped : Jobs) (sessions : List SessionState) (members : List Member) (s : SessionState) (m : Member) → n < length sessions
    → length sessions ≡ length members
    → set (first_after n dropped sessions members) n (session_after dropped (get_or (first_after n dropped sessions members) n s) (get_or members n m))
    ≡ first_after (suc n) dropped sessions members
further n dropped [] members s m within many = absurd (omega arith)
further n dropped (x ∷ sessions) [] s m within many = absurd (omega arith)
further zero dropped (x ∷ sessions) (y ∷ members) s m within many = refl
further (suc n) dropped (x ∷ sessions) (y ∷ members) s m within many =
    ap (λ (more : List SessionState). session_after dropped x y ∷ more) (further n dropped sessions members s m (omega arith) (omega arith))

pub first_further : (n : ℕ) (dropped : Jobs) (sessions : List SessionState) (members : List Member) (now : List SessionState) (s : SessionState) (m : Member)
    → now ≡ first_after n dropped sessions members → n < length sessions → length sessions ≡ length members
    → set now n (session_after dropped (get_or now n s) (get_or members n m)) ≡ first_after (n + 1) dropped sessions members
first_further n dropped sessions members now s m is within many =
    let next : suc n ≡ n + 1 = omega arith in
    ap (λ (xs : List SessionState). set xs n (session_after dropped (get_or xs n s) (get_or members n m))) is
    ∙ further n dropped sessions members s m within many ∙ ap (λ (k : ℕ). first_after k dropped sessions members) next

pub first_all : (n : ℕ) (dropped : Jobs) (sessions : List SessionState) (members : List Member) → length sessions ≤ n → length sessions ≡ length members
    → first_after n dropped sessions members ≡ sessions_after dropped sessions members
first_all zero dropped [] members all many = refl
first_all zero dropped (s ∷ sessions) members all many = absurd (omega arith)
first_all (suc n) dropped [] members all many = refl
first_all (suc n) dropped (s ∷ sessions) [] all many = absurd (omega arith)
first_all (suc n) dropped (s ∷ sessions) (m ∷ members) all many =
    ap (λ (more : List SessionState). session_after dropped s m ∷ more) (first_all n dropped sessions members (omega arith) (omega arith))

-- one connection notes it, by whether it was closed
pub closed_notes : (dropped : Jobs) (sessions : List SessionState) (serial : ℕ) (s : SessionState) (m : Member) → m.is_closed ≡ true
    → sessions ≡ set sessions serial (session_after dropped (get_or sessions serial s) m)
closed_notes dropped sessions serial s m closed =
    let x = get_or sessions serial s in
    sym (ap (λ (b : Bool). set sessions serial (cond b x (fallen_session (first_number (own_jobs m.outbox.connection dropped)) m.outbox.cut x))) closed
    ∙ set-get_or sessions serial s)

pub open_notes : (dropped : Jobs) (c : Connection) (first : Option ℕ) (cut : Bool) (sessions new : List SessionState) (serial : ℕ)
    (s : SessionState) (m : Member)
    → m.is_closed ≡ false → m.outbox.connection ≡ c → first ≡ first_number (own_jobs c dropped) → cut ≡ m.outbox.cut
    → new ≡ set sessions serial (fallen_session first cut (get_or sessions serial s))
    → new ≡ set sessions serial (session_after dropped (get_or sessions serial s) m)
open_notes dropped c first cut sessions new serial s m unclosed name is_first is_cut is =
    let x = get_or sessions serial s in
    let same : first ≡ first_number (own_jobs m.outbox.connection dropped) = is_first ∙ ap (λ (d : Connection). first_number (own_jobs d dropped)) (sym name) in
    is ∙ (λ i. set sessions serial (fallen_session (same i) (is_cut i) x))
    ∙ sym (ap (λ (b : Bool). set sessions serial (cond b x (fallen_session (first_number (own_jobs m.outbox.connection dropped)) m.outbox.cut x))) unclosed)

-- the name of a member
pub name_at : (node first i : ℕ) (members : List Member) (m : Member) → i < length members → AreNumbered node first members
    → (get_or members i m).outbox.connection ≡ record { node = node; serial = first + i }
name_at node first i [] m within named = absurd (omega arith)
name_at node first zero (x ∷ members) m within named =
    named.0 ∙ ap (λ (k : ℕ). record { node = node; serial = k }) (let e : first ≡ first + 0 = omega arith in e)
name_at node first (suc i) (x ∷ members) m within named =
    name_at node (suc first) i members m (omega arith) named.1
    ∙ ap (λ (k : ℕ). record { node = node; serial = k }) (let e : suc first + i ≡ first + suc i = omega arith in e)

-- what a session notes is what its client does
one_after : (dropped : Jobs) (s : SessionState) (m : Member) → (m.is_closed ≡ true → m.outbox.cut ≡ true)
    → client_seen (session_after dropped s m) m ≡ fallen_client dropped (client_seen s m)
one_after dropped s m shut =
    let first = first_number (own_jobs m.outbox.connection dropped) in
    let other = fallen_session first m.outbox.cut s in
    elim (cases_Bool m.is_closed) [
      | inl closed ↦
          let lost : s.lost ≡ cond (m.is_closed || is_some s.lost) s.lost first = ap (λ (b : Bool). cond (b || is_some s.lost) s.lost first) (sym closed) in
          let fell : s.fell ≡ (s.fell || not m.outbox.cut) = sym (or_false s.fell (not m.outbox.cut) (ap not (shut closed))) in
          ap (λ (b : Bool). client_seen (cond b s other) m) closed ∙ (λ i. record (client_seen s m) { lost = lost i; fell = fell i })
      | inr unclosed ↦
          ap (λ (b : Bool). client_seen (cond b s other) m) unclosed
          ∙ ap (λ (b : Bool). record (client_seen s m) { lost = cond (b || is_some s.lost) s.lost first; fell = s.fell || not m.outbox.cut }) (sym unclosed)
    ]

pub clients_after : (n serial : ℕ) (dropped : Jobs) (sessions : List SessionState) (members : List Member) → ArePaired n serial sessions members
    → clients_seen (sessions_after dropped sessions members) members ≡ map (fallen_client dropped) (clients_seen sessions members)
clients_after n serial dropped [] members p = refl
clients_after n serial dropped (s ∷ sessions) [] p = refl
clients_after n serial dropped (s ∷ sessions) (m ∷ members) p =
    let here = one_after dropped s m p.0.shut in
    let more = clients_after n (suc serial) dropped sessions members p.1 in
    λ i. here i ∷ more i

-- what is dropped
one_posted : (slot : Slot) (owed : Option ℕ) → posted_jobs (slot_seen slot owed) ≡ posted_jobs (slot_seen slot None)
one_posted Empty owed = refl
one_posted (Posted jobs) owed = refl
one_posted Lifted owed = refl
one_posted (Answered executed) owed = refl

all_posted : (workers : List WorldWorker) (owed : List (Option ℕ)) → length owed ≡ length workers
    → flat_map (λ (worker : nodes.Worker). posted_jobs worker.slot) (workers_seen workers owed) ≡ posted_at workers
all_posted [] owed h = refl
all_posted (worker ∷ workers) [] h = absurd (omega arith)
all_posted (worker ∷ workers) (o ∷ owed) h =
    let here = one_posted worker.slot o in
    let more = all_posted workers owed (omega arith) in
    λ i. here i ++ more i

all_pending : (workers : List WorldWorker) (owed : List (Option ℕ)) → length owed ≡ length workers
    → flat_map (λ (worker : nodes.Worker). worker.pending) (workers_seen workers owed) ≡ pending_at workers
all_pending [] owed h = refl
all_pending (worker ∷ workers) [] h = absurd (omega arith)
all_pending (worker ∷ workers) (o ∷ owed) h = ap (λ (more : Jobs). items_of worker.pending.items ++ more) (all_pending workers owed (omega arith))

all_dropped : (node : WorldNode) → length node.replica.owed ≡ length node.workers.items
    → dropped_of (items_of node.replica.waiting) node.workers.items ≡ dropped_jobs (node_seen node)
all_dropped node h =
    let posted = all_posted node.workers.items node.replica.owed h in
    let pending = all_pending node.workers.items node.replica.owed h in
    sym (λ i. items_of node.replica.waiting ++ (posted i ++ pending i))

-- a node whose jobs are dropped
pub dropped_is : (n : ℕ) (node : WorldNode) (sessions : List SessionState) (workers : List WorldWorker) (replica : ReplicaState)
    → ArePaired n 0 node.sessions node.replica.members → length node.replica.owed ≡ length node.workers.items
    → sessions ≡ sessions_after (dropped_of (items_of node.replica.waiting) node.workers.items) node.sessions node.replica.members
    → AreForgotten (length node.workers.items) node.workers.items workers → replica ≡ record node.replica { waiting = [] }
    → seen_from node replica sessions workers ≡ dropped_node (node_seen node)
dropped_is n node sessions workers replica pairs owed noted forgotten state =
    let dropped = dropped_of (items_of node.replica.waiting) node.workers.items in
    let all = all_dropped node owed in
    let clients : clients_seen sessions node.replica.members
    ≡ map (fallen_client (dropped_jobs (node_seen node))) (clients_seen node.sessions node.replica.members) =
    ap (λ (ss : List SessionState). clients_seen ss node.replica.members) noted ∙ clients_after n 0 dropped node.sessions node.replica.members pairs
    ∙ ap (λ (jobs : Jobs). map (fallen_client jobs) (clients_seen node.sessions node.replica.members)) all in
    let forgets = forgotten_all (length node.workers.items) node.workers.items workers node.replica.owed (omega arith) forgotten in
    ap (λ (r : ReplicaState). seen_from node r sessions workers) state
    ∙ (λ i. record (node_seen node) { clients = clients i; workers = forgets i; waiting = [] })

abbrev count_open : List nodes.Client → ℕ
count_open clients = length (filter (λ (client : nodes.Client). not client.closed) clients)

open_after : (dropped : Jobs) (sessions : List SessionState) (members : List Member)
    → count_open (clients_seen (sessions_after dropped sessions members) members) ≡ count_open (clients_seen sessions members)
open_after dropped [] members = refl
open_after dropped (s ∷ sessions) [] = refl
open_after dropped (s ∷ sessions) (m ∷ members) =
    one_open (not m.is_closed) (client_seen (session_after dropped s m) m) (client_seen s m)
    (filter (λ (client : nodes.Client). not client.closed) (clients_seen (sessions_after dropped sessions members) members))
    (filter (λ (client : nodes.Client). not client.closed) (clients_seen sessions members)) (open_after dropped sessions members) where
      one_open : (b : Bool) (x y : nodes.Client) (xs ys : List nodes.Client) → length xs ≡ length ys → length (cond b (x ∷ xs) xs) ≡ length (cond b (y ∷ ys) ys)
      one_open true x y xs ys h = ap suc h
      one_open false x y xs ys h = h

pub whole_dropped : (n : ℕ) (old new : WorldNode) (dropped : Jobs) → new.replica ≡ record old.replica { waiting = [] }
    → new.sessions ≡ sessions_after dropped old.sessions old.replica.members → length new.workers.items ≡ length old.workers.items
    → new.in_use ≡ old.in_use → IsWhole n old → IsWhole n new
whole_dropped n old new dropped replica sessions workers used whole =
    let members = ap (λ (r : ReplicaState). r.members) replica in
    record {
      number = ap (λ (r : ReplicaState). r.node) replica ∙ whole.number;
      pairs = subst (λ (ss : List SessionState). ArePaired n 0 ss new.replica.members) (sym sessions)
          (subst (λ (ms : List Member). ArePaired n 0 (sessions_after dropped old.sessions old.replica.members) ms) (sym members)
          (paired_after n 0 dropped old.sessions old.replica.members whole.pairs));
      owed = ap (λ (r : ReplicaState). length r.owed) replica ∙ whole.owed ∙ sym workers;
      counted = used ∙ whole.counted ∙ sym (open_after dropped old.sessions old.replica.members)
          ∙ ap count_open (sym (λ i. clients_seen (sessions i) (members i)));
    }
