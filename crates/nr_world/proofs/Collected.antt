-- What a collect hands out, one connection after the other.
use Rattle.std.proofs.Common.{◌≡◌, ℕ, zero, suc, ◌+◌, ◌<◌, ◌≤◌, Bool, true, false, cond, List, [], ◌∷◌, ◌++◌, length, take, get_or, set, refl, ap, sym, ◌∙◌, subst, arith, append_assoc, Option}
use Rattle.std.specs.Prelude.{map, ◌==◌, ◌&&◌, Some, None}
use Rattle.std.proofs.lemmas.Bool.{and_parts, and_right}
use Rattle.std.proofs.lemmas.List.{take_all, append-nil}
use Rattle.std.proofs.Math.Seq.{map-set_same}
use Rattle.nr_model.specs.Items.{Connection}
use Rattle.nr_model.specs.Bytes.{Bytes}
use Rattle.nr_model.specs.Connections.{Handed, is_some_bytes}
use Rattle.nr_replica.specs.Members.{Member, AreNumbered, nobody, is_ready, next_ready}
use Rattle.nr_replica.proofs.Kept.{get_or_same}
use Rattle.nr_replica.proofs.Waiting.{ready_at, next_first, next_none, within_ready}
use Rattle.nr_model.specs.Nodes.Steps as steps
use Rattle.nr_session.specs.SessionState.{SessionState}
use Rattle.nr_replica.specs.Replicas.{ReplicaState}
use Rattle.nr_world.specs.declared.worker.WorldWorker.{WorldWorker}
use Rattle.nr_world.specs.declared.node.WorldNode.{WorldNode}
use Rattle.nr_world.specs.Workers.{worker_seen}
use Rattle.nr_world.specs.Served.{client_seen, clients_seen, node_seen}
use Rattle.nr_world.proofs.Changed.{seen_by, worker_changed}
use Rattle.nr_world.specs.Collected.{emptied, waiting_of, emptied_member, collected_members}

-- all that waits is handed out
some_are : (bytes : Bytes) → 0 < length bytes → is_some_bytes bytes ≡ true
some_are [] h = absurd (omega arith)
some_are (b ∷ bytes) h = refl

pub some_bytes : (bytes : Bytes) → is_some_bytes bytes ≡ true → 0 < length bytes
some_bytes [] h = absurd (cc h)
some_bytes (b ∷ bytes) h = omega arith

pub some_waits : (limit : ℕ) (m : Member) (c : Connection) (bytes : Bytes) → length m.outbox.waiting ≤ limit
    → c ≡ m.outbox.connection → bytes ≡ take limit m.outbox.waiting → 0 < length bytes
    → record { connection = c; bytes = bytes } ∷ [] ≡ waiting_of m
some_waits limit m c bytes h name is some =
    let whole : bytes ≡ m.outbox.waiting = is ∙ take_all limit m.outbox.waiting h in
    let there : is_some_bytes m.outbox.waiting ≡ true = ap is_some_bytes (sym whole) ∙ some_are bytes some in
    (λ i. record { connection = name i; bytes = whole i } ∷ [])
    ∙ sym (λ i. cond (there i) (record { connection = m.outbox.connection; bytes = m.outbox.waiting } ∷ []) [])

pub named_at : (node n i : ℕ) (members : List Member) (d : Member) → AreNumbered node n members → i < length members
    → (get_or members i d).outbox.connection ≡ record { node = node; serial = n + i }
named_at node n i [] d h k = absurd (omega arith)
named_at node n zero (member ∷ members) d h k = let e : n ≡ n + 0 = omega arith in h.0 ∙ ap (λ (s : ℕ). record { node = node; serial = s }) e
named_at node n (suc i) (member ∷ members) d h k =
    let e : suc n + i ≡ n + suc i = omega arith in
    named_at node (suc n) i members d h.1 (omega arith) ∙ ap (λ (s : ℕ). record { node = node; serial = s }) e

-- one after the other
abbrev pub emptied_at : ℕ → List Member → List Member
emptied_at serial members = set members serial (emptied (get_or members serial nobody))

-- one of those for which bytes wait, and none
abbrev one_handed : Member → Handed
one_handed m = record { connection = m.outbox.connection; bytes = m.outbox.waiting }

silent_emptied : (m : Member) → m.outbox.waiting ≡ [] → emptied m ≡ m
silent_emptied m e =
    let same : m.outbox.handed + length m.outbox.waiting ≡ m.outbox.handed = omega (arith, ap length e) in
    λ i. record m { outbox = record m.outbox { waiting = sym e i; handed = same i } }

nothing_waits : (bytes : Bytes) → is_some_bytes bytes ≡ false → bytes ≡ []
nothing_waits [] h = refl
nothing_waits (b ∷ bytes) h = absurd (cc h)

unready_emptied : (w : ℕ) (m : Member) → is_ready w m ≡ false → emptied_member w m ≡ m
unready_emptied w m h =
    elim (m.worker == w) as (λ b. (b && is_some_bytes m.outbox.waiting) ≡ false → cond b (emptied m) m ≡ m) [
      | true ↦ λ none. silent_emptied m (nothing_waits m.outbox.waiting none)
      | false ↦ λ none. refl
    ] h

twice_emptied : (w : ℕ) (m : Member) → emptied_member w (emptied m) ≡ cond (m.worker == w) (emptied m) (emptied m)
twice_emptied w m = ap (λ (x : Member). cond (m.worker == w) x (emptied m)) (silent_emptied (emptied m) refl)

ready_emptied : (w : ℕ) (m : Member) → is_ready w m ≡ true → emptied_member w (emptied m) ≡ emptied_member w m
ready_emptied w m h =
    let own = (and_parts (m.worker == w) (is_some_bytes m.outbox.waiting) h).0 in
    twice_emptied w m ∙ ap (λ b. cond b (emptied m) (emptied m)) own ∙ sym (ap (λ b. cond b (emptied m) m) own)

-- the first of those for which bytes wait is handed out first, and the others behind it
first_collected : (w s : ℕ) (members : List Member) → ready_at w members s ≡ true → ((q : ℕ) → q < s → ready_at w members q ≡ false)
    → collected_members w members ≡ one_handed (get_or members s nobody) ∷ collected_members w (emptied_at s members)
first_collected w s [] ready least = absurd (cc (sym ready ∙ and_right (0 == w) false refl))
first_collected w zero (m ∷ members) ready least =
    let more = collected_members w members in
    ap (λ b. cond b (one_handed m ∷ more) more) ready
    ∙ ap (λ (hs : List Handed). one_handed m ∷ hs)
    (sym (ap (λ b. cond b (one_handed (emptied m) ∷ more) more) (and_right (m.worker == w) false refl)))
first_collected w (suc s) (m ∷ members) ready least =
    let more = collected_members w members in
    let behind = collected_members w (emptied_at s members) in
    let before : is_ready w m ≡ false = least 0 (omega arith) in
    ap (λ b. cond b (one_handed m ∷ more) more) before
    ∙ first_collected w s members ready (λ q before. least (suc q) (omega (arith, before)))
    ∙ ap (λ (hs : List Handed). one_handed (get_or members s nobody) ∷ hs) (sym (ap (λ b. cond b (one_handed m ∷ behind) behind) before))

none_collected : (w : ℕ) (members : List Member) → ((q : ℕ) → ready_at w members q ≡ false) → collected_members w members ≡ []
none_collected w [] none = refl
none_collected w (m ∷ members) none =
    let more = collected_members w members in
    ap (λ b. cond b (one_handed m ∷ more) more) (none 0) ∙ none_collected w members (λ q. none (suc q))

none_emptied : (w : ℕ) (members : List Member) → ((q : ℕ) → ready_at w members q ≡ false) → map (emptied_member w) members ≡ members
none_emptied w [] none = refl
none_emptied w (m ∷ members) none =
    let first = unready_emptied w m (none 0) in
    let more = none_emptied w members (λ q. none (suc q)) in
    λ i. first i ∷ more i

numbered_emptied : (node n i : ℕ) (members : List Member) (d : Member) → AreNumbered node n members
    → AreNumbered node n (set members i (emptied (get_or members i d)))
numbered_emptied node n i [] d h = tt
numbered_emptied node n zero (m ∷ members) d h = h
numbered_emptied node n (suc i) (m ∷ members) d h = (h.0, numbered_emptied node (suc n) i members d h.1)

waiting_one : (w : ℕ) (m : Member) → is_ready w m ≡ true → waiting_of m ≡ one_handed m ∷ []
waiting_one w m ready = ap (λ b. cond b (one_handed m ∷ []) []) (and_parts (m.worker == w) (is_some_bytes m.outbox.waiting) ready).1

-- So far those in front were emptied, and what is left to do makes the whole.
pub record IsHandingOut (w : ℕ) (start now : ReplicaState) (before so_far : List Handed) : Type 0 where
  pub rest : now ≡ record start { members = now.members }
  pub numbered : AreNumbered start.node 0 now.members
  pub members : map (emptied_member w) now.members ≡ map (emptied_member w) start.members
  pub handed : so_far ++ collected_members w now.members ≡ before ++ collected_members w start.members

pub nothing_handed : (w : ℕ) (start : ReplicaState) (before : List Handed) → AreNumbered start.node 0 start.members → IsHandingOut w start start before before
nothing_handed w start before numbered = record { rest = refl; numbered = numbered; members = refl; handed = refl }

pub hands_on : (w serial : ℕ) (start now next : ReplicaState) (before so_far more : List Handed) → next_ready w 0 now.members ≡ Some serial
    → next ≡ record now { members = emptied_at serial now.members } → more ≡ so_far ++ waiting_of (get_or now.members serial nobody)
    → IsHandingOut w start now before so_far → IsHandingOut w start next before more
hands_on w serial start now next before so_far more found is out k =
    let members = now.members in
    let m = get_or members serial nobody in
    let first = next_first w 0 serial members found in
    let ms : next.members ≡ emptied_at serial members = ap (λ (r : ReplicaState). r.members) is in
    record {
      rest = is ∙ (λ j. record (k.rest j) { members = emptied_at serial members }) ∙ (λ j. record start { members = sym ms j });
      numbered = subst (AreNumbered start.node 0) (sym ms) (numbered_emptied start.node 0 serial members nobody k.numbered);
      members = ap (map (emptied_member w)) ms
          ∙ map-set_same (emptied_member w) members serial (emptied m) nobody (ready_emptied w m first.passes) ∙ k.members;
      handed = (λ j. out j ++ collected_members w (ms j))
          ∙ append_assoc so_far (waiting_of m) (collected_members w (emptied_at serial members))
          ∙ ap (λ (hs : List Handed). so_far ++ (hs ++ collected_members w (emptied_at serial members))) (waiting_one w m first.passes)
          ∙ ap (λ (hs : List Handed). so_far ++ hs) (sym (first_collected w serial members first.passes (λ q before. first.least q (omega arith) before)))
          ∙ k.handed;
    }

-- each time less is left
pub fewer_left : (w serial : ℕ) (now next : ReplicaState) → next_ready w 0 now.members ≡ Some serial
    → next ≡ record now { members = emptied_at serial now.members }
    → length (collected_members w next.members) < length (collected_members w now.members)
fewer_left w serial now next found is =
    let members = now.members in
    let first = next_first w 0 serial members found in
    let less = ap (λ (r : ReplicaState). length (collected_members w r.members)) is in
    let more = ap length (first_collected w serial members first.passes (λ q before. first.least q (omega arith) before)) in
    omega (arith, less, more)

pub out_there : (w serial : ℕ) (members : List Member) → next_ready w 0 members ≡ Some serial → serial < length members
out_there w serial members found = within_ready w members serial (next_first w 0 serial members found).passes

pub out_waits : (w serial : ℕ) (members : List Member) (d : Member) → next_ready w 0 members ≡ Some serial
    → is_some_bytes (get_or members serial d).outbox.waiting ≡ true
out_waits w serial members d found =
    let passes = (next_first w 0 serial members found).passes in
    ap (λ (m : Member). is_some_bytes m.outbox.waiting) (get_or_same members serial d nobody (within_ready w members serial passes))
    ∙ (and_parts ((get_or members serial nobody).worker == w) (is_some_bytes (get_or members serial nobody).outbox.waiting) passes).1

pub out_named : (w serial : ℕ) (start now : ReplicaState) (d : Member) (before so_far : List Handed) → serial < length now.members
    → IsHandingOut w start now before so_far → (get_or now.members serial d).outbox.connection ≡ record { node = now.node; serial = serial }
out_named w serial start now d before so_far h k =
    let first : 0 + serial ≡ serial = omega arith in
    named_at start.node 0 serial now.members d k.numbered h
    ∙ (λ j. record { node = (sym (ap (λ (r : ReplicaState). r.node) k.rest)) j; serial = first j })

-- and at the end that is all
pub out_members : (w : ℕ) (start now : ReplicaState) (before so_far : List Handed) → next_ready w 0 now.members ≡ None
    → IsHandingOut w start now before so_far → now ≡ record start { members = map (emptied_member w) start.members }
out_members w start now before so_far none k =
    let all = sym (none_emptied w now.members (λ q. next_none w 0 now.members none q (omega arith))) ∙ k.members in
    k.rest ∙ (λ j. record start { members = all j })

pub out_handed : (w : ℕ) (start now : ReplicaState) (before so_far : List Handed) → next_ready w 0 now.members ≡ None
    → IsHandingOut w start now before so_far → so_far ≡ before ++ collected_members w start.members
out_handed w start now before so_far none k =
    sym (append-nil so_far)
    ∙ ap (λ (hs : List Handed). so_far ++ hs) (sym (none_collected w now.members (λ q. next_none w 0 now.members none q (omega arith)))) ∙ k.handed

-- the same by the clients
one_emptied : (b : Bool) (s : SessionState) (m : Member)
    → client_seen s (cond b (record m { outbox = record m.outbox { waiting = []; handed = m.outbox.handed + length m.outbox.waiting } }) m)
    ≡ cond b (record (client_seen s m) { queue = record m.outbox { waiting = []; handed = m.outbox.handed + length m.outbox.waiting } }) (client_seen s m)
one_emptied true s m = refl
one_emptied false s m = refl

pub clients_emptied : (w : ℕ) (sessions : List SessionState) (members : List Member)
    → clients_seen sessions (map (emptied_member w) members) ≡ map (steps.emptied w) (clients_seen sessions members)
clients_emptied w [] members = refl
clients_emptied w (s ∷ sessions) [] = refl
clients_emptied w (s ∷ sessions) (m ∷ members) =
    let first : client_seen s (emptied_member w m) ≡ steps.emptied w (client_seen s m) = one_emptied (m.worker == w) s m in
    let more = clients_emptied w sessions members in
    λ i. first i ∷ more i

pub clients_collected : (w : ℕ) (sessions : List SessionState) (members : List Member) → length sessions ≡ length members
    → collected_members w members ≡ steps.collected w (clients_seen sessions members)
clients_collected w [] [] h = refl
clients_collected w [] (m ∷ members) h = absurd (omega arith)
clients_collected w (s ∷ sessions) [] h = absurd (omega arith)
clients_collected w (s ∷ sessions) (m ∷ members) h =
    let more = clients_collected w sessions members (omega arith) in
    λ i. cond (m.worker == w && is_some_bytes m.outbox.waiting) (record { connection = m.outbox.connection; bytes = m.outbox.waiting } ∷ more i) (more i)

pub collected_is : (node : WorldNode) (w : ℕ) (x old : WorldWorker) (replica : ReplicaState) → w < length node.workers.items
    → length node.replica.owed ≡ length node.workers.items
    → old ≡ get_or node.workers.items w old → ((o : Option ℕ) → worker_seen x o ≡ record (worker_seen old o) { slot = steps.cleared (worker_seen old o).slot })
    → replica ≡ record node.replica { members = map (emptied_member w) node.replica.members }
    → seen_by node replica (set node.workers.items w x) ≡ steps.collected_node w (node_seen node)
collected_is node w x old replica h k at e r =
    let workers = worker_changed (λ v. record v { slot = steps.cleared v.slot }) node.workers.items node.replica.owed w x old h k at e in
    let clients = clients_emptied w node.sessions node.replica.members in
    ap (λ (v : ReplicaState). seen_by node v (set node.workers.items w x)) r
    ∙ (λ i. record (node_seen node) { clients = clients i; workers = workers i })
