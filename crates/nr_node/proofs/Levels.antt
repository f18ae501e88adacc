-- A replica stays level with its end of the log: it takes an entry in, runs reads, opens and closes connections, and hands out what waits.
use Rattle.std.proofs.Common.{Bool, ◌≡◌, ℕ, zero, suc, ◌<◌, ◌+◌, inl, inr, true, false, List, [], ◌∷◌, ◌++◌, length, map, refl, ap, sym, ◌∙◌, subst, arith, slice_set}
use Rattle.std.specs.Prelude.{slice_index_or, Option}
use Rattle.std.proofs.lemmas.Bool.Decides.{eqb_tells}
use Rattle.std.proofs.lemmas.List.{append-nil, length-append, length-set, map-append, get_or_append_left, get_or_at, get_or-set_same, get_or-set_other}
use Rattle.nr_model.specs.Bytes.{Bytes}
use Rattle.nr_model.specs.Items.{Connection, Sequence}
use Rattle.nr_model.specs.Sequential.{emitted_for}
use Rattle.nr_model.specs.Servers.{Server, fresh, after_all, emitted_all}
use Rattle.nr_model.specs.Entries.{entry_items, read_jobs}
use Rattle.nr_model.specs.Queues.{Queue, received}
use Rattle.nr_model.specs.Nodes.Steps.{texts_for}
use Rattle.nr_model.proofs.Emitted.{after_all-append, emitted_for-more}
use Rattle.nr_model.proofs.Choices.{look_reads}
use Rattle.nr_model.proofs.NodesPartsEmitted.{after_reads}
use Rattle.nr_entry.specs.Jobs.{item_of, items_of}
use Rattle.nr_entry.specs.declared.entry.Entry.{Entry}
use Rattle.nr_entry.specs.declared.job.Job.{Job}
use Rattle.nr_log_end.specs.declared.standing.Standing.{Standing}
use Rattle.nr_log_end.specs.declared.standing.LogEvent.{LogEvent}
use Rattle.nr_log_end.specs.declared.standing.LogEvent.TheVariants.{Applied, Ran, Opened}
use Rattle.nr_log_end.specs.Standings.{applied_of, opened_of, record_of, passed_of, fetched_with, opened_with, passed_on}
use Rattle.nr_replica.specs.Members.{Member, fresh_member, closed_member, handed_member, AreNumbered, AreReceived, AreDelivered}
use Rattle.nr_replica.specs.Replicas.{ReplicaState, HasRead}
use Rattle.nr_replica.proofs.Kept.{numbered_push, numbered_set}
use Rattle.nr_replica.proofs.Received.{received_numbered}
use Rattle.nr_node.specs.Level.{IsBehind, IsWhole, IsLevel, connection_at, queue_at, emitted_to, workers_of}
use Rattle.nr_node.specs.Advanced.{IsTakenIn, HasNoted}
use Rattle.nr_node.specs.Steps.{nobody}
use Rattle.nr_node.proofs.Lists.{record-append, applied-append, opened-append, opened_still, none_opened, record_opened, applied_opened}
use Rattle.nr_node.proofs.Queues.{behind_more, behind_emitted, behind_handing, whole_handing, behind_closed, behind_fresh, delivered_length, delivered_at, connection_of_queue}

-- what is emitted comes to a queue
come : (q after : Queue) (c d : Connection) (refused : Option ℕ) (server : Server) (emitted_by more : Sequence) (items : Sequence)
    → after ≡ received refused q (texts_for q.connection (emitted_all server items)) → server ≡ after_all fresh emitted_by → more ≡ emitted_by ++ items
    → q.connection ≡ c → d ≡ c → IsBehind q (emitted_for c emitted_by) → IsWhole q (emitted_for c emitted_by)
    → IsBehind after (emitted_for d more) × IsWhole after (emitted_for d more)
come q after c d refused server emitted_by more items got at longer conn same b w =
    let was = λ (x : Connection). emitted_for x emitted_by in
    let both = behind_emitted q emitted_by items refused (subst (λ (x : Connection). IsBehind q (was x)) (sym conn) b)
    (subst (λ (x : Connection). IsWhole q (was x)) (sym conn) w) in
    let queue : received refused q (texts_for q.connection (emitted_all (after_all fresh emitted_by) items)) ≡ after =
    sym (got ∙ ap (λ (x : Server). received refused q (texts_for q.connection (emitted_all x items))) at) in
    let conns : q.connection ≡ d = conn ∙ sym same in
    let text : emitted_for q.connection (emitted_by ++ items) ≡ emitted_for d more = λ i. emitted_for (conns i) (sym longer i) in (
      subst (IsBehind after) text (subst (λ (x : Queue). IsBehind x (emitted_for q.connection (emitted_by ++ items))) queue both.0),
      subst (IsWhole after) text (subst (λ (x : Queue). IsWhole x (emitted_for q.connection (emitted_by ++ items))) queue both.1),
    )

-- what is received leaves each connection with its worker
workers_received : (texts : Connection → List Bytes) (olds news : List Member) → AreReceived texts olds news → workers_of news ≡ workers_of olds
workers_received texts [] [] got = refl
workers_received texts [] (new ∷ news) got = absurd got
workers_received texts (old ∷ olds) [] got = absurd got
workers_received texts (old ∷ olds) (new ∷ news) got =
    λ i. (ap (λ (m : Member). m.worker) got.0.1 i) ∷ workers_received texts olds news got.1 i

-- items are executed by a replica that is up, and what they emit is delivered
pub delivered_level : (s t : Standing) (old new : ReplicaState) (items : Sequence) → IsLevel s old → old.down ≡ false → t.node ≡ s.node
    → record_of t.history ≡ record_of s.history ++ items → new.node ≡ old.node → new.server ≡ after_all old.server items → new.applied ≡ passed_of t
    → AreDelivered (emitted_all old.server items) old.members new.members → opened_of t.history ≡ opened_of s.history → IsLevel t new
delivered_level s t old new items l up node more same server applied delivered still =
    let es = emitted_all old.server items in
    let long = delivered_length es old.members new.members delivered in
    let at = l.server up in
    let each : (serial : ℕ) → serial < length new.members
    → IsBehind (queue_at serial new.members) (emitted_to t serial) × IsWhole (queue_at serial new.members) (emitted_to t serial) =
    λ serial below.
    let before : serial < length old.members = omega (arith, long) in
    let got = delivered_at es old.members new.members delivered serial before in
    come (queue_at serial old.members) (queue_at serial new.members) (connection_at s.node serial) (connection_at t.node serial) got.0 old.server
    (record_of s.history) (record_of t.history) items got.1 at more
    (connection_of_queue old.node old.members l.named serial before ∙ ap (λ (n : ℕ). connection_at n serial) (sym l.node))
    (ap (λ (n : ℕ). connection_at n serial) node) (l.behind serial before) (l.whole up serial before) in
    record {
      node = node ∙ l.node ∙ sym same;
      named = subst (λ (n : ℕ). AreNumbered n 0 new.members) (sym same) (received_numbered old.node 0 (λ c. texts_for c es) old.members new.members l.named delivered);
      opened = workers_received (λ c. texts_for c es) old.members new.members delivered ∙ l.opened ∙ sym still;
      server = λ _. server ∙ ap (λ (x : Server). after_all x items) at ∙ sym (after_all-append fresh (record_of s.history) items) ∙ ap (after_all fresh) (sym more);
      applied = λ _. applied;
      behind = λ serial below. (each serial below).0;
      whole = λ _ serial below. (each serial below).1;
    }

-- one that is down keeps its connections
pub down_level : (s t : Standing) (old new : ReplicaState) (items : Sequence) → IsLevel s old → new.node ≡ old.node → new.members ≡ old.members → new.down ≡ true
    → t.node ≡ s.node → record_of t.history ≡ record_of s.history ++ items → opened_of t.history ≡ opened_of s.history → IsLevel t new
down_level s t old new items l same members down node more still = record {
  node = node ∙ l.node ∙ sym same;
  named = subst (λ (n : ℕ). AreNumbered n 0 new.members) (sym same) (subst (AreNumbered old.node 0) (sym members) l.named);
  opened = ap workers_of members ∙ l.opened ∙ sym still;
  server = λ up. absurd (cc (up, down));
  applied = λ up. absurd (cc (up, down));
  behind = λ serial below.
      let before : serial < length old.members = omega (arith, ap length members) in
      let c = connection_at s.node serial in
      let text : emitted_to t serial ≡ emitted_for c (record_of s.history ++ items) = λ i. emitted_for (connection_at (node i) serial) (more i) in
      subst (λ (ms : List Member). IsBehind (queue_at serial ms) (emitted_to t serial)) (sym members)
      (subst (IsBehind (queue_at serial old.members)) (sym (text ∙ emitted_for-more c (record_of s.history) items))
      (behind_more (queue_at serial old.members) (emitted_to s serial) _ (l.behind serial before)));
  whole = λ up. absurd (cc (up, down));
}

-- the record of one entry more
pub record_passed : (s : Standing) (e : Entry) → record_of (passed_on (fetched_with e s)).history ≡ record_of s.history ++ entry_items (items_of e.jobs.items)
record_passed s e =
    record-append s.history (Applied e ∷ []) ∙ ap (λ (items : Sequence). record_of s.history ++ items) (append-nil (entry_items (items_of e.jobs.items)))

one_passed : (s : Standing) (e : Entry) → passed_of (passed_on (fetched_with e s)) ≡ suc (passed_of s)
one_passed s e =
    let more : length (applied_of s.history) + 1 ≡ suc (length (applied_of s.history)) = omega arith in
    ap length (applied-append s.history (Applied e ∷ [])) ∙ length-append (applied_of s.history) (e ∷ []) ∙ more

-- an entry is taken in, and passed
pub passed_level : (s t : Standing) (e : Entry) (old new : ReplicaState) → t ≡ passed_on (fetched_with e s) → IsTakenIn e old new → IsLevel s old → IsLevel t new
passed_level s t e old new is taken l =
    let items = entry_items (items_of e.jobs.items) in
    let p = passed_on (fetched_with e s) in
    let still = opened_still s.history (Applied e ∷ []) refl in
    subst (λ (x : Standing). IsLevel x new) (sym is) (elim taken [
      | inl down ↦ down_level s p old new items l (ap (λ (r : ReplicaState). r.node) down.1) (ap (λ (r : ReplicaState). r.members) down.1)
          (ap (λ (r : ReplicaState). r.down) down.1 ∙ down.0) refl (record_passed s e) still
      | inr up ↦ elim up.1 [
        | inl applied ↦ delivered_level s p old new items l up.0 refl (record_passed s e) (ap (λ (r : ReplicaState). r.node) applied.state)
            (ap (λ (r : ReplicaState). r.server) applied.state)
            (ap (λ (r : ReplicaState). r.applied) applied.state ∙ ap suc (l.applied up.0) ∙ sym (one_passed s e)) applied.delivered still
        | inr falls ↦ down_level s p old new items l (ap (λ (r : ReplicaState). r.node) falls.1) (ap (λ (r : ReplicaState). r.members) falls.1)
            (ap (λ (r : ReplicaState). r.down) falls.1) refl (record_passed s e) still
      ]
    ])

-- the record of reads more
pub record_noted : (ran : List Job) → record_of (map Ran ran) ≡ items_of ran
record_noted [] = refl
record_noted (job ∷ ran) = ap (λ (items : Sequence). item_of job ∷ items) (record_noted ran)

pub none_applied : (ran : List Job) → applied_of (map Ran ran) ≡ []
none_applied [] = refl
none_applied (job ∷ ran) = none_applied ran

pub applied_noted : (history : List LogEvent) (ran : List Job) → applied_of (history ++ map Ran ran) ≡ applied_of history
applied_noted history ran =
    applied-append history (map Ran ran) ∙ ap (λ (es : List Entry). applied_of history ++ es) (none_applied ran) ∙ append-nil (applied_of history)

-- reads are run, and noted
pub noted_level : (s t : Standing) (ran : List Job) (old new : ReplicaState) → HasNoted ran s t → HasRead old new → items_of ran ≡ read_jobs (items_of old.waiting)
    → old.down ≡ false → IsLevel s old → IsLevel t new
noted_level s t ran old new noted read ran_is up l =
    let items = read_jobs (items_of old.waiting) in
    let history : t.history ≡ s.history ++ map Ran ran = ap (λ (x : Standing). x.history) noted.standing in
    let more : record_of t.history ≡ record_of s.history ++ items =
    ap record_of history ∙ record-append s.history (map Ran ran) ∙ ap (λ (xs : Sequence). record_of s.history ++ xs) (record_noted ran ∙ ran_is) in
    delivered_level s t old new items l up (ap (λ (x : Standing). x.node) noted.standing) more (ap (λ (r : ReplicaState). r.node) read.state)
    (ap (λ (r : ReplicaState). r.server) read.state ∙ sym (after_reads old.server items (look_reads (items_of old.waiting))))
    (ap (λ (r : ReplicaState). r.applied) read.state ∙ l.applied up ∙ sym (ap length (ap applied_of history ∙ applied_noted s.history ran))) read.delivered
    (ap opened_of history ∙ opened_still s.history (map Ran ran) (none_opened ran))

-- nothing changed but a tail that was met, what waits to be executed, or the shares
pub same_level : (s t : Standing) (old new : ReplicaState) → t.node ≡ s.node → t.history ≡ s.history → new.node ≡ old.node → new.members ≡ old.members
    → new.down ≡ old.down → new.server ≡ old.server → new.applied ≡ old.applied → IsLevel s old → IsLevel t new
same_level s t old new node history same members down server applied l = record {
  node = node ∙ l.node ∙ sym same;
  named = subst (λ (n : ℕ). AreNumbered n 0 new.members) (sym same) (subst (AreNumbered old.node 0) (sym members) l.named);
  opened = ap workers_of members ∙ l.opened ∙ ap opened_of (sym history);
  server = λ up. server ∙ l.server (sym down ∙ up) ∙ ap (λ (h : List LogEvent). after_all fresh (record_of h)) (sym history);
  applied = λ up. applied ∙ l.applied (sym down ∙ up) ∙ ap (λ (h : List LogEvent). length (applied_of h)) (sym history);
  behind = λ serial below.
      let before : serial < length old.members = omega (arith, ap length members) in
      let text : emitted_to t serial ≡ emitted_to s serial = λ i. emitted_for (connection_at (node i) serial) (record_of (history i)) in
      subst (λ (ms : List Member). IsBehind (queue_at serial ms) (emitted_to t serial)) (sym members)
      (subst (IsBehind (queue_at serial old.members)) (sym text) (l.behind serial before));
  whole = λ up serial below.
      let before : serial < length old.members = omega (arith, ap length members) in
      let text : emitted_to t serial ≡ emitted_to s serial = λ i. emitted_for (connection_at (node i) serial) (record_of (history i)) in
      subst (λ (ms : List Member). IsWhole (queue_at serial ms) (emitted_to t serial)) (sym members)
      (subst (IsWhole (queue_at serial old.members)) (sym text) (l.whole (sym down ∙ up) serial before));
}

-- nothing changed but whether the server is lent
pub lent_level : (s : Standing) (r : ReplicaState) (lent : Bool) → IsLevel s r → IsLevel s (record r { lent = lent })
lent_level s r lent l = record {
  node = l.node;
  named = l.named;
  opened = l.opened;
  server = l.server;
  applied = l.applied;
  behind = l.behind;
  whole = l.whole;
}

-- a connection more, for which nothing was emitted
pub opened_level : (s : Standing) (old new : ReplicaState) (worker limit seen : ℕ)
    → new ≡ record old { members = old.members ++ fresh_member (connection_at old.node (length old.members)) worker limit ∷ [] }
    → emitted_to s (length old.members) ≡ [] → IsLevel s old → IsLevel (opened_with worker seen s) new
opened_level s old new worker limit seen is silent l =
    let c = connection_at old.node (length old.members) in
    let m = fresh_member c worker limit in
    let news = old.members ++ m ∷ [] in
    let both : (P : Queue → Bytes → Type 0) → P m.outbox [] → ((serial : ℕ) → serial < length old.members → P (queue_at serial old.members) (emitted_to s serial))
    → (serial : ℕ) → serial < length news → P (queue_at serial news) (emitted_to (opened_with worker seen s) serial) =
    λ P new_one olds serial below.
    subst (λ (items : Sequence). P (queue_at serial news) (emitted_for (connection_at s.node serial) items)) (sym (record_opened s worker))
    (elim (eqb_tells serial (length old.members)) [
      | inl e ↦ subst (λ (n : ℕ). P (queue_at n news) (emitted_to s n)) (sym e.1)
          (subst (P (queue_at (length old.members) news)) (sym silent)
          (subst (λ (x : Member). P x.outbox []) (sym (get_or_at old.members m [] nobody (length old.members) refl)) new_one))
      | inr e ↦
          let before : serial < length old.members = omega (arith, length-append old.members (m ∷ []), e.1) in
          subst (λ (x : Member). P x.outbox (emitted_to s serial)) (sym (get_or_append_left old.members (m ∷ []) nobody serial before)) (olds serial before)
    ]) in
    let fresh_one = behind_fresh c limit in
    subst (IsLevel (opened_with worker seen s)) (sym is) record {
      node = l.node;
      named = numbered_push old.node 0 old.members m l.named (ap (connection_at old.node) (omega arith));
      opened = map-append (λ (x : Member). x.worker) old.members (m ∷ []) ∙ ap (λ (workers : List ℕ). workers ++ worker ∷ []) l.opened
          ∙ sym (opened-append s.history (Opened worker ∷ []));
      server = λ up. l.server up ∙ ap (after_all fresh) (sym (record_opened s worker));
      applied = λ up. l.applied up ∙ ap length (sym (applied_opened s worker));
      behind = both IsBehind fresh_one.0 l.behind;
      whole = λ up. both IsWhole fresh_one.1 (l.whole up);
    }

-- a connection in the place of another of its worker leaves each with its worker
workers_set : (members : List Member) (i : ℕ) (m : Member) → m.worker ≡ (slice_index_or members i nobody).worker
    → workers_of (slice_set members i m) ≡ workers_of members
workers_set [] i m same = refl
workers_set (x ∷ xs) zero m same = ap (λ (worker : ℕ). worker ∷ workers_of xs) same
workers_set (x ∷ xs) (suc i) m same = ap (λ (workers : List ℕ). x.worker ∷ workers) (workers_set xs i m same)

-- one connection changed
set_level : (s : Standing) (old new : ReplicaState) (i : ℕ) (m : Member) → i < length old.members → new ≡ record old { members = slice_set old.members i m }
    → m.outbox.connection ≡ (queue_at i old.members).connection → m.worker ≡ (slice_index_or old.members i nobody).worker → (IsBehind (queue_at i old.members) (emitted_to s i) → IsBehind m.outbox (emitted_to s i))
    → (IsBehind (queue_at i old.members) (emitted_to s i) → IsWhole (queue_at i old.members) (emitted_to s i) → IsWhole m.outbox (emitted_to s i))
    → IsLevel s old → IsLevel s new
set_level s old new i m there is same serves behind whole l =
    let news = slice_set old.members i m in
    let long = length-set old.members i m in
    let both : (P : Queue → Bytes → Type 0) → P m.outbox (emitted_to s i) → ((serial : ℕ) → serial < length old.members → P (queue_at serial old.members) (emitted_to s serial))
    → (serial : ℕ) → serial < length news → P (queue_at serial news) (emitted_to s serial) =
    λ P here olds serial below.
    let before : serial < length old.members = omega (arith, long) in
    elim (eqb_tells serial i) [
      | inl e ↦ subst (λ (n : ℕ). P (queue_at n news) (emitted_to s n)) (sym e.1)
          (subst (λ (x : Member). P x.outbox (emitted_to s i)) (sym (get_or-set_same old.members i m nobody there)) here)
      | inr e ↦ subst (λ (x : Member). P x.outbox (emitted_to s serial)) (sym (get_or-set_other old.members i serial m nobody e.1)) (olds serial before)
    ] in
    subst (IsLevel s) (sym is) record {
      node = l.node;
      named = numbered_set old.node 0 i old.members nobody m l.named there same;
      opened = workers_set old.members i m serves ∙ l.opened;
      server = l.server;
      applied = l.applied;
      behind = both IsBehind (behind (l.behind i there)) l.behind;
      whole = λ up. both IsWhole (whole (l.behind i there) (l.whole up i there)) (l.whole up);
    }

-- one is closed, and some of what waits for one is handed out
pub closed_level : (s : Standing) (old new : ReplicaState) (i : ℕ) → i < length old.members
    → new ≡ record old { members = slice_set old.members i (closed_member (slice_index_or old.members i nobody)) } → IsLevel s old → IsLevel s new
closed_level s old new i there is l =
    let none = behind_closed (queue_at i old.members).connection (emitted_to s i) in
    set_level s old new i (closed_member (slice_index_or old.members i nobody)) there is refl refl (λ _. none.0) (λ _ _. none.1) l

pub handed_level : (s : Standing) (old new : ReplicaState) (i most : ℕ) → i < length old.members
    → new ≡ record old { members = slice_set old.members i (handed_member most (slice_index_or old.members i nobody)) } → IsLevel s old → IsLevel s new
handed_level s old new i most there is l =
    let q = queue_at i old.members in
    set_level s old new i (handed_member most (slice_index_or old.members i nobody)) there is refl refl (behind_handing most q (emitted_to s i))
    (whole_handing most q (emitted_to s i)) l
