-- The jobs of a connection that are left over at its node, and what each step of the node makes of them.
use Rattle.std.proofs.Common.{◌≡◌, ◌≢◌, ℕ, zero, suc, ◌<◌, Bool, true, false, not, inl, inr, List, [], ◌∷◌, ◌++◌, length, map, take, drop, slice_set, refl, ap, sym, ◌∙◌, subst, arith, append_assoc}
use Rattle.std.specs.Prelude.{◌&&◌, ◌==◌, filter, flat_map, nat_lt, None, is_some, option_to_list}
use Rattle.std.specs.List.{AllByRecursion, list_any}
use Rattle.std.proofs.lemmas.Bool.{cond_both, or_parts, lt-ltb, false_from_ne_true}
use Rattle.std.proofs.lemmas.Bool.Decides.{eqb_tells}
use Rattle.std.proofs.lemmas.List.{append-nil, take-append-drop, get_or-set_same, get_or-set_other}
use Rattle.std.proofs.lemmas.List.Elements.{filter-append}
use Rattle.nr_model.specs.Bytes.{Bytes}
use Rattle.nr_model.specs.Keyspace.{moment}
use Rattle.nr_model.specs.Items.{Connection, same_connection, End, Item}
use Rattle.nr_model.specs.Sequential.Events.{Emission}
use Rattle.nr_model.specs.Servers.{Server, after_all, emitted_all}
use Rattle.nr_model.specs.Entries.{Jobs, entry_items, entry_jobs, left_by_entry, read_jobs, left_by_reads}
use Rattle.nr_model.specs.Asked.{own_jobs, close_number, cut_by}
use Rattle.nr_model.specs.Connections.{Setup}
use Rattle.nr_model.specs.Nodes.{Client, fresh_client, Slot, Empty, Posted, Lifted, Answered, Worker, fresh_worker, Node, Logged, worker_at, client_at, with_worker}
use Rattle.nr_model.specs.Nodes.Steps.{Cut, Refused, posted_jobs, posted_worker, most_batch_jobs, lifted_node, fed_client, fed_node, asked_next, delivered_to, executed_from, with_executed, dropped_jobs, fallen_client, fallen, passing, is_owed, advanced, with_reads, emptied, cleared, collected_node, first_free, close_job, dropped_at, closed_client, closed_node, has_batch, cut_client, revived}
use Rattle.nr_model.proofs.JobLists.{same_is, same_self, own_jobs_from, no_jobs_from}
use Rattle.nr_model.proofs.Choices.{entry_apart, reads_apart}
use Rattle.nr_model.proofs.Asked.{others_stay, own_dropped, close_other, close_own}
use Rattle.nr_model.proofs.NodesOwnLists.{All-weaker, none_own}
use Rattle.nr_model.proofs.NodesOwnAdvance.{by_advance, next_entry}
use Rattle.nr_model.proofs.NodesOwnShape.{client_in, connection_at, IsOf, IsAt, IsShaped, client_mapped, client_before, posted_owing, posted_cleared, worker_in, executed_at, worker_here, worker_other}
use Rattle.nr_model.proofs.NodesOwnSessions.{Stands, Takes, takes_none, stands_on, noted, stands_fallen, stands_same, stands_fed, stands_closed, stands_revived, jobs_next}

-- a client without its queue, and without when that was cut
abbrev pub bare : Client → Client
bare client = record client { fell = false; queue = record { connection = connection_at 0 0; waiting = []; handed = 0; limit = 0; cut = false } }

-- a connection's jobs at a worker: those of the posted batch, and then those that it hasn't posted
abbrev pub at_worker : Connection → Worker → Jobs
at_worker c worker = own_jobs c (posted_jobs worker.slot) ++ own_jobs c worker.pending

-- its jobs at its node: those that wait there, and then those at its worker
abbrev pub left_of : ℕ → ℕ → Node → Jobs
left_of n s node = own_jobs (connection_at n s) node.waiting ++ at_worker (connection_at n s) (worker_at (client_at s node).worker node)

-- how its jobs stand
abbrev pub StandsAt : ℕ → ℕ → Node → Jobs → Jobs → Bytes → Bool → Type 0
StandsAt n s node done asked text shut = Stands (bare (client_at s node)) node.down (nat_lt s node.since) (left_of n s node) done asked text shut

-- which jobs a connection doesn't have
pub none_where : (P : Item → Type 0) (c : Connection) (jobs : Jobs) → ((job : Item) → P job → job.connection ≡ c → ⊥) → AllByRecursion P jobs → own_jobs c jobs ≡ []
none_where P c jobs none a =
    none_own c jobs (All-weaker P (λ (job : Item). same_connection job.connection c ≡ false)
    (λ job p. false_from_ne_true (same_connection job.connection c) (λ e. none job p (same_is job.connection c e))) jobs a)

pub none_elsewhere : (n : ℕ) (clients : List Client) (c : Connection) (jobs : Jobs) → c.node ≢ n → AllByRecursion (IsOf n clients) jobs → own_jobs c jobs ≡ []
none_elsewhere n clients c jobs other a =
    none_where (IsOf n clients) c jobs (λ job is e. other (sym (ap (λ (d : Connection). d.node) e) ∙ is.node)) a

pub none_at : (n v s : ℕ) (clients : List Client) (jobs : Jobs) → (client_in clients s).worker ≢ v → AllByRecursion (IsAt n v clients) jobs
    → own_jobs (connection_at n s) jobs ≡ []
none_at n v s clients jobs other a =
    none_where (IsAt n v clients) (connection_at n s) jobs
    (λ job is e. other (sym (ap (λ (d : Connection). (client_in clients d.serial).worker) e) ∙ is.worker)) a

-- two connections of a node
pub others : (n s r : ℕ) → r ≢ s → same_connection (connection_at n s) (connection_at n r) ≡ false
others n s r other =
    false_from_ne_true (same_connection (connection_at n s) (connection_at n r))
    (λ e. other (sym (ap (λ (d : Connection). d.serial) (same_is (connection_at n s) (connection_at n r) e))))

own-append : (c : Connection) (xs ys : Jobs) → own_jobs c (xs ++ ys) ≡ own_jobs c xs ++ own_jobs c ys
own-append c xs ys = filter-append (λ (job : Item). same_connection job.connection c) xs ys

-- the same client of a node after a step
stands_at : (n s : ℕ) (node after : Node) (done asked : Jobs) (text : Bytes) (shut : Bool) (done_after : Jobs)
    → bare (client_at s after) ≡ bare (client_at s node) → after.down ≡ node.down → after.since ≡ node.since
    → (node.down ≡ false → Takes done (left_of n s node) done_after (left_of n s after)) → (node.down ≡ true → done_after ≡ done)
    → StandsAt n s node done asked text shut → StandsAt n s after done_after asked text shut
stands_at n s node after done asked text shut done_after client down since up gone is =
    let old = nat_lt s node.since in
    subst (λ (b : Bool). Stands (bare (client_at s after)) b (nat_lt s after.since) (left_of n s after) done_after asked text shut) (sym down)
    (subst (λ (k : ℕ). Stands (bare (client_at s after)) node.down (nat_lt s k) (left_of n s after) done_after asked text shut) (sym since)
    (subst (λ (x : Client). Stands x node.down old (left_of n s after) done_after asked text shut) (sym client)
    (stands_on (bare (client_at s node)) node.down old (left_of n s node) done asked text shut (left_of n s after) done_after up gone is)))

-- with the same left over, and nothing executed
stands_left : (n s : ℕ) (node after : Node) (done asked : Jobs) (text : Bytes) (shut : Bool)
    → bare (client_at s after) ≡ bare (client_at s node) → after.down ≡ node.down → after.since ≡ node.since
    → (node.down ≡ false → left_of n s after ≡ left_of n s node)
    → StandsAt n s node done asked text shut → StandsAt n s after done asked text shut
stands_left n s node after done asked text shut client down since left is =
    stands_at n s node after done asked text shut done client down since (λ up. takes_none done (left_of n s node) (left_of n s after) (left up))
    (λ gone. refl) is

-- what is at a client's worker, where one worker is changed
at_set : (c : Connection) (workers : List Worker) (v w : ℕ) (worker : Worker) → v < length workers → (w ≡ v → at_worker c worker ≡ at_worker c (worker_in workers v))
    → at_worker c (worker_in (slice_set workers v worker) w) ≡ at_worker c (worker_in workers w)
at_set c workers v w worker there same =
    elim (eqb_tells w v) [
      | inl e ↦ ap (λ (k : ℕ). at_worker c (worker_in (slice_set workers v worker) k)) e.1
          ∙ ap (at_worker c) (worker_here workers v worker there)
          ∙ same e.1
          ∙ ap (λ (k : ℕ). at_worker c (worker_in workers k)) (sym e.1)
      | inr e ↦ ap (at_worker c) (worker_other workers v w worker e.1)
    ]

at_executed : (c : Connection) (clients : List Client) (jobs : Jobs) (workers : List Worker) (w : ℕ)
    → at_worker c (worker_in (executed_from 0 clients jobs workers) w) ≡ at_worker c (worker_in workers w)
at_executed c clients jobs workers w =
    ap (at_worker c) (executed_at 0 clients jobs workers w)
    ∙ ap (λ (js : Jobs). own_jobs c js ++ own_jobs c (worker_in workers w).pending) (posted_owing _ (worker_in workers w).slot)

-- a step that leaves the clients, the workers and what waits
pub stands_still : (n s : ℕ) (node after : Node) (done asked : Jobs) (text : Bytes) (shut : Bool) → after.clients ≡ node.clients → after.workers ≡ node.workers
    → after.waiting ≡ node.waiting → after.down ≡ node.down → after.since ≡ node.since → StandsAt n s node done asked text shut
    → StandsAt n s after done asked text shut
stands_still n s node after done asked text shut clients workers waiting down since is =
    stands_left n s node after done asked text shut (ap (λ (cs : List Client). bare (client_in cs s)) clients) down since
    (λ up i. own_jobs (connection_at n s) (waiting i) ++ at_worker (connection_at n s) (worker_in (workers i) (client_in (clients i) s).worker)) is

-- an open
pub stands_opened : (n s : ℕ) (client : Client) (node : Node) (done asked : Jobs) (text : Bytes) (shut : Bool) → s < length node.clients
    → StandsAt n s node done asked text shut → StandsAt n s (record node { clients = node.clients ++ client ∷ [] }) done asked text shut
stands_opened n s client node done asked text shut there is =
    let before = client_before node.clients client s there in
    stands_left n s node (record node { clients = node.clients ++ client ∷ [] }) done asked text shut (ap bare before) refl refl
    (λ up. ap (λ (x : Client). own_jobs (connection_at n s) node.waiting ++ at_worker (connection_at n s) (worker_at x.worker node)) before) is

-- a post
pub stands_posted : (n s v : ℕ) (node : Node) (done asked : Jobs) (text : Bytes) (shut : Bool) → v < length node.workers → (worker_at v node).slot ≡ Empty
    → StandsAt n s node done asked text shut → StandsAt n s (with_worker v (posted_worker (worker_at v node)) node) done asked text shut
stands_posted n s v node done asked text shut there free is =
    let c = connection_at n s in
    let worker = worker_at v node in
    let whole : own_jobs c (take most_batch_jobs worker.pending) ++ own_jobs c (drop most_batch_jobs worker.pending) ≡ own_jobs c worker.pending =
    sym (own-append c (take most_batch_jobs worker.pending) (drop most_batch_jobs worker.pending)) ∙ ap (own_jobs c) (take-append-drop most_batch_jobs worker.pending) in
    let same : at_worker c (posted_worker worker) ≡ at_worker c worker =
    whole ∙ sym (ap (λ (x : Slot). own_jobs c (posted_jobs x) ++ own_jobs c worker.pending) free) in
    stands_left n s node (with_worker v (posted_worker worker) node) done asked text shut refl refl refl
    (λ up. ap (λ (js : Jobs). own_jobs c node.waiting ++ js) (at_set c node.workers v (client_at s node).worker (posted_worker worker) there (λ e. same))) is

-- a slot that holds the same posted batch
pub stands_slot : (n s v : ℕ) (slot : Slot) (node : Node) (done asked : Jobs) (text : Bytes) (shut : Bool) → v < length node.workers
    → (node.down ≡ false → posted_jobs slot ≡ posted_jobs (worker_at v node).slot)
    → StandsAt n s node done asked text shut → StandsAt n s (with_worker v (record (worker_at v node) { slot = slot }) node) done asked text shut
stands_slot n s v slot node done asked text shut there same is =
    let c = connection_at n s in
    let worker = worker_at v node in
    stands_left n s node (with_worker v (record worker { slot = slot }) node) done asked text shut refl refl refl
    (λ up. ap (λ (js : Jobs). own_jobs c node.waiting ++ js) (at_set c node.workers v (client_at s node).worker (record worker { slot = slot }) there
    (λ e. ap (λ (js : Jobs). own_jobs c js ++ own_jobs c worker.pending) (same up)))) is

-- a lift
pub stands_lifted : (n s v : ℕ) (node : Node) (done asked : Jobs) (text : Bytes) (shut : Bool) → v < length node.workers
    → AllByRecursion (IsAt n v node.clients) (posted_jobs (worker_at v node).slot)
    → StandsAt n s node done asked text shut → StandsAt n s (lifted_node v node) done asked text shut
stands_lifted n s v node done asked text shut there at is =
    let c = connection_at n s in
    let worker = worker_at v node in
    let w = (client_at s node).worker in
    let jobs = posted_jobs worker.slot in
    let lifted : Worker = record worker { slot = Lifted (length jobs) } in
    let more = own-append c node.waiting jobs in
    stands_left n s node (lifted_node v node) done asked text shut refl refl refl
    (λ up. elim (eqb_tells w v) [
      | inl e ↦ let here : at_worker c (worker_in (slice_set node.workers v lifted) w) ≡ own_jobs c worker.pending =
          ap (λ (k : ℕ). at_worker c (worker_in (slice_set node.workers v lifted) k)) e.1 ∙ ap (at_worker c) (worker_here node.workers v lifted there) in
          (λ i. more i ++ here i)
          ∙ append_assoc (own_jobs c node.waiting) (own_jobs c jobs) (own_jobs c worker.pending)
          ∙ ap (λ (k : ℕ). own_jobs c node.waiting ++ at_worker c (worker_at k node)) (sym e.1)
      | inr e ↦ let none : own_jobs c jobs ≡ [] = none_at n v s node.clients jobs e.1 at in
          let waits = more ∙ ap (λ (js : Jobs). own_jobs c node.waiting ++ js) none ∙ append-nil (own_jobs c node.waiting) in
          let other : at_worker c (worker_in (slice_set node.workers v lifted) w) ≡ at_worker c (worker_at w node) =
          ap (at_worker c) (worker_other node.workers v w lifted e.1) in
          (λ i. waits i ++ other i)
    ]) is

-- what is taken, and what is left
taken_apart : (done taken left behind waiting left_after : Jobs) → waiting ≡ taken ++ left → left_after ≡ left ++ behind
    → Takes done (waiting ++ behind) (done ++ taken) left_after
taken_apart done taken left behind waiting left_after e after = record {
  taken = taken;
  done_is = refl;
  left_is = ap (λ (js : Jobs). taken ++ js) after ∙ sym (append_assoc taken left behind) ∙ ap (λ (js : Jobs). js ++ behind) (sym e);
}

-- a reserve
pub stands_reserved : (n s : ℕ) (node after : Node) (done asked : Jobs) (text : Bytes) (shut : Bool)
    → after.clients ≡ node.clients → after.workers ≡ node.workers → after.waiting ≡ left_by_entry node.waiting → after.down ≡ node.down
    → after.since ≡ node.since → node.down ≡ false
    → StandsAt n s node done asked text shut → StandsAt n s after (done ++ own_jobs (connection_at n s) (entry_jobs node.waiting)) asked text shut
stands_reserved n s node after done asked text shut clients workers waiting down since up is =
    let c = connection_at n s in
    let taken = own_jobs c (entry_jobs node.waiting) in
    let behind = at_worker c (worker_at (client_at s node).worker node) in
    let left : left_of n s after ≡ own_jobs c (left_by_entry node.waiting) ++ behind =
    λ i. own_jobs c (waiting i) ++ at_worker c (worker_in (workers i) (client_in (clients i) s).worker) in
    stands_at n s node after done asked text shut (done ++ taken) (ap (λ (cs : List Client). bare (client_in cs s)) clients) down since
    (λ e. taken_apart done taken (own_jobs c (left_by_entry node.waiting)) behind (own_jobs c node.waiting) (left_of n s after) (entry_apart c node.waiting) left)
    (λ e. absurd (cc (e, up))) is

-- a client of those that get what is emitted
bare_delivered : (cuts : List Cut) (entry : ℕ) (es : List Emission) (clients : List Client) (s : ℕ) → s < length clients
    → bare (client_in (map (delivered_to cuts entry es) clients) s) ≡ bare (client_in clients s)
bare_delivered cuts entry es clients s there = ap bare (client_mapped (delivered_to cuts entry es) clients s there)

-- of the workers' jobs a connection's are at its worker
none_of_workers : (c : Connection) (f : Worker → Jobs) (workers : List Worker) → ((v : ℕ) → own_jobs c (f (worker_in workers v)) ≡ [])
    → own_jobs c (flat_map f workers) ≡ []
none_of_workers c f [] others = refl
none_of_workers c f (worker ∷ workers) others =
    let first = others zero in
    let more = none_of_workers c f workers (λ v. others (suc v)) in
    own-append c (f worker) (flat_map f workers) ∙ (λ i. first i ++ more i)

one_of_workers : (c : Connection) (f : Worker → Jobs) → f fresh_worker ≡ [] → (workers : List Worker) (w : ℕ)
    → ((v : ℕ) → w ≢ v → own_jobs c (f (worker_in workers v)) ≡ []) → own_jobs c (flat_map f workers) ≡ own_jobs c (f (worker_in workers w))
one_of_workers c f none [] w others = sym (ap (own_jobs c) none)
one_of_workers c f none (worker ∷ workers) zero others =
    let more = none_of_workers c f workers (λ v. others (suc v) (λ e. absurd (omega (arith, e)))) in
    own-append c (f worker) (flat_map f workers) ∙ ap (λ (js : Jobs). own_jobs c (f worker) ++ js) more ∙ append-nil (own_jobs c (f worker))
one_of_workers c f none (worker ∷ workers) (suc w) others =
    let first = others zero (λ e. absurd (omega (arith, e))) in
    let more = one_of_workers c f none workers w (λ v differ. others (suc v) (λ e. differ (omega (arith, e)))) in
    own-append c (f worker) (flat_map f workers) ∙ (λ i. first i ++ more i)

-- so what a fall drops of a connection is what is left over of it
dropped_are : (setup : Setup) (n s : ℕ) (node : Node) → s < length node.clients → IsShaped setup n node
    → own_jobs (client_at s node).queue.connection (dropped_jobs node) ≡ left_of n s node
dropped_are setup n s node there shaped =
    let c = connection_at n s in
    let w = (client_at s node).worker in
    let posted = λ (worker : Worker). posted_jobs worker.slot in
    let pending = λ (worker : Worker). worker.pending in
    let first = one_of_workers c posted refl node.workers w
    (λ v differ. none_at n v s node.clients (posted (worker_at v node)) differ (shaped.each v).posted) in
    let second = one_of_workers c pending refl node.workers w
    (λ v differ. none_at n v s node.clients (worker_at v node).pending differ (shaped.each v).pending) in
    ap (λ (d : Connection). own_jobs d (dropped_jobs node)) (shaped.named s there).connection
    ∙ own-append c node.waiting (flat_map posted node.workers ++ flat_map pending node.workers)
    ∙ ap (λ (js : Jobs). own_jobs c node.waiting ++ js)
    (own-append c (flat_map posted node.workers) (flat_map pending node.workers) ∙ (λ i. first i ++ second i))

-- a client of a node that fell
bare_fallen : (setup : Setup) (n s : ℕ) (node : Node) → s < length node.clients → IsShaped setup n node
    → bare (client_at s (fallen node)) ≡ noted (left_of n s node) (bare (client_at s node))
bare_fallen setup n s node there shaped =
    let client = client_at s node in
    ap bare (client_mapped (fallen_client (dropped_jobs node)) node.clients s there)
    ∙ ap (λ (js : Jobs). noted js (bare client)) (dropped_are setup n s node there shaped)

-- the next entry
pub stands_advanced : (setup : Setup) (refused : Refused) (n s : ℕ) (log : List Logged) (node : Node) (done asked : Jobs) (text : Bytes) (shut : Bool)
    → s < length node.clients → IsShaped setup n node
    → StandsAt n s node done asked text shut → StandsAt n s (advanced refused n log node) done asked text shut
stands_advanced setup refused n s log node done asked text shut there shaped is =
    let c = connection_at n s in
    let entry = next_entry log node in
    let w = (client_at s node).worker in
    let items = entry_items entry.jobs in
    let es = emitted_all node.server items in
    let client = bare_delivered refused.cuts node.passed es node.clients s there in
    let worker : (client_in (map (delivered_to refused.cuts node.passed es) node.clients) s).worker ≡ w = ap (λ (x : Client). x.worker) client in
    let moved : Node → Node =
    λ x. passing (record x {
      applied = suc node.applied;
      server = after_all node.server items;
      clients = map (delivered_to refused.cuts node.passed es) node.clients;
    }) in
    by_advance (λ after. StandsAt n s after done asked text shut) refused n log node
    (λ down. is)
    (λ up.
    let old = nat_lt s node.since in
    let left = left_of n s (passing (fallen node)) in
    subst (λ (x : Client). Stands x true old left done asked text shut) (sym (bare_fallen setup n s node there shaped))
    (stands_fallen (bare (client_at s node)) node.down old (left_of n s node) done asked text shut left up is))
    (λ up. cond_both (is_owed n entry node) _ _ (λ (x : Node). StandsAt n s (moved x) done asked text shut)
    (λ own. stands_left n s node (moved (with_executed entry.jobs node)) done asked text shut client refl refl
    (λ e. ap (λ (k : ℕ). own_jobs c node.waiting ++ at_worker c (worker_in (executed_from 0 node.clients entry.jobs node.workers) k)) worker
    ∙ ap (λ (js : Jobs). own_jobs c node.waiting ++ js) (at_executed c node.clients entry.jobs node.workers w)) is)
    (λ other. stands_left n s node (moved node) done asked text shut client refl refl
    (λ e. ap (λ (k : ℕ). own_jobs c node.waiting ++ at_worker c (worker_in node.workers k)) worker) is))

-- a look's reads
pub stands_read : (cuts : List Cut) (tail n s : ℕ) (node : Node) (done asked : Jobs) (text : Bytes) (shut : Bool) → s < length node.clients → node.down ≡ false
    → StandsAt n s node done asked text shut
    → StandsAt n s (with_reads cuts tail node) (done ++ own_jobs (connection_at n s) (read_jobs node.waiting)) asked text shut
stands_read cuts tail n s node done asked text shut there up is =
    let c = connection_at n s in
    let taken = own_jobs c (read_jobs node.waiting) in
    let w = (client_at s node).worker in
    let behind = at_worker c (worker_at w node) in
    let es = emitted_all node.server (read_jobs node.waiting) in
    let client = bare_delivered cuts tail es node.clients s there in
    let worker : (client_in (map (delivered_to cuts tail es) node.clients) s).worker ≡ w = ap (λ (x : Client). x.worker) client in
    let left : left_of n s (with_reads cuts tail node) ≡ own_jobs c (left_by_reads node.waiting) ++ behind =
    ap (λ (k : ℕ). own_jobs c (left_by_reads node.waiting) ++ at_worker c (worker_in (executed_from 0 node.clients (read_jobs node.waiting) node.workers) k)) worker
    ∙ ap (λ (js : Jobs). own_jobs c (left_by_reads node.waiting) ++ js) (at_executed c node.clients (read_jobs node.waiting) node.workers w) in
    stands_at n s node (with_reads cuts tail node) done asked text shut (done ++ taken) client refl refl
    (λ e. taken_apart done taken (own_jobs c (left_by_reads node.waiting)) behind (own_jobs c node.waiting) (left_of n s (with_reads cuts tail node))
    (reads_apart c node.waiting) left)
    (λ e. absurd (cc (e, up))) is

-- a collect
pub stands_collected : (n s v : ℕ) (node : Node) (done asked : Jobs) (text : Bytes) (shut : Bool) → s < length node.clients → v < length node.workers
    → StandsAt n s node done asked text shut → StandsAt n s (collected_node v node) done asked text shut
stands_collected n s v node done asked text shut there stands is =
    let c = connection_at n s in
    let w = (client_at s node).worker in
    let worker = worker_at v node in
    let now : Worker = record worker { slot = cleared worker.slot } in
    let mapped = client_mapped (emptied v) node.clients s there in
    let client : bare (client_in (map (emptied v) node.clients) s) ≡ bare (client_at s node) =
    ap bare mapped ∙ cond_both ((client_at s node).worker == v) _ _ (λ (x : Client). bare x ≡ bare (client_at s node)) (λ e. refl) (λ e. refl) in
    let number : (client_in (map (emptied v) node.clients) s).worker ≡ w = ap (λ (x : Client). x.worker) client in
    stands_left n s node (collected_node v node) done asked text shut client refl refl
    (λ up. ap (λ (k : ℕ). own_jobs c node.waiting ++ at_worker c (worker_in (slice_set node.workers v now) k)) number
    ∙ ap (λ (js : Jobs). own_jobs c node.waiting ++ js) (at_set c node.workers v w now stands
    (λ e. ap (λ (js : Jobs). own_jobs c js ++ own_jobs c worker.pending) (posted_cleared worker.slot)))) is

-- a client that was put in its place, and the others
client_here : (clients : List Client) (s : ℕ) (client : Client) → s < length clients → client_in (slice_set clients s client) s ≡ client
client_here clients s client there = get_or-set_same clients s client (fresh_client 0 0 (record { node = 0; serial = 0 })) there

client_other : (clients : List Client) (s r : ℕ) (client : Client) → r ≢ s → client_in (slice_set clients s client) r ≡ client_in clients r
client_other clients s r client other = get_or-set_other clients s r client (fresh_client 0 0 (record { node = 0; serial = 0 })) other

-- a feed
pub stands_at_fed : (n s time : ℕ) (bytes : Bytes) (node : Node) (done asked : Jobs) (text : Bytes) (shut : Bool) → s < length node.clients
    → (client_at s node).worker < length node.workers → node.down ≡ false → nat_lt s node.since ≡ false → (client_at s node).ended ≡ false
    → (client_at s node).closed ≡ false → StandsAt n s node done asked text shut
    → StandsAt n s (fed_node (connection_at n s) time bytes node) done (asked ++ jobs_next (connection_at n s) (client_at s node) time bytes) (text ++ bytes) shut
stands_at_fed n s time bytes node done asked text shut there stands up recent on unclosed is =
    let c = connection_at n s in
    let client = client_at s node in
    let w = client.worker in
    let worker = worker_at w node in
    let new = jobs_next c client time bytes in
    let now : Worker = record worker { pending = worker.pending ++ new } in
    let here = client_here node.clients s (fed_client client bytes) there in
    let mine : own_jobs c new ≡ new = own_jobs_from c client.next (moment time) (asked_next client bytes).deeds in
    let waits = own_jobs c node.waiting in
    let posted = own_jobs c (posted_jobs worker.slot) in
    let left : left_of n s (fed_node c time bytes node) ≡ left_of n s node ++ new =
    ap (λ (x : Client). waits ++ at_worker c (worker_in (slice_set node.workers w now) x.worker)) here
    ∙ ap (λ (x : Worker). waits ++ at_worker c x) (worker_here node.workers w now stands)
    ∙ ap (λ (js : Jobs). waits ++ (posted ++ js)) (own-append c worker.pending new ∙ ap (λ (js : Jobs). own_jobs c worker.pending ++ js) mine)
    ∙ ap (λ (js : Jobs). waits ++ js) (sym (append_assoc posted (own_jobs c worker.pending) new))
    ∙ sym (append_assoc waits (posted ++ own_jobs c worker.pending) new) in
    stands_same (bare (fed_client client bytes)) (bare (client_at s (fed_node c time bytes node))) node.down (nat_lt s node.since)
    (left_of n s node ++ new) done (asked ++ new) (text ++ bytes) shut (left_of n s (fed_node c time bytes node)) done (asked ++ new) (text ++ bytes) shut
    (ap bare here) left refl refl refl refl
    (stands_fed c (bare client) node.down (nat_lt s node.since) (left_of n s node) done asked text shut time bytes up recent on unclosed is)

-- one of another connection
pub stands_at_fed_other : (n s r time : ℕ) (bytes : Bytes) (node : Node) (done asked : Jobs) (text : Bytes) (shut : Bool) → r ≢ s
    → (client_at s node).worker < length node.workers
    → StandsAt n r node done asked text shut → StandsAt n r (fed_node (connection_at n s) time bytes node) done asked text shut
stands_at_fed_other n s r time bytes node done asked text shut other stands is =
    let c = connection_at n r in
    let client = client_at s node in
    let v = client.worker in
    let worker = worker_at v node in
    let new = jobs_next (connection_at n s) client time bytes in
    let now : Worker = record worker { pending = worker.pending ++ new } in
    let same = client_other node.clients s r (fed_client client bytes) other in
    let none : own_jobs c new ≡ [] = no_jobs_from (connection_at n s) c client.next (moment time) (asked_next client bytes).deeds (others n s r other) in
    let pending = own-append c worker.pending new ∙ ap (λ (js : Jobs). own_jobs c worker.pending ++ js) none ∙ append-nil (own_jobs c worker.pending) in
    stands_left n r node (fed_node (connection_at n s) time bytes node) done asked text shut (ap bare same) refl refl
    (λ up. ap (λ (x : Client). own_jobs c node.waiting ++ at_worker c (worker_in (slice_set node.workers v now) x.worker)) same
    ∙ ap (λ (js : Jobs). own_jobs c node.waiting ++ js) (at_set c node.workers v (client_at r node).worker now stands
    (λ e. ap (λ (js : Jobs). own_jobs c (posted_jobs worker.slot) ++ js) pending))) is

-- a close
pub stands_at_closed : (n s time : ℕ) (node : Node) (done asked : Jobs) (text : Bytes) (shut : Bool) → s < length node.clients
    → (client_at s node).worker < length node.workers → node.down ≡ false → (client_at s node).closed ≡ false
    → StandsAt n s node done asked text shut
    → StandsAt n s (closed_node (connection_at n s) time node) done
    (cut_by (close_job (client_at s node) (connection_at n s) time (dropped_at (client_at s node) (connection_at n s) node)) asked) text true
stands_at_closed n s time node done asked text shut there stands up unclosed is =
    let c = connection_at n s in
    let client = client_at s node in
    let w = client.worker in
    let worker = worker_at w node in
    let dropped = own_jobs c worker.pending in
    let job = close_job client c time dropped in
    let none = not (is_some client.lost) && (client.ended && length dropped == 0) in
    let mine : Item = record { connection = c; number = close_number (first_free client) dropped; moment = moment time; deed = End None } in
    let kept = filter (λ (j : Item). not (same_connection j.connection c)) worker.pending in
    let now : Worker = record worker { pending = kept ++ option_to_list job } in
    let here = client_here node.clients s (closed_client client) there in
    let waits = own_jobs c node.waiting in
    let posted = own_jobs c (posted_jobs worker.slot) in
    let pending : own_jobs c (kept ++ option_to_list job) ≡ option_to_list job =
    own-append c kept (option_to_list job) ∙ ap (λ (js : Jobs). js ++ own_jobs c (option_to_list job)) (own_dropped c worker.pending)
    ∙ close_own none mine c (same_self c) in
    let left : left_of n s (closed_node c time node) ≡ (waits ++ posted) ++ option_to_list job =
    ap (λ (x : Client). waits ++ at_worker c (worker_in (slice_set node.workers w now) x.worker)) here
    ∙ ap (λ (x : Worker). waits ++ at_worker c x) (worker_here node.workers w now stands)
    ∙ ap (λ (js : Jobs). waits ++ (posted ++ js)) pending
    ∙ sym (append_assoc waits posted (option_to_list job)) in
    let before : left_of n s node ≡ (waits ++ posted) ++ dropped = sym (append_assoc waits posted dropped) in
    stands_same (bare (closed_client client)) (bare (client_at s (closed_node c time node))) node.down (nat_lt s node.since)
    ((waits ++ posted) ++ option_to_list job) done (cut_by job asked) text true
    (left_of n s (closed_node c time node)) done (cut_by job asked) text true
    (ap bare here) left refl refl refl refl
    (stands_closed_bare c client node.down (nat_lt s node.since) (waits ++ posted) dropped done asked text shut time up unclosed
    (subst (λ (js : Jobs). Stands (bare client) node.down (nat_lt s node.since) js done asked text shut) before is))
  where
    stands_closed_bare : (c : Connection) (client : Client) (down old : Bool) (kept dropped done asked : Jobs) (text : Bytes) (shut : Bool) (time : ℕ)
        → down ≡ false → client.closed ≡ false → Stands (bare client) down old (kept ++ dropped) done asked text shut
        → Stands (bare (closed_client client)) down old (kept ++ option_to_list (close_job client c time dropped)) done (cut_by (close_job client c time dropped) asked) text true
    stands_closed_bare c client down old kept dropped done asked text shut time up unclosed is =
        let s = stands_closed c (bare client) down old kept dropped done asked text shut time up unclosed is in
        record {
          own = s.own;
          ahead = s.ahead;
          begun = s.begun;
          lost = λ was still. absurd (cc still);
          none = λ going. refl;
          nothing = λ e back still. absurd (cc still);
          numbers = s.numbers;
          shut_is = s.shut_is;
          counted = s.counted;
          session = λ still. absurd (cc still);
        }

-- one of another connection
pub stands_at_closed_other : (n s r time : ℕ) (node : Node) (done asked : Jobs) (text : Bytes) (shut : Bool) → r ≢ s
    → (client_at s node).worker < length node.workers
    → StandsAt n r node done asked text shut → StandsAt n r (closed_node (connection_at n s) time node) done asked text shut
stands_at_closed_other n s r time node done asked text shut other stands is =
    let d = connection_at n s in
    let c = connection_at n r in
    let client = client_at s node in
    let v = client.worker in
    let worker = worker_at v node in
    let dropped = own_jobs d worker.pending in
    let job = close_job client d time dropped in
    let mine : Item = record { connection = d; number = close_number (first_free client) dropped; moment = moment time; deed = End None } in
    let kept = filter (λ (j : Item). not (same_connection j.connection d)) worker.pending in
    let now : Worker = record worker { pending = kept ++ option_to_list job } in
    let same = client_other node.clients s r (closed_client client) other in
    let apart = others n s r other in
    let none : own_jobs c (option_to_list job) ≡ [] = close_other (not (is_some client.lost) && (client.ended && length dropped == 0)) mine c apart in
    let pending = own-append c kept (option_to_list job) ∙ ap (λ (js : Jobs). own_jobs c kept ++ js) none ∙ append-nil (own_jobs c kept)
    ∙ others_stay d c worker.pending apart in
    stands_left n r node (closed_node d time node) done asked text shut (ap bare same) refl refl
    (λ up. ap (λ (x : Client). own_jobs c node.waiting ++ at_worker c (worker_in (slice_set node.workers v now) x.worker)) same
    ∙ ap (λ (js : Jobs). own_jobs c node.waiting ++ js) (at_set c node.workers v (client_at r node).worker now stands
    (λ e. ap (λ (js : Jobs). own_jobs c (posted_jobs worker.slot) ++ js) pending))) is

-- no worker has a batch
pub none_batch : (workers : List Worker) → list_any has_batch workers ≡ false → (w : ℕ) → has_batch (worker_in workers w) ≡ false
none_batch [] e w = refl
none_batch (worker ∷ workers) e zero = (or_parts (has_batch worker) (list_any has_batch workers) e).0
none_batch (worker ∷ workers) e (suc w) = none_batch workers (or_parts (has_batch worker) (list_any has_batch workers) e).1 w

none_posted : (worker : Worker) (slot : Slot) → has_batch (record worker { slot = slot }) ≡ false → posted_jobs slot ≡ []
none_posted worker Empty e = refl
none_posted worker (Posted jobs) e = absurd (cc e)
none_posted worker (Lifted owed) e = refl
none_posted worker (Answered executed) e = refl

-- a node that is down comes back
pub stands_back : (n s tail : ℕ) (server : Server) (node : Node) (done asked : Jobs) (text : Bytes) (shut : Bool) → s < length node.clients → node.down ≡ true
    → node.waiting ≡ [] → ((w : ℕ) → (worker_at w node).pending ≡ []) → list_any has_batch node.workers ≡ false
    → StandsAt n s node done asked text shut → StandsAt n s (revived tail server node) done asked text shut
stands_back n s tail server node done asked text shut there down waiting pending batch is =
    let c = connection_at n s in
    let after = revived tail server node in
    let w = (client_at s after).worker in
    let worker = worker_at w node in
    let posted = none_posted worker worker.slot (none_batch node.workers batch w) in
    let left : left_of n s after ≡ [] = λ i. own_jobs c (waiting i) ++ (own_jobs c (posted i) ++ own_jobs c (pending w i)) in
    let client : bare (client_at s after) ≡ bare (client_at s node) = ap bare (client_mapped cut_client node.clients s there) in
    subst (λ (x : Client). Stands x false (nat_lt s after.since) (left_of n s after) done asked text shut) (sym client)
    (stands_revived (bare (client_at s node)) (nat_lt s node.since) (nat_lt s after.since) (left_of n s node) done asked text shut (left_of n s after) left
    (lt-ltb s (length node.clients) there)
    (subst (λ (b : Bool). Stands (bare (client_at s node)) b (nat_lt s node.since) (left_of n s node) done asked text shut) down is))
