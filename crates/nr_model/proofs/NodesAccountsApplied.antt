-- A node that applies entries, or runs reads behind all of them, keeps what holds of it.
use Rattle.std.proofs.Common.{◌≡◌, ℕ, zero, suc, ◌+◌, ◌-◌, ◌<◌, ◌≤◌, true, false, List, [], ◌∷◌, ◌++◌, length, map, refl, ap, sym, ◌∙◌, subst, arith}
use Rattle.std.specs.Prelude.{◌||◌, slice_index_or}
use Rattle.std.proofs.lemmas.Bool.{cond_both, eq-eqb}
use Rattle.std.proofs.lemmas.List.{length-map, get_or-map}
use Rattle.nr_model.specs.Items.{Sequence}
use Rattle.nr_model.specs.Sequential.{bytes_for, emitted_for}
use Rattle.nr_model.specs.Sequential.Events.{Emission}
use Rattle.nr_model.specs.Servers as servers
use Rattle.nr_model.specs.Servers.{after_all, emitted_all}
use Rattle.nr_model.specs.Entries.{entry_items, read_jobs}
use Rattle.nr_model.specs.Queues.{cut_off}
use Rattle.nr_model.specs.Connections.{Handed, handed_to}
use Rattle.nr_model.specs.Nodes.{Client, fresh_client, Node, Taken, Reads, Logged, log_of, part_from}
use Rattle.nr_model.specs.Nodes.Steps.{Cut, Refused, is_owed, delivered_to, with_executed, passing, dropped_jobs, fallen_client, fallen, with_entry, falls_at, advanced, advanced_by, with_reads, cut_client, revived}
use Rattle.nr_model.proofs.Choices.{look_reads}
use Rattle.nr_model.proofs.Emitted.{after_all-append, emitted_for-more}
use Rattle.nr_model.proofs.NodesParts.{ReadsWithin, part_of_own, part_applied, within_own, within_applied, within_later}
use Rattle.nr_model.proofs.NodesPartsEmitted.{AreRun, after_reads, begins_on, part_grows, same_server}
use Rattle.nr_model.proofs.NodesAccountsQueues.{IsReceived, cut_received, delivered_received, delivered_connection}
use Rattle.nr_model.proofs.NodesAccountsKept.{connection_at, client_in, queue_in, IsUp, IsFallen, IsKept, kept_fallen}

-- a node's clients are numbered
abbrev pub AreNumbered : ℕ → List Client → Type 0
AreNumbered r clients = (s : ℕ) → s < length clients → (queue_in clients s).connection ≡ connection_at r s

-- nobody
abbrev none : Client
none = fresh_client 0 0 (record { node = 0; serial = 0 })

-- a client behind what was delivered to all
delivered_at : (cuts : List Cut) (entry : ℕ) (es : List Emission) (clients : List Client) (s : ℕ) → s < length clients
    → client_in (map (delivered_to cuts entry es) clients) s ≡ delivered_to cuts entry es (client_in clients s)
delivered_at cuts entry es clients s below = get_or-map (delivered_to cuts entry es) clients s none none below

-- they stay numbered
numbered_delivered : (r : ℕ) (cuts : List Cut) (entry : ℕ) (es : List Emission) (clients : List Client) → AreNumbered r clients
    → AreNumbered r (map (delivered_to cuts entry es) clients)
numbered_delivered r cuts entry es clients numbered s below =
    let before : s < length clients = omega (arith, length-map clients (delivered_to cuts entry es)) in
    ap (λ (x : Client). x.queue.connection) (delivered_at cuts entry es clients s before)
    ∙ delivered_connection cuts entry es (client_in clients s) ∙ numbered s before

-- more items are executed by a node that is up, and what they emit is delivered
up_executed : (r : ℕ) (taken taken' : List Taken) (handed : List Handed) (clients : List Client) (applied applied' : ℕ) (server : servers.Server)
    (items : Sequence) (cuts : List Cut) (entry : ℕ) → part_from r applied' taken' ≡ part_from r applied taken ++ items
    → ReadsWithin r applied' taken' → AreNumbered r clients → IsUp r taken handed clients applied server
    → IsUp r taken' handed (map (delivered_to cuts entry (emitted_all server items)) clients) applied' (after_all server items)
up_executed r taken taken' handed clients applied applied' server items cuts entry more within numbered u =
    let part = part_from r applied taken in
    let es = emitted_all server items in
    record {
      within = within;
      server_is =
          ap (λ (t : servers.Server). after_all t items) u.server_is ∙ sym (after_all-append servers.fresh part items) ∙ ap (after_all servers.fresh) (sym more);
      accounts = λ s below.
          let c = connection_at r s in
          let before : s < length clients = omega (arith, length-map clients (delivered_to cuts entry es)) in
          let emits : emitted_for c part ++ bytes_for c es ≡ emitted_for c (part_from r applied' taken') =
          ap (λ (t : servers.Server). emitted_for c part ++ bytes_for c (emitted_all t items)) u.server_is
          ∙ sym (emitted_for-more c part items) ∙ ap (emitted_for c) (sym more) in
          subst (λ (x : Client). IsReceived (handed_to c handed) x.queue (emitted_for c (part_from r applied' taken')))
          (sym (delivered_at cuts entry es clients s before))
          (subst (IsReceived (handed_to c handed) (delivered_to cuts entry es (client_in clients s)).queue) emits
          (delivered_received (handed_to c handed) (emitted_for c part) cuts entry es (client_in clients s) c (numbered s before) (u.accounts s before)));
    }

-- a node behind the entries that it passed: what is kept, and where it is up as many were applied
pub record IsLevel (r : ℕ) (taken : List Taken) (handed : List Handed) (node : Node) : Type 0 where
  pub kept : IsKept r taken handed node
  pub level : node.down ≡ false → node.applied ≡ node.passed
  pub numbered : AreNumbered r node.clients

-- any node with the same connections, replica and count of entries applied
pub same_kept : (r : ℕ) (taken : List Taken) (handed : List Handed) (node : Node) (node' : Node) → node'.clients ≡ node.clients → node'.applied ≡ node.applied
    → node'.server ≡ node.server → node'.down ≡ node.down → IsKept r taken handed node → IsKept r taken handed node'
same_kept r taken handed node node' clients applied server down k = record {
  up = λ up. subst (λ (x : List Client). IsUp r taken handed x node'.applied node'.server) (sym clients)
      (subst (λ (x : ℕ). IsUp r taken handed node.clients x node'.server) (sym applied)
      (subst (λ (x : servers.Server). IsUp r taken handed node.clients node.applied x) (sym server) (k.up (sym down ∙ up))));
  fallen = λ fell. subst (λ (x : List Client). IsFallen r taken handed x node'.applied) (sym clients)
      (subst (λ (x : ℕ). IsFallen r taken handed node.clients x) (sym applied) (k.fallen (sym down ∙ fell)));
  absent = λ s past.
      let past' : length node.clients ≤ s = omega (arith, ap length clients) in
      k.absent s past';
}

-- an entry is applied by a node that is up
level_entry : (r : ℕ) (taken : List Taken) (handed : List Handed) (cuts : List Cut) (node : Node) → node.down ≡ false
    → node.passed < length (log_of taken) → IsLevel r taken handed node
    → IsLevel r taken handed (passing (with_entry cuts r (slice_index_or (log_of taken) node.passed (record { node = 0; jobs = [] })) node))
level_entry r taken handed cuts node on below l =
    let other : Logged = record { node = 0; jobs = [] } in
    let entry = slice_index_or (log_of taken) node.passed other in
    let items = entry_items entry.jobs in
    let u = l.kept.up on in
    let level = l.level on in
    let here : node.applied < length (log_of taken) = omega arith in
    let es = emitted_all node.server items in
    let more : part_from r (suc node.applied) taken ≡ part_from r node.applied taken ++ items =
    part_applied r node.applied taken other here u.within
    ∙ ap (λ (x : ℕ). part_from r node.applied taken ++ entry_items (slice_index_or (log_of taken) x other).jobs) level in
    let now = up_executed r taken taken handed node.clients node.applied (suc node.applied) node.server items cuts node.passed more
    (within_applied r node.applied taken u.within) l.numbered u in
    let long = length-map node.clients (delivered_to cuts node.passed es) in
    let done : (x : Node) → x.down ≡ false → x.passed ≡ node.passed → IsLevel r taken handed (passing (record x {
      applied = suc node.applied;
      server = after_all node.server items;
      clients = map (delivered_to cuts node.passed es) node.clients;
    })) =
    λ x up passed. record {
      kept = record {
        up = λ e. now;
        fallen = λ fell. absurd (cc (fell, up));
        absent = λ s past.
            let past' : length node.clients ≤ s = omega arith in
            l.kept.absent s past';
      };
      level = λ e. ap suc (level ∙ sym passed);
      numbered = numbered_delivered r cuts node.passed es node.clients l.numbered;
    } in
    cond_both (is_owed r entry node) (with_executed entry.jobs node) node (λ (x : Node). IsLevel r taken handed (passing (record x {
      applied = suc node.applied;
      server = after_all node.server items;
      clients = map (delivered_to cuts node.passed es) node.clients;
    })))
    (λ own. done (with_executed entry.jobs node) on refl)
    (λ others. done node on refl)

-- the next entry is passed
pub level_advanced : (r : ℕ) (taken : List Taken) (handed : List Handed) (refused : Refused) (node : Node)
    → node.passed < length (log_of taken) → IsLevel r taken handed node → IsLevel r taken handed (advanced refused r (log_of taken) node)
level_advanced r taken handed refused node below l =
    let entry = slice_index_or (log_of taken) node.passed (record { node = 0; jobs = [] }) in
    cond_both node.down node _ (λ (x : Node). IsLevel r taken handed (passing x))
    (λ down. record {
      kept = record { up = λ up. absurd (cc (up, down)); fallen = l.kept.fallen; absent = l.kept.absent };
      level = λ up. absurd (cc (up, down));
      numbered = l.numbered;
    })
    (λ on. cond_both (node.refused || falls_at refused.falls node.passed) (fallen node) (with_entry refused.cuts r entry node)
    (λ (x : Node). IsLevel r taken handed (passing x))
    (λ falls.
    let fell = fallen_client (dropped_jobs node) in
    record {
      kept = kept_fallen r taken handed node (passing (fallen node)) fell (λ x. refl) on refl refl refl l.kept;
      level = λ up. absurd (cc up);
      numbered = λ s below'.
          let below : s < length node.clients = omega (arith, length-map node.clients fell) in
          ap (λ (x : Client). x.queue.connection) (get_or-map fell node.clients s none none below) ∙ l.numbered s below;
    })
    (λ stays. level_entry r taken handed refused.cuts node on below l))

-- it is one more
passed_more : (refused : Refused) (r : ℕ) (log : List Logged) (node : Node) → (advanced refused r log node).passed ≡ suc node.passed
passed_more refused r log node =
    let entry = slice_index_or log node.passed (record { node = 0; jobs = [] }) in
    cond_both node.down node _ (λ (x : Node). (passing x).passed ≡ suc node.passed) (λ down. refl)
    (λ on. cond_both (node.refused || falls_at refused.falls node.passed) (fallen node) (with_entry refused.cuts r entry node)
    (λ (x : Node). (passing x).passed ≡ suc node.passed) (λ falls. refl)
    (λ stays. cond_both (is_owed r entry node) (with_executed entry.jobs node) node (λ (x : Node). suc x.passed ≡ suc node.passed) (λ own. refl) (λ other. refl)))

-- so many entries are passed
pub passed_by : (count : ℕ) (refused : Refused) (r : ℕ) (log : List Logged) (node : Node)
    → (advanced_by count refused r log node).passed ≡ node.passed + count
passed_by zero refused r log node = omega arith
passed_by (suc count) refused r log node =
    let next = advanced refused r log node in
    let one = passed_more refused r log node in
    let more = passed_by count refused r log next in
    omega arith

pub level_advanced_by : (count r : ℕ) (taken : List Taken) (handed : List Handed) (refused : Refused) (node : Node)
    → node.passed + count ≤ length (log_of taken) → IsLevel r taken handed node
    → IsLevel r taken handed (advanced_by count refused r (log_of taken) node)
level_advanced_by zero r taken handed refused node within l = l
level_advanced_by (suc count) r taken handed refused node within l =
    let next = advanced refused r (log_of taken) node in
    let one = passed_more refused r (log_of taken) node in
    let below : node.passed < length (log_of taken) = omega arith in
    let rest : next.passed + count ≤ length (log_of taken) = omega arith in
    level_advanced_by count r taken handed refused next rest (level_advanced r taken handed refused node below l)

-- the reads that lead are run behind all entries
pub kept_reads : (r : ℕ) (taken : List Taken) (handed : List Handed) (cuts : List Cut) (tail : ℕ) (node : Node) → node.down ≡ false
    → length (log_of taken) ≤ node.passed → IsLevel r taken handed node
    → IsKept r (taken ++ Reads r node.applied (read_jobs node.waiting) ∷ []) handed (with_reads cuts tail node)
kept_reads r taken handed cuts tail node on all l =
    let jobs = read_jobs node.waiting in
    let taken' = taken ++ Reads r node.applied jobs ∷ [] in
    let u = l.kept.up on in
    let level = l.level on in
    let es = emitted_all node.server jobs in
    let behind : length (log_of taken) ≤ node.applied = omega arith in
    let same = after_reads node.server jobs (look_reads node.waiting) in
    let now = up_executed r taken taken' handed node.clients node.applied node.applied node.server jobs cuts tail
    (part_of_own r node.applied r node.applied jobs taken (eq-eqb r r refl)) (within_own r node.applied r node.applied jobs taken behind u.within)
    l.numbered u in
    let long = length-map node.clients (delivered_to cuts tail es) in
    record {
      up = λ up. subst (IsUp r taken' handed (map (delivered_to cuts tail es) node.clients) node.applied) same now;
      fallen = λ fell. absurd (cc (fell, on));
      absent = λ s past.
          let past' : length node.clients ≤ s = omega arith in
          l.kept.absent s past';
    }

-- A node comes back with the server of another that has applied as many entries as it has passed. What its connections received begins what is emitted
-- along its part, which has grown.
pub kept_revived : (r f tail : ℕ) (taken : List Taken) (handed : List Handed) (node donor : Node) → node.down ≡ true → donor.down ≡ false
    → node.passed ≡ donor.passed → donor.applied ≡ donor.passed → node.applied ≤ node.passed → node.passed ≤ length (log_of taken) → AreRun taken
    → IsKept f taken handed donor → IsKept r taken handed node → IsKept r taken handed (revived tail donor.server node)
kept_revived r f tail taken handed node donor down up even level behind below run kf k =
    let fell = k.fallen down in
    let from = kf.up up in
    let count = node.passed - node.applied in
    let reach : count + node.applied ≡ node.passed = omega arith in
    let long = length-map node.clients cut_client in
    record {
      up = λ on. record {
        within = subst (λ (x : ℕ). ReadsWithin r x taken) reach (within_later r node.applied count taken fell.within);
        server_is =
            from.server_is ∙ ap (λ (x : ℕ). after_all servers.fresh (part_from f x taken)) (level ∙ sym even)
            ∙ same_server f r node.passed taken servers.fresh run;
        accounts = λ s below'.
            let stands : s < length node.clients = omega arith in
            let c = connection_at r s in
            let given = handed_to c handed in
            let q = queue_in node.clients s in
            let grown = part_grows c node.applied count taken (omega arith) fell.within in
            let begun = begins_on (given ++ q.waiting) (emitted_for c (part_from r node.applied taken)) (emitted_for c (part_from r (count + node.applied) taken))
            (fell.accounts s stands).begins grown in
            subst (λ (x : Client). IsReceived given x.queue (emitted_for c (part_from r node.passed taken)))
            (sym (get_or-map cut_client node.clients s none none stands))
            (subst (λ (x : ℕ). IsReceived given (cut_off q) (emitted_for c (part_from r x taken))) reach
            (cut_received given q (emitted_for c (part_from r (count + node.applied) taken)) (record { begins = begun })));
      };
      fallen = λ fallen. absurd (cc fallen);
      absent = λ s past.
          let past' : length node.clients ≤ s = omega arith in
          k.absent s past';
    }
