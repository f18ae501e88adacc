-- Whose jobs stand where: those of a node are of its connections, and those at a worker of connections that it serves. Connections from before a node came
-- back take nothing more.
use Rattle.std.proofs.Common.{◌≡◌, ◌≢◌, ℕ, zero, suc, ◌+◌, ◌≤◌, ◌<◌, true, not, inl, inr, List, [], ◌∷◌, ◌++◌, length, map, take, slice_set, refl, ap, sym, ◌∙◌, subst, arith}
use Rattle.std.specs.Prelude.{◌&&◌, ◌==◌, filter, slice_index_or, nat_lt, Option, Some, None, is_some, option_to_list}
use Rattle.std.specs.List.{AllByRecursion}
use Rattle.std.proofs.lemmas.Bool.{cond_both}
use Rattle.std.proofs.lemmas.Bool.Decides.{eqb_tells}
use Rattle.std.proofs.lemmas.List.{length-append, length-map, length-set, get_or-replicate, get_or_past, set_past, get_or-set_same, get_or-set_other}
use Rattle.std.proofs.lemmas.List as lists
use Rattle.std.proofs.Math.ListN.{get_or-map, get_or-append}
use Rattle.std.proofs.Math.Seq.{get_or-append_seam}
use Rattle.nr_model.specs.Bytes.{Bytes}
use Rattle.nr_model.specs.Keyspace.{moment}
use Rattle.nr_model.specs.Items.{Connection, same_connection, Deed, Item}
use Rattle.nr_model.specs.Sequential.Events.{Emission}
use Rattle.nr_model.specs.Entries.{Jobs, entry_items, read_jobs}
use Rattle.nr_model.specs.Queues.{Queue, takes, with_bytes, cut_off, put, puts, received}
use Rattle.nr_model.specs.Servers.{Server, after_all, emitted_all}
use Rattle.nr_model.specs.Connections.{Setup}
use Rattle.nr_model.specs.Asked.{jobs_from}
use Rattle.nr_model.specs.Nodes.{Client, fresh_client, Slot, Empty, Posted, Lifted, Answered, Worker, Node, Logged, fresh_worker, worker_at, client_at, with_worker}
use Rattle.nr_model.specs.Nodes.Steps.{Cut, Refused, posted_jobs, posted_worker, most_batch_jobs, lifted_node, fed_client, fed_node, asked_next, delivered_to, cut_of, texts_for, owing_less, jobs_of_worker, executed_from, is_owed, dropped_jobs, fallen_client, fallen, passing, advanced, advanced_by, with_reads, emptied, cleared, collected_node, close_job, dropped_at, closed_client, closed_node, cut_client, revived}
use Rattle.nr_model.proofs.JobLists.{All-append, All-take}
use Rattle.nr_model.proofs.NodesOwnLists.{All-drop, All-filtered, All-weaker, All-left_by_reads}
use Rattle.nr_model.proofs.NodesOwnAdvance.{by_advance, each_advance, next_entry}

-- a connection of some, by serial
abbrev pub client_in : List Client → ℕ → Client
client_in clients s = slice_index_or clients s (fresh_client 0 0 (record { node = 0; serial = 0 }))

abbrev pub connection_at : ℕ → ℕ → Connection
connection_at n s = record { node = n; serial = s }

-- a job of a connection of a node
pub record IsOf (n : ℕ) (clients : List Client) (job : Item) : Type 0 where
  pub node : job.connection.node ≡ n
  pub stands : job.connection.serial < length clients

-- a job of a connection that a worker serves
pub record IsAt (n w : ℕ) (clients : List Client) (job : Item) : Type 0 where
  pub of : IsOf n clients job
  pub worker : (client_in clients job.connection.serial).worker ≡ w

-- a client's connection, and that its worker is there
pub record IsNamed (setup : Setup) (n s : ℕ) (client : Client) : Type 0 where
  pub connection : client.queue.connection ≡ connection_at n s
  pub worker : client.worker < setup.workers

-- the jobs at a worker
pub record AreAt (n w : ℕ) (clients : List Client) (worker : Worker) : Type 0 where
  pub pending : AllByRecursion (IsAt n w clients) worker.pending
  pub posted : AllByRecursion (IsAt n w clients) (posted_jobs worker.slot)

-- a node
pub record IsShaped (setup : Setup) (n : ℕ) (node : Node) : Type 0 where
  pub named : (s : ℕ) → s < length node.clients → IsNamed setup n s (client_at s node)
  pub since : node.since ≤ length node.clients
  pub cut : (s : ℕ) → s < node.since → (client_at s node).queue.cut ≡ true
  pub waiting : AllByRecursion (IsOf n node.clients) node.waiting
  pub each : (w : ℕ) → AreAt n w node.clients (worker_at w node)

-- clients that are still there, and stay with their worker
pub record Grows (clients after : List Client) : Type 0 where
  pub many : length clients ≤ length after
  pub worker : (s : ℕ) → s < length clients → (client_in after s).worker ≡ (client_in clients s).worker

pub grows_same : (clients : List Client) → Grows clients clients
grows_same clients = record { many = omega arith; worker = λ s there. refl }

pub grows_on : (xs ys zs : List Client) → Grows xs ys → Grows ys zs → Grows xs zs
grows_on xs ys zs a b =
    let m = a.many in
    let k = b.many in
    record { many = omega arith; worker = λ s there. b.worker s (omega arith) ∙ a.worker s there }

-- their jobs go on being theirs
pub of_grown : (n : ℕ) (clients after : List Client) → Grows clients after → (job : Item) → IsOf n clients job → IsOf n after job
of_grown n clients after g job is =
    let m = g.many in
    let h = is.stands in
    record { node = is.node; stands = omega arith }

pub at_grown : (n w : ℕ) (clients after : List Client) → Grows clients after → (job : Item) → IsAt n w clients job → IsAt n w after job
at_grown n w clients after g job is =
    record { of = of_grown n clients after g job is.of; worker = g.worker job.connection.serial is.of.stands ∙ is.worker }

pub are_grown : (n w : ℕ) (clients after : List Client) → Grows clients after → (worker : Worker) → AreAt n w clients worker → AreAt n w after worker
are_grown n w clients after g worker are = record {
  pending = All-weaker (IsAt n w clients) (IsAt n w after) (at_grown n w clients after g) worker.pending are.pending;
  posted = All-weaker (IsAt n w clients) (IsAt n w after) (at_grown n w clients after g) (posted_jobs worker.slot) are.posted;
}

-- those at a worker are the node's
pub of_at : (n w : ℕ) (clients : List Client) (jobs : Jobs) → AllByRecursion (IsAt n w clients) jobs → AllByRecursion (IsOf n clients) jobs
of_at n w clients jobs a = All-weaker (IsAt n w clients) (IsOf n clients) (λ job is. is.of) jobs a

-- the same clients, but for their sessions and what waits for them
pub record AreAlike (clients after : List Client) : Type 0 where
  pub many : length after ≡ length clients
  pub worker : (s : ℕ) → s < length clients → (client_in after s).worker ≡ (client_in clients s).worker
  pub connection : (s : ℕ) → s < length clients → (client_in after s).queue.connection ≡ (client_in clients s).queue.connection
  pub cut : (s : ℕ) → s < length clients → (client_in clients s).queue.cut ≡ true → (client_in after s).queue.cut ≡ true

alike_grows : (clients after : List Client) → AreAlike clients after → Grows clients after
alike_grows clients after a =
    let m = a.many in
    record { many = omega arith; worker = a.worker }

alike_same : (clients : List Client) → AreAlike clients clients
alike_same clients = record { many = refl; worker = λ s there. refl; connection = λ s there. refl; cut = λ s there e. e }

-- one is changed
alike_set : (clients : List Client) (s : ℕ) (client : Client) → client.worker ≡ (client_in clients s).worker
    → client.queue.connection ≡ (client_in clients s).queue.connection → ((client_in clients s).queue.cut ≡ true → client.queue.cut ≡ true)
    → AreAlike clients (slice_set clients s client)
alike_set clients s client worker connection cut =
    let none = fresh_client 0 0 (record { node = 0; serial = 0 }) in
    let here = λ (r : ℕ) (e : r ≡ s) (there : r < length clients).
    ap (client_in (slice_set clients s client)) e ∙ get_or-set_same clients s client none (subst (λ (k : ℕ). k < length clients) e there) in
    record {
      many = length-set clients s client;
      worker = λ r there.
          elim (eqb_tells r s) [
            | inl e ↦ ap (λ (x : Client). x.worker) (here r e.1 there) ∙ worker ∙ ap (λ (k : ℕ). (client_in clients k).worker) (sym e.1)
            | inr e ↦ ap (λ (x : Client). x.worker) (get_or-set_other clients s r client none e.1)
          ];
      connection = λ r there.
          elim (eqb_tells r s) [
            | inl e ↦ ap (λ (x : Client). x.queue.connection) (here r e.1 there) ∙ connection ∙ ap (λ (k : ℕ). (client_in clients k).queue.connection) (sym e.1)
            | inr e ↦ ap (λ (x : Client). x.queue.connection) (get_or-set_other clients s r client none e.1)
          ];
      cut = λ r there was.
          elim (eqb_tells r s) [
            | inl e ↦ ap (λ (x : Client). x.queue.cut) (here r e.1 there) ∙ cut (subst (λ (k : ℕ). (client_in clients k).queue.cut ≡ true) e.1 was)
            | inr e ↦ ap (λ (x : Client). x.queue.cut) (get_or-set_other clients s r client none e.1) ∙ was
          ];
    }

-- a client among changed ones
pub client_mapped : (f : Client → Client) (clients : List Client) (s : ℕ) → s < length clients → client_in (map f clients) s ≡ f (client_in clients s)
client_mapped f clients s there = lists.get_or-map f clients s (fresh_client 0 0 (record { node = 0; serial = 0 })) (fresh_client 0 0 (record { node = 0; serial = 0 })) there

-- all are changed
alike_map : (f : Client → Client) → ((client : Client) → (f client).worker ≡ client.worker) → ((client : Client) → (f client).queue.connection ≡ client.queue.connection)
    → ((client : Client) → client.queue.cut ≡ true → (f client).queue.cut ≡ true) → (clients : List Client) → AreAlike clients (map f clients)
alike_map f worker connection cut clients = record {
  many = length-map clients f;
  worker = λ s there. ap (λ (x : Client). x.worker) (client_mapped f clients s there) ∙ worker (client_in clients s);
  connection = λ s there. ap (λ (x : Client). x.queue.connection) (client_mapped f clients s there) ∙ connection (client_in clients s);
  cut = λ s there was. ap (λ (x : Client). x.queue.cut) (client_mapped f clients s there) ∙ cut (client_in clients s) was;
}

-- one is opened
pub client_before : (clients : List Client) (client : Client) (s : ℕ) → s < length clients → client_in (clients ++ client ∷ []) s ≡ client_in clients s
client_before clients client s there = get_or-append clients (client ∷ []) (fresh_client 0 0 (record { node = 0; serial = 0 })) s there

pub client_new : (clients : List Client) (client : Client) → client_in (clients ++ client ∷ []) (length clients) ≡ client
client_new clients client = get_or-append_seam clients client [] (fresh_client 0 0 (record { node = 0; serial = 0 }))

grows_opened : (clients : List Client) (client : Client) → Grows clients (clients ++ client ∷ [])
grows_opened clients client =
    let long = length-append clients (client ∷ []) in
    record { many = omega arith; worker = λ s there. ap (λ (x : Client). x.worker) (client_before clients client s there) }

-- a queue stays its connection's
puts_connection : (q : Queue) (texts : List Bytes) → (puts q texts).connection ≡ q.connection
puts_connection q [] = refl
puts_connection q (text ∷ texts) =
    puts_connection (put q text) texts ∙ cond_both (takes q text) _ _ (λ (x : Queue). x.connection ≡ q.connection) (λ e. refl) (λ e. refl)

pub received_connection : (at : Option ℕ) (q : Queue) (texts : List Bytes) → (received at q texts).connection ≡ q.connection
received_connection None q texts = puts_connection q texts
received_connection (Some n) q texts =
    cond_both (nat_lt n (length texts)) _ _ (λ (x : Queue). x.connection ≡ q.connection) (λ e. puts_connection q (take n texts)) (λ e. puts_connection q texts)

-- one that is cut stays cut
puts_cut : (q : Queue) (texts : List Bytes) → q.cut ≡ true → (puts q texts).cut ≡ true
puts_cut q [] e = e
puts_cut q (text ∷ texts) e =
    puts_cut (put q text) texts (cond_both (takes q text) (with_bytes q text) (cut_off q) (λ (x : Queue). x.cut ≡ true) (λ fits. e) (λ full. refl))

received_cut : (at : Option ℕ) (q : Queue) (texts : List Bytes) → q.cut ≡ true → (received at q texts).cut ≡ true
received_cut None q texts e = puts_cut q texts e
received_cut (Some n) q texts e =
    cond_both (nat_lt n (length texts)) (cut_off (puts q (take n texts))) (puts q texts) (λ (x : Queue). x.cut ≡ true) (λ few. refl) (λ many. puts_cut q texts e)

alike_delivered : (cuts : List Cut) (entry : ℕ) (es : List Emission) (clients : List Client) → AreAlike clients (map (delivered_to cuts entry es) clients)
alike_delivered cuts entry es clients =
    alike_map (delivered_to cuts entry es) (λ client. refl)
    (λ client. received_connection (cut_of cuts entry client.queue.connection) client.queue (texts_for client.queue.connection es))
    (λ client e. received_cut (cut_of cuts entry client.queue.connection) client.queue (texts_for client.queue.connection es) e) clients

alike_fallen : (dropped : Jobs) (clients : List Client) → AreAlike clients (map (fallen_client dropped) clients)
alike_fallen dropped clients = alike_map (fallen_client dropped) (λ client. refl) (λ client. refl) (λ client e. e) clients

alike_emptied : (w : ℕ) (clients : List Client) → AreAlike clients (map (emptied w) clients)
alike_emptied w clients =
    alike_map (emptied w) (λ client. cond_both (client.worker == w) _ _ (λ (x : Client). x.worker ≡ client.worker) (λ e. refl) (λ e. refl))
    (λ client. cond_both (client.worker == w) _ _ (λ (x : Client). x.queue.connection ≡ client.queue.connection) (λ e. refl) (λ e. refl))
    (λ client was. cond_both (client.worker == w) _ _ (λ (x : Client). x.queue.cut ≡ true) (λ e. was) (λ e. was)) clients

-- a worker's slot owes the same batch with fewer jobs owed
pub posted_owing : (n : ℕ) (slot : Slot) → posted_jobs (owing_less n slot) ≡ posted_jobs slot
posted_owing n Empty = refl
posted_owing n (Posted jobs) = refl
posted_owing n (Lifted owed) = refl
posted_owing n (Answered executed) = refl

pub posted_cleared : (slot : Slot) → posted_jobs (cleared slot) ≡ posted_jobs slot
posted_cleared Empty = refl
posted_cleared (Posted jobs) = refl
posted_cleared (Lifted owed) = refl
posted_cleared (Answered executed) = refl

-- a worker by number, of those that jobs were executed for
abbrev pub worker_in : List Worker → ℕ → Worker
worker_in workers w = slice_index_or workers w fresh_worker

pub executed_at : (k : ℕ) (clients : List Client) (jobs : Jobs) (workers : List Worker) (w : ℕ)
    → worker_in (executed_from k clients jobs workers) w
    ≡ record (worker_in workers w) { slot = owing_less (length (jobs_of_worker (k + w) clients jobs)) (worker_in workers w).slot }
executed_at k clients jobs [] w = refl
executed_at k clients jobs (worker ∷ workers) zero =
    let e : k ≡ k + zero = omega arith in
    ap (λ (j : ℕ). record worker { slot = owing_less (length (jobs_of_worker j clients jobs)) worker.slot }) e
executed_at k clients jobs (worker ∷ workers) (suc w) =
    let e : suc k + w ≡ k + suc w = omega arith in
    executed_at (suc k) clients jobs workers w
    ∙ ap (λ (j : ℕ). record (worker_in workers w) { slot = owing_less (length (jobs_of_worker j clients jobs)) (worker_in workers w).slot }) e

-- of those of a node that fell
pub fallen_at : (workers : List Worker) (w : ℕ)
    → worker_in (map (λ (worker : Worker). record worker { pending = [] }) workers) w ≡ record (worker_in workers w) { pending = [] }
fallen_at workers w = get_or-map (λ (worker : Worker). record worker { pending = [] }) workers w fresh_worker

-- a worker that was put in its place, and the others
pub worker_here : (workers : List Worker) (w : ℕ) (worker : Worker) → w < length workers → worker_in (slice_set workers w worker) w ≡ worker
worker_here workers w worker there = get_or-set_same workers w worker fresh_worker there

pub worker_other : (workers : List Worker) (w v : ℕ) (worker : Worker) → v ≢ w → worker_in (slice_set workers w worker) v ≡ worker_in workers v
worker_other workers w v worker other = get_or-set_other workers w v worker fresh_worker other

-- what holds of each worker
each_set : (P : ℕ → Worker → Type 0) (workers : List Worker) (w : ℕ) (worker : Worker) → w < length workers → P w worker
    → ((v : ℕ) → P v (worker_in workers v)) → (v : ℕ) → P v (worker_in (slice_set workers w worker) v)
each_set P workers w worker there here each v =
    elim (eqb_tells v w) [
      | inl e ↦ subst (λ (k : ℕ). P k (worker_in (slice_set workers w worker) k)) (sym e.1) (subst (P w) (sym (worker_here workers w worker there)) here)
      | inr e ↦ subst (P v) (sym (worker_other workers w v worker e.1)) (each v)
    ]

-- a node's next shape
pub record IsNext (setup : Setup) (n : ℕ) (node after : Node) : Type 0 where
  pub shaped : IsShaped setup n after
  pub grows : Grows node.clients after.clients

-- with the same clients
pub next_alike : (setup : Setup) (n : ℕ) (node after : Node) → after.since ≡ node.since → AreAlike node.clients after.clients → AllByRecursion (IsOf n node.clients) after.waiting
    → ((w : ℕ) → AreAt n w node.clients (worker_at w after)) → IsShaped setup n node → IsNext setup n node after
next_alike setup n node after since a waiting each is =
    let g = alike_grows node.clients after.clients a in
    let many = a.many in
    let before = is.since in
    record {
      shaped = record {
        named = λ s there.
            let was : s < length node.clients = omega arith in
            let old = is.named s was in
            record {
              connection = a.connection s was ∙ old.connection;
              worker = subst (λ (k : ℕ). k < setup.workers) (sym (a.worker s was)) old.worker;
            };
        since = omega arith;
        cut = λ s old.
            let was : s < node.since = omega arith in
            a.cut s (omega arith) (is.cut s was);
        waiting = All-weaker (IsOf n node.clients) (IsOf n after.clients) (of_grown n node.clients after.clients g) after.waiting waiting;
        each = λ w. are_grown n w node.clients after.clients g (worker_at w after) (each w);
      };
      grows = g;
    }

-- one is opened
pub next_opened : (setup : Setup) (n w : ℕ) (node : Node) → w < setup.workers → IsShaped setup n node
    → IsNext setup n node (record node { clients = node.clients ++ fresh_client setup.queue_limit w (connection_at n (length node.clients)) ∷ [] })
next_opened setup n w node within is =
    let client = fresh_client setup.queue_limit w (connection_at n (length node.clients)) in
    let after = node.clients ++ client ∷ [] in
    let g = grows_opened node.clients client in
    let long = length-append node.clients (client ∷ []) in
    let since = is.since in
    let new : IsNamed setup n (length node.clients) (client_in after (length node.clients)) =
    subst (IsNamed setup n (length node.clients)) (sym (client_new node.clients client)) (record { connection = refl; worker = within }) in
    record {
      shaped = record {
        named = λ s there.
            elim (eqb_tells s (length node.clients)) [
              | inl e ↦ subst (λ (k : ℕ). IsNamed setup n k (client_in after k)) (sym e.1) new
              | inr e ↦ let other = e.1 in
                  let was : s < length node.clients = omega arith in
                  subst (IsNamed setup n s) (sym (client_before node.clients client s was)) (is.named s was)
            ];
        since = omega arith;
        cut = λ s old.
            let was : s < length node.clients = omega arith in
            ap (λ (x : Client). x.queue.cut) (client_before node.clients client s was) ∙ is.cut s old;
        waiting = All-weaker (IsOf n node.clients) (IsOf n after) (of_grown n node.clients after g) node.waiting is.waiting;
        each = λ v. are_grown n v node.clients after g (worker_at v node) (is.each v);
      };
      grows = g;
    }

-- jobs of a connection are at its worker
jobs_at : (n s w : ℕ) (clients : List Client) → s < length clients → (client_in clients s).worker ≡ w → (number time : ℕ) (deeds : List Deed)
    → AllByRecursion (IsAt n w clients) (jobs_from (connection_at n s) number time deeds)
jobs_at n s w clients there served number time [] = tt
jobs_at n s w clients there served number time (deed ∷ deeds) =
    (record { of = record { node = refl; stands = there }; worker = served }, jobs_at n s w clients there served (number + 1) time deeds)

-- a feed
pub next_fed : (setup : Setup) (n s time : ℕ) (bytes : Bytes) (node : Node) → s < length node.clients → (client_at s node).worker < length node.workers
    → IsShaped setup n node → IsNext setup n node (fed_node (connection_at n s) time bytes node)
next_fed setup n s time bytes node there stands is =
    let client = client_at s node in
    let w = client.worker in
    let jobs = jobs_from (connection_at n s) client.next (moment time) (asked_next client bytes).deeds in
    let old = is.each w in
    next_alike setup n node (fed_node (connection_at n s) time bytes node) refl
    (alike_set node.clients s (fed_client client bytes) refl refl (λ e. e))
    is.waiting
    (each_set (λ v. AreAt n v node.clients) node.workers w _ stands (record {
      pending = All-append (IsAt n w node.clients) (worker_at w node).pending jobs old.pending (jobs_at n s w node.clients there refl client.next (moment time) _);
      posted = old.posted;
    }) is.each)
    is

-- a post
pub next_posted : (setup : Setup) (n w : ℕ) (node : Node) → w < length node.workers → IsShaped setup n node
    → IsNext setup n node (with_worker w (posted_worker (worker_at w node)) node)
next_posted setup n w node stands is =
    let old = is.each w in
    let pending = (worker_at w node).pending in
    next_alike setup n node (with_worker w (posted_worker (worker_at w node)) node) refl (alike_same node.clients) is.waiting
    (each_set (λ v. AreAt n v node.clients) node.workers w _ stands (record {
      pending = All-drop (IsAt n w node.clients) most_batch_jobs pending old.pending;
      posted = All-take (IsAt n w node.clients) most_batch_jobs pending old.pending;
    }) is.each) is

-- a lift
pub next_lifted : (setup : Setup) (n w : ℕ) (node : Node) → w < length node.workers → IsShaped setup n node → IsNext setup n node (lifted_node w node)
next_lifted setup n w node stands is =
    let old = is.each w in
    let jobs = posted_jobs (worker_at w node).slot in
    next_alike setup n node (lifted_node w node) refl (alike_same node.clients)
    (All-append (IsOf n node.clients) node.waiting jobs is.waiting (of_at n w node.clients jobs old.posted))
    (each_set (λ v. AreAt n v node.clients) node.workers w _ stands (record { pending = old.pending; posted = tt }) is.each) is

-- a slot that holds no posted batch
pub next_slot : (setup : Setup) (n w : ℕ) (slot : Slot) (node : Node) → w < length node.workers → posted_jobs slot ≡ [] → IsShaped setup n node
    → IsNext setup n node (with_worker w (record (worker_at w node) { slot = slot }) node)
next_slot setup n w slot node stands none is =
    let old = is.each w in
    next_alike setup n node (with_worker w (record (worker_at w node) { slot = slot }) node) refl (alike_same node.clients) is.waiting
    (each_set (λ v. AreAt n v node.clients) node.workers w _ stands
    (record { pending = old.pending; posted = subst (AllByRecursion (IsAt n w node.clients)) (sym none) tt }) is.each) is

-- a collect
pub next_collected : (setup : Setup) (n w : ℕ) (node : Node) → w < length node.workers → IsShaped setup n node → IsNext setup n node (collected_node w node)
next_collected setup n w node stands is =
    let old = is.each w in
    let slot = (worker_at w node).slot in
    next_alike setup n node (collected_node w node) refl (alike_emptied w node.clients) is.waiting
    (each_set (λ v. AreAt n v node.clients) node.workers w _ stands
    (record { pending = old.pending; posted = subst (AllByRecursion (IsAt n w node.clients)) (sym (posted_cleared slot)) old.posted }) is.each) is

-- fewer jobs wait
pub next_waiting : (setup : Setup) (n : ℕ) (node after : Node) → after.clients ≡ node.clients → after.workers ≡ node.workers
    → after.since ≡ node.since → AllByRecursion (IsOf n node.clients) after.waiting → IsShaped setup n node → IsNext setup n node after
next_waiting setup n node after clients workers since waiting is =
    next_alike setup n node after since (subst (AreAlike node.clients) (sym clients) (alike_same node.clients)) waiting
    (λ w. subst (λ (ws : List Worker). AreAt n w node.clients (worker_in ws w)) (sym workers) (is.each w)) is

-- jobs were executed
executed_each : (n : ℕ) (clients : List Client) (jobs : Jobs) (workers : List Worker) → ((w : ℕ) → AreAt n w clients (worker_in workers w))
    → (w : ℕ) → AreAt n w clients (worker_in (executed_from 0 clients jobs workers) w)
executed_each n clients jobs workers each w =
    let old = each w in
    subst (AreAt n w clients) (sym (executed_at 0 clients jobs workers w)) (record {
      pending = old.pending;
      posted = subst (AllByRecursion (IsAt n w clients)) (sym (posted_owing _ (worker_in workers w).slot)) old.posted;
    })

-- the next entry
pub next_advanced : (setup : Setup) (refused : Refused) (n : ℕ) (log : List Logged) (node : Node) → IsShaped setup n node
    → IsNext setup n node (advanced refused n log node)
next_advanced setup refused n log node is =
    let entry = next_entry log node in
    by_advance (IsNext setup n node) refused n log node
    (λ down. next_waiting setup n node (passing node) refl refl refl is.waiting is)
    (λ up. next_alike setup n node (passing (fallen node)) refl (alike_fallen (dropped_jobs node) node.clients) tt
    (λ w. let old = is.each w in
    subst (AreAt n w node.clients) (sym (fallen_at node.workers w)) (record { pending = tt; posted = old.posted })) is)
    (λ up. cond_both (is_owed n entry node) _ _ (λ (x : Node). IsNext setup n node (passing (record x {
      applied = suc node.applied;
      server = after_all node.server (entry_items entry.jobs);
      clients = map (delivered_to refused.cuts node.passed (emitted_all node.server (entry_items entry.jobs))) node.clients;
    })))
    (λ own. next_alike setup n node _ refl (alike_delivered refused.cuts node.passed _ node.clients) is.waiting
    (executed_each n node.clients entry.jobs node.workers is.each) is)
    (λ other. next_alike setup n node _ refl (alike_delivered refused.cuts node.passed _ node.clients) is.waiting is.each is))

-- one after the other
pub next_on : (setup : Setup) (n : ℕ) (x y z : Node) → IsNext setup n x y → IsNext setup n y z → IsNext setup n x z
next_on setup n x y z a b = record { shaped = b.shaped; grows = grows_on x.clients y.clients z.clients a.grows b.grows }

pub next_ahead : (setup : Setup) (count : ℕ) (refused : Refused) (n : ℕ) (log : List Logged) (node : Node) → IsShaped setup n node
    → IsNext setup n node (advanced_by count refused n log node)
next_ahead setup count refused n log node is =
    each_advance (IsNext setup n node) refused n log
    (λ x a. next_on setup n node x (advanced refused n log x) a (next_advanced setup refused n log x a.shaped))
    count node (record { shaped = is; grows = grows_same node.clients })

-- a look's reads
pub next_read : (setup : Setup) (cuts : List Cut) (tail n : ℕ) (node : Node) → IsShaped setup n node → IsNext setup n node (with_reads cuts tail node)
next_read setup cuts tail n node is =
    next_alike setup n node (with_reads cuts tail node) refl (alike_delivered cuts tail _ node.clients)
    (All-left_by_reads (IsOf n node.clients) node.waiting is.waiting)
    (executed_each n node.clients (read_jobs node.waiting) node.workers is.each) is

-- a close
close_at : (n s w : ℕ) (clients : List Client) (job : Option Item) → s < length clients → (client_in clients s).worker ≡ w
    → AllByRecursion (λ (j : Item). j.connection ≡ connection_at n s) (option_to_list job) → AllByRecursion (IsAt n w clients) (option_to_list job)
close_at n s w clients job there served own =
    All-weaker (λ (j : Item). j.connection ≡ connection_at n s) (IsAt n w clients)
    (λ j e. subst (λ (c : Connection). IsAt n w clients (record j { connection = c })) (sym e)
    (record { of = record { node = refl; stands = there }; worker = served })) (option_to_list job) own

close_own : (client : Client) (c : Connection) (time : ℕ) (dropped : Jobs)
    → AllByRecursion (λ (j : Item). j.connection ≡ c) (option_to_list (close_job client c time dropped))
close_own client c time dropped =
    cond_both (not (is_some client.lost) && (client.ended && length dropped == 0)) _ _ (λ (o : Option Item). AllByRecursion (λ (j : Item). j.connection ≡ c) (option_to_list o))
    (λ e. tt) (λ e. (refl, tt))

pub next_closed : (setup : Setup) (n s time : ℕ) (node : Node) → s < length node.clients → (client_at s node).worker < length node.workers
    → IsShaped setup n node → IsNext setup n node (closed_node (connection_at n s) time node)
next_closed setup n s time node there stands is =
    let c = connection_at n s in
    let client = client_at s node in
    let w = client.worker in
    let old = is.each w in
    let pending = (worker_at w node).pending in
    let kept = filter (λ (job : Item). not (same_connection job.connection c)) pending in
    let job = close_job client c time (dropped_at client c node) in
    next_alike setup n node (closed_node c time node) refl
    (alike_set node.clients s (closed_client client) refl refl (λ e. refl))
    is.waiting
    (each_set (λ v. AreAt n v node.clients) node.workers w _ stands (record {
      pending = All-append (IsAt n w node.clients) kept (option_to_list job)
          (All-filtered (IsAt n w node.clients) (λ (j : Item). not (same_connection j.connection c)) pending old.pending)
          (close_at n s w node.clients job there refl (close_own client c time (dropped_at client c node)));
      posted = old.posted;
    }) is.each)
    is

-- it comes back
pub next_revived : (setup : Setup) (n tail : ℕ) (server : Server) (node : Node) → IsShaped setup n node → IsNext setup n node (revived tail server node)
next_revived setup n tail server node is =
    let clients = map cut_client node.clients in
    let a = alike_map cut_client (λ client. refl) (λ client. refl) (λ client e. refl) node.clients in
    let g = alike_grows node.clients clients a in
    let many = a.many in
    record {
      shaped = record {
        named = λ s there.
            let was : s < length node.clients = omega arith in
            let old = is.named s was in
            record {
              connection = a.connection s was ∙ old.connection;
              worker = subst (λ (k : ℕ). k < setup.workers) (sym (a.worker s was)) old.worker;
            };
        since = omega arith;
        cut = λ s was. ap (λ (x : Client). x.queue.cut) (client_mapped cut_client node.clients s was);
        waiting = All-weaker (IsOf n node.clients) (IsOf n clients) (of_grown n node.clients clients g) node.waiting is.waiting;
        each = λ w. are_grown n w node.clients clients g (worker_at w node) (is.each w);
      };
      grows = g;
    }
