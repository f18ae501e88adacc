-- What each step keeps of all nodes, where the world is known to be known as worlds are.
use Rattle.std.proofs.Common.{◌≡◌, ℕ, zero, suc, ◌+◌, ◌-◌, ◌<◌, ◌≤◌, Bool, true, false, not, cond, inl, inr, List, [], ◌∷◌, ◌++◌, length, map, refl, ap, sym, ◌∙◌, subst, arith, replicate, slice_set, ltb}
use Rattle.std.specs.Prelude.{◌==◌, flat_map}
use Rattle.std.proofs.lemmas.Bool.{cases_Bool, and_right, le-ltb, ne_eqb}
use Rattle.std.proofs.lemmas.Bool.Decides.{eqb_tells}
use Rattle.std.proofs.lemmas.List.{append-nil, length-set}
use Rattle.std.proofs.lemmas.List.Elements.{filter-append}
use Rattle.nr_model.specs.Bytes.{Bytes}
use Rattle.nr_model.specs.Items.{Connection, same_connection, Item}
use Rattle.nr_model.specs.Entries.{Jobs, entry_moment, entry_items, entry_jobs, left_by_entry, read_jobs}
use Rattle.nr_model.specs.Connections.{Setup, Handed, handed_to}
use Rattle.nr_model.specs.Asked.{own_jobs}
use Rattle.nr_model.specs.Nodes.{Client, fresh_client, Worker, Answered, Node, Taken, Entry, Reads, World, node_at, worker_at, client_at, with_node, with_worker, jobs_taken, part_from, log_of, tail_of}
use Rattle.nr_model.specs.Nodes.Steps.{Step, Outcome, Refused, is_client, collected, emptied, posted_worker, lifted_node, fed_client, fed_node, closed_client, closed_node, collected_node, advanced, advanced_by, with_reads, looked, revived}
use Rattle.nr_model.specs.Nodes.Pasts.{is_done, handed_by}
use Rattle.nr_model.specs.Nodes.Explained.{jobs_executed}
use Rattle.nr_model.proofs.JobLists.{filter-keeps, filter-drops}
use Rattle.nr_model.proofs.Emitted.{silent}
use Rattle.nr_model.proofs.NodesSteps.{Moves, node_here, node_other, by_look}
use Rattle.nr_model.proofs.NodesPartsEmitted.{AreRun}
use Rattle.nr_model.proofs.NodesAccountsQueues.{closed_received}
use Rattle.nr_model.proofs.NodesAccountsKept.{connection_at, IsKept, kept_entry, kept_other, kept_handed, kept_client, kept_opened}
use Rattle.nr_model.proofs.NodesAccountsApplied.{AreNumbered, IsLevel, same_kept, level_advanced, level_advanced_by, passed_by, kept_reads, kept_revived}
use Rattle.nr_model.proofs.NodesAccountsCollected.{collected_other, kept_collected}
use Rattle.nr_model.proofs.Exchanged.{handed_to-append}

-- What is known of every world that events lead to: clients are numbered; a node that is up has applied what it passed, any other no more, and no node
-- passed more than was reserved; looks ran reads of their node's connections; and of a connection that there isn't nothing was executed.
pub record IsKnown (world : World) : Type 0 where
  pub numbered : (n : ℕ) → n < length world.nodes → AreNumbered n (node_at n world).clients
  pub applied : (n : ℕ) → n < length world.nodes → (node_at n world).down ≡ false → (node_at n world).applied ≡ (node_at n world).passed
  pub behind : (n : ℕ) → n < length world.nodes → (node_at n world).applied ≤ (node_at n world).passed
  pub within : (n : ℕ) → n < length world.nodes → (node_at n world).passed ≤ tail_of world
  pub held : (n : ℕ) → n < length world.nodes → (node_at n world).fetched ≡ true → (node_at n world).passed < tail_of world
  pub run : AreRun world.taken
  pub unasked : (c : Connection) → is_client world c ≡ false → own_jobs c (jobs_executed world) ≡ []

-- what is kept of all nodes, and a connection of no node was handed nothing
pub record AreKept (handed : List Handed) (taken : List Taken) (world : World) : Type 0 where
  pub each : (r : ℕ) → r < length world.nodes → IsKept r taken handed (node_at r world)
  pub beyond : (c : Connection) → length world.nodes ≤ c.node → handed_to c handed ≡ []

-- one node is put in its place, and the others go on
put_node : (handed : List Handed) (taken : List Taken) (world : World) (n : ℕ) (node : Node) → n < length world.nodes → IsKept n taken handed node
    → ((m : ℕ) → m < length world.nodes → (m ≡ n → ⊥) → IsKept m taken handed (node_at m world))
    → ((c : Connection) → length world.nodes ≤ c.node → handed_to c handed ≡ [])
    → AreKept handed taken (with_node n node world)
put_node handed taken world n node there here others beyond =
    let long = length-set world.nodes n node in
    record {
      each = λ m at'.
          let at : m < length world.nodes = omega arith in
          elim (eqb_tells m n) [
            | inl e ↦ subst (λ (k : ℕ). IsKept k taken handed (node_at k (with_node n node world))) (sym e.1)
                (subst (IsKept n taken handed) (sym (node_here n node world there)) here)
            | inr e ↦ subst (IsKept m taken handed) (sym (node_other n m node world e.1)) (others m at e.1)
          ];
      beyond = λ c past'.
          let past : length world.nodes ≤ c.node = omega arith in
          beyond c past;
    }

-- nothing more is handed out
put_still : (handed : List Handed) (world : World) (n : ℕ) (node : Node) → n < length world.nodes → AreKept handed world.taken world
    → (IsKept n world.taken handed (node_at n world) → IsKept n world.taken handed node)
    → AreKept (handed ++ []) world.taken (with_node n node world)
put_still handed world n node there k here =
    subst (λ (hs : List Handed). AreKept hs world.taken (with_node n node world)) (sym (append-nil handed))
    (put_node handed world.taken world n node there (here (k.each n there)) (λ m at apart. k.each m at) k.beyond)

-- Of a connection that there isn't nothing is in any part
both_none : (xs ys : Jobs) → xs ++ ys ≡ [] → (xs ≡ []) × (ys ≡ [])
both_none [] ys e = (refl, e)
both_none (x ∷ xs) ys e = absurd (cc e)

own_parts : (c : Connection) (xs ys : Jobs) → own_jobs c (xs ++ ys) ≡ [] → (own_jobs c xs ≡ []) × (own_jobs c ys ≡ [])
own_parts c xs ys e = both_none (own_jobs c xs) (own_jobs c ys) (sym (filter-append (λ (job : Item). same_connection job.connection c) xs ys) ∙ e)

pub own_both : (c : Connection) (xs ys : Jobs) → own_jobs c xs ≡ [] → own_jobs c ys ≡ [] → own_jobs c (xs ++ ys) ≡ []
own_both c xs ys d e = filter-append (λ (job : Item). same_connection job.connection c) xs ys ∙ (λ i. d i ++ e i)

own_moved : (c : Connection) (time : ℕ) (jobs : Jobs) → own_jobs c jobs ≡ [] → own_jobs c (map {A = Item} (λ job. record job { moment = time }) jobs) ≡ []
own_moved c time [] e = refl
own_moved c time (job ∷ jobs) e =
    let of_c = λ (j : Item). same_connection j.connection c in
    elim (cases_Bool (same_connection job.connection c)) [
      | inl own ↦ absurd (cc (filter-keeps of_c job jobs own, e))
      | inr other ↦
          filter-drops of_c (record job { moment = time }) (map {A = Item} (λ (j : Item). record j { moment = time }) jobs) other
          ∙ own_moved c time jobs (sym (filter-drops of_c job jobs other) ∙ e)
    ]

own_chosen : (c : Connection) (b : Bool) (jobs rest : Jobs) → own_jobs c jobs ≡ [] → own_jobs c rest ≡ [] → own_jobs c (cond b (jobs ++ rest) rest) ≡ []
own_chosen c true jobs rest d e = own_both c jobs rest d e
own_chosen c false jobs rest d e = e

part_unasked : (c : Connection) (r applied : ℕ) (taken : List Taken) → own_jobs c (flat_map jobs_taken taken) ≡ []
    → own_jobs c (part_from r applied taken) ≡ []
part_unasked c r zero [] e = refl
part_unasked c r (suc applied) [] e = refl
part_unasked c r zero (Entry n jobs ∷ taken) e = part_unasked c r zero taken (own_parts c jobs (flat_map jobs_taken taken) e).1
part_unasked c r (suc applied) (Entry n jobs ∷ taken) e =
    let both = own_parts c jobs (flat_map jobs_taken taken) e in
    own_both c (entry_items jobs) (part_from r applied taken) (own_moved c (entry_moment jobs) jobs both.0) (part_unasked c r applied taken both.1)
part_unasked c r zero (Reads n count jobs ∷ taken) e =
    let both = own_parts c jobs (flat_map jobs_taken taken) e in
    own_chosen c (n == r) jobs (part_from r zero taken) both.0 (part_unasked c r zero taken both.1)
part_unasked c r (suc applied) (Reads n count jobs ∷ taken) e =
    let both = own_parts c jobs (flat_map jobs_taken taken) e in
    own_chosen c (n == r) jobs (part_from r (suc applied) taken) both.0 (part_unasked c r (suc applied) taken both.1)

-- how a node stands before it passes entries
level_at : (handed : List Handed) (world : World) (n : ℕ) → n < length world.nodes → IsKnown world → AreKept handed world.taken world
    → IsLevel n world.taken handed (node_at n world)
level_at handed world n there known k = record { kept = k.each n there; level = known.applied n there; numbered = known.numbered n there }

-- what a step keeps, with what it hands out
abbrev pub Gives : World → Step → Refused → Outcome → World → Type 0
Gives world step refused outcome after = IsKnown world → (handed : List Handed) → AreKept handed world.taken world
    → AreKept (handed ++ cond (is_done outcome) (handed_by world step) []) after.taken after

-- a connection is opened
opened_gives : (world : World) (n : ℕ) (client : Client) → n < length world.nodes → (node_at n world).down ≡ false → client.queue.waiting ≡ []
    → IsKnown world → (handed : List Handed) → AreKept handed world.taken world
    → AreKept (handed ++ []) world.taken (with_node n (record (node_at n world) { clients = (node_at n world).clients ++ client ∷ [] }) world)
opened_gives world n client there up nothing known handed k =
    let node = node_at n world in
    let c = connection_at n (length node.clients) in
    let absent : is_client world c ≡ false = and_right (ltb n (length world.nodes)) (ltb (length node.clients) (length node.clients))
    (le-ltb (length node.clients) (length node.clients) (omega arith)) in
    let none = part_unasked c n node.applied world.taken (known.unasked c absent) in
    put_still handed world n (record node { clients = node.clients ++ client ∷ [] }) there k
    (kept_opened n world.taken handed node client up nothing (silent c (part_from n node.applied world.taken) none))

-- an entry is reserved
reserved_gives : (world : World) (n : ℕ) (jobs : Jobs) (node : Node) → n < length world.nodes → node.clients ≡ (node_at n world).clients
    → node.applied ≡ (node_at n world).applied → node.server ≡ (node_at n world).server → node.down ≡ (node_at n world).down
    → IsKnown world → (handed : List Handed) → AreKept handed world.taken world
    → AreKept (handed ++ []) (world.taken ++ Entry n jobs ∷ []) (with_node n node world)
reserved_gives world n jobs node there clients applied server down known handed k =
    let all : (m : ℕ) → m < length world.nodes → IsKept m (world.taken ++ Entry n jobs ∷ []) handed (node_at m world) =
    λ m at. kept_entry m n jobs world.taken handed (node_at m world)
    (let behind = known.behind m at in let below = known.within m at in omega arith) (k.each m at) in
    subst (λ (hs : List Handed). AreKept hs (world.taken ++ Entry n jobs ∷ []) (with_node n node world)) (sym (append-nil handed))
    (put_node handed (world.taken ++ Entry n jobs ∷ []) world n node there
    (same_kept n (world.taken ++ Entry n jobs ∷ []) handed (node_at n world) node clients applied server down (all n there)) (λ m at apart. all m at) k.beyond)

-- a look
looked_gives : (world : World) (n : ℕ) (refused : Refused) → n < length world.nodes → IsKnown world → (handed : List Handed)
    → AreKept handed world.taken world → AreKept (handed ++ []) (looked refused n world).taken (looked refused n world)
looked_gives world n refused there known handed k =
    let node = node_at n world in
    let tail = tail_of world in
    let count = tail - node.passed in
    let log = log_of world.taken in
    let ahead = advanced_by count refused n log node in
    let below = known.within n there in
    let within : node.passed + count ≤ length log = omega arith in
    let l = level_advanced_by count n world.taken handed refused node within (level_at handed world n there known k) in
    let passed = passed_by count refused n log node in
    let all : length log ≤ ahead.passed = omega arith in
    by_look (λ after. AreKept (handed ++ []) after.taken after) refused n world ahead refl
    (λ down. put_still handed world n ahead there k (λ before. l.kept))
    (λ up.
    let jobs = read_jobs ahead.waiting in
    let taken = world.taken ++ Reads n ahead.applied jobs ∷ [] in
    let next = with_reads refused.cuts tail ahead in
    let now = put_node handed taken world n next there (kept_reads n world.taken handed refused.cuts tail ahead up all l)
    (λ m at apart. kept_other m n ahead.applied jobs world.taken handed (node_at m world) (ne_eqb n m (λ e. apart (sym e))) (k.each m at)) k.beyond in
    subst (λ (hs : List Handed). AreKept hs taken (record (with_node n next world) { taken = taken })) (sym (append-nil handed))
    (record { each = now.each; beyond = now.beyond }))

-- a collect
collected_gives : (world : World) (n w : ℕ) (workers : List Worker) → n < length world.nodes → IsKnown world → (handed : List Handed)
    → AreKept handed world.taken world
    → AreKept (handed ++ collected w (node_at n world).clients) world.taken
    (with_node n (record (node_at n world) { clients = map (emptied w) (node_at n world).clients; workers = workers }) world)
collected_gives world n w workers there known handed k =
    let node = node_at n world in
    let numbered = known.numbered n there in
    let more = collected w node.clients in
    let others : (r s : ℕ) → (n ≡ r → ⊥) → handed_to (connection_at r s) (handed ++ more) ≡ handed_to (connection_at r s) handed =
    λ r s apart. handed_to-append (connection_at r s) handed more
    ∙ ap (λ (bs : Bytes). handed_to (connection_at r s) handed ++ bs) (collected_other r n w node.clients numbered apart s)
    ∙ append-nil (handed_to (connection_at r s) handed) in
    put_node (handed ++ more) world.taken world n (record node { clients = map (emptied w) node.clients; workers = workers }) there
    (kept_collected n w world.taken handed node workers numbered (k.each n there))
    (λ m at apart. kept_handed m world.taken handed (handed ++ more) (node_at m world) (λ s. others m s (λ e. apart (sym e))) (k.each m at))
    (λ c past. others c.node c.serial (λ e. omega arith) ∙ k.beyond c past)

-- each step
pub moves_kept : (setup : Setup) → Moves setup Gives
moves_kept setup = record {
  idles = λ world step refused reason known handed k. subst (λ (hs : List Handed). AreKept hs world.taken world) (sym (append-nil handed)) k;
  opens = λ world n w refused may known handed k.
      opened_gives world n (fresh_client setup.queue_limit w (connection_at n (length (node_at n world).clients))) may.worker.there may.up
      refl known handed k;
  feeds = λ world c time bytes refused may known handed k.
      let node = node_at c.node world in
      let client = client_at c.serial node in
      let now = put_still handed world c.node (fed_node c time bytes node) may.client.there k
      (kept_client c.node c.serial world.taken handed node (fed_client client bytes) (fed_node c time bytes node).workers may.up (λ given emitted r. r)) in
      record { each = now.each; beyond = now.beyond };
  posts = λ world n w refused may known handed k.
      let node = node_at n world in
      let now = put_still handed world n (with_worker w (posted_worker (worker_at w node)) node) may.worker.there k
      (same_kept n world.taken handed node _ refl refl refl refl) in
      record { each = now.each; beyond = now.beyond };
  lifts = λ world n w refused may known handed k.
      put_still handed world n (lifted_node w (node_at n world)) may.worker.there k (same_kept n world.taken handed (node_at n world) _ refl refl refl refl);
  reserves = λ world n refused may known handed k.
      let node = node_at n world in
      let now = reserved_gives world n (entry_jobs node.waiting)
      (record node { waiting = left_by_entry node.waiting; at = tail_of world; unfilled = replicate setup.nodes true }) may.there
      refl refl refl refl known handed k in
      record { each = now.each; beyond = now.beyond };
  fills = λ world n t refused may known handed k.
      let node = node_at n world in
      put_still handed world n (record node { unfilled = slice_set node.unfilled t false }) may.there k
      (same_kept n world.taken handed node _ refl refl refl refl);
  fetches = λ world n refused may known handed k.
      let node = node_at n world in
      put_still handed world n (record node { fetched = true }) may.there k (same_kept n world.taken handed node _ refl refl refl refl);
  applies = λ world n refused may known handed k.
      put_still handed world n (advanced refused n (log_of world.taken) (node_at n world)) may.there k
      (λ before. (level_advanced n world.taken handed refused (node_at n world) (known.held n may.there may.holds)
      (level_at handed world n may.there known k)).kept);
  looks = λ world n refused may known handed k. looked_gives world n refused may.there known handed k;
  answers = λ world n w refused may known handed k.
      let node = node_at n world in
      put_still handed world n (with_worker w (record (worker_at w node) { slot = Answered (not node.down) }) node) may.worker.there k
      (same_kept n world.taken handed node _ refl refl refl refl);
  collects = λ world n w refused may known handed k.
      collected_gives world n w (collected_node w (node_at n world)).workers may.worker.there known handed k;
  closes = λ world c time refused may known handed k.
      let node = node_at c.node world in
      let client = client_at c.serial node in
      let now = put_still handed world c.node (closed_node c time node) may.client.there k
      (kept_client c.node c.serial world.taken handed node (closed_client client) (closed_node c time node).workers may.up
      (λ given emitted r. closed_received given emitted client r)) in
      record { each = now.each; beyond = now.beyond };
  revives = λ world n f refused may known handed k.
      let node = node_at n world in
      let donor = node_at f world in
      put_still handed world n (revived (tail_of world) donor.server node) may.there k
      (kept_revived n f (tail_of world) world.taken handed node donor may.down may.up may.even (known.applied f may.donor may.up) (known.behind n may.there)
      (known.within n may.there) known.run (k.each f may.donor));
  refuses = λ world n refused may known handed k.
      put_still handed world n (record (node_at n world) { refused = true }) may.there k
      (same_kept n world.taken handed (node_at n world) _ refl refl refl refl);
}
