-- What holds of a node: its replica is the server after its part, and each of its connections received what was emitted for it.
use Rattle.std.proofs.Common.{◌≡◌, ℕ, ◌+◌, ◌<◌, ◌≤◌, true, false, inl, inr, List, [], ◌∷◌, ◌++◌, length, map, refl, ap, sym, ◌∙◌, subst, arith, slice_set}
use Rattle.std.specs.Prelude.{◌==◌, slice_index_or}
use Rattle.std.proofs.lemmas.Bool.{cases_lt}
use Rattle.std.proofs.lemmas.Bool.Decides.{eqb_tells}
use Rattle.std.proofs.lemmas.List.{length-append, length-map, length-set, get_or_append_left, get_or_at, get_or-map, get_or-set_same, get_or-set_other}
use Rattle.nr_model.specs.Bytes.{Bytes}
use Rattle.nr_model.specs.Items.{Connection, Sequence}
use Rattle.nr_model.specs.Sequential.{emitted_for}
use Rattle.nr_model.specs.Servers as servers
use Rattle.nr_model.specs.Servers.{after_all, emitted_all}
use Rattle.nr_model.specs.Entries.{Jobs}
use Rattle.nr_model.specs.Queues.{Queue}
use Rattle.nr_model.specs.Connections.{Handed, handed_to}
use Rattle.nr_model.specs.Nodes.{Client, fresh_client, Node, Taken, Entry, Reads, log_of, part_from, Worker}
use Rattle.nr_model.proofs.NodesParts.{ReadsWithin, part_of_entry, part_of_other, within_entry, within_other}
use Rattle.nr_model.proofs.NodesAccountsQueues.{IsBegun, IsReceived, all_begun}

-- connection number s of node r
abbrev pub connection_at : ℕ → ℕ → Connection
connection_at r s = record { node = r; serial = s }

-- a client by number, and its queue
abbrev pub client_in : List Client → ℕ → Client
client_in clients s = slice_index_or clients s (fresh_client 0 0 (record { node = 0; serial = 0 }))

abbrev pub queue_in : List Client → ℕ → Queue
queue_in clients s = (client_in clients s).queue

-- a node that is up
pub record IsUp (r : ℕ) (taken : List Taken) (handed : List Handed) (clients : List Client) (applied : ℕ) (server : servers.Server) : Type 0 where
  pub within : ReadsWithin r applied taken
  pub server_is : server ≡ after_all servers.fresh (part_from r applied taken)
  pub accounts : (s : ℕ) → s < length clients
      → IsReceived (handed_to (connection_at r s) handed) (queue_in clients s) (emitted_for (connection_at r s) (part_from r applied taken))

-- one that is down: it stays at what it had applied
pub record IsFallen (r : ℕ) (taken : List Taken) (handed : List Handed) (clients : List Client) (applied : ℕ) : Type 0 where
  pub within : ReadsWithin r applied taken
  pub accounts : (s : ℕ) → s < length clients
      → IsBegun (handed_to (connection_at r s) handed) (queue_in clients s) (emitted_for (connection_at r s) (part_from r applied taken))

-- any node; a connection that it hasn't was handed nothing
pub record IsKept (r : ℕ) (taken : List Taken) (handed : List Handed) (node : Node) : Type 0 where
  pub up : node.down ≡ false → IsUp r taken handed node.clients node.applied node.server
  pub fallen : node.down ≡ true → IsFallen r taken handed node.clients node.applied
  pub absent : (s : ℕ) → length node.clients ≤ s → handed_to (connection_at r s) handed ≡ []

-- the part stays as it is
fallen_same : (r : ℕ) (taken taken' : List Taken) (handed : List Handed) (clients : List Client) (applied : ℕ)
    → part_from r applied taken' ≡ part_from r applied taken → (ReadsWithin r applied taken → ReadsWithin r applied taken')
    → IsFallen r taken handed clients applied → IsFallen r taken' handed clients applied
fallen_same r taken taken' handed clients applied same within f = record {
  within = within f.within;
  accounts = λ s below.
      let c = connection_at r s in
      subst (λ (items : Sequence). IsBegun (handed_to c handed) (queue_in clients s) (emitted_for c items)) (sym same) (f.accounts s below);
}

up_same : (r : ℕ) (taken taken' : List Taken) (handed : List Handed) (clients : List Client) (applied : ℕ) (server : servers.Server)
    → part_from r applied taken' ≡ part_from r applied taken → (ReadsWithin r applied taken → ReadsWithin r applied taken')
    → IsUp r taken handed clients applied server → IsUp r taken' handed clients applied server
up_same r taken taken' handed clients applied server same within u = record {
  within = within u.within;
  server_is = u.server_is ∙ ap (after_all servers.fresh) (sym same);
  accounts = λ s below.
      let c = connection_at r s in
      subst (λ (items : Sequence). IsReceived (handed_to c handed) (queue_in clients s) (emitted_for c items)) (sym same) (u.accounts s below);
}

-- an entry was reserved
pub kept_entry : (r n : ℕ) (jobs : Jobs) (taken : List Taken) (handed : List Handed) (node : Node) → node.applied ≤ length (log_of taken)
    → IsKept r taken handed node → IsKept r (taken ++ Entry n jobs ∷ []) handed node
kept_entry r n jobs taken handed node within k = record {
  up = λ up.
      up_same r taken (taken ++ Entry n jobs ∷ []) handed node.clients node.applied node.server (part_of_entry r node.applied n jobs taken within)
      (within_entry r node.applied n jobs taken) (k.up up);
  fallen = λ down.
      fallen_same r taken (taken ++ Entry n jobs ∷ []) handed node.clients node.applied (part_of_entry r node.applied n jobs taken within)
      (within_entry r node.applied n jobs taken) (k.fallen down);
  absent = k.absent;
}

-- another node ran reads
pub kept_other : (r n count : ℕ) (jobs : Jobs) (taken : List Taken) (handed : List Handed) (node : Node) → (n == r) ≡ false
    → IsKept r taken handed node → IsKept r (taken ++ Reads n count jobs ∷ []) handed node
kept_other r n count jobs taken handed node other k = record {
  up = λ up.
      up_same r taken (taken ++ Reads n count jobs ∷ []) handed node.clients node.applied node.server (part_of_other r node.applied n count jobs taken other)
      (within_other r node.applied n count jobs taken other) (k.up up);
  fallen = λ down.
      fallen_same r taken (taken ++ Reads n count jobs ∷ []) handed node.clients node.applied (part_of_other r node.applied n count jobs taken other)
      (within_other r node.applied n count jobs taken other) (k.fallen down);
  absent = k.absent;
}

-- nothing was handed to its connections
pub kept_handed : (r : ℕ) (taken : List Taken) (handed handed' : List Handed) (node : Node)
    → ((s : ℕ) → handed_to (connection_at r s) handed' ≡ handed_to (connection_at r s) handed)
    → IsKept r taken handed node → IsKept r taken handed' node
kept_handed r taken handed handed' node same k = record {
  up = λ up. record {
    within = (k.up up).within;
    server_is = (k.up up).server_is;
    accounts = λ s below.
        let c = connection_at r s in
        subst (λ (bs : Bytes). IsReceived bs (queue_in node.clients s) (emitted_for c (part_from r node.applied taken))) (sym (same s))
        ((k.up up).accounts s below);
  };
  fallen = λ down. record {
    within = (k.fallen down).within;
    accounts = λ s below.
        let c = connection_at r s in
        subst (λ (bs : Bytes). IsBegun bs (queue_in node.clients s) (emitted_for c (part_from r node.applied taken))) (sym (same s))
        ((k.fallen down).accounts s below);
  };
  absent = λ s past. same s ∙ k.absent s past;
}

-- one client was changed
client_set : (P : Queue → Type 0) (clients : List Client) (i s : ℕ) (client : Client) → s < length clients
    → (s ≡ i → P (client_in clients s).queue → P client.queue) → P (queue_in clients s) → P (queue_in (slice_set clients i client) s)
client_set P clients i s client below here p =
    let none = fresh_client 0 0 (record { node = 0; serial = 0 }) in
    elim (eqb_tells s i) [
      | inl e ↦
          subst (λ (j : ℕ). P (queue_in (slice_set clients j client) s)) e.1
          (subst (λ (x : Client). P x.queue) (sym (get_or-set_same clients s client none below)) (here e.1 p))
      | inr e ↦ subst (λ (x : Client). P x.queue) (sym (get_or-set_other clients i s client none e.1)) p
    ]

-- what is kept of a client goes on
pub kept_client : (r i : ℕ) (taken : List Taken) (handed : List Handed) (node : Node) (client : Client) (workers : List Worker) → node.down ≡ false
    → ((given emitted : Bytes) → IsReceived given (queue_in node.clients i) emitted → IsReceived given client.queue emitted)
    → IsKept r taken handed node → IsKept r taken handed (record node { clients = slice_set node.clients i client; workers = workers })
kept_client r i taken handed node client workers on goes k =
    let u = k.up on in
    let long : length (slice_set node.clients i client) ≡ length node.clients = length-set node.clients i client in
    record {
      up = λ up. record {
        within = u.within;
        server_is = u.server_is;
        accounts = λ s below.
            let c = connection_at r s in
            let before : s < length node.clients = omega arith in
            let emitted = emitted_for c (part_from r node.applied taken) in
            client_set (λ (q : Queue). IsReceived (handed_to c handed) q emitted) node.clients i s client before
            (λ e p. goes (handed_to c handed) emitted (subst (λ (j : ℕ). IsReceived (handed_to c handed) (queue_in node.clients j) emitted) e p))
            (u.accounts s before);
      };
      fallen = λ fell. absurd (cc (fell, on));
      absent = λ s past.
          let past' : length node.clients ≤ s = omega arith in
          k.absent s past';
    }

-- a client more, for which nothing was emitted and nothing handed out
pub kept_opened : (r : ℕ) (taken : List Taken) (handed : List Handed) (node : Node) (client : Client) → node.down ≡ false
    → client.queue.waiting ≡ []
    → emitted_for (connection_at r (length node.clients)) (part_from r node.applied taken) ≡ []
    → IsKept r taken handed node → IsKept r taken handed (record node { clients = node.clients ++ client ∷ [] })
kept_opened r taken handed node client on nothing silent k =
    let u = k.up on in
    let clients = node.clients in
    let count = length clients in
    let all = clients ++ client ∷ [] in
    let absent = fresh_client 0 0 (record { node = 0; serial = 0 }) in
    let received = λ (s : ℕ) (x : Client).
    IsReceived (handed_to (connection_at r s) handed) x.queue (emitted_for (connection_at r s) (part_from r node.applied taken)) in
    let long : length all ≡ count + 1 = length-append clients (client ∷ []) in
    let unhanded = k.absent count (omega arith) in
    let newest : received count client =
    all_begun (handed_to (connection_at r count) handed) client.queue (emitted_for (connection_at r count) (part_from r node.applied taken))
    ((λ i. unhanded i ++ nothing i) ∙ sym silent) in
    record {
      up = λ up. record {
        within = u.within;
        server_is = u.server_is;
        accounts = λ s below.
            elim (cases_lt s count) [
              | inl old ↦ subst (received s) (sym (get_or_append_left clients (client ∷ []) absent s old)) (u.accounts s old)
              | inr new ↦
                  let last : count ≡ s = omega arith in
                  subst (λ (j : ℕ). received j (client_in all j)) last
                  (subst (received count) (sym (get_or_at clients client [] absent count refl)) newest)
            ];
      };
      fallen = λ fell. absurd (cc (fell, on));
      absent = λ s past.
          let past' : count ≤ s = omega arith in
          k.absent s past';
    }

-- the node falls: what its connections received stays
pub kept_fallen : (r : ℕ) (taken : List Taken) (handed : List Handed) (node node' : Node) (f : Client → Client) → ((x : Client) → (f x).queue ≡ x.queue)
    → node.down ≡ false → node'.down ≡ true → node'.clients ≡ map f node.clients → node'.applied ≡ node.applied
    → IsKept r taken handed node → IsKept r taken handed node'
kept_fallen r taken handed node node' f queues on fell same applied k =
    let u = k.up on in
    let none = fresh_client 0 0 (record { node = 0; serial = 0 }) in
    let long = length-map node.clients f in
    let now : IsFallen r taken handed (map f node.clients) node.applied = record {
      within = u.within;
      accounts = λ s below'.
          let below : s < length node.clients = omega arith in
          let c = connection_at r s in
          let queue : queue_in (map f node.clients) s ≡ queue_in node.clients s =
          ap (λ (x : Client). x.queue) (get_or-map f node.clients s none none below) ∙ queues (client_in node.clients s) in
          subst (λ (q : Queue). IsBegun (handed_to c handed) q (emitted_for c (part_from r node.applied taken))) (sym queue) (u.accounts s below).begun;
    } in
    record {
      up = λ up. absurd (cc (up, fell));
      fallen = λ down.
          subst (λ (x : List Client). IsFallen r taken handed x node'.applied) (sym same)
          (subst (λ (x : ℕ). IsFallen r taken handed (map f node.clients) x) (sym applied) now);
      absent = λ s past.
          let past' : length node.clients ≤ s = omega (arith, ap length same) in
          k.absent s past';
    }
