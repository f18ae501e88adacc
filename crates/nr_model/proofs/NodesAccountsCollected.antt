-- A collect hands each connection of its worker what waits for it, once, and other connections nothing.
use Rattle.std.proofs.Common.{◌≡◌, ℕ, zero, suc, ◌<◌, ◌≤◌, Bool, true, false, cond, List, [], ◌∷◌, ◌++◌, length, map, refl, ap, sym, ◌∙◌, subst, arith, eqb}
use Rattle.std.specs.Prelude.{◌==◌, ◌&&◌}
use Rattle.std.proofs.lemmas.Bool.{and_left, and_right, ne_eqb}
use Rattle.std.proofs.lemmas.List.{append-nil, length-map, get_or-map}
use Rattle.nr_model.specs.Bytes.{Bytes}
use Rattle.nr_model.specs.Items.{Connection, same_connection}
use Rattle.nr_model.specs.Sequential.{emitted_for}
use Rattle.nr_model.specs.Connections.{Handed, handed_to, is_some_bytes}
use Rattle.nr_model.specs.Nodes.{Client, fresh_client, Worker, Node, Taken, part_from}
use Rattle.nr_model.specs.Nodes.Steps.{collected, emptied}
use Rattle.nr_model.proofs.JobLists.{same_self}
use Rattle.nr_model.proofs.Exchanged.{handed_to-append}
use Rattle.nr_model.proofs.NodesAccountsQueues.{IsBegun, IsReceived, taken_from, emptied_is_begun, emptied_received}
use Rattle.nr_model.proofs.NodesAccountsKept.{connection_at, client_in, queue_in, IsKept}
use Rattle.nr_model.proofs.NodesAccountsApplied.{AreNumbered}

-- what the first client is handed
abbrev with_first : ℕ → Client → List Handed → List Handed
with_first w client more =
    cond (client.worker == w && is_some_bytes client.queue.waiting) (record { connection = client.queue.connection; bytes = client.queue.waiting } ∷ more) more

-- is for its connection alone
other_first : (c : Connection) (w : ℕ) (client : Client) (more : List Handed) → same_connection client.queue.connection c ≡ false
    → handed_to c (with_first w client more) ≡ handed_to c more
other_first c w client more other =
    let waiting = client.queue.waiting in
    elim (client.worker == w && is_some_bytes waiting) as
    (λ some. handed_to c (cond some (record { connection = client.queue.connection; bytes = waiting } ∷ more) more) ≡ handed_to c more) [
      | true ↦ ap (λ (own : Bool). cond own (waiting ++ handed_to c more) (handed_to c more)) other
      | false ↦ refl
    ]

-- and all that waits for it
some_waiting : (worker : Bool) (connection : Connection) (waiting : Bytes) (c : Connection) (more : List Handed) → same_connection connection c ≡ true
    → handed_to c (cond (worker && is_some_bytes waiting) (record { connection = connection; bytes = waiting } ∷ more) more)
    ≡ cond worker waiting [] ++ handed_to c more
some_waiting true connection [] c more same = refl
some_waiting true connection (b ∷ waiting) c more same =
    ap (λ (own : Bool). cond own ((b ∷ waiting) ++ handed_to c more) (handed_to c more)) same
some_waiting false connection waiting c more same = refl

-- no client is this connection's
none_collected : (c : Connection) (w : ℕ) (clients : List Client)
    → ((s : ℕ) → s < length clients → same_connection (queue_in clients s).connection c ≡ false) → handed_to c (collected w clients) ≡ []
none_collected c w [] others = refl
none_collected c w (client ∷ clients) others =
    other_first c w client (collected w clients) (others 0 (omega arith))
    ∙ none_collected c w clients (λ s below. others (suc s) (omega arith))

-- one is
one_collected : (c : Connection) (w : ℕ) (clients : List Client) (i : ℕ) → i < length clients → same_connection (queue_in clients i).connection c ≡ true
    → ((s : ℕ) → s < length clients → (s ≡ i → ⊥) → same_connection (queue_in clients s).connection c ≡ false)
    → handed_to c (collected w clients) ≡ taken_from w (client_in clients i)
one_collected c w [] i below same others = absurd (omega arith)
one_collected c w (client ∷ clients) zero below same others =
    let none = none_collected c w clients (λ s within. others (suc s) (omega arith) (λ e. omega arith)) in
    some_waiting (client.worker == w) client.queue.connection client.queue.waiting c (collected w clients) same
    ∙ ap (λ (bs : Bytes). taken_from w client ++ bs) none ∙ append-nil (taken_from w client)
one_collected c w (client ∷ clients) (suc i) below same others =
    other_first c w client (collected w clients) (others 0 (omega arith) (λ e. omega arith))
    ∙ one_collected c w clients i (omega arith) same (λ s within apart. others (suc s) (omega arith) (λ e. apart (omega arith)))

-- another number or another node is another connection
other_number : (r s t : ℕ) → (s ≡ t → ⊥) → same_connection (connection_at r s) (connection_at r t) ≡ false
other_number r s t apart = and_right (eqb r r) (eqb s t) (ne_eqb s t apart)

other_node : (r n s t : ℕ) → (n ≡ r → ⊥) → same_connection (connection_at n s) (connection_at r t) ≡ false
other_node r n s t apart = and_left (eqb n r) (eqb s t) (ne_eqb n r apart)

-- what a numbered client is handed
pub collected_at : (r w : ℕ) (clients : List Client) → AreNumbered r clients → (s : ℕ) → s < length clients
    → handed_to (connection_at r s) (collected w clients) ≡ taken_from w (client_in clients s)
collected_at r w clients numbered s below =
    let c = connection_at r s in
    one_collected c w clients s below (subst (λ (d : Connection). same_connection d c ≡ true) (sym (numbered s below)) (same_self c))
    (λ t within apart. subst (λ (d : Connection). same_connection d c ≡ false) (sym (numbered t within)) (other_number r t s apart))

-- one that there isn't
pub collected_past : (r w : ℕ) (clients : List Client) → AreNumbered r clients → (s : ℕ) → length clients ≤ s
    → handed_to (connection_at r s) (collected w clients) ≡ []
collected_past r w clients numbered s past =
    let c = connection_at r s in
    none_collected c w clients
    (λ t within. subst (λ (d : Connection). same_connection d c ≡ false) (sym (numbered t within)) (other_number r t s (λ e. omega arith)))

-- one of another node
pub collected_other : (r n w : ℕ) (clients : List Client) → AreNumbered n clients → (n ≡ r → ⊥) → (s : ℕ)
    → handed_to (connection_at r s) (collected w clients) ≡ []
collected_other r n w clients numbered apart s =
    let c = connection_at r s in
    none_collected c w clients
    (λ t within. subst (λ (d : Connection). same_connection d c ≡ false) (sym (numbered t within)) (other_node r n t s apart))

-- nobody
abbrev none : Client
none = fresh_client 0 0 (record { node = 0; serial = 0 })

-- a node behind a collect
pub kept_collected : (r w : ℕ) (taken : List Taken) (handed : List Handed) (node : Node) (workers : List Worker) → AreNumbered r node.clients
    → IsKept r taken handed node
    → IsKept r taken (handed ++ collected w node.clients) (record node { clients = map (emptied w) node.clients; workers = workers })
kept_collected r w taken handed node workers numbered k =
    let clients = node.clients in
    let now = handed ++ collected w clients in
    let long = length-map clients (emptied w) in
    let given : (s : ℕ) → s < length clients → handed_to (connection_at r s) handed ++ taken_from w (client_in clients s) ≡ handed_to (connection_at r s) now =
    λ s below.
    ap (λ (bs : Bytes). handed_to (connection_at r s) handed ++ bs) (sym (collected_at r w clients numbered s below))
    ∙ sym (handed_to-append (connection_at r s) handed (collected w clients)) in
    let at : (s : ℕ) → s < length clients → client_in (map (emptied w) clients) s ≡ emptied w (client_in clients s) =
    λ s below. get_or-map (emptied w) clients s none none below in
    record {
      up = λ up.
          let u = k.up up in
          record {
            within = u.within;
            server_is = u.server_is;
            accounts = λ s below'.
                let below : s < length clients = omega arith in
                let c = connection_at r s in
                let emitted = emitted_for c (part_from r node.applied taken) in
                subst (λ (x : Client). IsReceived (handed_to c now) x.queue emitted) (sym (at s below))
                (subst (λ (bs : Bytes). IsReceived bs (emptied w (client_in clients s)).queue emitted) (given s below)
                (emptied_received (handed_to c handed) emitted w (client_in clients s) (u.accounts s below)));
          };
      fallen = λ down.
          let f = k.fallen down in
          record {
            within = f.within;
            accounts = λ s below'.
                let below : s < length clients = omega arith in
                let c = connection_at r s in
                let emitted = emitted_for c (part_from r node.applied taken) in
                subst (λ (x : Client). IsBegun (handed_to c now) x.queue emitted) (sym (at s below))
                (subst (λ (bs : Bytes). IsBegun bs (emptied w (client_in clients s)).queue emitted) (given s below)
                (emptied_is_begun (handed_to c handed) emitted w (client_in clients s) (f.accounts s below)));
          };
      absent = λ s past'.
          let past : length clients ≤ s = omega arith in
          handed_to-append (connection_at r s) handed (collected w clients)
          ∙ ap (λ (bs : Bytes). handed_to (connection_at r s) handed ++ bs) (collected_past r w clients numbered s past)
          ∙ append-nil (handed_to (connection_at r s) handed) ∙ k.absent s past;
    }
