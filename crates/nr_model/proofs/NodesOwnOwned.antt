-- In every world the jobs of each connection, executed and left over, are those that were asked for, and one that isn't there has none.
use Rattle.std.proofs.Common.{◌≡◌, ◌≢◌, ℕ, ◌-◌, ◌<◌, Bool, true, false, not, inl, inr, List, [], ◌∷◌, ◌++◌, length, drop, replicate, slice_set, refl, ap, sym, ◌∙◌, subst, arith}
use Rattle.std.specs.Prelude.{◌&&◌, ◌||◌, flat_map, nat_lt, Option}
use Rattle.std.specs.List.{AllByRecursion, list_any}
use Rattle.std.proofs.lemmas.Bool.{cases_Bool, ltb-true, false_from_ne_true, or_left, or_right}
use Rattle.std.proofs.lemmas.Bool.Decides.{eqb_tells}
use Rattle.std.proofs.lemmas.List.{append-nil, length-append, length-map, length-set, drop_at, get_or-set_same, get_or-set_other}
use Rattle.std.proofs.lemmas.List.Concat.{flat_map-append}
use Rattle.std.proofs.lemmas.List.Elements.{filter-append}
use Rattle.std.proofs.lemmas.List.Folds.{list_any-append}
use Rattle.nr_model.specs.Bytes.{Bytes}
use Rattle.nr_model.specs.Keyspace.{moment}
use Rattle.nr_model.specs.Commands.{served}
use Rattle.nr_model.specs.Items.{Connection, same_connection, Item}
use Rattle.nr_model.specs.Modes.{deeds_by}
use Rattle.nr_model.specs.Entries.{Jobs, entry_jobs, left_by_entry, read_jobs}
use Rattle.nr_model.specs.Servers.{emitted_all}
use Rattle.nr_model.specs.Connections.{Setup, Feeding, Closing, fed_to}
use Rattle.nr_model.specs.Asked.{own_jobs, jobs_from, jobs_of_feeds, cut_by, closing_job}
use Rattle.nr_model.specs.Nodes.{Client, fresh_client, Slot, Empty, Posted, Lifted, Answered, Node, Taken, Entry, Reads, Logged, World, fresh, no_node, node_at, worker_at, client_at, log_of, tail_of, jobs_taken}
use Rattle.nr_model.specs.Nodes.Steps.{Cut, Refused, fed_client, closed_client, emptied, advanced, advanced_by, with_reads, delivered_to, asked_next, fed_node, closed_node, close_job, dropped_at, posted_jobs, is_lifted, is_posted, cut_client}
use Rattle.nr_model.specs.Nodes.Pasts.{Event, world_after}
use Rattle.nr_model.proofs.Ordered.{or_false}
use Rattle.nr_model.proofs.JobLists.{same_is, same_self}
use Rattle.nr_model.proofs.Exchanged.{fed_to-append, own_bytes, other_bytes}
use Rattle.nr_model.proofs.Asked.{jobs_of_feeds-append, own_feed, other_feed, closing_none, closing_first, closing_other}
use Rattle.nr_model.proofs.NodesSteps.{fresh_at, Moves, Beside, keeps_both, each_beside, by_look}
use Rattle.nr_model.proofs.NodesOwnLists.{All-entry, All-reads}
use Rattle.nr_model.proofs.NodesOwnAdvance.{by_advance, each_advance, ahead_waiting}
use Rattle.nr_model.proofs.NodesOwnShape.{of_at, connection_at, IsOf, IsShaped, client_new, next_advanced}
use Rattle.nr_model.proofs.NodesOwnShaped.{node_in, Goes, AreOf, IsShapedWorld, fresh_shaped, keeps_shaped, moves_going, worker_stands}
use Rattle.nr_model.proofs.NodesSettledDropped.{AreDropped, fresh_dropped, keeps_dropped}
use Rattle.nr_model.proofs.NodesOwnSessions.{IsSession, session_fed, fresh_stands, stands_same, jobs_next}
use Rattle.nr_model.proofs.NodesOwnLeft.{others, bare, left_of, StandsAt, none_where, none_elsewhere, stands_still, stands_opened, stands_posted, stands_slot, stands_lifted, stands_reserved, stands_advanced, stands_read, stands_collected, stands_at_fed, stands_at_fed_other, stands_at_closed, stands_at_closed_other, stands_back}

-- a connection's executed jobs, those asked for, and whether it was closed
abbrev pub done_of : Connection → List Taken → Jobs
done_of c taken = own_jobs c (flat_map jobs_taken taken)

abbrev pub asked_of : Connection → List Feeding → List Closing → Jobs
asked_of c fed closed = cut_by (closing_job c closed) (jobs_of_feeds c [] fed)

abbrev pub is_shut : Connection → List Closing → Bool
is_shut c closed = list_any (λ (k : Closing). same_connection k.connection c) closed

-- how the jobs of each connection of a node stand
abbrev pub OwnAt : ℕ → ℕ → Node → List Taken → List Feeding → List Closing → Type 0
OwnAt n s node taken fed closed =
    let c = connection_at n s in StandsAt n s node (done_of c taken) (asked_of c fed closed) (fed_to c fed) (is_shut c closed)

abbrev pub AllAt : ℕ → Node → List Taken → List Feeding → List Closing → Type 0
AllAt n node taken fed closed = (s : ℕ) → s < length node.clients → OwnAt n s node taken fed closed

-- a connection that is there
pub record IsThere (nodes : List Node) (c : Connection) : Type 0 where
  pub node : c.node < length nodes
  pub stands : c.serial < length (node_in nodes c.node).clients

-- one that isn't there has nothing
pub record IsUntouched (c : Connection) (taken : List Taken) (fed : List Feeding) (closed : List Closing) : Type 0 where
  pub done : done_of c taken ≡ []
  pub text : fed_to c fed ≡ []
  pub asked : jobs_of_feeds c [] fed ≡ []
  pub shut : is_shut c closed ≡ false

pub record IsOwned (nodes : List Node) (taken : List Taken) (fed : List Feeding) (closed : List Closing) : Type 0 where
  pub stands : (n : ℕ) → n < length nodes → AllAt n (node_in nodes n) taken fed closed
  pub untouched : (c : Connection) → (IsThere nodes c → ⊥) → IsUntouched c taken fed closed

-- of what was taken, fed and closed more
done_more : (c : Connection) (taken : List Taken) (t : Taken) → done_of c (taken ++ t ∷ []) ≡ done_of c taken ++ own_jobs c (jobs_taken t)
done_more c taken t =
    ap (own_jobs c) (flat_map-append jobs_taken taken (t ∷ []) ∙ ap (λ (js : Jobs). flat_map jobs_taken taken ++ js) (append-nil (jobs_taken t)))
    ∙ filter-append (λ (job : Item). same_connection job.connection c) (flat_map jobs_taken taken) (jobs_taken t)

done_other : (c : Connection) (taken : List Taken) (t : Taken) → own_jobs c (jobs_taken t) ≡ [] → done_of c (taken ++ t ∷ []) ≡ done_of c taken
done_other c taken t none = done_more c taken t ∙ ap (λ (js : Jobs). done_of c taken ++ js) none ∙ append-nil (done_of c taken)

jobs_other : (c : Connection) (fed : List Feeding) (f : Feeding) → same_connection f.connection c ≡ false → jobs_of_feeds c [] (fed ++ f ∷ []) ≡ jobs_of_feeds c [] fed
jobs_other c fed f other =
    jobs_of_feeds-append c [] fed (f ∷ []) ∙ ap (λ (js : Jobs). jobs_of_feeds c [] fed ++ js) (other_feed c (fed_to c fed) f other)
    ∙ append-nil (jobs_of_feeds c [] fed)

text_other : (c : Connection) (fed : List Feeding) (f : Feeding) → same_connection f.connection c ≡ false → fed_to c (fed ++ f ∷ []) ≡ fed_to c fed
text_other c fed f other =
    fed_to-append c fed (f ∷ []) ∙ ap (λ (b : Bytes). fed_to c fed ++ b) (other_bytes c f other) ∙ append-nil (fed_to c fed)

text_more : (c : Connection) (fed : List Feeding) (f : Feeding) → same_connection f.connection c ≡ true → fed_to c (fed ++ f ∷ []) ≡ fed_to c fed ++ f.bytes
text_more c fed f same = fed_to-append c fed (f ∷ []) ∙ ap (λ (b : Bytes). fed_to c fed ++ b) (own_bytes c f same)

pub asked_open : (c : Connection) (fed : List Feeding) (closed : List Closing) → is_shut c closed ≡ false → asked_of c fed closed ≡ jobs_of_feeds c [] fed
asked_open c fed closed on = ap (λ (o : Option Item). cut_by o (jobs_of_feeds c [] fed)) (closing_none c closed on)

shut_other : (c : Connection) (closed : List Closing) (k : Closing) → same_connection k.connection c ≡ false → is_shut c (closed ++ k ∷ []) ≡ is_shut c closed
shut_other c closed k other =
    let of_c = λ (j : Closing). same_connection j.connection c in
    list_any-append of_c closed (k ∷ []) ∙ ap (λ (b : Bool). list_any of_c closed || (b || false)) other ∙ or_false (list_any of_c closed)

shut_now : (c : Connection) (closed : List Closing) (k : Closing) → same_connection k.connection c ≡ true → is_shut c (closed ++ k ∷ []) ≡ true
shut_now c closed k same =
    let of_c = λ (j : Closing). same_connection j.connection c in
    list_any-append of_c closed (k ∷ []) ∙ or_right (list_any of_c closed) (of_c k || false) (or_left (of_c k) false same)

-- two connections that aren't the same
apart : (c d : Connection) → (c ≡ d → ⊥) → same_connection c d ≡ false
apart c d other = false_from_ne_true (same_connection c d) (λ e. other (same_is c d e))

-- the others stand as before
others_taken : (n s : ℕ) (node : Node) (taken : List Taken) (fed : List Feeding) (closed : List Closing) (t : Taken)
    → own_jobs (connection_at n s) (jobs_taken t) ≡ [] → OwnAt n s node taken fed closed → OwnAt n s node (taken ++ t ∷ []) fed closed
others_taken n s node taken fed closed t none is =
    let c = connection_at n s in
    let client = bare (client_at s node) in
    stands_same client client node.down (nat_lt s node.since) (left_of n s node) (done_of c taken) (asked_of c fed closed) (fed_to c fed) (is_shut c closed)
    (left_of n s node) (done_of c (taken ++ t ∷ [])) (asked_of c fed closed) (fed_to c fed) (is_shut c closed)
    refl refl (done_other c taken t none) refl refl refl is

others_fed : (n s : ℕ) (node : Node) (taken : List Taken) (fed : List Feeding) (closed : List Closing) (f : Feeding)
    → same_connection f.connection (connection_at n s) ≡ false → OwnAt n s node taken fed closed → OwnAt n s node taken (fed ++ f ∷ []) closed
others_fed n s node taken fed closed f other is =
    let c = connection_at n s in
    let client = bare (client_at s node) in
    stands_same client client node.down (nat_lt s node.since) (left_of n s node) (done_of c taken) (asked_of c fed closed) (fed_to c fed) (is_shut c closed)
    (left_of n s node) (done_of c taken) (asked_of c (fed ++ f ∷ []) closed) (fed_to c (fed ++ f ∷ [])) (is_shut c closed)
    refl refl refl (ap (cut_by (closing_job c closed)) (jobs_other c fed f other)) (text_other c fed f other) refl is

others_closed : (n s : ℕ) (node : Node) (taken : List Taken) (fed : List Feeding) (closed : List Closing) (k : Closing)
    → same_connection k.connection (connection_at n s) ≡ false → OwnAt n s node taken fed closed → OwnAt n s node taken fed (closed ++ k ∷ [])
others_closed n s node taken fed closed k other is =
    let c = connection_at n s in
    let client = bare (client_at s node) in
    stands_same client client node.down (nat_lt s node.since) (left_of n s node) (done_of c taken) (asked_of c fed closed) (fed_to c fed) (is_shut c closed)
    (left_of n s node) (done_of c taken) (asked_of c fed (closed ++ k ∷ [])) (fed_to c fed) (is_shut c (closed ++ k ∷ []))
    refl refl refl (ap (λ (o : Option Item). cut_by o (jobs_of_feeds c [] fed)) (closing_other c closed k other)) refl (shut_other c closed k other) is

-- one that isn't there behind a step wasn't before it
absent_on : (setup : Setup) (nodes after : List Node) (c : Connection) → Goes setup nodes after → (IsThere after c → ⊥) → IsThere nodes c → ⊥
absent_on setup nodes after c g none is =
    let there = is.node in
    let stands = is.stands in
    let long = g.many in
    let many = (g.grows c.node there).many in
    none (record { node = omega arith; stands = omega arith })

-- and no job of those that are there is its own
pub none_absent : (nodes : List Node) (n : ℕ) (jobs : Jobs) (c : Connection) → AreOf nodes n jobs → (IsThere nodes c → ⊥) → own_jobs c jobs ≡ []
none_absent nodes n jobs c are none =
    none_where (IsOf n (node_in nodes n).clients) c jobs
    (λ job is e. none (subst (IsThere nodes) e (record {
      node = subst (λ (k : ℕ). k < length nodes) (sym is.node) are.there;
      stands = subst (λ (k : ℕ). job.connection.serial < length (node_in nodes k).clients) (sym is.node) is.stands;
    }))) are.of

-- a node that was put in its place, and the others
put_each : (P : ℕ → Node → Type 0) (nodes : List Node) (n : ℕ) (node : Node) → n < length nodes → P n node
    → ((m : ℕ) → m ≢ n → m < length nodes → P m (node_in nodes m)) → (m : ℕ) → m < length (slice_set nodes n node) → P m (node_in (slice_set nodes n node) m)
put_each P nodes n node there here each m at =
    let long = length-set nodes n node in
    elim (eqb_tells m n) [
      | inl e ↦ subst (λ (k : ℕ). P k (node_in (slice_set nodes n node) k)) (sym e.1) (subst (P n) (sym (get_or-set_same nodes n node no_node there)) here)
      | inr e ↦ subst (P m) (sym (get_or-set_other nodes n m node no_node e.1)) (each m e.1 (omega arith))
    ]

-- a step of one node
owned_node : (setup : Setup) (nodes : List Node) (taken : List Taken) (fed : List Feeding) (closed : List Closing) (n : ℕ) (node : Node)
    → n < length nodes → Goes setup nodes (slice_set nodes n node) → AllAt n node taken fed closed
    → IsOwned nodes taken fed closed → IsOwned (slice_set nodes n node) taken fed closed
owned_node setup nodes taken fed closed n node there g here p = record {
  stands = put_each (λ m x. AllAt m x taken fed closed) nodes n node there here (λ m other at. p.stands m at);
  untouched = λ c none. p.untouched c (absent_on setup nodes (slice_set nodes n node) c g none);
}

-- one that takes jobs
owned_taken : (setup : Setup) (nodes : List Node) (taken : List Taken) (fed : List Feeding) (closed : List Closing) (n : ℕ) (node : Node) (t : Taken)
    → n < length nodes → Goes setup nodes (slice_set nodes n node) → AreOf nodes n (jobs_taken t) → AllAt n node (taken ++ t ∷ []) fed closed
    → IsOwned nodes taken fed closed → IsOwned (slice_set nodes n node) (taken ++ t ∷ []) fed closed
owned_taken setup nodes taken fed closed n node t there g are here p = record {
  stands = put_each (λ m x. AllAt m x (taken ++ t ∷ []) fed closed) nodes n node there here
      (λ m other at s stands. others_taken m s (node_in nodes m) taken fed closed t
      (none_elsewhere n (node_in nodes n).clients (connection_at m s) (jobs_taken t) other are.of) (p.stands m at s stands));
  untouched = λ c none.
      let absent = absent_on setup nodes (slice_set nodes n node) c g none in
      let u = p.untouched c absent in
      record {
        done = done_other c taken t (none_absent nodes n (jobs_taken t) c are absent) ∙ u.done;
        text = u.text;
        asked = u.asked;
        shut = u.shut;
      };
}

-- an open
new_at : (setup : Setup) (n w : ℕ) (node : Node) (taken : List Taken) (fed : List Feeding) (closed : List Closing) → IsShaped setup n node
    → IsUntouched (connection_at n (length node.clients)) taken fed closed
    → OwnAt n (length node.clients) (record node { clients = node.clients ++ fresh_client setup.queue_limit w (connection_at n (length node.clients)) ∷ [] }) taken fed closed
new_at setup n w node taken fed closed shaped u =
    let s = length node.clients in
    let c = connection_at n s in
    let client = fresh_client setup.queue_limit w c in
    let after : Node = record node { clients = node.clients ++ client ∷ [] } in
    let none = λ (jobs : Jobs) (a : AllByRecursion (IsOf n node.clients) jobs).
    none_where (IsOf n node.clients) c jobs (λ job is e. let h = is.stands in let same = ap (λ (d : Connection). d.serial) e in absurd (omega arith)) a in
    let worker = worker_at (client_at s after).worker node in
    let at = shaped.each (client_at s after).worker in
    let left : left_of n s after ≡ [] =
    λ i. none node.waiting shaped.waiting i
    ++ (none (posted_jobs worker.slot) (of_at n (client_at s after).worker node.clients (posted_jobs worker.slot) at.posted) i
    ++ none worker.pending (of_at n (client_at s after).worker node.clients worker.pending at.pending) i) in
    stands_same (bare client) (bare (client_at s after)) node.down (nat_lt s node.since) [] [] [] [] false
    (left_of n s after) (done_of c taken) (asked_of c fed closed) (fed_to c fed) (is_shut c closed)
    (ap bare (client_new node.clients client)) left u.done (asked_open c fed closed u.shut ∙ u.asked) u.text u.shut
    (fresh_stands 0 w (connection_at 0 0) node.down (nat_lt s node.since))

owned_opened : (setup : Setup) (n w : ℕ) (node : Node) (taken : List Taken) (fed : List Feeding) (closed : List Closing) → IsShaped setup n node
    → IsUntouched (connection_at n (length node.clients)) taken fed closed → AllAt n node taken fed closed
    → AllAt n (record node { clients = node.clients ++ fresh_client setup.queue_limit w (connection_at n (length node.clients)) ∷ [] }) taken fed closed
owned_opened setup n w node taken fed closed shaped u all s there =
    let client = fresh_client setup.queue_limit w (connection_at n (length node.clients)) in
    let after : Node = record node { clients = node.clients ++ client ∷ [] } in
    let long = length-append node.clients (client ∷ []) in
    elim (eqb_tells s (length node.clients)) [
      | inl e ↦ subst (λ (k : ℕ). OwnAt n k after taken fed closed) (sym e.1) (new_at setup n w node taken fed closed shaped u)
      | inr e ↦ let other = e.1 in
          let was : s < length node.clients = omega arith in
          let c = connection_at n s in
          stands_opened n s client node (done_of c taken) (asked_of c fed closed) (fed_to c fed) (is_shut c closed) was (all s was)
    ]

-- what more bytes add to the jobs asked for
asked_more : (c : Connection) (client : Client) (fed : List Feeding) (closed : List Closing) (time : ℕ) (bytes : Bytes) → is_shut c closed ≡ false
    → client.ended ≡ false → IsSession client (fed_to c fed)
    → asked_of c (fed ++ record { connection = c; moment = moment time; bytes = bytes } ∷ []) closed ≡ asked_of c fed closed ++ jobs_next c client time bytes
asked_more c client fed closed time bytes on going session =
    let f : Feeding = record { connection = c; moment = moment time; bytes = bytes } in
    let text = fed_to c fed in
    let before = deeds_by served text in
    let more = (asked_next client bytes).deeds in
    let deeds = (session_fed client text bytes going session).deeds in
    let new : drop (length before) (deeds_by served (text ++ bytes)) ≡ more =
    ap (drop (length before)) deeds ∙ drop_at before more (length before) refl in
    let next = sym session.next in
    let jobs : jobs_of_feeds c text (f ∷ []) ≡ jobs_next c client time bytes =
    own_feed c text f (same_self c) ∙ (λ i. jobs_from c (next i) (moment time) (new i)) in
    asked_open c (fed ++ f ∷ []) closed on
    ∙ jobs_of_feeds-append c [] fed (f ∷ [])
    ∙ (λ i. sym (asked_open c fed closed on) i ++ jobs i)

-- a feed
all_fed : (n s time : ℕ) (bytes : Bytes) (node : Node) (taken : List Taken) (fed : List Feeding) (closed : List Closing) → s < length node.clients
    → (client_at s node).worker < length node.workers → node.down ≡ false → nat_lt s node.since ≡ false → (client_at s node).ended ≡ false
    → (client_at s node).closed ≡ false → AllAt n node taken fed closed
    → AllAt n (fed_node (connection_at n s) time bytes node) taken (fed ++ record { connection = connection_at n s; moment = moment time; bytes = bytes } ∷ []) closed
all_fed n s time bytes node taken fed closed there stands up recent going unclosed all r at =
    let d = connection_at n s in
    let client = client_at s node in
    let f : Feeding = record { connection = d; moment = moment time; bytes = bytes } in
    let after = fed_node d time bytes node in
    let long = length-set node.clients s (fed_client client bytes) in
    let was : r < length node.clients = omega arith in
    elim (eqb_tells r s) [
      | inl e ↦ let is = all s there in
          let on : is_shut d closed ≡ false = is.shut_is ∙ unclosed in
          let new = jobs_next d client time bytes in
          let now = stands_at_fed n s time bytes node (done_of d taken) (asked_of d fed closed) (fed_to d fed) (is_shut d closed) there stands up recent going unclosed is in
          subst (λ (k : ℕ). OwnAt n k after taken (fed ++ f ∷ []) closed) (sym e.1)
          (stands_same (bare (client_at s after)) (bare (client_at s after)) node.down (nat_lt s node.since) (left_of n s after) (done_of d taken) (asked_of d fed closed ++ new)
          (fed_to d fed ++ bytes) (is_shut d closed)
          (left_of n s after) (done_of d taken) (asked_of d (fed ++ f ∷ []) closed) (fed_to d (fed ++ f ∷ [])) (is_shut d closed)
          refl refl refl (asked_more d (bare client) fed closed time bytes on going (is.session unclosed)) (text_more d fed f (same_self d)) refl now)
      | inr e ↦ let c = connection_at n r in
          others_fed n r after taken fed closed f (others n s r e.1)
          (stands_at_fed_other n s r time bytes node (done_of c taken) (asked_of c fed closed) (fed_to c fed) (is_shut c closed) e.1 stands (all r was))
    ]

owned_fed : (setup : Setup) (nodes : List Node) (taken : List Taken) (fed : List Feeding) (closed : List Closing) (n s : ℕ) (node : Node) (f : Feeding)
    → f.connection ≡ connection_at n s → IsThere nodes (connection_at n s) → Goes setup nodes (slice_set nodes n node) → AllAt n node taken (fed ++ f ∷ []) closed
    → IsOwned nodes taken fed closed → IsOwned (slice_set nodes n node) taken (fed ++ f ∷ []) closed
owned_fed setup nodes taken fed closed n s node f is there g here p =
    let other = λ (c : Connection) (e : connection_at n s ≡ c → ⊥). apart f.connection c (λ same. e (sym is ∙ same)) in
    record {
      stands = put_each (λ m x. AllAt m x taken (fed ++ f ∷ []) closed) nodes n node there.node here
          (λ m differ at r stands. others_fed m r (node_in nodes m) taken fed closed f
          (other (connection_at m r) (λ e. differ (sym (ap (λ (d : Connection). d.node) e)))) (p.stands m at r stands));
      untouched = λ c none.
          let absent = absent_on setup nodes (slice_set nodes n node) c g none in
          let differs = other c (λ e. absent (subst (IsThere nodes) e there)) in
          let u = p.untouched c absent in
          record { done = u.done; text = text_other c fed f differs ∙ u.text; asked = jobs_other c fed f differs ∙ u.asked; shut = u.shut };
    }

-- a close
all_closed : (n s time : ℕ) (node : Node) (taken : List Taken) (fed : List Feeding) (closed : List Closing) → s < length node.clients
    → (client_at s node).worker < length node.workers → node.down ≡ false → (client_at s node).closed ≡ false
    → AllAt n node taken fed closed
    → AllAt n (closed_node (connection_at n s) time node) taken fed (closed ++ record {
      connection = connection_at n s;
      job = close_job (client_at s node) (connection_at n s) time (dropped_at (client_at s node) (connection_at n s) node);
    } ∷ [])
all_closed n s time node taken fed closed there stands up unclosed all r at =
    let d = connection_at n s in
    let client = client_at s node in
    let job = close_job client d time (dropped_at client d node) in
    let k : Closing = record { connection = d; job = job } in
    let after = closed_node d time node in
    let long = length-set node.clients s (closed_client client) in
    let was : r < length node.clients = omega arith in
    elim (eqb_tells r s) [
      | inl e ↦ let is = all s there in
          let on : is_shut d closed ≡ false = is.shut_is ∙ unclosed in
          let now = stands_at_closed n s time node (done_of d taken) (asked_of d fed closed) (fed_to d fed) (is_shut d closed) there stands up unclosed is in
          let asked : asked_of d fed (closed ++ k ∷ []) ≡ cut_by job (asked_of d fed closed) =
          ap (λ (o : Option Item). cut_by o (jobs_of_feeds d [] fed)) (closing_first d closed k on (same_self d))
          ∙ ap (cut_by job) (sym (asked_open d fed closed on)) in
          subst (λ (j : ℕ). OwnAt n j after taken fed (closed ++ k ∷ [])) (sym e.1)
          (stands_same (bare (client_at s after)) (bare (client_at s after)) node.down (nat_lt s node.since) (left_of n s after) (done_of d taken) (cut_by job (asked_of d fed closed))
          (fed_to d fed) true
          (left_of n s after) (done_of d taken) (asked_of d fed (closed ++ k ∷ [])) (fed_to d fed) (is_shut d (closed ++ k ∷ []))
          refl refl refl asked refl (shut_now d closed k (same_self d)) now)
      | inr e ↦ let c = connection_at n r in
          others_closed n r after taken fed closed k (others n s r e.1)
          (stands_at_closed_other n s r time node (done_of c taken) (asked_of c fed closed) (fed_to c fed) (is_shut c closed) e.1 stands (all r was))
    ]

owned_closed : (setup : Setup) (nodes : List Node) (taken : List Taken) (fed : List Feeding) (closed : List Closing) (n s : ℕ) (node : Node) (k : Closing)
    → k.connection ≡ connection_at n s → IsThere nodes (connection_at n s) → Goes setup nodes (slice_set nodes n node) → AllAt n node taken fed (closed ++ k ∷ [])
    → IsOwned nodes taken fed closed → IsOwned (slice_set nodes n node) taken fed (closed ++ k ∷ [])
owned_closed setup nodes taken fed closed n s node k is there g here p =
    let other = λ (c : Connection) (e : connection_at n s ≡ c → ⊥). apart k.connection c (λ same. e (sym is ∙ same)) in
    record {
      stands = put_each (λ m x. AllAt m x taken fed (closed ++ k ∷ [])) nodes n node there.node here
          (λ m differ at r stands. others_closed m r (node_in nodes m) taken fed closed k
          (other (connection_at m r) (λ e. differ (sym (ap (λ (d : Connection). d.node) e)))) (p.stands m at r stands));
      untouched = λ c none.
          let absent = absent_on setup nodes (slice_set nodes n node) c g none in
          let differs = other c (λ e. absent (subst (IsThere nodes) e there)) in
          let u = p.untouched c absent in
          record { done = u.done; text = u.text; asked = u.asked; shut = shut_other c closed k differs ∙ u.shut };
    }

-- the next entries
many_advanced : (refused : Refused) (n : ℕ) (log : List Logged) (node : Node) → length (advanced refused n log node).clients ≡ length node.clients
many_advanced refused n log node =
    by_advance (λ after. length after.clients ≡ length node.clients) refused n log node (λ e. refl) (λ e. length-map node.clients _)
    (λ e. length-map node.clients _)

all_advanced : (setup : Setup) (refused : Refused) (n : ℕ) (log : List Logged) (node : Node) (taken : List Taken) (fed : List Feeding) (closed : List Closing)
    → IsShaped setup n node → AllAt n node taken fed closed → AllAt n (advanced refused n log node) taken fed closed
all_advanced setup refused n log node taken fed closed shaped all s at =
    let c = connection_at n s in
    let many = many_advanced refused n log node in
    let was : s < length node.clients = omega arith in
    stands_advanced setup refused n s log node (done_of c taken) (asked_of c fed closed) (fed_to c fed) (is_shut c closed) was shaped (all s was)

all_ahead : (setup : Setup) (count : ℕ) (refused : Refused) (n : ℕ) (log : List Logged) (node : Node) (taken : List Taken) (fed : List Feeding) (closed : List Closing)
    → IsShaped setup n node → AllAt n node taken fed closed → AllAt n (advanced_by count refused n log node) taken fed closed
all_ahead setup count refused n log node taken fed closed shaped all =
    let both = each_advance (λ x. IsShaped setup n x × AllAt n x taken fed closed) refused n log
    (λ x p. ((next_advanced setup refused n log x p.0).shaped, all_advanced setup refused n log x taken fed closed p.0 p.1)) count node (shaped, all) in
    both.1

-- a look's reads
all_read : (cuts : List Cut) (tail n count : ℕ) (node : Node) (taken : List Taken) (fed : List Feeding) (closed : List Closing) → node.down ≡ false
    → AllAt n node taken fed closed → AllAt n (with_reads cuts tail node) (taken ++ Reads n count (read_jobs node.waiting) ∷ []) fed closed
all_read cuts tail n count node taken fed closed up all s at =
    let c = connection_at n s in
    let t = Reads n count (read_jobs node.waiting) in
    let after = with_reads cuts tail node in
    let long = length-map node.clients (delivered_to cuts tail (emitted_all node.server (read_jobs node.waiting))) in
    let was : s < length node.clients = omega arith in
    let client = bare (client_at s after) in
    stands_same client client node.down (nat_lt s after.since) (left_of n s after) (done_of c taken ++ own_jobs c (read_jobs node.waiting)) (asked_of c fed closed) (fed_to c fed) (is_shut c closed)
    (left_of n s after) (done_of c (taken ++ t ∷ [])) (asked_of c fed closed) (fed_to c fed) (is_shut c closed)
    refl refl (done_more c taken t) refl refl refl
    (stands_read cuts tail n s node (done_of c taken) (asked_of c fed closed) (fed_to c fed) (is_shut c closed) was up (all s was))

-- a reserve
all_reserved : (n : ℕ) (node after : Node) (taken : List Taken) (fed : List Feeding) (closed : List Closing)
    → after.clients ≡ node.clients → after.workers ≡ node.workers → after.waiting ≡ left_by_entry node.waiting → after.down ≡ node.down
    → after.since ≡ node.since → node.down ≡ false → AllAt n node taken fed closed → AllAt n after (taken ++ Entry n (entry_jobs node.waiting) ∷ []) fed closed
all_reserved n node after taken fed closed clients workers waiting down since up all s at =
    let c = connection_at n s in
    let t = Entry n (entry_jobs node.waiting) in
    let was : s < length node.clients = subst (λ (cs : List Client). s < length cs) clients at in
    let client = bare (client_at s after) in
    stands_same client client after.down (nat_lt s after.since) (left_of n s after) (done_of c taken ++ own_jobs c (entry_jobs node.waiting)) (asked_of c fed closed) (fed_to c fed) (is_shut c closed)
    (left_of n s after) (done_of c (taken ++ t ∷ [])) (asked_of c fed closed) (fed_to c fed) (is_shut c closed)
    refl refl (done_more c taken t) refl refl refl
    (stands_reserved n s node after (done_of c taken) (asked_of c fed closed) (fed_to c fed) (is_shut c closed) clients workers waiting down since up (all s was))

-- a step that leaves a node's clients, its workers and what waits
all_still : (n : ℕ) (node after : Node) (taken : List Taken) (fed : List Feeding) (closed : List Closing) → after.clients ≡ node.clients
    → after.workers ≡ node.workers → after.waiting ≡ node.waiting → after.down ≡ node.down → after.since ≡ node.since → AllAt n node taken fed closed
    → AllAt n after taken fed closed
all_still n node after taken fed closed clients workers waiting down since all s at =
    let c = connection_at n s in
    stands_still n s node after (done_of c taken) (asked_of c fed closed) (fed_to c fed) (is_shut c closed) clients workers waiting down since
    (all s (subst (λ (cs : List Client). s < length cs) clients at))

-- a batch of a node that is up is answered only where it was lifted
answered_lifted : (down : Bool) (slot : Slot) → (is_lifted slot || (down && is_posted slot)) ≡ true → down ≡ false → [] ≡ posted_jobs slot
answered_lifted down Empty full up = refl
answered_lifted true (Posted jobs) full up = absurd (cc up)
answered_lifted false (Posted jobs) full up = absurd (cc full)
answered_lifted down (Lifted owed) full up = refl
answered_lifted down (Answered executed) full up = refl

-- a connection that takes something isn't from before its node came back
is_recent : (setup : Setup) (n s : ℕ) (node : Node) → IsShaped setup n node → (client_at s node).queue.cut ≡ false → nat_lt s node.since ≡ false
is_recent setup n s node shaped uncut =
    elim (cases_Bool (nat_lt s node.since)) [
      | inl e ↦ absurd (cc (shaped.cut s (ltb-true s node.since e), uncut))
      | inr e ↦ e
    ]

-- what each world owns
abbrev pub Owned : World → Type 0
Owned world = IsOwned world.nodes world.taken world.fed world.closed

-- what is known of it beside
abbrev Stable : Setup → World → Type 0
Stable setup world = IsShapedWorld setup world × AreDropped world

moves_owned : (setup : Setup) → Moves setup (Beside setup (Stable setup) Owned)
moves_owned setup =
    let g = moves_going setup in
    record {
      idles = λ world step refused reason sized b p. p;
      opens = λ world n w refused may sized b p.
          let there = may.worker.there in
          let node = node_at n world in
          let new = connection_at n (length node.clients) in
          owned_node setup world.nodes world.taken world.fed world.closed n _ there (g.opens world n w refused may sized b.0.shaped)
          (owned_opened setup n w node world.taken world.fed world.closed (b.0.shaped n there)
          (p.untouched new (λ is. let h = is.stands in absurd (omega arith))) (p.stands n there)) p;
      feeds = λ world c time bytes refused may sized b p.
          let there = may.client.there in
          let stands = may.client.stands in
          let node = node_at c.node world in
          let worker = worker_stands setup c.node c.serial node (sized.each c.node there) (b.0.shaped c.node there) stands in
          owned_fed setup world.nodes world.taken world.fed world.closed c.node c.serial _ _ refl (record { node = there; stands = stands })
          (g.feeds world c time bytes refused may sized b.0.shaped)
          (all_fed c.node c.serial time bytes node world.taken world.fed world.closed stands worker may.up
          (is_recent setup c.node c.serial node (b.0.shaped c.node there) may.uncut) may.on may.unclosed (p.stands c.node there)) p;
      posts = λ world n w refused may sized b p.
          let there = may.worker.there in
          let node = node_at n world in
          owned_node setup world.nodes world.taken world.fed world.closed n _ there (g.posts world n w refused may sized b.0.shaped)
          (λ s at. let c = connection_at n s in
          stands_posted n s w node (done_of c world.taken) (asked_of c world.fed world.closed) (fed_to c world.fed) (is_shut c world.closed) may.worker.stands may.free
          (p.stands n there s at)) p;
      lifts = λ world n w refused may sized b p.
          let there = may.worker.there in
          let node = node_at n world in
          owned_node setup world.nodes world.taken world.fed world.closed n _ there (g.lifts world n w refused may sized b.0.shaped)
          (λ s at. let c = connection_at n s in
          stands_lifted n s w node (done_of c world.taken) (asked_of c world.fed world.closed) (fed_to c world.fed) (is_shut c world.closed) may.worker.stands
          ((b.0.shaped n there).each w).posted (p.stands n there s at)) p;
      reserves = λ world n refused may sized b p.
          let there = may.there in
          let node = node_at n world in
          owned_taken setup world.nodes world.taken world.fed world.closed n _ (Entry n (entry_jobs node.waiting)) there
          (g.reserves world n refused may sized b.0.shaped)
          (record { there = there; of = All-entry (IsOf n node.clients) node.waiting (b.0.shaped n there).waiting })
          (all_reserved n node (record node { waiting = left_by_entry node.waiting; at = tail_of world; unfilled = replicate setup.nodes true })
          world.taken world.fed world.closed refl refl refl refl refl may.up (p.stands n there)) p;
      fills = λ world n t refused may sized b p.
          let there = may.there in
          let node = node_at n world in
          owned_node setup world.nodes world.taken world.fed world.closed n _ there (g.fills world n t refused may sized b.0.shaped)
          (all_still n node (record node { unfilled = slice_set node.unfilled t false }) world.taken world.fed world.closed refl refl refl refl refl (p.stands n there)) p;
      fetches = λ world n refused may sized b p.
          let there = may.there in
          let node = node_at n world in
          owned_node setup world.nodes world.taken world.fed world.closed n _ there (g.fetches world n refused may sized b.0.shaped)
          (all_still n node (record node { fetched = true }) world.taken world.fed world.closed refl refl refl refl refl (p.stands n there)) p;
      applies = λ world n refused may sized b p.
          let there = may.there in
          owned_node setup world.nodes world.taken world.fed world.closed n _ there (g.applies world n refused may sized b.0.shaped)
          (all_advanced setup refused n (log_of world.taken) (node_at n world) world.taken world.fed world.closed (b.0.shaped n there) (p.stands n there)) p;
      looks = λ world n refused may sized b p.
          let there = may.there in
          let node = node_at n world in
          let tail = tail_of world in
          let count = tail - node.passed in
          let ahead = advanced_by count refused n (log_of world.taken) node in
          let all = all_ahead setup count refused n (log_of world.taken) node world.taken world.fed world.closed (b.0.shaped n there) (p.stands n there) in
          by_look (λ after. Goes setup world.nodes after.nodes → Owned after) refused n world ahead refl
          (λ down go. owned_node setup world.nodes world.taken world.fed world.closed n ahead there go all p)
          (λ up go. owned_taken setup world.nodes world.taken world.fed world.closed n (with_reads refused.cuts tail ahead)
          (Reads n ahead.applied (read_jobs ahead.waiting)) there go
          (record {
            there = there;
            of = subst (λ (js : Jobs). AllByRecursion (IsOf n node.clients) (read_jobs js)) (sym (ahead_waiting count refused n (log_of world.taken) node up))
                (All-reads (IsOf n node.clients) node.waiting (b.0.shaped n there).waiting);
          }) (all_read refused.cuts tail n ahead.applied ahead world.taken world.fed world.closed up all) p)
          (g.looks world n refused may sized b.0.shaped);
      answers = λ world n w refused may sized b p.
          let there = may.worker.there in
          let node = node_at n world in
          owned_node setup world.nodes world.taken world.fed world.closed n _ there (g.answers world n w refused may sized b.0.shaped)
          (λ s at. let c = connection_at n s in
          stands_slot n s w (Answered (not node.down)) node (done_of c world.taken) (asked_of c world.fed world.closed) (fed_to c world.fed) (is_shut c world.closed)
          may.worker.stands (answered_lifted node.down (worker_at w node).slot may.full) (p.stands n there s at)) p;
      collects = λ world n w refused may sized b p.
          let there = may.worker.there in
          let node = node_at n world in
          owned_node setup world.nodes world.taken world.fed world.closed n _ there (g.collects world n w refused may sized b.0.shaped)
          (λ s at. let c = connection_at n s in
          let long = length-map node.clients (emptied w) in
          let was : s < length node.clients = omega arith in
          stands_collected n s w node (done_of c world.taken) (asked_of c world.fed world.closed) (fed_to c world.fed) (is_shut c world.closed) was
          may.worker.stands (p.stands n there s was)) p;
      closes = λ world c time refused may sized b p.
          let there = may.client.there in
          let stands = may.client.stands in
          let node = node_at c.node world in
          let worker = worker_stands setup c.node c.serial node (sized.each c.node there) (b.0.shaped c.node there) stands in
          owned_closed setup world.nodes world.taken world.fed world.closed c.node c.serial _ _ refl (record { node = there; stands = stands })
          (g.closes world c time refused may sized b.0.shaped)
          (all_closed c.node c.serial time node world.taken world.fed world.closed stands worker may.up may.unclosed (p.stands c.node there)) p;
      revives = λ world n f refused may sized b p.
          let there = may.there in
          let node = node_at n world in
          let dropped = b.1 n there may.down in
          owned_node setup world.nodes world.taken world.fed world.closed n _ there (g.revives world n f refused may sized b.0.shaped)
          (λ s at. let c = connection_at n s in
          let long = length-map node.clients cut_client in
          let was : s < length node.clients = omega arith in
          stands_back n s (tail_of world) (node_at f world).server node (done_of c world.taken) (asked_of c world.fed world.closed) (fed_to c world.fed)
          (is_shut c world.closed) was may.down dropped.waiting dropped.pending may.idle (p.stands n there s was)) p;
      refuses = λ world n refused may sized b p.
          let there = may.there in
          let node = node_at n world in
          owned_node setup world.nodes world.taken world.fed world.closed n _ there (g.refuses world n refused may sized b.0.shaped)
          (all_still n node (record node { refused = true }) world.taken world.fed world.closed refl refl refl refl refl (p.stands n there)) p;
    }

-- at first
fresh_owned : (setup : Setup) → Owned (fresh setup)
fresh_owned setup = record {
  stands = λ n there s at.
      let none : s < 0 = subst (λ (x : Node). s < length x.clients) (fresh_at setup n there) at in
      absurd (omega arith);
  untouched = λ c none. record { done = refl; text = refl; asked = refl; shut = refl };
}

-- each world is so
pub each_owned : (setup : Setup) (events : List Event) → Owned (world_after setup events)
each_owned setup events =
    each_beside setup (Stable setup) Owned (fresh_shaped setup, fresh_dropped setup) (keeps_both setup (IsShapedWorld setup) AreDropped (keeps_shaped setup) (keeps_dropped setup))
    (fresh_owned setup) (moves_owned setup) events
