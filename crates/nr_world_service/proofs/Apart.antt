-- What a past leaves of a connection that isn't there: nothing was fed to it or handed out for it.
use Rattle.std.proofs.Common.{◌≡◌, ℕ, zero, suc, ◌+◌, ◌-◌, ◌≤◌, ◌<◌, Bool, true, false, not, cond, inl, inr, List, [], ◌∷◌, ◌++◌, length, map, get_or, refl, ap, sym, ◌∙◌, subst, arith, ltb, eqb}
use Rattle.std.specs.Prelude.{◌&&◌, ◌||◌, ◌==◌, nat_lt, nat_le}
use Rattle.std.proofs.lemmas.Bool.{cases_Bool, and_parts, and_from, lt-ltb, ltb-true, not-false}
use Rattle.std.proofs.lemmas.Bool.Decides.{eqb_tells}
use Rattle.std.proofs.lemmas.List.{length-map, length-set, length-append, get_or-set_same, get_or-set_other, map-append}
use Rattle.nr_model.specs.Bytes.{Bytes}
use Rattle.nr_model.specs.Items.{Connection, same_connection}
use Rattle.nr_model.specs.Connections.{Setup, Handed, Feeding, Closing, handed_to, fed_to, is_some_bytes}
use Rattle.nr_model.specs.Nodes.{Client, fresh_client, Node, World, no_node, node_at, client_of, with_node, log_of, tail_of}
use Rattle.nr_model.specs.Nodes.Steps.{Step, Open, Feed, Post, Lift, Reserve, Fill, Fetch, Apply, Look, Answer, Collect, Close, Refuse, Revive, Outcome, Refused, idle_where, is_worker, is_client, in_use, is_overrun, collected, opened, came_to, advanced_by, effect, effect_by, after_step}
use Rattle.nr_model.specs.declared.reason.Reason.{Reason}
use Rattle.nr_model.specs.declared.reason.Reason.TheVariants.{NoSuch, Ended, TooMany, Down}
use Rattle.nr_model.specs.Nodes.Pasts.{handed_by}
use Rattle.nr_service.specs.Stories.{Occurrence, opened_in, fed_in, handed_in, closed_in, is_among}
use Rattle.nr_world_service.proofs.Names.{name_of, names, AreAlike, by_outcome, is_open, step_alike}

abbrev pub connection_at : ℕ → ℕ → Connection
connection_at n s = record { node = n; serial = s }

-- connections are named by their places, from this serial on
abbrev pub AreOwn : ℕ → ℕ → List Connection → Type 0
AreOwn n s [] = Unit {0}
AreOwn n s (c ∷ cs) = (c ≡ connection_at n s) × AreOwn n (suc s) cs

own_more : (n s : ℕ) (cs : List Connection) → AreOwn n s cs → AreOwn n s (cs ++ connection_at n (s + length cs) ∷ [])
own_more n s [] own = let e : s + 0 ≡ s = omega arith in (ap (connection_at n) e, tt)
own_more n s (c ∷ cs) own =
    let e : s + length (c ∷ cs) ≡ suc s + length cs = omega arith in
    (own.0, subst (λ (k : ℕ). AreOwn n (suc s) (cs ++ connection_at n k ∷ [])) (sym e) (own_more n (suc s) cs own.1))

-- two names of one connection
pub same_is : (a b : Connection) → same_connection a b ≡ true → a ≡ b
same_is a b e =
    let both = and_parts (eqb a.node b.node) (eqb a.serial b.serial) e in
    elim (eqb_tells a.node b.node) [
      | inl n ↦ elim (eqb_tells a.serial b.serial) [
        | inl s ↦ λ i. record { node = n.1 i; serial = s.1 i }
        | inr s ↦ absurd (cc (both.1, s.0))
      ]
      | inr n ↦ absurd (cc (both.0, n.0))
    ]

-- a collect hands out bytes for these connections alone
first_other : (c : Connection) (some : Bool) (h : Handed) (more : List Handed) → same_connection h.connection c ≡ false → handed_to c more ≡ []
    → handed_to c (cond some (h ∷ more) more) ≡ []
first_other c true h more other none = ap (λ (own : Bool). cond own (h.bytes ++ handed_to c more) (handed_to c more)) other ∙ none
first_other c false h more other none = none

none_collected : (c : Connection) (w n s : ℕ) (clients : List Client) → AreOwn n s (map name_of clients)
    → ((t : ℕ) → t < s + length clients → same_connection (connection_at n t) c ≡ false) → handed_to c (collected w clients) ≡ []
none_collected c w n s [] own other = refl
none_collected c w n s (client ∷ clients) own other =
    first_other c (client.worker == w && is_some_bytes client.queue.waiting) (record { connection = client.queue.connection; bytes = client.queue.waiting })
    (collected w clients) (subst (λ (d : Connection). same_connection d c ≡ false) (sym own.0) (other s (omega arith)))
    (none_collected c w n (suc s) clients own.1 (λ t below. other t (omega arith)))

-- a connection that isn't there is none of a node's
there_below : (nodes : List Node) (n t : ℕ) → t < length (get_or nodes n no_node).clients → n < length nodes
there_below [] n t below = absurd (omega arith)
there_below (x ∷ xs) zero t below = omega arith
there_below (x ∷ xs) (suc n) t below = let more = there_below xs n t below in omega arith

pub is_there : (world : World) (n t : ℕ) → t < length (node_at n world).clients → is_client world (connection_at n t) ≡ true
is_there world n t below =
    and_from (ltb n (length world.nodes)) (ltb t (length (node_at n world).clients)) (lt-ltb n (length world.nodes) (there_below world.nodes n t below))
    (lt-ltb t (length (node_at n world).clients) below)

other_there : (world : World) (c : Connection) (n t : ℕ) → is_client world c ≡ false → t < length (node_at n world).clients
    → same_connection (connection_at n t) c ≡ false
other_there world c n t absent below =
    elim (cases_Bool (same_connection (connection_at n t) c)) [
      | inl e ↦ absurd (cc (subst (λ (d : Connection). is_client world d ≡ true) (same_is (connection_at n t) c e) (is_there world n t below), absent))
      | inr e ↦ e
    ]

-- another connection than one that is there
pub other_client : (world : World) (d c : Connection) → is_client world d ≡ true → is_client world c ≡ false → same_connection d c ≡ false
other_client world d c here absent =
    elim (cases_Bool (same_connection d c)) [
      | inl e ↦ absurd (cc (subst (λ (x : Connection). is_client world x ≡ true) (same_is d c e) here, absent))
      | inr e ↦ e
    ]

-- the same nodes have the same connections
pub same_client : (a b : World) (c : Connection) → a.nodes ≡ b.nodes → is_client a c ≡ is_client b c
same_client a b c same =
    ap (λ (nodes : List Node). ltb c.node (length nodes) && ltb c.serial (length (get_or nodes c.node no_node).clients)) same

-- nodes and connections go on being there
pub record Grows (before after : World) : Type 0 where
  pub many : length after.nodes ≡ length before.nodes
  pub counts : (m : ℕ) → length (node_at m before).clients ≤ length (node_at m after).clients

pub grows_client : (before after : World) (c : Connection) → Grows before after → is_client before c ≡ true → is_client after c ≡ true
grows_client before after c grows here =
    let both = and_parts (ltb c.node (length before.nodes)) (ltb c.serial (length (node_at c.node before).clients)) here in
    let node : c.node < length before.nodes = ltb-true c.node (length before.nodes) both.0 in
    let serial : c.serial < length (node_at c.node before).clients = ltb-true c.serial (length (node_at c.node before).clients) both.1 in
    let more = grows.counts c.node in
    is_there after c.node c.serial (omega arith)

pub grows_absent : (before after : World) (c : Connection) → Grows before after → is_client after c ≡ false → is_client before c ≡ false
grows_absent before after c grows absent =
    elim (cases_Bool (is_client before c)) [
      | inl e ↦ absurd (cc (grows_client before after c grows e, absent))
      | inr e ↦ e
    ]

pub alike_grows : (before after : World) → AreAlike before.nodes after.nodes → Grows before after
alike_grows before after a = record {
  many = a.many;
  counts = λ m.
      let same : length (node_at m after).clients ≡ length (node_at m before).clients =
      sym (length-map (node_at m after).clients name_of) ∙ ap length (a.named m) ∙ length-map (node_at m before).clients name_of in
      omega arith;
}

-- What a world holds of its connections, where this happened: its feeds and closes are those that happened, and to a connection that isn't there nothing did.
pub record IsApart (world : World) (told : List Occurrence) : Type 0 where
  pub own : (n : ℕ) → AreOwn n 0 (names (node_at n world))
  pub feeds : world.fed ≡ fed_in told
  pub closes : map (λ (closing : Closing). closing.connection) world.closed ≡ closed_in told
  pub opened : (c : Connection) → is_client world c ≡ false → is_among c (opened_in told) ≡ false
  pub fed : (c : Connection) → is_client world c ≡ false → fed_to c world.fed ≡ []
  pub handed : (c : Connection) → is_client world c ≡ false → handed_to c (handed_in told) ≡ []

-- two parts of nothing
parts_none : (xs ys : Bytes) → xs ++ ys ≡ [] → (xs ≡ []) × (ys ≡ [])
parts_none [] ys e = (refl, e)
parts_none (x ∷ xs) ys e = absurd (cc e)

-- bytes behind others
pub fed_more : (c : Connection) (fed : List Feeding) (f : Feeding) → fed_to c fed ≡ [] → same_connection f.connection c ≡ false → fed_to c (fed ++ f ∷ []) ≡ []
fed_more c [] f none other = ap (λ (own : Bool). cond own (f.bytes ++ []) []) other
fed_more c (g ∷ fed) f none other =
    elim (same_connection g.connection c) as
    (λ own. cond own (g.bytes ++ fed_to c fed) (fed_to c fed) ≡ [] → cond own (g.bytes ++ fed_to c (fed ++ f ∷ [])) (fed_to c (fed ++ f ∷ [])) ≡ []) [
      | true ↦ λ e. let both = parts_none g.bytes (fed_to c fed) e in
          ap (λ (bs : Bytes). bs ++ fed_to c (fed ++ f ∷ [])) both.0 ∙ fed_more c fed f both.1 other
      | false ↦ λ e. fed_more c fed f e other
    ] none

pub handed_more : (c : Connection) (handed more : List Handed) → handed_to c handed ≡ [] → handed_to c more ≡ [] → handed_to c (handed ++ more) ≡ []
handed_more c [] more none second = second
handed_more c (h ∷ handed) more none second =
    elim (same_connection h.connection c) as
    (λ own. cond own (h.bytes ++ handed_to c handed) (handed_to c handed) ≡ []
    → cond own (h.bytes ++ handed_to c (handed ++ more)) (handed_to c (handed ++ more)) ≡ []) [
      | true ↦ λ e. let both = parts_none h.bytes (handed_to c handed) e in
          ap (λ (bs : Bytes). bs ++ handed_to c (handed ++ more)) both.0 ∙ handed_more c handed more both.1 second
      | false ↦ λ e. handed_more c handed more e second
    ] none

-- a step that isn't an open
pub step_own : (setup : Setup) (world : World) (step : Step) (refused : Refused) → is_open step ≡ false
    → ((n : ℕ) → AreOwn n 0 (names (node_at n world))) → (n : ℕ) → AreOwn n 0 (names (node_at n (after_step setup world step refused)))
step_own setup world step refused is own n = subst (AreOwn n 0) (sym ((step_alike setup world step refused is).named n)) (own n)

-- what each step hands out
pub by_hand : (c : Connection) (b : Bool) (handed : List Handed) → handed_to c handed ≡ [] → handed_to c (cond b handed []) ≡ []
by_hand c true handed none = none
by_hand c false handed none = refl

pub handed_apart : (world : World) (step : Step) (c : Connection) → ((n : ℕ) → AreOwn n 0 (names (node_at n world))) → is_client world c ≡ false
    → handed_to c (handed_by world step) ≡ []
handed_apart world (Open n w) c own absent = refl
handed_apart world (Feed d time bytes) c own absent = refl
handed_apart world (Post n w) c own absent = refl
handed_apart world (Lift n w) c own absent = refl
handed_apart world (Reserve n) c own absent = refl
handed_apart world (Fill n t) c own absent = refl
handed_apart world (Fetch n) c own absent = refl
handed_apart world (Apply n) c own absent = refl
handed_apart world (Look n) c own absent = refl
handed_apart world (Answer n w) c own absent = refl
handed_apart world (Collect n w) c own absent =
    none_collected c w n 0 (node_at n world).clients (own n) (λ t below. other_there world c n t absent (omega arith))
handed_apart world (Close d time) c own absent = refl
handed_apart world (Refuse n) c own absent = refl
handed_apart world (Revive n f) c own absent = refl

-- the bytes fed, where a step is none of this connection's feeds
abbrev pub is_feed : Step → Bool
is_feed (Feed c time bytes) = true
is_feed _ = false

looked_fed : (down : Bool) (a b : World) → a.fed ≡ b.fed → (cond down a b).fed ≡ b.fed
looked_fed true a b e = e
looked_fed false a b e = refl

pub effect_fed : (setup : Setup) (world : World) (step : Step) (refused : Refused) → is_feed step ≡ false → (effect setup world step refused).fed ≡ world.fed
effect_fed setup world (Open n w) refused is = refl
effect_fed setup world (Feed c time bytes) refused is = absurd (cc is)
effect_fed setup world (Post n w) refused is = refl
effect_fed setup world (Lift n w) refused is = refl
effect_fed setup world (Reserve n) refused is = refl
effect_fed setup world (Fill n t) refused is = refl
effect_fed setup world (Fetch n) refused is = refl
effect_fed setup world (Apply n) refused is = refl
effect_fed setup world (Look n) refused is =
    let ahead = advanced_by (tail_of world - (node_at n world).passed) refused n (log_of world.taken) (node_at n world) in
    looked_fed ahead.down (with_node n ahead world) _ refl
effect_fed setup world (Answer n w) refused is = refl
effect_fed setup world (Collect n w) refused is = refl
effect_fed setup world (Close c time) refused is = refl
effect_fed setup world (Refuse n) refused is = refl
effect_fed setup world (Revive n f) refused is = refl

pub step_fed : (setup : Setup) (world : World) (step : Step) (refused : Refused) → is_feed step ≡ false
    → (after_step setup world step refused).fed ≡ world.fed
step_fed setup world step refused is =
    by_outcome (λ (w : World). w.fed ≡ world.fed) (came_to setup world step refused) setup world step refused refl (effect_fed setup world step refused is)

-- the connections closed, where a step is no close
abbrev pub is_close : Step → Bool
is_close (Close c time) = true
is_close _ = false

looked_closed : (down : Bool) (a b : World) → a.closed ≡ b.closed → (cond down a b).closed ≡ b.closed
looked_closed true a b e = e
looked_closed false a b e = refl

pub effect_closed : (setup : Setup) (world : World) (step : Step) (refused : Refused) → is_close step ≡ false
    → (effect setup world step refused).closed ≡ world.closed
effect_closed setup world (Open n w) refused is = refl
effect_closed setup world (Feed c time bytes) refused is = refl
effect_closed setup world (Post n w) refused is = refl
effect_closed setup world (Lift n w) refused is = refl
effect_closed setup world (Reserve n) refused is = refl
effect_closed setup world (Fill n t) refused is = refl
effect_closed setup world (Fetch n) refused is = refl
effect_closed setup world (Apply n) refused is = refl
effect_closed setup world (Look n) refused is =
    let ahead = advanced_by (tail_of world - (node_at n world).passed) refused n (log_of world.taken) (node_at n world) in
    looked_closed ahead.down (with_node n ahead world) _ refl
effect_closed setup world (Answer n w) refused is = refl
effect_closed setup world (Collect n w) refused is = refl
effect_closed setup world (Close c time) refused is = absurd (cc is)
effect_closed setup world (Refuse n) refused is = refl
effect_closed setup world (Revive n f) refused is = refl

pub step_closed : (setup : Setup) (world : World) (step : Step) (refused : Refused) → is_close step ≡ false
    → (after_step setup world step refused).closed ≡ world.closed
step_closed setup world step refused is =
    by_outcome (λ (w : World). w.closed ≡ world.closed) (came_to setup world step refused) setup world step refused refl (effect_closed setup world step refused is)

-- a feed that is enabled is of a connection that is there
pub idle_told : (P : World → Type 0) (setup : Setup) (world : World) (step : Step) (refused : Refused) (holds : Bool) (reason : Reason) (otherwise : Outcome)
    → (holds ≡ true → P world) → (holds ≡ false → P (effect_by otherwise setup world step refused))
    → P (effect_by (idle_where holds reason otherwise) setup world step refused)
idle_told P setup world step refused true reason otherwise p q = p refl
idle_told P setup world step refused false reason otherwise p q = q refl

idle_by : (P : World → Type 0) (setup : Setup) (world : World) (step : Step) (refused : Refused) (holds : Bool) (reason : Reason) (otherwise : Outcome)
    → P world → (holds ≡ false → P (effect_by otherwise setup world step refused))
    → P (effect_by (idle_where holds reason otherwise) setup world step refused)
idle_by P setup world step refused holds reason otherwise p q = idle_told P setup world step refused holds reason otherwise (λ t. p) q

pub feed_by : (P : World → Type 0) (setup : Setup) (world : World) (c : Connection) (time : ℕ) (bytes : Bytes) (refused : Refused) → P world
    → (is_client world c ≡ true → P (effect setup world (Feed c time bytes) refused)) → P (after_step setup world (Feed c time bytes) refused)
feed_by P setup world c time bytes refused idle done =
    let step = Feed c time bytes in
    let client = client_of c world in
    let down = (node_at c.node world).down in
    idle_by P setup world step refused (not (is_client world c)) NoSuch _ idle (λ here.
    idle_by P setup world step refused (client.ended || (client.closed || is_overrun client)) Ended _ idle (λ on.
    idle_by P setup world step refused down Down _ idle (λ up.
    idle_by P setup world step refused client.queue.cut Ended _ idle (λ uncut. done (not-false (is_client world c) here)))))

-- and an open that is enabled is at a node that is there
pub open_by : (P : World → Type 0) (setup : Setup) (world : World) (n w : ℕ) (refused : Refused) → P world
    → (nat_lt n setup.nodes ≡ true → P (opened setup n w world)) → P (after_step setup world (Open n w) refused)
open_by P setup world n w refused idle done =
    let step = Open n w in
    idle_by P setup world step refused (not (is_worker setup n w)) NoSuch _ idle (λ here.
    idle_by P setup world step refused (nat_le setup.connections (in_use (node_at n world))) TooMany _ idle (λ room.
    idle_by P setup world step refused (node_at n world).down Down _ idle (λ up.
    done (and_parts (ltb n setup.nodes) (ltb w setup.workers) (not-false (is_worker setup n w) here)).0)))

-- a connection more
opened_at : (setup : Setup) (n w : ℕ) (world : World) → n < length world.nodes
    → names (node_at n (opened setup n w world)) ≡ names (node_at n world) ++ connection_at n (length (node_at n world).clients) ∷ []
opened_at setup n w world there =
    let node = node_at n world in
    let client = fresh_client setup.queue_limit w (connection_at n (length node.clients)) in
    ap names (get_or-set_same world.nodes n (record node { clients = node.clients ++ client ∷ [] }) no_node there)
    ∙ map-append name_of node.clients (client ∷ [])

opened_other : (setup : Setup) (n w m : ℕ) (world : World) → (m ≡ n → ⊥) → node_at m (opened setup n w world) ≡ node_at m world
opened_other setup n w m world other =
    let node = node_at n world in
    let client = fresh_client setup.queue_limit w (connection_at n (length node.clients)) in
    get_or-set_other world.nodes n m (record node { clients = node.clients ++ client ∷ [] }) no_node other

pub opened_own : (setup : Setup) (n w : ℕ) (world : World) → n < length world.nodes → ((m : ℕ) → AreOwn m 0 (names (node_at m world)))
    → (m : ℕ) → AreOwn m 0 (names (node_at m (opened setup n w world)))
opened_own setup n w world there own m =
    elim (eqb_tells m n) [
      | inl e ↦
          let plain : 0 + length (names (node_at n world)) ≡ length (names (node_at n world)) = omega arith in
          let many = plain ∙ length-map (node_at n world).clients name_of in
          let more = subst (λ (k : ℕ). AreOwn n 0 (names (node_at n world) ++ connection_at n k ∷ [])) many (own_more n 0 (names (node_at n world)) (own n)) in
          subst (λ (k : ℕ). AreOwn k 0 (names (node_at k (opened setup n w world)))) (sym e.1) (subst (AreOwn n 0) (sym (opened_at setup n w world there)) more)
      | inr e ↦ subst (λ (x : Node). AreOwn m 0 (names x)) (sym (opened_other setup n w m world e.1)) (own m)
    ]

pub opened_count : (setup : Setup) (n w : ℕ) (world : World) → n < length world.nodes
    → length (node_at n (opened setup n w world)).clients ≡ length (node_at n world).clients + 1
opened_count setup n w world there =
    let before = names (node_at n world) in
    let at = ap length (opened_at setup n w world there) ∙ length-append before (connection_at n (length (node_at n world).clients) ∷ []) in
    let old : length before ≡ length (node_at n world).clients = length-map (node_at n world).clients name_of in
    let new : length (names (node_at n (opened setup n w world))) ≡ length (node_at n (opened setup n w world)).clients =
    length-map (node_at n (opened setup n w world)).clients name_of in
    sym new ∙ at ∙ ap (λ (k : ℕ). k + 1) old

pub opened_grows : (setup : Setup) (n w : ℕ) (world : World) → n < length world.nodes → Grows world (opened setup n w world)
opened_grows setup n w world there = record {
  many = length-set world.nodes n _;
  counts = λ m.
      elim (eqb_tells m n) [
        | inl e ↦
            let count = opened_count setup n w world there in
            subst (λ (k : ℕ). length (node_at k world).clients ≤ length (node_at k (opened setup n w world)).clients) (sym e.1) (omega arith)
        | inr e ↦ subst (λ (x : Node). length (node_at m world).clients ≤ length x.clients) (sym (opened_other setup n w m world e.1)) (omega arith)
      ];
}
