-- The code's worker stands for a worker of the law once a turn handed bytes out.
use Rattle.std.proofs.Common.{◌≤◌, ◌≡◌, ℕ, ◌+◌, ◌<◌, inl, inr, Bool, true, false, cond, List, [], ◌∷◌, ◌++◌, map, length, Contains, Option, Some, None, refl, ap, sym, ◌∙◌, subst, arith, append-nil, eq-eqb}
use Rattle.std.specs.Prelude.{◌⊎◌, ◌==◌, ◌&&◌, ◌||◌}
use Rattle.std.specs.List.{AllByRecursion, list_any}
use Rattle.std.proofs.lemmas.Bool.{eqb-true}
use Rattle.nr_model.specs.Bytes.{Bytes}
use Rattle.nr_model.specs.Items.{Connection, Item, same_connection}
use Rattle.nr_model.specs.Connections as connections
use Rattle.nr_model.specs.Connections.{fed_to, handed_to}
use Rattle.nr_model.proofs.JobLists.{filter-drops, filter-keeps}
use Rattle.nr_model.proofs.NodesExecutedLists.{first_in, in_cases, later_in, some_in}
use Rattle.nr_entry.specs.Jobs.{connection_of, items_of}
use Rattle.nr_log_end.specs.declared.standing.Standing.{Standing}
use Rattle.nr_session.specs.SessionState.{SessionState}
use Rattle.nr_node.specs.Sound.{IsSound}
use Rattle.nr_node.specs.declared.collecting.LastPiece.{LastPiece}
use Rattle.nr_slots.specs.Seats.{NoteView}
use Rattle.nr_slots.specs.declared.view.CombinerPast.{CombinerPast}
use Rattle.nr_combiner.specs.Behind.{CollectsBehind, TurnsBehind}
use Rattle.nr_combiner.specs.declared.answering.Collected.{Collected}
use Rattle.nr_combiner.specs.declared.answering.Lifts.{Lifts}
use Rattle.nr_combiner.specs.declared.answering.Turned.{Turned}
use Rattle.nr_combiner.specs.Heard.{HasHeard}
use Rattle.nr_combiner.specs.Pieces.{AreRising, IsHandedOf}
use Rattle.nr_combiner.specs.Workers.{NodeHandleState, told_of, with_more}
use Rattle.nr_taps.specs.Marks.{Adopts}
use Rattle.nr_taps.specs.Taps.{HaveMet}
use Rattle.nr_taps.proofs.Marks.{adopts_has}
use Rattle.nr_worker.specs.Seated.{OpenConnectionState}
use Rattle.nr_worker.specs.Placed.{OpenConnectionsState, seat_at}
use Rattle.nr_worker.specs.Portions.{AcceptsPortions, AreOfNode, PortionArrival, EachSeat, Grows, GrowsHere, Portion, arrivals_at, bytes_of, cuts, follow, handed_by, handed_of, kept_of, portion_of}
use Rattle.nr_worker.proofs.Handing.{each_accepted, hands_out}
use Rattle.nr_worker.specs.Worker.{WorkerState, IsLed, IsServedAt, Served, all_asked, asked_of}
use Rattle.nr_worker.specs.Moves.{HasGot, HaveGot, HearsTurn}
use Rattle.nr_worker.specs.Working.{AreApart, HandsOn, IsBelow, IsKept, IsSeatOf, IsSeated, IsServed, IsSession, IsToPost, LeadsTo, Reflects, WorkState, all_handed, connections_of, handed_more, TakesPieces, TakesTurn}
use Rattle.nr_worker.proofs.Accounted.{accounted_grown}
use Rattle.nr_worker.proofs.Workers.{turned_led}
use Rattle.nr_worker.proofs.Lists.{all_at, all_weaker}

-- ---- lists
pub all_of : {A : Type 0} (P : A → Type 0) (xs : List A) → ((x : A) → Contains xs x → P x) → AllByRecursion P xs
all_of P [] f = tt
all_of P (x ∷ xs) f = (f x (first_in x xs), all_of P xs (λ y there. f y (later_in y x xs there)))

pub all_map : {A B : Type 0} (P : B → Type 0) (f : A → B) (xs : List A) → AllByRecursion (λ (x : A). P (f x)) xs → AllByRecursion P (map f xs)
all_map P f [] all = tt
all_map P f (x ∷ xs) all = (all.0, all_map P f xs all.1)

pub map_has : {A B : Type 0} (f : A → B) (xs : List A) (x : A) → Contains xs x → Contains (map f xs) (f x)
map_has f [] x there = absurd (some_in [] x refl there)
map_has f (y ∷ ys) x there = elim (in_cases x y ys there) [
  | inl is ↦ subst (λ z. Contains (f y ∷ map f ys) (f z)) is (first_in (f y) (map f ys))
  | inr more ↦ later_in (f x) (f y) (map f ys) (map_has f ys x more)
]

pub map_from : {A B : Type 0} (f : A → B) (xs : List A) (y : B) → Contains (map f xs) y → (x : A) × Contains xs x × (f x ≡ y)
map_from f [] y there = absurd (some_in [] y refl there)
map_from f (x ∷ xs) y there = elim (in_cases y (f x) (map f xs) there) [
  | inl is ↦ (x, first_in x xs, is)
  | inr more ↦ let on = map_from f xs y more in (on.0, later_in on.0 x xs on.1, on.2)
]

-- ---- of pieces by serial, one for a connection at most is there
abbrev Rise : List Portion → Type 0
Rise [] = Unit {0}
Rise (p ∷ ps) = AllByRecursion (λ (q : Portion). p.connection.serial < q.connection.serial) ps × Rise ps

rise : (hs : List LastPiece) → AreRising hs → Rise (map portion_of hs)
rise [] all = tt
rise (h ∷ hs) all = (all_map (λ (q : Portion). h.piece.conn.serial < q.connection.serial) portion_of hs all.0, rise hs all.1)

differ : (a b n : ℕ) → a ≡ n → a < b → (b == n) ≡ false
differ a b n is below = elim (b == n) as (λ t. (b == n) ≡ t → t ≡ false) [
  | true ↦ λ same. absurd (let e = eqb-true b n same in omega (arith, is, below, e))
  | false ↦ λ other. refl
] refl

-- a serial that none of them has
abbrev NoneAt : ℕ → List PortionArrival → Type 0
NoneAt n xs = AllByRecursion (λ (p : Portion). (p.connection.serial == n) ≡ false) (map (λ (x : PortionArrival). x.portion) xs)

none_same : (c : Connection) (p : Portion) → (p.connection.serial == c.serial) ≡ false → same_connection p.connection c ≡ false
none_same c p other = elim (p.connection.node == c.node) as (λ b. (b && (p.connection.serial == c.serial)) ≡ false) [
  | true ↦ other
  | false ↦ refl
]

abbrev is_at : ℕ → PortionArrival → Bool
is_at n x = x.portion.connection.serial == n

skipped : (c : Connection) (x : PortionArrival) (xs : List PortionArrival) → same_connection x.portion.connection c ≡ false
    → handed_to c (handed_by (x ∷ xs)) ≡ handed_to c (handed_by xs)
skipped c x xs other =
    let H = handed_to c (handed_by xs) in
    elim x.kept as (λ k. handed_to c (map handed_of (cond k (x.portion ∷ kept_of xs) (kept_of xs))) ≡ H) [
      | true ↦ ap (λ b. cond b (x.portion.bytes ++ H) H) other
      | false ↦ refl
    ]

taken : (c : Connection) (x : PortionArrival) (xs : List PortionArrival) → same_connection x.portion.connection c ≡ true → handed_to c (handed_by xs) ≡ []
    → handed_to c (handed_by (x ∷ xs)) ≡ bytes_of (kept_of (x ∷ []))
taken c x xs own none =
    let H = handed_to c (handed_by xs) in
    elim x.kept as (λ k. handed_to c (map handed_of (cond k (x.portion ∷ kept_of xs) (kept_of xs))) ≡ bytes_of (cond k (x.portion ∷ []) [])) [
      | true ↦ ap (λ b. cond b (x.portion.bytes ++ H) H) own ∙ ap (λ (h : Bytes). x.portion.bytes ++ h) none
      | false ↦ none
    ]

none_here : (c : Connection) (xs : List PortionArrival) → NoneAt c.serial xs → (arrivals_at c.serial xs ≡ []) × (handed_to c (handed_by xs) ≡ [])
none_here c [] none = (refl, refl)
none_here c (x ∷ xs) none =
    let more = none_here c xs none.1 in (
      filter-drops (is_at c.serial) x xs none.0 ∙ more.0,
      skipped c x xs (none_same c x.portion none.0) ∙ more.1,
    )

-- it is the only one for the connection
record IsOnly (c : Connection) (xs : List PortionArrival) (a : PortionArrival) : Type 0 where
  at : arrivals_at c.serial xs ≡ a ∷ []
  there : Contains xs a
  named : a.portion.connection ≡ c
  handed : handed_to c (handed_by xs) ≡ bytes_of (kept_of (a ∷ []))

abbrev Comes : Connection → List PortionArrival → Type 0
Comes c xs = ((arrivals_at c.serial xs ≡ []) × (handed_to c (handed_by xs) ≡ [])) ⊎ ((a : PortionArrival) × IsOnly c xs a)

comes_on : (c : Connection) (x : PortionArrival) (xs : List PortionArrival) → (x.portion.connection.serial == c.serial) ≡ false → Comes c xs → Comes c (x ∷ xs)
comes_on c x xs other (inl none) =
    inl (filter-drops (is_at c.serial) x xs other ∙ none.0, skipped c x xs (none_same c x.portion other) ∙ none.1)
comes_on c x xs other (inr (a, only)) = inr (
  a,
  record {
    at = filter-drops (is_at c.serial) x xs other ∙ only.at;
    there = later_in a x xs only.there;
    named = only.named;
    handed = skipped c x xs (none_same c x.portion other) ∙ only.handed;
  },
)

comes_here : (c : Connection) (x : PortionArrival) (xs : List PortionArrival) → (x.portion.connection.serial == c.serial) ≡ true → x.portion.connection.node ≡ c.node
    → NoneAt c.serial xs → Comes c (x ∷ xs)
comes_here c x xs own node none =
    let more = none_here c xs none in
    let same : same_connection x.portion.connection c ≡ true = λ i. eq-eqb x.portion.connection.node c.node node i && own i in
    inr (
      x,
      record {
        at = filter-keeps (is_at c.serial) x xs own ∙ ap (λ (l : List PortionArrival). x ∷ l) more.0;
        there = first_in x xs;
        named = λ i. record { node = node i; serial = eqb-true x.portion.connection.serial c.serial own i };
        handed = taken c x xs same more.1;
      },
    )

comes : (c : Connection) (xs : List PortionArrival) → Rise (map (λ (x : PortionArrival). x.portion) xs) → AreOfNode c.node (map (λ (x : PortionArrival). x.portion) xs) → Comes c xs
comes c [] rise node = inl (refl, refl)
comes c (x ∷ xs) rise node = elim (x.portion.connection.serial == c.serial) as (λ b. (x.portion.connection.serial == c.serial) ≡ b → Comes c (x ∷ xs)) [
  | true ↦ λ own.
      comes_here c x xs own node.0
      (all_weaker (λ (q : Portion). x.portion.connection.serial < q.connection.serial) (λ (q : Portion). (q.connection.serial == c.serial) ≡ false)
      (λ q below. differ x.portion.connection.serial q.connection.serial c.serial (eqb-true x.portion.connection.serial c.serial own) below)
      (map (λ (y : PortionArrival). y.portion) xs) rise.0)
  | false ↦ λ other. comes_on c x xs other (comes c xs rise.1 node.1)
] refl

-- ---- what a connection got
handed_none : (x : Served) (handed : List connections.Handed) → handed_to x.connection handed ≡ [] → handed_more handed x ≡ x
handed_none x handed none = λ i. record x { handed = (ap (λ (b : Bytes). x.handed ++ b) none ∙ append-nil x.handed) i }

follows_first : (n m : ℕ) → ((n == m) && true) ≡ true → n ≡ m
follows_first n m is = eqb-true n m (elim (n == m) as (λ b. (b && true) ≡ true → b ≡ true) [ true ↦ λ e. refl | false ↦ λ e. absurd (cc e) ] is)

-- the seat of a piece that was kept is there, and had as many
kept_at : (limit : ℕ) (a : PortionArrival) (o n : Option OpenConnectionState) (count : ℕ) (live : Type 0) → a.kept ≡ true → GrowsHere limit (a ∷ []) o n
    → ((s : OpenConnectionState) → o ≡ Some s → (s.handed ≡ count) × live) → (a.portion.from ≡ count) × live
kept_at limit a None None count live kept grows had =
    let none : a.portion ∷ [] ≡ [] = sym (ap (λ k. cond k (a.portion ∷ []) []) kept) ∙ grows in absurd (cc none)
kept_at limit a None (Some t) count live kept grows had = absurd grows
kept_at limit a (Some s) None count live kept grows had = absurd grows
kept_at limit a (Some s) (Some t) count live kept grows had =
    let seat = had s refl in
    (follows_first a.portion.from s.handed (sym (ap (λ k. follow s.handed (cond k (a.portion ∷ []) [])) kept) ∙ grows.follows) ∙ seat.0, seat.1)

has_got : (pieces : List LastPiece) (limit : ℕ) (xs : List PortionArrival) (old new : OpenConnectionsState) (x : Served)
    → map (λ (a : PortionArrival). a.portion) xs ≡ map portion_of pieces
    → ((q : ℕ) → GrowsHere limit (arrivals_at q xs) (seat_at q old) (seat_at q new))
    → ((s : OpenConnectionState) → seat_at x.connection.serial old ≡ Some s → (s.handed ≡ length x.handed) × (x.ends ≡ []))
    → Comes x.connection xs → HasGot pieces x (handed_more (handed_by xs) x)
has_got pieces limit xs old new x are at had (inl none) = inl (handed_none x (handed_by xs) none.1)
has_got pieces limit xs old new x are at had (inr (a, only)) = elim a.kept as (λ k. a.kept ≡ k → HasGot pieces x (handed_more (handed_by xs) x)) [
  | false ↦ λ lost. inl (handed_none x (handed_by xs) (only.handed ∙ ap (λ k. bytes_of (cond k (a.portion ∷ []) [])) lost))
  | true ↦ λ kept.
      let q = x.connection.serial in
      let from = kept_at limit a (seat_at q old) (seat_at q new) (length x.handed) (x.ends ≡ []) kept
      (subst (λ (l : List PortionArrival). GrowsHere limit l (seat_at q old) (seat_at q new)) only.at (at q)) had in
      let one = map_from portion_of pieces a.portion (subst (λ (l : List Portion). Contains l a.portion) are (map_has (λ (b : PortionArrival). b.portion) xs a only.there)) in
      let bytes : handed_to x.connection (handed_by xs) ≡ one.0.piece.bytes.items =
      only.handed ∙ ap (λ k. bytes_of (cond k (a.portion ∷ []) [])) kept ∙ append-nil a.portion.bytes ∙ ap (λ (p : Portion). p.bytes) (sym one.2) in
      inr (
        one.0,
        from.1,
        one.1,
        ap (λ (p : Portion). p.connection) one.2 ∙ only.named,
        ap (λ (p : Portion). p.from) one.2 ∙ from.0,
        λ i. record x { handed = x.handed ++ bytes i },
      )
] refl

have_got : (pieces : List LastPiece) (f : Served → Served) (xs : List Served) → AllByRecursion (λ (x : Served). HasGot pieces x (f x)) xs → HaveGot pieces xs (map f xs)
have_got pieces f [] all = tt
have_got pieces f (x ∷ xs) all = (all.0, have_got pieces f xs all.1)

-- ---- the seats
-- what came to a seat is what was handed out for its connection
come_bytes : (c : Connection) (xs : List PortionArrival) → Comes c xs → handed_to c (handed_by xs) ≡ bytes_of (kept_of (arrivals_at c.serial xs))
come_bytes c xs (inl (at, none)) = none ∙ ap (λ (l : List PortionArrival). bytes_of (kept_of l)) (sym at)
come_bytes c xs (inr (a, only)) = only.handed ∙ ap (λ (l : List PortionArrival). bytes_of (kept_of l)) (sym only.at)

still_open : (a b t : Bool) → t ≡ (a || b) → t ≡ false → a ≡ false
still_open true b t is uncut = absurd (cc (sym is ∙ uncut))
still_open false b t is uncut = refl

seat_grows : (limit : ℕ) (handed : List connections.Handed) (xs : List PortionArrival) (s t : OpenConnectionState) (x : Served) → Grows limit xs s t
    → handed_to x.connection handed ≡ bytes_of (kept_of xs) → IsSeatOf s x → IsSeatOf t (handed_more handed x)
seat_grows limit handed xs s t x g is was = record {
  unclosed = was.unclosed;
  live = was.live;
  handed =
      g.handed ∙ (λ i. was.handed i + length (sym is i))
      ∙ sym (Rattle.std.proofs.lemmas.List.length-append x.handed (handed_to x.connection handed));
  own = ap (λ (u : SessionState). u.connection) g.session ∙ was.own;
  session = λ uncut.
      subst (λ (u : SessionState). IsSession u (fed_to x.connection x.fed)) (sym g.session) (was.session (still_open s.cut (list_any cuts xs) t.cut g.cut uncut));
  counted = λ uncut. was.counted (still_open s.cut (list_any cuts xs) t.cut g.cut uncut) ∙ ap (λ (u : SessionState). u.next) (sym g.session);
  few = subst (λ (u : SessionState). u.next ≤ length (asked_of x)) (sym g.session) was.few;
}

pub known_more : (f : Served → Served) → ((x : Served) → (f x).connection ≡ x.connection) → (served : List Served) (c : Connection) → IsServed served c → IsServed (map f served) c
known_more f same served c k = record { one = f k.one; there = map_has f served k.one k.there; connection = same k.one ∙ k.connection }

seated_here : (limit : ℕ) (xs : List PortionArrival) (served : List Served) (c : Connection) (o n : Option OpenConnectionState) → Comes c xs
    → GrowsHere limit (arrivals_at c.serial xs) o n → ((s : OpenConnectionState) → o ≡ Some s → IsSeated served c s)
    → (t : OpenConnectionState) → n ≡ Some t → IsSeated (map (handed_more (handed_by xs)) served) c t
seated_here limit xs served c None None come grows was t is = absurd (cc is)
seated_here limit xs served c None (Some u) come grows was t is = absurd grows
seated_here limit xs served c (Some s) None come grows was t is = absurd grows
seated_here limit xs served c (Some s) (Some u) come grows was t is =
    let here = was s refl in
    let f = handed_more (handed_by xs) in
    let same : u ≡ t = ap (λ (o : Option OpenConnectionState). elim o [ None ↦ u | Some z ↦ z ]) is in
    subst (IsSeated (map f served) c) same (record {
      known = known_more f (λ x. refl) served c here.known;
      seat = all_map (λ (y : Served). y.connection ≡ c → IsSeatOf u y) f served
          (all_weaker (λ (x : Served). x.connection ≡ c → IsSeatOf s x) (λ (x : Served). x.connection ≡ c → IsSeatOf u (f x))
          (λ x seat own.
          seat_grows limit (handed_by xs) (arrivals_at c.serial xs) s u x grows (ap (λ (d : Connection). handed_to d (handed_by xs)) own ∙ come_bytes c xs come) (seat own))
          served here.seat);
    })

seated_on : (node limit : ℕ) (xs : List PortionArrival) (served : List Served) (old new : OpenConnectionsState)
    → ((q : ℕ) → GrowsHere limit (arrivals_at q xs) (seat_at q old) (seat_at q new))
    → ((c : Connection) → c.node ≡ node → Comes c xs) → EachSeat (IsSeated served) node old
    → EachSeat (IsSeated (map (handed_more (handed_by xs)) served)) node new
seated_on node limit xs served old new at come was = λ c. elim (c.node == node) as
    (λ b. (c.node == node) ≡ b → ((s : OpenConnectionState) → cond b (seat_at c.serial old) None ≡ Some s → IsSeated served c s)
    → (t : OpenConnectionState) → cond b (seat_at c.serial new) None ≡ Some t → IsSeated (map (handed_more (handed_by xs)) served) c t) [
      | true ↦ λ here each. seated_here limit xs served c (seat_at c.serial old) (seat_at c.serial new) (come c (eqb-true c.node node here)) (at c.serial) each
      | false ↦ λ other each t is. absurd (cc is)
    ] refl (was c)

-- ---- the connections stay
pub same_connections : (f : Served → Served) → ((x : Served) → (f x).connection ≡ x.connection) → (xs : List Served) → connections_of (map f xs) ≡ connections_of xs
same_connections f same [] = refl
same_connections f same (x ∷ xs) = λ i. same x i ∷ same_connections f same xs i

more_to_post : (handed : List connections.Handed) (served : List Served) (job : Item) → IsToPost served job → IsToPost (map (handed_more handed) served) job
more_to_post handed served job t = record {
  known = known_more (handed_more handed) (λ x. refl) served job.connection t.known;
  asked = all_map (λ (y : Served). job.connection ≡ y.connection → Contains (all_asked y) job) (handed_more handed) served t.asked;
}

-- ---- a turn
module _ (v : WorkState) (desk : CombinerPast) (seats : OpenConnectionsState) (mark : Option Standing) (most : ℕ) (down : Bool) (s : Standing) (pieces : List LastPiece)
    (sound : IsSound s × (s.node ≡ v.worker.node)) (a : AcceptsPortions v.limit (map portion_of pieces) v.seats seats) where
  abbrev handed : List connections.Handed
  handed = handed_by a.arrivals

  abbrev change : Served → Served
  change = handed_more handed

  abbrev now : WorkState
  now = record v { worker = with_more (told_of desk v.worker); seats = seats; mark = mark }

  abbrev then_of : WorkerState → WorkerState
  then_of d = record d { heard = desk; mark = mark; served = map change d.served }

  of_node : (hs : List LastPiece) → AllByRecursion (λ (h : LastPiece). IsHandedOf most down h s) hs → AreOfNode v.worker.node (map portion_of hs)
  of_node hs all =
      all_map (λ (p : Portion). p.connection.node ≡ v.worker.node) portion_of hs
      (all_weaker (λ (h : LastPiece). IsHandedOf most down h s) (λ (h : LastPiece). (connection_of h.piece.conn).node ≡ v.worker.node)
      (λ h is. is.piece.node ∙ sound.1) hs all)

  module _ (d : WorkerState) (led : IsLed d) (r : Reflects v d) (heard : HasHeard d.worker most down desk s v.worker.seat.lane [] pieces)
      (adopted : Adopts d.mark s mark) (met : HaveMet d.mark (Some s)) where
    come : (c : Connection) → c.node ≡ v.worker.node → Comes c a.arrivals
    come c here =
        let added = heard.added in
        let are : map (λ (x : PortionArrival). x.portion) a.arrivals ≡ map portion_of added.pieces = a.are ∙ ap (map portion_of) added.behind in
        comes c a.arrivals (subst Rise (sym are) (rise added.pieces added.rising))
        (subst (λ (l : List Portion). AreOfNode c.node l) (sym are)
        (subst (λ (n : ℕ). AreOfNode n (map portion_of added.pieces)) (sym here) (of_node added.pieces added.all)))

    got_one : (x : Served) → Contains d.served x → HasGot heard.added.pieces x (change x)
    got_one x there =
        let node : x.connection.node ≡ v.worker.node = (all_at (IsServedAt d) d.served x led.each there).node ∙ r.node in
        has_got heard.added.pieces v.limit a.arrivals v.seats seats x (a.are ∙ ap (map portion_of) heard.added.behind) a.at
        (λ t is.
        let seat = all_at (λ (y : Served). y.connection ≡ x.connection → IsSeatOf t y) d.served x
        (r.seats x.connection t (ap (λ b. cond b (seat_at x.connection.serial v.seats) None) (eq-eqb x.connection.node v.worker.node node) ∙ is)).seat there refl in
        (seat.handed, seat.live))
        (come x.connection node)

    turns : HearsTurn most down s v.worker.seat.lane [] pieces d (then_of d)
    turns = record {
      heard = heard;
      posted = sym r.posted;
      sound = (sound.0, sound.1 ∙ sym r.node);
      adopted = adopted;
      met = met;
      got = have_got heard.added.pieces change d.served (all_of (λ (x : Served). HasGot heard.added.pieces x (change x)) d.served got_one);
      same = refl;
    }

    leads : LeadsTo (all_handed handed) now d
    leads =
        let on = turned_led most down s v.worker.seat.lane [] pieces d (then_of d) led turns in
        record {
          then = then_of d;
          led = on.0;
          goes = on.1;
          reflects = record {
            node = r.node;
            worker = r.worker;
            posted = r.posted;
            heard = refl;
            mark = refl;
            below = all_map (λ (x : Served). x.connection.serial < v.next) change d.served r.below;
            apart = subst AreApart (sym (same_connections change (λ x. refl) d.served)) r.apart;
            jobs = all_weaker (IsToPost d.served) (IsToPost (map change d.served)) (more_to_post handed d.served) (items_of v.jobs) r.jobs;
            seats = seated_on v.worker.node v.limit a.arrivals d.served v.seats seats a.at come r.seats;
            numbers = each_accepted (λ c s. IsBelow v.worker.seat.lane.posted (items_of v.jobs) c s.session.next)
                (λ c x y same n. subst (λ (u : SessionState). IsBelow v.worker.seat.lane.posted (items_of v.jobs) c u.next) (sym same) n) v.worker.node v.limit
                (map portion_of pieces) v.seats seats a r.numbers;
            accounted = accounted_grown v.down (items_of v.jobs) v.worker.seat.lane v.worker.node v.limit a.arrivals v.seats seats a.at r.accounted;
          };
          served = refl;
        }

  hands_on : HasHeard v.worker.seat.worker most down desk s v.worker.seat.lane [] pieces → Adopts v.mark s mark → HaveMet v.mark (Some s) → HandsOn v now
  hands_on heard adopted met = record {
    handed = handed;
    waiting =
        hands_out v.worker.node v.limit (map portion_of pieces) v.seats seats a
        (subst (λ (hs : List LastPiece). AreOfNode v.worker.node (map portion_of hs)) (sym heard.added.behind) (of_node heard.added.pieces heard.added.all));
    goes = record {
      leads = λ d led r.
          leads d led r (subst (λ (n : ℕ). HasHeard n most down desk s v.worker.seat.lane [] pieces) (sym r.worker) heard)
          (subst (λ (m : Option Standing). Adopts m s mark) (sym r.mark) adopted) (subst (λ (m : Option Standing). HaveMet m (Some s)) (sym r.mark) met);
    };
    changed = refl;
  }

pub turned_by : (v u : WorkState) (desk : CombinerPast) (worker : NodeHandleState) (seats : OpenConnectionsState) (mark : Option Standing) (most : ℕ) (down : Bool) (s : Standing)
    (old pieces : List LastPiece) → u ≡ v → old ≡ [] → worker ≡ with_more (told_of desk u.worker)
    → HasHeard u.worker.seat.worker most down desk s u.worker.seat.lane old pieces → IsSound s × (s.node ≡ u.worker.node) → Adopts u.mark s mark
    → HaveMet u.mark (Some s) → AcceptsPortions u.limit (map portion_of pieces) u.seats seats
    → HandsOn v (record u { worker = worker; seats = seats; mark = mark })
turned_by v u desk worker seats mark most down s old pieces same none still heard sound adopted met a =
    subst (λ (x : WorkState). HandsOn x (record u { worker = worker; seats = seats; mark = mark })) same
    (subst (λ (x : NodeHandleState). HandsOn u (record u { worker = x; seats = seats; mark = mark })) (sym still)
    (hands_on u desk seats mark most down s pieces sound a
    (subst (λ (hs : List LastPiece). HasHeard u.worker.seat.worker most down desk s u.worker.seat.lane hs pieces) none heard) adopted met))

pub took_by : (places : ℕ) (lifts : Lifts) (turned : Turned) (v u : WorkState) (worker : NodeHandleState) (seats : OpenConnectionsState) (mark : Option Standing) (most : ℕ)
    (s : Standing) (note : NoteView) (old pieces : List LastPiece) → u ≡ v → old ≡ []
    → turned.answered ≤ length worker.seat.noted.answered → TurnsBehind places u.worker.node u.worker.seat.worker u.worker.generation lifts most old pieces turned s note → Adopts u.mark s mark
    → AcceptsPortions u.limit (map portion_of pieces) u.seats seats
    → TakesTurn places lifts most turned v (record u { worker = worker; seats = seats; mark = mark })
took_by places lifts turned v u worker seats mark most s note old pieces same none counted behind adopted a =
    subst (λ (x : WorkState). TakesTurn places lifts most turned x (record u { worker = worker; seats = seats; mark = mark })) same (record {
      standing = s;
      note = note;
      pieces = pieces;
      behind = subst (λ (hs : List LastPiece). TurnsBehind places u.worker.node u.worker.seat.worker u.worker.generation lifts most hs pieces turned s note) none behind;
      counted = counted;
      adopted = adopted;
      accepted = a;
    })

pub got_by : (collected : Collected) (v u : WorkState) (worker : NodeHandleState) (seats : OpenConnectionsState) (mark : Option Standing) (most : ℕ)
    (s : Standing) (note : NoteView) (old pieces : List LastPiece) → u ≡ v → old ≡ []
    → collected.answered ≤ length worker.seat.noted.answered → CollectsBehind u.worker.node u.worker.seat.worker u.worker.generation most old pieces collected s note → Adopts u.mark s mark
    → AcceptsPortions u.limit (map portion_of pieces) u.seats seats
    → TakesPieces most collected v (record u { worker = worker; seats = seats; mark = mark })
got_by collected v u worker seats mark most s note old pieces same none counted behind adopted a =
    subst (λ (x : WorkState). TakesPieces most collected x (record u { worker = worker; seats = seats; mark = mark })) same (record {
      standing = s;
      note = note;
      pieces = pieces;
      behind = subst (λ (hs : List LastPiece). CollectsBehind u.worker.node u.worker.seat.worker u.worker.generation most hs pieces collected s note) none behind;
      counted = counted;
      adopted = adopted;
      accepted = a;
    })

-- what a worker counts is as before
pub told_kept : (batches : ℕ) (v : WorkState) (worker : NodeHandleState) (seats : OpenConnectionsState) (mark : Option Standing) (s : Standing) → IsKept batches v
    → worker ≡ with_more (told_of worker.seat.noted v.worker) → s.node ≡ v.worker.node → Adopts v.mark s mark
    → IsKept batches (record v { worker = worker; seats = seats; mark = mark })
told_kept batches v worker seats mark s k is node adopted =
    subst (λ (w : NodeHandleState). IsKept batches (record v { worker = w; seats = seats; mark = mark })) (sym is) (record {
      counted = k.counted;
      each = k.each;
      waits = k.waits;
      mark = adopts_has (λ (x : Standing). x.node ≡ v.worker.node) (λ x n h. h) v.mark mark s k.mark node adopted;
      none = k.none;
      few = k.few;
    })
