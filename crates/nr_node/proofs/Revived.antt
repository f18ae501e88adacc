-- A node that is down comes back with another one's server.
use Rattle.std.proofs.Common.{◌≡◌, ℕ, zero, suc, ◌+◌, ◌-◌, ◌<◌, ◌≤◌, inl, inr, Bool, true, false, List, [], ◌∷◌, ◌++◌, length, map, drop, get_or, ltb, drop-cons, add-one, refl, ap, sym, ◌∙◌, subst, arith}
use Rattle.std.specs.Prelude.{◌⊎◌, ◌||◌, not, cond, flat_map, slice_index_or, Option, Some, None, is_some, option_to_list}
use Rattle.std.specs.List.{AllByRecursion, list_any}
use Rattle.std.proofs.lemmas.Bool.{leb-true, le-leb, ltb-false}
use Rattle.std.proofs.lemmas.List.{append-nil, length-append, length-map, drop_all}
use Rattle.nr_model.specs.Bytes.{IsBeginningOf}
use Rattle.nr_model.specs.Servers.{Server, fresh, after_all}
use Rattle.nr_model.specs.Entries.{entry_items}
use Rattle.nr_model.specs.Queues.{Queue, cut_off}
use Rattle.nr_model.proofs.Emitted.{after_all-append}
use Rattle.nr_model.proofs.Serving.{server_is_redis}
use Rattle.nr_entry.specs.Jobs.{item_of, items_of}
use Rattle.nr_entry.specs.declared.entry.Entry.{Entry}
use Rattle.nr_entry.specs.declared.job.Job.{Job}
use Rattle.nr_log_end.specs.declared.standing.Standing.{Standing}
use Rattle.nr_log_end.specs.declared.standing.Load.{Load}
use Rattle.nr_log_end.specs.declared.standing.Load.TheVariants.{Unfilled}
use Rattle.nr_log_end.specs.declared.standing.LogEvent.{LogEvent}
use Rattle.nr_log_end.specs.declared.standing.LogEvent.TheVariants.{Applied, Ran, Opened}
use Rattle.nr_log_end.specs.Standings.{applied_of, ran_from, ran_of, record_of, known_of, passed_of, own_entries}
use Rattle.nr_oplog.specs.Plays.{AreOfOneLog}
use Rattle.nr_job_numbers.specs.Book.{Book}
use Rattle.nr_replica.specs.Members.{Member, cut_member, fresh_member, AreNumbered}
use Rattle.nr_replica.specs.Replicas.{ReplicaState}
use Rattle.nr_node.specs.declared.next.Next.{Next}
use Rattle.nr_oplog.specs.declared.view.LogView.{LogView}
use Rattle.nr_node.specs.Level.{NodeState, IsBehind, IsWhole, IsLevel, IsInOrder, IsReadOf, connection_at, queue_at, emitted_to, workers_of, unpassed, jobs_reserved}
use Rattle.nr_node.specs.OwnEntries.{is_from, last_number}
use Rattle.nr_node.specs.Kept.{IsKept}
use Rattle.nr_node.specs.Next.{jobs_next}
use Rattle.nr_node.specs.Owing.{IsOwing, count_owed, unexecuted}
use Rattle.nr_node.specs.declared.reviving.ReviveError.TheVariants.{NotDown, Behind, Busy}
use Rattle.nr_node.specs.Revived.{OfferState, IsOffered, HasRevived, IsNotYet, is_busy, place_of, revive_refusal, revived_replica}
use Rattle.nr_node.proofs.Orders.{is_sound}
use Rattle.nr_node.proofs.Taking.{IsWithin, goes_within}
use Rattle.nr_node.specs.Advanced.{HasPassed, GoesOn, MeetsNoTail, HasStopped, jobs_of_own}
use Rattle.nr_node.proofs.Advances.{passed_by}
use Rattle.nr_node.proofs.Owed.{workers_accounts}

-- a worker more waits for no answer
pub idle_more : (owed : List (Option ℕ)) (w : ℕ) → w < length owed → is_some (slice_index_or owed w None) ≡ false
    → list_any is_some (drop w owed) ≡ list_any is_some owed → list_any is_some (drop (w + 1) owed) ≡ list_any is_some owed
idle_more owed w within idle so =
    let number : suc w ≡ w + 1 = sym (add-one w) in
    let rest = list_any is_some (drop (w + 1) owed) in
    let step : list_any is_some (drop w owed) ≡ (is_some (slice_index_or owed w None) || rest) =
    ap (list_any is_some) (drop-cons owed w None within ∙ (λ i. get_or owed w None ∷ drop (number i) owed)) in
    sym (step ∙ ap (λ (b : Bool). b || rest) idle) ∙ so

pub one_busy : (owed : List (Option ℕ)) (w : ℕ) → w < length owed → is_some (slice_index_or owed w None) ≡ true
    → list_any is_some (drop w owed) ≡ list_any is_some owed → true ≡ list_any is_some owed
one_busy owed w within busy so =
    let number : suc w ≡ w + 1 = sym (add-one w) in
    let rest = list_any is_some (drop (w + 1) owed) in
    let step : list_any is_some (drop w owed) ≡ (is_some (slice_index_or owed w None) || rest) =
    ap (list_any is_some) (drop-cons owed w None within ∙ (λ i. get_or owed w None ∷ drop (number i) owed)) in
    sym (step ∙ ap (λ (b : Bool). b || rest) busy) ∙ so

pub none_busy : (owed : List (Option ℕ)) (w : ℕ) → length owed ≤ w → list_any is_some (drop w owed) ≡ list_any is_some owed → false ≡ list_any is_some owed
none_busy owed w past so = sym (ap (list_any is_some) (drop_all w owed past)) ∙ so

all_idle : (owed : List (Option ℕ)) → is_busy owed ≡ false → (w : ℕ) → slice_index_or owed w None ≡ None
all_idle [] idle w = refl
all_idle (None ∷ owed) idle zero = refl
all_idle (None ∷ owed) idle (suc w) = all_idle owed idle w
all_idle (Some count ∷ owed) idle w = absurd (cc idle)

-- none of the entries that the node has reserved is ahead of it
last_from : (least : ℕ) (r : ℕ × Entry) (rs : List (ℕ × Entry)) → AllByRecursion (λ (x : ℕ × Entry). least ≤ x.0) (r ∷ rs)
    → is_from least (last_number (r ∷ rs)) ≡ true
last_from least r [] all = le-leb least r.0 all.0
last_from least r (q ∷ rs) all = last_from least q rs all.1

last_dropped : (k : ℕ) (rs : List (ℕ × Entry)) (r : ℕ × Entry) (rest : List (ℕ × Entry)) → drop k rs ≡ r ∷ rest → last_number (r ∷ rest) ≡ last_number rs
last_dropped zero rs r rest is = ap last_number (sym is)
last_dropped (suc k) [] r rest is = absurd (cc is)
last_dropped (suc k) (q ∷ []) r rest is = absurd (cc (sym (nothing k) ∙ is))
  where
    nothing : (k : ℕ) → drop {A = ℕ × Entry} k [] ≡ []
    nothing zero = refl
    nothing (suc k) = refl
last_dropped (suc k) (q ∷ (next ∷ rs)) r rest is = last_dropped k (next ∷ rs) r rest is

none_by : (k least : ℕ) (rs left : List (ℕ × Entry)) → drop k rs ≡ left → AllByRecursion (λ (x : ℕ × Entry). least ≤ x.0) left → is_from least (last_number rs) ≡ false → left ≡ []
none_by k least rs [] is all last = refl
none_by k least rs (r ∷ left) is all last =
    absurd (cc (sym (last_from least r left all) ∙ ap (is_from least) (last_dropped k rs r left is) ∙ last))

pub none_ahead : (s : Standing) (last : Option ℕ) → AllByRecursion (λ (r : ℕ × Entry). passed_of s ≤ r.0) (unpassed s) → last ≡ last_number s.reservations
    → is_from (passed_of s) last ≡ false → unpassed s ≡ []
none_ahead s last ahead is below =
    none_by (length (own_entries s.node (applied_of s.history))) (passed_of s) s.reservations (unpassed s) refl ahead (sym (ap (is_from (passed_of s)) is) ∙ below)

-- the last one is
pub last_ahead : (rs : List (ℕ × Entry)) (least : ℕ) → is_from least (last_number rs) ≡ true
    → (front : List (ℕ × Entry)) × ((r : ℕ × Entry) × (rs ≡ front ++ r ∷ []) × (least ≤ r.0))
last_ahead [] least is = absurd (cc is)
last_ahead (r ∷ []) least is = ([], (r, refl, leb-true least r.0 is))
last_ahead (r ∷ (q ∷ rs)) least is =
    let more = last_ahead (q ∷ rs) least is in
    (r ∷ more.0, (more.1.0, ap (λ (xs : List (ℕ × Entry)). r ∷ xs) more.1.1, more.1.2))

-- two standings of one log at one place have passed the same entries
whole : {A : Type 0} (xs ys : List A) → length xs ≡ length ys → IsBeginningOf xs ys → xs ≡ ys
whole xs ys same b =
    let long = length-append xs b.0 in
    let none : b.0 ≡ [] = no_more b.0 (let all = ap length b.1 in omega (arith, long, all, same)) in
    sym (append-nil xs) ∙ ap (λ (more : List _). xs ++ more) (sym none) ∙ b.1
  where
    no_more : {B : Type 0} (zs : List B) → length zs ≡ 0 → zs ≡ []
    no_more [] e = refl
    no_more (z ∷ zs) e = absurd (omega (arith, e))

known_idle : (s : Standing) → s.held ≡ None → known_of s ≡ applied_of s.history
known_idle s idle = ap (λ (o : Option Entry). applied_of s.history ++ option_to_list o) idle ∙ append-nil (applied_of s.history)

same_entries : (s t : Standing) → AreOfOneLog s t → s.held ≡ None → t.held ≡ None → passed_of s ≡ passed_of t → applied_of s.history ≡ applied_of t.history
same_entries s t one idle quiet same =
    let first = known_idle s idle in
    let second = known_idle t quiet in
    let long : length (known_of s) ≡ length (known_of t) = ap length first ∙ same ∙ sym (ap length second) in
    sym first ∙ whole (known_of s) (known_of t) long (one.0.0 (omega (arith, long))) ∙ second

-- reads change no server, so it is the one after the entries
by_entries : (s : Server) (node n : ℕ) (turns : List LogEvent) → AllByRecursion (λ (r : Job × ℕ). IsReadOf node (item_of r.0)) (ran_from n turns)
    → after_all s (record_of turns) ≡ after_all s (flat_map (λ (e : Entry). entry_items (items_of e.jobs.items)) (applied_of turns))
by_entries s node n [] reads = refl
by_entries s node n (Applied e ∷ turns) reads =
    let items = entry_items (items_of e.jobs.items) in
    let others = flat_map (λ (e : Entry). entry_items (items_of e.jobs.items)) (applied_of turns) in
    after_all-append s items (record_of turns) ∙ by_entries (after_all s items) node (suc n) turns reads ∙ sym (after_all-append s items others)
by_entries s node n (Ran job ∷ turns) reads =
    ap (λ (t : Server). after_all t (record_of turns)) (server_is_redis.reads s (item_of job) reads.0.1) ∙ by_entries s node n turns reads.1
by_entries s node n (Opened worker ∷ turns) reads = by_entries s node n turns reads

same_server : (s t : Standing) → applied_of s.history ≡ applied_of t.history → AllByRecursion (λ (r : Job × ℕ). IsReadOf s.node (item_of r.0)) (ran_of s.history)
    → AllByRecursion (λ (r : Job × ℕ). IsReadOf t.node (item_of r.0)) (ran_of t.history) → after_all fresh (record_of s.history) ≡ after_all fresh (record_of t.history)
same_server s t same own other =
    by_entries fresh s.node 0 s.history own
    ∙ ap (λ (es : List Entry). after_all fresh (flat_map (λ (e : Entry). entry_items (items_of e.jobs.items)) es)) same
    ∙ sym (by_entries fresh t.node 0 t.history other)

-- connections whose queues are cut
cut_workers : (members : List Member) → workers_of (map cut_member members) ≡ workers_of members
cut_workers [] = refl
cut_workers (m ∷ members) = ap (λ (ws : List ℕ). m.worker ∷ ws) (cut_workers members)

cut_numbered : (node n : ℕ) (members : List Member) → AreNumbered node n members → AreNumbered node n (map cut_member members)
cut_numbered node n [] numbered = tt
cut_numbered node n (m ∷ members) numbered = (numbered.0, cut_numbered node (suc n) members numbered.1)

cut_at : (members : List Member) (serial : ℕ) (d : Member) → serial < length members
    → (slice_index_or (map cut_member members) serial d).outbox ≡ cut_off (slice_index_or members serial d).outbox
cut_at [] serial d within = absurd (omega arith)
cut_at (m ∷ members) zero d within = refl
cut_at (m ∷ members) (suc serial) d within = cut_at members serial d (omega arith)

cut_worker : (members : List Member) (serial : ℕ) (d : Member) → (slice_index_or (map cut_member members) serial d).worker ≡ (slice_index_or members serial d).worker
cut_worker [] serial d = refl
cut_worker (m ∷ members) zero d = refl
cut_worker (m ∷ members) (suc serial) d = cut_worker members serial d

cut_length : (members : List Member) → length (map cut_member members) ≡ length members
cut_length members = length-map members cut_member

cut_queue : (members : List Member) (serial : ℕ) → serial < length (map cut_member members) → queue_at serial (map cut_member members) ≡ cut_off (queue_at serial members)
cut_queue members serial below =
    let within : serial < length members = omega (arith, below, cut_length members) in
    cut_at members serial (fresh_member (connection_at 0 0) 0 0) within

-- it is level
pub revived_level : (s : Standing) (old : ReplicaState) (offer : OfferState) → AreOfOneLog s offer.standing → s.held ≡ None → passed_of s ≡ place_of offer → IsOffered offer
    → AllByRecursion (λ (r : Job × ℕ). IsReadOf s.node (item_of r.0)) (ran_of s.history) → IsLevel s old → IsLevel s (revived_replica offer old)
revived_level s old offer one idle place offered reads l =
    let members = map cut_member old.members in
    let entries = same_entries s offer.standing one idle offered.sound.idle place in
    record {
      node = l.node;
      named = cut_numbered old.node 0 old.members l.named;
      opened = cut_workers old.members ∙ l.opened;
      server = λ _. offered.server ∙ sym (same_server s offer.standing entries reads offered.sound.reads);
      applied = λ _. sym place;
      behind = λ serial below.
          let b = l.behind serial (omega (arith, below, cut_length old.members)) in
          subst (λ (q : Queue). IsBehind q (emitted_to s serial)) (sym (cut_queue old.members serial below)) (record { handed = b.handed; begins = b.begins });
      whole = λ _ serial below. subst (λ (q : Queue). IsWhole q (emitted_to s serial)) (sym (cut_queue old.members serial below)) (λ uncut. absurd (cc uncut));
    }

-- its jobs are in order
pub revived_order : (s : Standing) (old : ReplicaState) (offer : OfferState) (book : Book) (next : List Job) → IsInOrder s old book next
    → IsInOrder s (revived_replica offer old) book next
revived_order s old offer book next o = record {
  book_is = o.book_is;
  own = o.own;
  numbered = o.numbered;
  taken = o.taken;
  unopened = λ serial past.
      let before : length old.members ≤ serial = omega (arith, past, cut_length old.members) in
      o.unopened serial before;
  closed = λ serial past.
      let before : length old.members ≤ serial = omega (arith, past, cut_length old.members) in
      o.closed serial before;
  reads = o.reads;
  entries = o.entries;
  passed = o.passed;
  met = o.met;
}

-- what holds of it between two calls
pub revived_kept : (s : Standing) (old : ReplicaState) (offer : OfferState) (book : Book) (next : Option Next) (nodes : ℕ) → old.down ≡ true → AreOfOneLog s offer.standing
    → s.held ≡ None → passed_of s ≡ place_of offer → IsOffered offer → unpassed s ≡ [] → is_busy old.owed ≡ false → IsKept s old book next nodes
    → IsKept s (revived_replica offer old) book next nodes
revived_kept s old offer book next nodes down one idle place offered none answered k =
    let members = map cut_member old.members in
    let lifted = k.fallen down in
    let nothing : [] ≡ unexecuted s (jobs_next next) old.waiting =
    λ i. jobs_reserved (sym none i) ++ (items_of (sym lifted.1 i) ++ items_of (sym lifted.0 i)) in
    record {
      level = revived_level s old offer one idle place offered k.order.reads k.level;
      order = revived_order s old offer book (jobs_next next) k.order;
      next_is = k.next_is;
      owed = k.owed;
      owing = λ _. subst (IsOwing members old.owed) nothing (record { opened = tt; counts = λ worker. ap count_owed (all_idle old.owed answered worker) });
      accounts = workers_accounts book.node old.members members book.held (cut_length old.members)
          (λ c. cut_worker old.members c.serial (fresh_member c 0 0)) k.accounts;
      fallen = λ is. absurd (cc is);
    }

-- how far it came
pub before_place : (s t : Standing) (es : List Entry) (place passed : ℕ) → passed ≡ passed_of s → passed_of s ≤ place → HasPassed es s t → length es < place - passed
    → passed_of t < place
before_place s t es place passed at behind h few =
    let a = passed_by es s t h in
    omega (arith, a, at, behind, few)

pub at_place : (s t : Standing) (es : List Entry) (place passed : ℕ) → passed ≡ passed_of s → passed_of s ≤ place → HasPassed es s t → length es ≡ place - passed
    → passed_of t ≡ place
at_place s t es place passed at behind h all =
    let a = passed_by es s t h in
    omega (arith, a, at, behind, all)

-- one that isn't down is up
up_by : (b : Bool) → (b ≡ true → ⊥) → b ≡ false
up_by true not_down = absurd (not_down refl)
up_by false not_down = refl

-- what a node that is up offers
pub offered_now : (s t : Standing) (r : ReplicaState) (book : Book) (next : List Job) (server : Server) → t ≡ s → s.held ≡ None → (r.down ≡ true → ⊥) → server ≡ r.server
    → IsLevel s r → IsInOrder s r book next → IsOffered (record { server = server; standing = t })
offered_now s t r book next server same idle not_down copied level order = record {
  server = copied ∙ level.server (up_by r.down not_down) ∙ ap (λ (x : Standing). after_all fresh (record_of x.history)) (sym same);
  sound = is_sound s t r book next same idle level.opened order;
}

-- one that isn't refused
refused_by : (down behind busy : Bool) → cond (not down) (Some NotDown) (cond behind (Some Behind) (cond busy (Some Busy) None)) ≡ None
    → (down ≡ true) × (behind ≡ false) × (busy ≡ false)
refused_by true true busy e = absurd (cc e)
refused_by true false true e = absurd (cc e)
refused_by true false false e = (refl, refl, refl)
refused_by false behind busy e = absurd (cc e)

pub not_refused : (n : NodeState) (offer : OfferState) → revive_refusal n offer ≡ None
    → (n.replica.down ≡ true) × (passed_of n.seat.standing ≤ place_of offer) × (is_busy n.replica.owed ≡ false)
not_refused n offer e =
    let parts = refused_by n.replica.down (ltb (place_of offer) (passed_of n.seat.standing)) (is_busy n.replica.owed) e in
    (parts.0, ltb-false (place_of offer) (passed_of n.seat.standing) parts.1, parts.2)

-- the entries up to the place were passed
pub record Reaches (es : List Entry) (v w : LogView) (old mid : ReplicaState) (next after : Option Next) (book later : Book) (last : Option ℕ) : Type 0 where
  pub goes : GoesOn es v.standing w.standing old mid next after book later
  pub idle : w.standing.held ≡ None
  pub met : MeetsNoTail v w
  pub down : old.down ≡ true
  pub answered : is_busy old.owed ≡ false
  pub last_is : last ≡ last_number w.standing.reservations

-- and it comes back
pub record ComesBack (w : LogView) (mid new : ReplicaState) (last : Option ℕ) (offer : OfferState) : Type 0 where
  pub one : AreOfOneLog w.standing offer.standing
  pub place : passed_of w.standing ≡ place_of offer
  pub none_from : is_from (place_of offer) last ≡ false
  pub offered : IsOffered offer
  pub replica : new ≡ revived_replica offer mid

no_more_ahead : (es : List Entry) (v w : LogView) (old mid new : ReplicaState) (next after : Option Next) (book later : Book) (last : Option ℕ) (offer : OfferState) (nodes : ℕ)
    → Reaches es v w old mid next after book later last → ComesBack w mid new last offer → IsWithin v.standing old book next nodes → unpassed w.standing ≡ []
no_more_ahead es v w old mid new next after book later last offer nodes r b within =
    let same = r.goes.still r.down in
    let here = goes_within es v.standing w.standing old mid book later next after nodes r.goes r.idle within in
    none_ahead w.standing last (here.0.fallen (ap (λ (x : ReplicaState). x.down) same ∙ r.down)).2 r.last_is
    (ap (λ (place : ℕ). is_from place last) b.place ∙ b.none_from)

pub revived_within : (es : List Entry) (v w : LogView) (old mid new : ReplicaState) (next after : Option Next) (book later : Book) (last : Option ℕ) (offer : OfferState) (nodes : ℕ)
    → Reaches es v w old mid next after book later last → ComesBack w mid new last offer → IsWithin v.standing old book next nodes → IsWithin w.standing new later after nodes
revived_within es v w old mid new next after book later last offer nodes r b within =
    let same = r.goes.still r.down in
    let here = goes_within es v.standing w.standing old mid book later next after nodes r.goes r.idle within in
    let none = no_more_ahead es v w old mid new next after book later last offer nodes r b within in
    subst (λ (x : ReplicaState). IsWithin w.standing x later after nodes) (sym b.replica) (
      revived_kept w.standing mid offer later after nodes (ap (λ (x : ReplicaState). x.down) same ∙ r.down) b.one r.idle b.place b.offered none
          (ap (λ (x : ReplicaState). is_busy x.owed) same ∙ r.answered) here.0,
      here.1,
      here.2,
      here.3,
      here.4,
    )

next_none : (next after : Option Next) → (after ≡ None) ⊎ (after ≡ next) → jobs_next next ≡ [] → jobs_next after ≡ []
next_none next after is none = elim is [ inl gone ↦ ap jobs_next gone | inr same ↦ ap jobs_next same ∙ none ]

pub has_revived : (es : List Entry) (v w : LogView) (old mid new : ReplicaState) (next after : Option Next) (book later : Book) (last : Option ℕ) (offer : OfferState) (nodes : ℕ)
    → Reaches es v w old mid next after book later last → ComesBack w mid new last offer → IsWithin v.standing old book next nodes
    → HasRevived offer (record { seat = v; replica = old; book = book; next = jobs_next next }) (record { seat = w; replica = new; book = later; next = jobs_next after })
has_revived es v w old mid new next after book later last offer nodes r b within =
    let g = r.goes in
    let same = g.still r.down in
    let none = no_more_ahead es v w old mid new next after book later last offer nodes r b within in
    let lifted = within.0.fallen r.down in
    let whole = b.replica ∙ ap (revived_replica offer) same in
    record {
      entries = es;
      passed = g.passed;
      seen = r.met.0;
      looks = r.met.1;
      place = b.place;
      own = g.own ∙ ap (λ (rs : List (ℕ × Entry)). jobs_of_own v.standing.node es ++ jobs_reserved rs) none ∙ append-nil (jobs_of_own v.standing.node es)
          ∙ ap (λ (node : ℕ). jobs_of_own node es) (sym within.0.order.book_is);
      none = none;
      replica = whole;
      book = g.ended (ap (λ (x : ReplicaState). x.down) same);
      waiting = ap (λ (x : ReplicaState). x.waiting) whole ∙ lifted.0;
      refused = ap (λ (x : ReplicaState). x.refused) whole ∙ lifted.3;
      next = next_none next after g.after_is lifted.1;
      owed = λ worker. ap (λ (x : ReplicaState). slice_index_or x.owed worker None) whole ∙ all_idle old.owed r.answered worker;
    }

-- why it doesn't yet
pub why_not : (looks : List Load) (w : LogView) (mid : ReplicaState) (last : Option ℕ) (place : ℕ) → mid.down ≡ true → last ≡ last_number w.standing.reservations
    → ((passed_of w.standing < place) × HasStopped looks w mid) ⊎ ((passed_of w.standing ≡ place) × (is_from place last ≡ true))
    → (passed_of w.standing ≤ place)
    × (((passed_of w.standing < place) × ((more : List Load) × (w.looks ≡ looks ++ (more ++ Unfilled (passed_of w.standing) ∷ []))))
    ⊎ ((front : List (ℕ × Entry)) × ((r : ℕ × Entry) × (w.standing.reservations ≡ front ++ r ∷ []) × (place ≤ r.0))))
why_not looks w mid last place down is (inl (less, inl held)) = absurd (cc (held.0, down))
why_not looks w mid last place down is (inl (less, inr found)) = (omega (arith, less), inl (less, found))
why_not looks w mid last place down is (inr (at, ahead)) = (omega (arith, at), inr (last_ahead w.standing.reservations place (sym (ap (is_from place) is) ∙ ahead)))

pub is_not_yet : (es : List Entry) (v w : LogView) (old mid : ReplicaState) (next after : Option Next) (book later : Book) (last : Option ℕ) (offer : OfferState) (nodes : ℕ)
    → Reaches es v w old mid next after book later last
    → ((passed_of w.standing < place_of offer) × HasStopped v.looks w mid) ⊎ ((passed_of w.standing ≡ place_of offer) × (is_from (place_of offer) last ≡ true))
    → IsWithin v.standing old book next nodes
    → IsNotYet offer (record { seat = v; replica = old; book = book; next = jobs_next next }) (record { seat = w; replica = mid; book = later; next = jobs_next after })
is_not_yet es v w old mid next after book later last offer nodes r before within =
    let g = r.goes in
    let same = g.still r.down in
    let lifted = within.0.fallen r.down in
    let why = why_not v.looks w mid last (place_of offer) (ap (λ (x : ReplicaState). x.down) same ∙ r.down) r.last_is before in
    let next_is : jobs_next after ≡ jobs_next next = next_none next after g.after_is lifted.1 ∙ sym lifted.1 in
    record {
      entries = es;
      passed = g.passed;
      seen = r.met.0;
      own = g.own ∙ ap (λ (node : ℕ). jobs_of_own node es ++ jobs_reserved (unpassed w.standing)) (sym within.0.order.book_is);
      few = why.0;
      same = λ i. record { seat = w; replica = same i; book = later; next = next_is i };
      book = g.ended (ap (λ (x : ReplicaState). x.down) same);
      why = why.1;
    }
