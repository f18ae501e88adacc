-- A node goes on by entries, one after the other.
use Rattle.std.proofs.Common.{◌≡◌, ℕ, ◌<◌, ◌≤◌, ◌+◌, ◌-◌, inl, inr, Bool, true, false, List, [], ◌∷◌, ◌++◌, length, map, refl, ap, sym, ◌∙◌, subst, arith, append_assoc}
use Rattle.std.specs.Prelude.{◌≢◌, ◌⊎◌, ◌==◌, cond, Option, Some, None}
use Rattle.std.proofs.lemmas.Bool.{cases_Bool}
use Rattle.std.proofs.lemmas.List.{append-nil, length-append, map-append}
use Rattle.nr_model.specs.Bytes.{IsBeginningOf}
use Rattle.nr_model.specs.Items.{Connection, Sequence}
use Rattle.nr_model.specs.Servers.{fresh, emitted_all}
use Rattle.nr_model.specs.Entries.{Jobs, entry_items}
use Rattle.nr_model.specs.Nodes.Steps.{texts_for}
use Rattle.nr_model.proofs.NodesPartsEmitted.{begins_itself}
use Rattle.nr_entry.specs.Jobs.{items_of}
use Rattle.nr_entry.specs.declared.entry.Entry.{Entry}
use Rattle.nr_entry.specs.declared.job.Job.{Job}
use Rattle.nr_log_end.specs.declared.standing.Standing.{Standing}
use Rattle.nr_log_end.specs.declared.standing.Load.{Load}
use Rattle.nr_log_end.specs.declared.standing.Load.TheVariants.{Tail, Unfilled}
use Rattle.nr_log_end.specs.declared.standing.LogEvent.{LogEvent}
use Rattle.nr_log_end.specs.declared.standing.LogEvent.TheVariants.{Applied}
use Rattle.nr_log_end.specs.Standings.{record_of, applied_of, passed_of, StandsInLog, LooksOn, fetched_with, passed_on}
use Rattle.nr_oplog.specs.declared.view.LogView.{LogView}
use Rattle.nr_job_numbers.specs.Book.{Book, without_ended, HasGoneBack}
use Rattle.nr_job_numbers.proofs.Steps.{closed-append}
use Rattle.nr_replica.specs.Members.{worker_of}
use Rattle.nr_replica.specs.declared.fall.Fall.{Fall}
use Rattle.nr_replica.specs.declared.fall.Fall.TheVariants.{Refused}
use Rattle.nr_replica.specs.Replicas.{ReplicaState, IsApplied, owed_from}
use Rattle.nr_node.specs.declared.next.Next.{Next}
use Rattle.nr_node.specs.Level.{unpassed, jobs_reserved, IsInOrder, IsLevel}
use Rattle.nr_node.specs.OwnEntries.{AreAhead}
use Rattle.nr_node.specs.Next.{jobs_next}
use Rattle.nr_node.specs.Owing.{IsOwing, awaited, unexecuted}
use Rattle.nr_node.specs.Advanced.{IsTakenIn, HasPassed, GoesOn, HasAsked, HasClosed, HasLost, HaveGot, MeetsNoTail, HasStopped, jobs_of_own, jobs_of_all}
use Rattle.nr_node.proofs.Lists.{record-append, applied-append, still_in_log, still_ahead, reserved_passed}
use Rattle.nr_node.proofs.Queues.{delivered_length}
use Rattle.nr_node.proofs.Levels.{lent_level, passed_level, same_level}
use Rattle.nr_node.proofs.Got.{got_itself, got_on, got_received}
use Rattle.nr_node.proofs.Owed.{workers_owing, passed_owing, received_workers, still_awaited_if}
use Rattle.nr_node.proofs.Orders.{lent_order, passed_order, passed_fallen, met_order}
use Rattle.nr_node.proofs.Closing.{still_closed, closed_then, back_closed, entry_in, counted_record, all_closed}

apart : (b : Bool) → b ≡ false → b ≡ true → ⊥
apart b up down = absurd (cc (up, down))

some_first : (es fs : List Entry) → es ≢ [] → es ++ fs ≢ []
some_first [] fs some = absurd (some refl)
some_first (e ∷ es) fs some = λ none. absurd (cc none)

some_last : (es fs : List Entry) → fs ≢ [] → es ++ fs ≢ []
some_last [] fs some = some
some_last (e ∷ es) fs some = λ none. absurd (cc none)

own-append : (node : ℕ) (es fs : List Entry) → jobs_of_own node (es ++ fs) ≡ jobs_of_own node es ++ jobs_of_own node fs
own-append node [] fs = refl
own-append node (e ∷ es) fs =
    ap (λ (js : Jobs). cond (e.node == node) (items_of e.jobs.items ++ js) js) (own-append node es fs)
    ∙ cond_over (e.node == node) (items_of e.jobs.items) (jobs_of_own node es) (jobs_of_own node fs)
  where
    cond_over : (b : Bool) (items xs ys : Jobs) → cond b (items ++ (xs ++ ys)) (xs ++ ys) ≡ cond b (items ++ xs) xs ++ ys
    cond_over true items xs ys = sym (append_assoc items xs ys)
    cond_over false items xs ys = refl

cond_front : (b : Bool) (items later : Jobs) → cond b (items ++ later) later ≡ cond b (items ++ []) [] ++ later
cond_front true items later = ap (λ (js : Jobs). js ++ later) (sym (append-nil items))
cond_front false items later = refl

own_then : (es fs : List Entry) (s t u : Standing) → t.node ≡ s.node → jobs_reserved (unpassed s) ≡ jobs_of_own s.node es ++ jobs_reserved (unpassed t)
    → jobs_reserved (unpassed t) ≡ jobs_of_own t.node fs ++ jobs_reserved (unpassed u)
    → jobs_reserved (unpassed s) ≡ jobs_of_own s.node (es ++ fs) ++ jobs_reserved (unpassed u)
own_then es fs s t u node first last =
    let later = jobs_reserved (unpassed u) in
    first ∙ ap (λ (js : Jobs). jobs_of_own s.node es ++ js) (last ∙ ap (λ (n : ℕ). jobs_of_own n fs ++ later) node)
    ∙ sym (append_assoc (jobs_of_own s.node es) (jobs_of_own s.node fs) later) ∙ ap (λ (js : Jobs). js ++ later) (sym (own-append s.node es fs))

-- by none
pub goes_none : (s : Standing) (replica : ReplicaState) (next : Option Next) (book : Book) → GoesOn [] s s replica replica next next book book
goes_none s replica next book = record {
  passed = record { seen = omega arith; standing = λ i. record s { history = sym (append-nil s.history) i } };
  own = refl;
  level = λ l. l;
  order = λ o. o;
  closed = λ o. still_closed (record_of s.history) book;
  ended = λ _. refl;
  lost = λ up down. absurd (apart replica.down up down);
  owing = λ l up o. o;
  members = refl;
  workers = λ c. refl;
  owed = refl;
  got = got_itself replica.members;
  refused = λ up. refl;
  up = λ up. (up, refl, refl);
  fell = λ up down. absurd (apart replica.down up down);
  cause = λ up down. absurd (apart replica.down up down);
  still = λ _. refl;
  lent = λ l. l;
  ahead = λ some. absurd (some refl);
  after_is = inr refl;
}

passed_then : (es fs : List Entry) (s t u : Standing) → HasPassed es s t → HasPassed fs t u → HasPassed (es ++ fs) s u
passed_then es fs s t u a b =
    let seen : s.seen ≤ u.seen = omega (arith, a.seen, b.seen) in
    let history : t.history ++ map Applied fs ≡ s.history ++ map Applied (es ++ fs) =
    ap (λ (x : Standing). x.history ++ map Applied fs) a.standing ∙ append_assoc s.history (map Applied es) (map Applied fs)
    ∙ ap (λ (h : List LogEvent). s.history ++ h) (sym (map-append Applied es fs)) in
    record {
      seen = seen;
      standing = b.standing ∙ ap (λ (x : Standing). record x { history = t.history ++ map Applied fs; seen = u.seen }) a.standing
          ∙ ap (λ (h : List LogEvent). record s { history = h; seen = u.seen }) history;
    }

-- the record has become longer
more_recorded : (es : List Entry) (s t : Standing) → HasPassed es s t → IsBeginningOf (record_of s.history) (record_of t.history)
more_recorded es s t h = (record_of (map Applied es), sym (record-append s.history (map Applied es)) ∙ ap (λ (x : Standing). record_of x.history) (sym h.standing))

jobs-append : (es fs : List Entry) → jobs_of_all (es ++ fs) ≡ jobs_of_all es ++ jobs_of_all fs
jobs-append [] fs = refl
jobs-append (e ∷ es) fs =
    ap (λ (js : Jobs). items_of e.jobs.items ++ js) (jobs-append es fs) ∙ sym (append_assoc (items_of e.jobs.items) (jobs_of_all es) (jobs_of_all fs))

ended_then : (es fs : List Entry) (x y z : Book) → y ≡ without_ended (jobs_of_all es) x → z ≡ without_ended (jobs_of_all fs) y
    → z ≡ without_ended (jobs_of_all (es ++ fs)) x
ended_then es fs x y z first last =
    last ∙ ap (without_ended (jobs_of_all fs)) first
    ∙ (λ i. record x { held = sym (closed-append x.node x.held (jobs_of_all es) (jobs_of_all fs)) i })
    ∙ sym (ap (λ (js : Jobs). without_ended js x) (jobs-append es fs))

-- what isn't passed is ahead on, where none is passed
pub ahead_on : (es : List Entry) (s t : Standing) → HasPassed es s t → (es ≢ [] → AreAhead t) → AreAhead s → AreAhead t
ahead_on [] s t passed more ahead =
    subst AreAhead (sym passed.standing)
    (subst (λ (h : List LogEvent). AreAhead (record s { history = h; seen = t.seen })) (sym (append-nil s.history)) ahead)
ahead_on (e ∷ es) s t passed more ahead = more (λ none. absurd (cc none))

ahead_then : (es fs : List Entry) (t u : Standing) → HasPassed fs t u → (es ≢ [] → AreAhead t) → (fs ≢ [] → AreAhead u) → es ++ fs ≢ [] → AreAhead u
ahead_then es [] t u passed first last some = ahead_on [] t u passed last (first (λ none. some (ap (λ (xs : List Entry). xs ++ []) none)))
ahead_then es (f ∷ fs) t u passed first last some = last (λ none. absurd (cc none))

-- both of two moves leave it up or down, where all of it does
still_both : (a b c : Bool) → c ≡ a → (a ≡ true → b ≡ true) → (c ≡ false → b ≡ false) → (b ≡ a) × (c ≡ b)
still_both true b c same down up = (down refl, same ∙ sym (down refl))
still_both false b c same down up = (up same, same ∙ sym (up same))

-- it fell by one of the first, or of the last
lost_then : (es fs : List Entry) (dropped : Jobs) (x y z : Book) → HasLost es dropped x y → z ≡ without_ended (jobs_of_all fs) y → HasLost (es ++ fs) dropped x z
lost_then es fs dropped x y z lost ended = record {
  before = lost.before;
  over = lost.over;
  behind = lost.behind ++ fs;
  all = ap (λ (xs : List Entry). xs ++ fs) lost.all ∙ append_assoc lost.before (lost.over ∷ lost.behind) fs;
  back = lost.back;
  went_back = lost.went_back;
  ended = ended_then (lost.over ∷ lost.behind) fs lost.back y z lost.ended ended;
}

then_lost : (es fs : List Entry) (dropped : Jobs) (x y z : Book) → y ≡ without_ended (jobs_of_all es) x → HasLost fs dropped y z → HasLost (es ++ fs) dropped x z
then_lost es fs dropped x y z ended lost = record {
  before = es ++ lost.before;
  over = lost.over;
  behind = lost.behind;
  all = ap (λ (xs : List Entry). es ++ xs) lost.all ∙ sym (append_assoc es lost.before (lost.over ∷ lost.behind));
  back = lost.back;
  went_back = subst (λ (b : Book). HasGoneBack dropped b lost.back) (ended_then es lost.before x y (without_ended (jobs_of_all lost.before) y) ended refl) lost.went_back;
  ended = lost.ended;
}

-- by some, and then by others
pub goes_then : (es fs : List Entry) (s t u : Standing) (a b c : ReplicaState) (n m k : Option Next) (x y z : Book) → GoesOn es s t a b n m x y
    → GoesOn fs t u b c m k y z → GoesOn (es ++ fs) s u a c n k x z
goes_then es fs s t u a b c n m k x y z first last = record {
  passed = passed_then es fs s t u first.passed last.passed;
  own = own_then es fs s t u (ap (λ (x : Standing). x.node) first.passed.standing) first.own last.own;
  level = λ l. last.level (first.level l);
  order = λ o. last.order (first.order o);
  closed = λ o. closed_then (record_of t.history) (record_of u.history) x y z (more_recorded fs t u last.passed) (first.closed o) (last.closed (first.order o));
  ended = λ same.
      let both = still_both a.down b.down c.down same (λ down. ap (λ (r : ReplicaState). r.down) (first.still down) ∙ down) (λ up. (last.up up).0) in
      ended_then es fs x y z (first.ended both.0) (last.ended both.1);
  lost = λ up down. elim (cases_Bool b.down) [
    | inl gone ↦ lost_then es fs _ x y z (first.lost up gone) (last.ended (down ∙ sym gone))
    | inr on ↦
        let was = first.up on in
        let same : items_of (jobs_next m) ++ items_of b.waiting ≡ items_of (jobs_next n) ++ items_of a.waiting = λ i. items_of (jobs_next (was.1 i)) ++ items_of (was.2 i) in
        then_lost es fs _ x y z (first.ended (on ∙ sym up)) (subst (λ (dropped : Jobs). HasLost fs dropped y z) same (last.lost on down))
  ];
  owing = λ l up o. last.owing (first.level l) up (first.owing l (last.up up).0 o);
  members = last.members ∙ first.members;
  workers = λ c. last.workers c ∙ first.workers c;
  owed = last.owed ∙ first.owed;
  got = got_on a.members b.members c.members first.got last.got;
  refused = λ up. last.refused up ∙ first.refused (last.up up).0;
  up = λ up.
      let was = last.up up in
      let before = first.up was.0 in
      (before.0, was.1 ∙ before.1, was.2 ∙ before.2);
  fell = λ up down. elim (cases_Bool b.down) [
    | inl gone ↦
        let by = first.fell up gone in (
          some_first es fs by.0,
          ap (λ (r : ReplicaState). r.waiting) (last.still gone) ∙ by.1,
          elim last.after_is [ inl none ↦ none | inr same ↦ same ∙ by.2 ],
          ap (λ (r : ReplicaState). r.server) (last.still gone) ∙ by.3,
          ap (λ (r : ReplicaState). r.refused) (last.still gone) ∙ by.4,
        )
    | inr on ↦ let by = last.fell on down in (some_last es fs by.0, by.1, by.2, by.3, by.4)
  ];
  cause = λ up down is. elim (cases_Bool b.down) [
    | inl gone ↦ first.cause up gone (sym (ap (λ (r : ReplicaState). r.fell) (last.still gone)) ∙ is)
    | inr on ↦ sym (first.refused on) ∙ last.cause on down is
  ];
  still = λ down.
      let same = first.still down in
      last.still (ap (λ (r : ReplicaState). r.down) same ∙ down) ∙ same;
  lent = λ l. first.lent (last.lent l);
  ahead = ahead_then es fs t u last.passed first.ahead last.ahead;
  after_is = elim last.after_is [
    | inl none ↦ inl none
    | inr same ↦ elim first.after_is [ inl none ↦ inl (same ∙ none) | inr first_same ↦ inr (same ∙ first_same) ]
  ];
}

same_some : (fall other : Fall) → Some fall ≡ Some other → fall ≡ other
same_some fall other is = ap (λ (o : Option Fall). elim o as (λ _. Fall) [ None ↦ fall | Some x ↦ x ]) is

-- what an entry leaves
record Leaves (old new : ReplicaState) : Type 0 where
  pub members : length new.members ≡ length old.members
  pub workers : (c : Connection) → worker_of new.members c ≡ worker_of old.members c
  pub owed : awaited new.owed ≡ awaited old.owed
  pub got : HaveGot old.members new.members
  pub refused : new.down ≡ false → new.refused ≡ old.refused
  pub up : new.down ≡ false → (old.down ≡ false) × (new.waiting ≡ old.waiting)
  pub fell : old.down ≡ false → new.down ≡ true → (new.waiting ≡ []) × (new.server ≡ fresh) × (new.refused ≡ false)
  pub cause : old.down ≡ false → new.down ≡ true → new.fell ≡ Some Refused → old.refused ≡ true
  pub still : old.down ≡ true → new ≡ old
  pub lent : new.lent ≡ true → old.lent ≡ true

leaves : (e : Entry) (old new : ReplicaState) → IsTakenIn e old new → Leaves old new
leaves e old new taken = elim taken [
  | inl down ↦ record {
    members = ap (λ (r : ReplicaState). length r.members) down.1;
    workers = λ c. ap (λ (r : ReplicaState). worker_of r.members c) down.1;
    owed = ap (λ (r : ReplicaState). awaited r.owed) down.1;
    got = subst (λ (r : ReplicaState). HaveGot old.members r.members) (sym down.1) (got_itself old.members);
    refused = λ up. ap (λ (r : ReplicaState). r.refused) down.1;
    up = λ up. absurd (cc (up, ap (λ (r : ReplicaState). r.down) down.1, down.0));
    fell = λ up _. absurd (apart old.down up down.0);
    cause = λ up _. absurd (apart old.down up down.0);
    still = λ _. down.1;
    lent = λ l. ap (λ (r : ReplicaState). r.lent) (sym down.1) ∙ l;
  }
  | inr up ↦ elim up.1 [
    | inl applied ↦
        let waiting : new.waiting ≡ old.waiting = ap (λ (r : ReplicaState). r.waiting) applied.state in
        record {
          members = delivered_length (emitted_all old.server (entry_items (items_of e.jobs.items))) old.members new.members applied.delivered;
          workers = received_workers (λ c. texts_for c (emitted_all old.server (entry_items (items_of e.jobs.items)))) old.members new.members applied.delivered;
          owed = ap (λ (r : ReplicaState). awaited r.owed) applied.state ∙ still_awaited_if (e.node == old.node) old.members (items_of e.jobs.items) old.owed;
          got = got_received (λ c. texts_for c (emitted_all old.server (entry_items (items_of e.jobs.items)))) old.members new.members applied.delivered;
          refused = λ _. ap (λ (r : ReplicaState). r.refused) applied.state;
          up = λ _. (up.0, waiting);
          fell = λ _ gone. absurd (apart new.down (ap (λ (r : ReplicaState). r.down) applied.state ∙ up.0) gone);
          cause = λ _ gone. absurd (apart new.down (ap (λ (r : ReplicaState). r.down) applied.state ∙ up.0) gone);
          still = λ gone. absurd (apart old.down up.0 gone);
          lent = λ l. ap (λ (r : ReplicaState). r.lent) (sym applied.state) ∙ l;
        }
    | inr falls ↦ let fell = falls.1 in record {
      members = ap (λ (r : ReplicaState). length r.members) fell;
      workers = λ c. ap (λ (r : ReplicaState). worker_of r.members c) fell;
      owed = ap (λ (r : ReplicaState). awaited r.owed) fell;
      got = subst (λ (r : ReplicaState). HaveGot old.members r.members) (sym fell) (got_itself old.members);
      refused = λ up. absurd (cc (up, ap (λ (r : ReplicaState). r.down) fell));
      up = λ up. absurd (cc (up, ap (λ (r : ReplicaState). r.down) fell));
      fell = λ _ _. (ap (λ (r : ReplicaState). r.waiting) fell, ap (λ (r : ReplicaState). r.server) fell, ap (λ (r : ReplicaState). r.refused) fell);
      cause = λ _ _ is. falls.2 (same_some falls.0 Refused (sym (ap (λ (r : ReplicaState). r.fell) fell) ∙ is));
      still = λ gone. absurd (apart old.down up.0 gone);
      lent = λ l. ap (λ (r : ReplicaState). r.lent) (sym fell) ∙ l;
    }
  ]
]

-- what was taken in leaves the next entry and the accounts as they were, unless the replica falls by it
abbrev pub Stays : ReplicaState → ReplicaState → Option Next → Option Next → Book → Book → Type 0
Stays old new next after book mid = new.down ≡ old.down → (after ≡ next) × (mid ≡ book)

abbrev pub Drops : ReplicaState → ReplicaState → Option Next → Option Next → Book → Book → Type 0
Drops old new next after book mid =
    old.down ≡ false → new.down ≡ true → (after ≡ None) × HasGoneBack (items_of (jobs_next next) ++ items_of old.waiting) book mid

order_kept : (s t : Standing) (e : Entry) (old new : ReplicaState) (next after : Option Next) (book mid : Book) → t ≡ passed_on (fetched_with e s)
    → StandsInLog (fetched_with e s) → length new.members ≡ length old.members → IsTakenIn e old new → Stays old new next after book mid
    → Drops old new next after book mid → IsInOrder s old book (jobs_next next)
    → IsInOrder t new mid (jobs_next after) × HasClosed (record_of t.history) book mid
order_kept s t e old new next after book mid is stands long taken stays drops o =
    elim taken [
      | inl down ↦ still (ap (λ (r : ReplicaState). r.down) down.1) (ap (λ (r : ReplicaState). r.waiting) down.1)
      | inr up ↦ elim up.1 [
        | inl applied ↦ still (ap (λ (r : ReplicaState). r.down) applied.state) (ap (λ (r : ReplicaState). r.waiting) applied.state)
        | inr falls ↦
            let by = drops up.0 (ap (λ (r : ReplicaState). r.down) falls.1) in (
              subst (λ (n : Option Next). IsInOrder t new mid (jobs_next n)) (sym by.0)
                  (passed_fallen s t e old new book mid (jobs_next next) is stands long (ap (λ (r : ReplicaState). r.waiting) falls.1) by.1 o),
              back_closed (record_of t.history) (items_of (jobs_next next) ++ items_of old.waiting) book mid by.1,
            )
      ]
    ]
  where
    still : new.down ≡ old.down → new.waiting ≡ old.waiting → IsInOrder t new mid (jobs_next after) × HasClosed (record_of t.history) book mid
    still down waiting =
        let same = stays down in
        let there = passed_order s t e old new book (jobs_next next) is stands long waiting o in (
          subst (λ (b : Book). IsInOrder t new b (jobs_next after)) (sym same.1) (subst (λ (n : Option Next). IsInOrder t new book (jobs_next n)) (sym same.0) there),
          subst (HasClosed (record_of t.history) book) (sym same.1) (still_closed (record_of t.history) book),
        )

-- what is owed once one was applied
owing_kept : (s t : Standing) (e : Entry) (old new : ReplicaState) (next after : Option Next) → t ≡ passed_on (fetched_with e s) → StandsInLog (fetched_with e s)
    → s.node ≡ old.node → IsApplied e old new → after ≡ next → IsOwing old.members old.owed (unexecuted s (jobs_next next) old.waiting)
    → IsOwing new.members new.owed (unexecuted t (jobs_next after) new.waiting)
owing_kept s t e old new next after t_is stands node applied same o =
    let p = passed_on (fetched_with e s) in
    let items = items_of e.jobs.items in
    let later = jobs_reserved (unpassed p) in
    let rest = items_of (jobs_next next) ++ items_of old.waiting in
    let es = emitted_all old.server (entry_items items) in
    let before : jobs_reserved (unpassed s) ≡ cond (e.node == old.node) (items ++ later) later =
    reserved_passed s e stands ∙ ap (λ (n : ℕ). cond (e.node == n) (items ++ later) later) node in
    let less = passed_owing (e.node == old.node) old.members old.owed items later rest
    (subst (λ (js : Jobs). IsOwing old.members old.owed (js ++ rest)) before o) in
    let owed : cond (e.node == old.node) (owed_from 0 old.members items old.owed) old.owed ≡ new.owed = sym (ap (λ (r : ReplicaState). r.owed) applied.state) in
    let waiting : new.waiting ≡ old.waiting = ap (λ (r : ReplicaState). r.waiting) applied.state in
    let jobs : later ++ rest ≡ unexecuted t (jobs_next after) new.waiting =
    λ i. jobs_reserved (unpassed (sym t_is i)) ++ (items_of (jobs_next (sym same i)) ++ items_of (sym waiting i)) in
    subst (IsOwing new.members new.owed) jobs
    (subst (λ (os : List (Option ℕ)). IsOwing new.members os (later ++ rest)) owed
    (workers_owing old.members new.members _ (later ++ rest) (delivered_length es old.members new.members applied.delivered)
    (received_workers (λ c. texts_for c es) old.members new.members applied.delivered) less))

owing_taken : (s t : Standing) (e : Entry) (old new : ReplicaState) (next after : Option Next) → t ≡ passed_on (fetched_with e s) → StandsInLog (fetched_with e s)
    → s.node ≡ old.node → IsTakenIn e old new → after ≡ next → new.down ≡ false → IsOwing old.members old.owed (unexecuted s (jobs_next next) old.waiting)
    → IsOwing new.members new.owed (unexecuted t (jobs_next after) new.waiting)
owing_taken s t e old new next after t_is stands node taken same is_up o = elim taken [
  | inl down ↦ absurd (cc (is_up, ap (λ (r : ReplicaState). r.down) down.1, down.0))
  | inr up ↦ elim up.1 [
    | inl applied ↦ owing_kept s t e old new next after t_is stands node applied same o
    | inr falls ↦ absurd (cc (is_up, ap (λ (r : ReplicaState). r.down) falls.1))
  ]
]

after_by : (e : Entry) (old new : ReplicaState) (next after : Option Next) (book mid : Book) → IsTakenIn e old new → Stays old new next after book mid
    → Drops old new next after book mid → (after ≡ None) ⊎ (after ≡ next)
after_by e old new next after book mid taken stays drops = elim taken [
  | inl down ↦ inr (stays (ap (λ (r : ReplicaState). r.down) down.1)).0
  | inr up ↦ elim up.1 [
    | inl applied ↦ inr (stays (ap (λ (r : ReplicaState). r.down) applied.state)).0
    | inr falls ↦ inl (drops up.0 (ap (λ (r : ReplicaState). r.down) falls.1)).0
  ]
]

-- the accounts of connections whose end is in an entry went
ended_kept : (t : Standing) (front : Sequence) (e : Entry) (new : ReplicaState) (next : List Job) (book mid later : Book)
    → record_of t.history ≡ front ++ entry_items (items_of e.jobs.items) → later ≡ without_ended (items_of e.jobs.items) mid
    → IsInOrder t new mid next × HasClosed (record_of t.history) book mid → IsInOrder t new later next × HasClosed (record_of t.history) book later
ended_kept t front e new next book mid later recorded ended both =
    let done = record_of t.history in
    let last = all_closed t new next (items_of e.jobs.items) mid later (entry_in t front (items_of e.jobs.items) recorded (counted_record t new mid next both.0)) ended both.0 in
    (last.0, closed_then done done book mid later (begins_itself done) both.1 last.1)

-- by one
pub goes_by_entry : (s held t : Standing) (e : Entry) (old new : ReplicaState) (next after : Option Next) (book mid later : Book) → s.held ≡ None
    → held ≡ fetched_with e s → t ≡ passed_on held → StandsInLog held → IsTakenIn e old new → Stays old new next after book mid → Drops old new next after book mid
    → later ≡ without_ended (items_of e.jobs.items) mid → GoesOn (e ∷ []) s t old new next after book later
goes_by_entry s held t e old new next after book mid later idle fetched passed stands taken stays drops ended =
    let l = leaves e old new taken in
    let is : t ≡ passed_on (fetched_with e s) = passed ∙ ap passed_on fetched in
    let log : StandsInLog (fetched_with e s) = subst StandsInLog fetched stands in
    let items = items_of e.jobs.items in
    let recorded : record_of t.history ≡ record_of s.history ++ entry_items items =
    ap (λ (x : Standing). record_of x.history) is ∙ record-append s.history (Applied e ∷ []) ∙ ap (λ (js : Sequence). record_of s.history ++ js) (append-nil (entry_items items)) in
    let both = λ (o : IsInOrder s old book (jobs_next next)).
    ended_kept t (record_of s.history) e new (jobs_next after) book mid later recorded ended
    (order_kept s t e old new next after book mid is log l.members taken stays drops o) in
    let same = λ (up : new.down ≡ false). (stays (up ∙ sym (l.up up).0)).0 in
    let whole : later ≡ without_ended (jobs_of_all (e ∷ [])) mid = ended ∙ ap (λ (js : Jobs). without_ended js mid) (sym (append-nil items)) in
    record {
      passed = record {
        seen = let seen = ap (λ (x : Standing). x.seen) is in omega (arith, seen);
        standing = is ∙ (λ i. record s { history = s.history ++ Applied e ∷ []; held = sym idle i; seen = sym (ap (λ (x : Standing). x.seen) is) i });
      };
      own = reserved_passed s e log ∙ cond_front (e.node == s.node) (items_of e.jobs.items) (jobs_reserved (unpassed (passed_on (fetched_with e s))))
          ∙ ap (λ (x : Standing). jobs_of_own s.node (e ∷ []) ++ jobs_reserved (unpassed x)) (sym is);
      level = λ lv. passed_level s t e old new is taken lv;
      order = λ o. (both o).0;
      closed = λ o. (both o).1;
      ended = λ down. whole ∙ ap (without_ended (jobs_of_all (e ∷ []))) (stays down).1;
      lost = λ up down. record { before = []; over = e; behind = []; all = refl; back = mid; went_back = (drops up down).1; ended = whole };
      owing = λ lv up o. owing_taken s t e old new next after is log lv.node taken (same up) up o;
      members = l.members;
      workers = l.workers;
      owed = l.owed;
      got = l.got;
      refused = l.refused;
      up = λ up. ((l.up up).0, same up, (l.up up).1);
      fell = λ up down. let by = l.fell up down in (λ none_is. absurd (cc none_is), by.0, (drops up down).0, by.1, by.2);
      cause = l.cause;
      still = l.still;
      lent = l.lent;
      ahead = λ _. subst AreAhead (sym is) (still_ahead (passed_on (fetched_with e s)) (still_in_log s e log) refl);
      after_is = after_by e old new next after book mid taken stays drops;
    }

all_applied : (es : List Entry) → applied_of (map Applied es) ≡ es
all_applied [] = refl
all_applied (e ∷ es) = ap (λ (xs : List Entry). e ∷ xs) (all_applied es)

-- how many entries are passed
pub passed_by : (es : List Entry) (s t : Standing) → HasPassed es s t → passed_of t ≡ passed_of s + length es
passed_by es s t h =
    ap (λ (x : Standing). length (applied_of x.history)) h.standing ∙ ap length (applied-append s.history (map Applied es) ∙ ap (λ (xs : List Entry). applied_of s.history ++ xs) (all_applied es))
    ∙ length-append (applied_of s.history) es

-- a tail was met
pub goes_tail : (s t : Standing) (replica : ReplicaState) (next : Option Next) (book : Book) → LooksOn s t → GoesOn [] s t replica replica next next book book
goes_tail s t replica next book looks = record {
  passed = record { seen = looks.0; standing = looks.1 ∙ (λ i. record s { history = sym (append-nil s.history) i; seen = t.seen }) };
  own = ap (λ (x : Standing). jobs_reserved (unpassed x)) (sym looks.1);
  level = λ l. same_level s t replica replica (ap (λ (x : Standing). x.node) looks.1) (ap (λ (x : Standing). x.history) looks.1) refl refl refl refl refl l;
  order = λ o. met_order s t replica book (jobs_next next) (record { seen = looks.0; standing = looks.1 }) o;
  closed = λ o. still_closed (record_of t.history) book;
  ended = λ _. refl;
  lost = λ up down. absurd (apart replica.down up down);
  owing = λ l up o. subst (λ (x : Standing). IsOwing replica.members replica.owed (unexecuted x (jobs_next next) replica.waiting)) (sym looks.1) o;
  members = refl;
  workers = λ c. refl;
  owed = refl;
  got = got_itself replica.members;
  refused = λ up. refl;
  up = λ up. (up, refl, refl);
  fell = λ up down. absurd (apart replica.down up down);
  cause = λ up down. absurd (apart replica.down up down);
  still = λ _. refl;
  lent = λ l. l;
  ahead = λ some. absurd (some refl);
  after_is = inr refl;
}

-- behind a tail that was met it was asked whether the server is lent
pub goes_asked : (s t : Standing) (old new : ReplicaState) (next : Option Next) (book : Book) → LooksOn s t → HasAsked old new → GoesOn [] s t old new next next book book
goes_asked s t old new next book looks asked =
    let g = goes_tail s t old next book looks in
    let down : new.down ≡ old.down = ap (λ (r : ReplicaState). r.down) asked.replica in
    record {
      passed = g.passed;
      own = g.own;
      level = λ l. subst (IsLevel t) (sym asked.replica) (lent_level t old new.lent (g.level l));
      order = λ o. subst (λ (r : ReplicaState). IsInOrder t r book (jobs_next next)) (sym asked.replica) (lent_order t old new.lent book (jobs_next next) (g.order o));
      closed = g.closed;
      ended = λ _. refl;
      lost = λ up gone. absurd (apart old.down up (sym down ∙ gone));
      owing = λ l up o. subst (λ (r : ReplicaState). IsOwing r.members r.owed (unexecuted t (jobs_next next) r.waiting)) (sym asked.replica) (g.owing l (sym down ∙ up) o);
      members = ap (λ (r : ReplicaState). length r.members) asked.replica;
      workers = λ c. ap (λ (r : ReplicaState). worker_of r.members c) asked.replica;
      owed = ap (λ (r : ReplicaState). awaited r.owed) asked.replica;
      got = subst (λ (r : ReplicaState). HaveGot old.members r.members) (sym asked.replica) (got_itself old.members);
      refused = λ up. ap (λ (r : ReplicaState). r.refused) asked.replica;
      up = λ up. (sym down ∙ up, refl, ap (λ (r : ReplicaState). r.waiting) asked.replica);
      fell = λ up gone. absurd (apart old.down up (sym down ∙ gone));
      cause = λ up gone. absurd (apart old.down up (sym down ∙ gone));
      still = asked.still;
      lent = asked.was;
      ahead = λ some. absurd (some refl);
      after_is = inr refl;
    }

-- the log stands behind an entry that was passed
pub log_passed : (s held t : Standing) (e : Entry) → held ≡ fetched_with e s → t ≡ passed_on held → StandsInLog held → StandsInLog t
log_passed s held t e fetched passed stands =
    subst StandsInLog (sym (passed ∙ ap passed_on fetched)) (still_in_log s e (subst StandsInLog fetched stands))

-- it stands behind one more, or behind those that it stood behind
pub log_further : (b : Bool) (s t : Standing) → (b ≡ true → StandsInLog t) → (b ≡ false → t ≡ s) → StandsInLog s → StandsInLog t
log_further true s t more none stands = more refl
log_further false s t more none stands = subst StandsInLog (sym (none refl)) stands

-- looks behind looks
pub more_looks : (a b c : List Load) → (more : List Load) × (b ≡ a ++ more) → (more : List Load) × (c ≡ b ++ more) → (more : List Load) × (c ≡ a ++ more)
more_looks a b c first last =
    (first.0 ++ last.0, last.1 ∙ ap (λ (ls : List Load). ls ++ last.0) first.1 ∙ append_assoc a first.0 last.0)

-- it made no look, or one
pub no_looks : (v w : LogView) → w.standing.seen ≡ v.standing.seen → w.looks ≡ v.looks → MeetsNoTail v w
no_looks v w seen looks = (seen, ([], looks ∙ sym (append-nil v.looks)))

pub one_look : (v w : LogView) (look : Load) → w.standing.seen ≡ v.standing.seen → w.looks ≡ v.looks ++ look ∷ [] → MeetsNoTail v w
one_look v w look seen looks = (seen, (look ∷ [], looks))

-- it found the next cell empty
pub found_none : (v w : LogView) (replica : ReplicaState) → w.standing ≡ v.standing → w.looks ≡ v.looks ++ Unfilled (passed_of v.standing) ∷ []
    → HasStopped v.looks w replica
found_none v w replica same looks =
    inr ([], looks ∙ ap (λ (s : Standing). v.looks ++ Unfilled (passed_of s) ∷ []) (sym same))

-- what came before is no matter
pub stopped_then : (a b : List Load) (w : LogView) (replica : ReplicaState) → (more : List Load) × (b ≡ a ++ more) → HasStopped b w replica → HasStopped a w replica
stopped_then a b w replica more (inl held) = inl held
stopped_then a b w replica more (inr found) =
    let last = Unfilled (passed_of w.standing) ∷ [] in
    inr (
      more.0 ++ found.0,
      found.1 ∙ ap (λ (ls : List Load). ls ++ (found.0 ++ last)) more.1 ∙ append_assoc a more.0 (found.0 ++ last)
          ∙ ap (λ (ls : List Load). a ++ ls) (sym (append_assoc more.0 found.0 last)),
    )

-- a loop that took so many entries in
pub record WentOn (x : ℕ) (first now : LogView) (old new : ReplicaState) (next after : Option Next) (book later : Book) : Type 0 where
  pub idle : now.standing.held ≡ None
  pub seen : now.standing.seen ≡ first.standing.seen
  pub looks : (more : List Load) × (now.looks ≡ first.looks ++ more)
  pub entries : List Entry
  pub many : length entries ≡ x
  pub goes : GoesOn entries first.standing now.standing old new next after book later

pub went_none : (first : LogView) (replica : ReplicaState) (next : Option Next) (book : Book) → first.standing.held ≡ None
    → WentOn 0 first first replica replica next next book book
went_none first replica next book idle = record {
  idle = idle;
  seen = refl;
  looks = ([], sym (append-nil first.looks));
  entries = [];
  many = refl;
  goes = goes_none first.standing replica next book;
}

pub went_more : (x : ℕ) (first now new : LogView) (a b c : ReplicaState) (n m k : Option Next) (f g h : Book) → WentOn x first now a b n m f g
    → new.standing.held ≡ None → MeetsNoTail now new
    → ((entry : Entry) × GoesOn (entry ∷ []) now.standing new.standing b c m k g h) → WentOn (x + 1) first new a c n k f h
went_more x first now new a b c n m k f g h w idle met one = record {
  idle = idle;
  seen = met.0 ∙ w.seen;
  looks = more_looks first.looks now.looks new.looks w.looks met.1;
  entries = w.entries ++ one.0 ∷ [];
  many = length-append w.entries (one.0 ∷ []) ∙ ap (λ (k : ℕ). k + 1) w.many;
  goes = goes_then w.entries (one.0 ∷ []) first.standing now.standing new.standing a b c n m k f g h w.goes one.1;
}

-- it stops where the next entry isn't there
pub went_fewer : (x count : ℕ) (first now new : LogView) (a b c : ReplicaState) (n m k : Option Next) (f g h : Book) → WentOn x first now a b n m f g → x < count
    → (new.standing ≡ now.standing) × (c ≡ b) × (k ≡ m) × (h ≡ g)
    → (entries : List Entry) × (length entries < count) × GoesOn entries first.standing new.standing a c n k f h
went_fewer x count first now new a b c n m k f g h w few same =
    let fewer : length w.entries < count = omega (arith, w.many) in (
      w.entries,
      fewer,
      subst (λ (s : Standing). GoesOn w.entries first.standing s a c n k f h) (sym same.0)
          (subst (λ (r : ReplicaState). GoesOn w.entries first.standing now.standing a r n k f h) (sym same.1)
          (subst (λ (x : Option Next). GoesOn w.entries first.standing now.standing a b n x f h) (sym same.2)
          (subst (GoesOn w.entries first.standing now.standing a b n m f) (sym same.3) w.goes))),
    )

-- one entry more, or none
pub went_or_not : (b : Bool) (s t : Standing) (old new : ReplicaState) (next after : Option Next) (book later : Book)
    → (b ≡ true → (entry : Entry) × GoesOn (entry ∷ []) s t old new next after book later)
    → (b ≡ false → (t ≡ s) × (new ≡ old) × (after ≡ next) × (later ≡ book))
    → (entries : List Entry) × GoesOn entries s t old new next after book later × (length entries ≤ 1)
went_or_not true s t old new next after book later some none = let one = some refl in (one.0 ∷ [], one.1, omega arith)
went_or_not false s t old new next after book later some none =
    let same = none refl in (
      [],
      subst (λ (x : Standing). GoesOn [] s x old new next after book later) (sym same.0)
          (subst (λ (r : ReplicaState). GoesOn [] s s old r next after book later) (sym same.1)
          (subst (λ (x : Option Next). GoesOn [] s s old old next x book later) (sym same.2)
          (subst (GoesOn [] s s old old next next book) (sym same.3) (goes_none s old next book)))),
      omega arith,
    )

-- a tail was met, and nothing else changed but what is kept beside the log
pub looked_on : (s m k : Standing) → LooksOn s m → k ≡ m → LooksOn s k
looked_on s m k looks same = subst (LooksOn s) (sym same) looks

pub counted : (count tail applied : ℕ) (m k : Standing) → count ≡ tail - applied → tail ≡ m.seen → k ≡ m → count ≡ k.seen - applied
counted count tail applied m k is at same = is ∙ ap (λ (n : ℕ). n - applied) (at ∙ ap (λ (x : Standing). x.seen) (sym same))

pub met_on : (v w x : LogView) → MeetsNoTail v w → MeetsNoTail w x → MeetsNoTail v x
met_on v w x first last = (last.0 ∙ first.0, more_looks v.looks w.looks x.looks first.1 last.1)

pub looks_on : (u v w x : LogView) (tail : ℕ) → v.looks ≡ u.looks ++ Tail tail ∷ [] → tail ≡ v.standing.seen → w.standing ≡ v.standing
    → (more : List Load) × (w.looks ≡ v.looks ++ more) → MeetsNoTail w x → (more : List Load) × (x.looks ≡ u.looks ++ (Tail x.standing.seen ∷ more))
looks_on u v w x tail loaded at same let_go met =
    let seen : tail ≡ x.standing.seen = at ∙ ap (λ (s : Standing). s.seen) (sym same) ∙ sym met.0 in
    let more = more_looks v.looks w.looks x.looks let_go met.1 in (
      more.0,
      more.1 ∙ ap (λ (ls : List Load). ls ++ more.0) loaded ∙ append_assoc u.looks (Tail tail ∷ []) more.0
          ∙ ap (λ (n : ℕ). u.looks ++ (Tail n ∷ more.0)) seen,
    )

-- what came between the begin of the call and a loop
pub stopped_on : (u v w x : LogView) (tail : ℕ) (replica : ReplicaState) → v.looks ≡ u.looks ++ Tail tail ∷ [] → (more : List Load) × (w.looks ≡ v.looks ++ more)
    → HasStopped w.looks x replica → HasStopped u.looks x replica
stopped_on u v w x tail replica loaded let_go stopped =
    stopped_then u.looks w.looks x replica (more_looks u.looks v.looks w.looks (Tail tail ∷ [], loaded) let_go) stopped

pub same_passed : (s m : Standing) → LooksOn s m → passed_of m ≡ passed_of s
same_passed s m looks = ap passed_of looks.1

-- fewer were taken in than there were, or all
pub behind_tail : (s m t : Standing) (es : List Entry) (count applied : ℕ) → LooksOn s m → HasPassed es m t → t.seen ≡ m.seen → length es < count
    → count ≡ m.seen - applied → applied ≡ passed_of s → passed_of t < t.seen
behind_tail s m t es count applied looks h seen few is at =
    let a = same_passed s m looks in
    let b = passed_by es m t h in
    omega (arith, a, b, seen, few, is, at)

pub reached_tail : (s m t u : Standing) (es fs : List Entry) (count applied : ℕ) → LooksOn s m → HasPassed es m t → HasPassed fs t u → u.seen ≡ m.seen → length es ≡ count
    → count ≡ m.seen - applied → applied ≡ passed_of s → u.seen ≤ passed_of u
reached_tail s m t u es fs count applied looks h k seen all is at =
    let a = same_passed s m looks in
    let b = passed_by es m t h in
    let c = passed_by fs t u k in
    omega (arith, a, b, c, seen, all, is, at)

-- no more than one behind the tail
pub few_stopped : (s m t : Standing) (es : List Entry) (count applied : ℕ) → LooksOn s m → HasPassed es m t → t.seen ≡ m.seen → length es < count
    → count ≡ m.seen - applied → applied ≡ passed_of s → passed_of t ≤ (passed_of s + (t.seen - passed_of s)) + 1
few_stopped s m t es count applied looks h seen few is at =
    let a = same_passed s m looks in
    let b = passed_by es m t h in
    omega (arith, a, b, seen, few, is, at)

pub few_more : (s m t u : Standing) (es fs : List Entry) (count applied : ℕ) → LooksOn s m → HasPassed es m t → HasPassed fs t u → u.seen ≡ m.seen → length es ≡ count
    → length fs ≤ 1 → count ≡ m.seen - applied → applied ≡ passed_of s → passed_of u ≤ (passed_of s + (u.seen - passed_of s)) + 1
few_more s m t u es fs count applied looks h k seen all one is at =
    let a = same_passed s m looks in
    let b = passed_by es m t h in
    let c = passed_by fs t u k in
    omega (arith, a, b, c, seen, all, one, is, at)

pub few_entries : (es : List Entry) (s t : Standing) → HasPassed es s t → passed_of t ≤ (passed_of s + (t.seen - passed_of s)) + 1
    → length es ≤ (t.seen - passed_of s) + 1
few_entries es s t h few =
    let a = passed_by es s t h in
    omega (arith, a, few)
