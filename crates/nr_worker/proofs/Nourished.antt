-- The code's worker stands for a worker of the law once bytes were fed.
use Rattle.std.proofs.Common.{◌≤◌, suc, zero, ◌≡◌, ℕ, ◌+◌, ◌<◌, inl, inr, Bool, true, false, cond, List, [], ◌∷◌, ◌++◌, map, filter, take, drop, length, Contains, Option, Some, None, refl, ap, sym, ◌∙◌, subst, arith, append_assoc, append-nil, eq-eqb}
use Rattle.std.specs.Prelude.{◌≢◌, ◌==◌, ◌&&◌, not, Result, Ok, Err, OnOk, OnErr}
use Rattle.std.specs.List.{AllByRecursion}
use Rattle.std.proofs.Math.Seq.{drop-append_seam}
use Rattle.std.proofs.lemmas.Bool.{eqb-true}
use Rattle.std.proofs.lemmas.List.{length-append, map-append, take-append-drop}
use Rattle.std.proofs.lemmas.List.Elements.{filter-append}
use Rattle.std.proofs.lemmas.List.Elements.{Contains-append_cases, Contains-append_left, Contains-append_right}
use Rattle.nr_model.specs.Bytes.{Bytes}
use Rattle.nr_model.specs.Commands.{served}
use Rattle.nr_model.specs.Items.{Connection, Deed, Item, is_end, same_connection}
use Rattle.nr_model.specs.Connections.{Feeding, fed_to}
use Rattle.nr_model.specs.Modes.{conversation, deeds_by}
use Rattle.nr_model.specs.Entries.{Jobs}
use Rattle.nr_model.specs.Asked.{cut_by, jobs_from, jobs_of_feeds}
use Rattle.nr_model.specs.Nodes.{Client, fresh_client}
use Rattle.nr_model.proofs.Asked.{jobs_of_feeds-append, own_feed}
use Rattle.nr_model.proofs.Conversing.{deeds_begin}
use Rattle.nr_model.proofs.Exchanged.{fed_to-append, own_bytes}
use Rattle.nr_model.proofs.JobLists.{All-append, take_none, length-jobs_from, same_is, same_self}
use Rattle.nr_model.proofs.NodesExecutedLists.{in_cases, in_middle, some_in}
use Rattle.nr_model.proofs.NodesOwnSessions as sessions
use Rattle.nr_entry.specs.Jobs.{item_of, items_of}
use Rattle.nr_entry.specs.declared.job.Job.{Job}
use Rattle.nr_session.specs.SessionState.{SessionState, asked, ends, framed, request_jobs, requested}
use Rattle.nr_worker.specs.Seated.{HasFed, HasStopped, OpenConnectionState, takes}
use Rattle.nr_worker.specs.Placed.{FeedsSeat, IsPut, OpenConnectionsState, StopsSeat, seat_at, takes_here}
use Rattle.nr_worker.specs.Portions.{EachSeat, seat_of}
use Rattle.nr_worker.proofs.Putting.{each_put, named, seat_here, seat_others}
use Rattle.nr_worker.specs.Worker.{CountsFrom, WorkerState, IsLed, IsServedAt, Served, all_asked, asked_of}
use Rattle.nr_worker.specs.Moves.{Asks}
use Rattle.nr_worker.specs.Working.{AreAccountedFor, AreApart, Goes, IsAccountedFor, IsBelow, IsSeatOf, IsSeated, IsSession, IsToPost, LeadsTo, Reflects, WorkState, all_fed, connections_of, fed_more, takes_from}
use Rattle.nr_worker.proofs.Accounted.{accounted_fed, accounted_more}
use Rattle.nr_worker.proofs.Batched.{late_too}
use Rattle.nr_worker.proofs.Workers.{asked_led, posted_live}
use Rattle.nr_worker.proofs.Lists.{all_at, all_weaker, posted_weaker}
use Rattle.nr_worker.proofs.Portioned.{all_map, all_of, known_more, map_has, same_connections}

-- ---- jobs
pub counts_both : (n : ℕ) (xs ys : Jobs) → CountsFrom n xs → CountsFrom (n + length xs) ys → CountsFrom n (xs ++ ys)
counts_both n [] ys a b =
    let e : n + 0 ≡ n = omega arith in subst (λ (k : ℕ). CountsFrom k ys) e b
counts_both n (x ∷ xs) ys a b =
    let e : n + length (x ∷ xs) ≡ (n + 1) + length xs = omega arith in
    (a.0, counts_both (n + 1) xs ys a.1 (subst (λ (k : ℕ). CountsFrom k ys) e b))

from_counts : (c : Connection) (n time : ℕ) (deeds : List Deed) → CountsFrom n (jobs_from c n time deeds)
from_counts c n time [] = tt
from_counts c n time (deed ∷ deeds) = (refl, from_counts c (n + 1) time deeds)

from_own : (c : Connection) (n time : ℕ) (deeds : List Deed) → AllByRecursion (λ (job : Item). job.connection ≡ c) (jobs_from c n time deeds)
from_own c n time [] = tt
from_own c n time (deed ∷ deeds) = (refl, from_own c (n + 1) time deeds)

from_both : (c : Connection) (n time : ℕ) (ds es : List Deed) → jobs_from c n time (ds ++ es) ≡ jobs_from c n time ds ++ jobs_from c (n + length ds) time es
from_both c n time [] es =
    let e : n ≡ n + 0 = omega arith in ap (λ k. jobs_from c k time es) e
from_both c n time (d ∷ ds) es =
    let job : Item = record { connection = c; number = n; moment = time; deed = d } in
    let e : (n + 1) + length ds ≡ n + length (d ∷ ds) = omega arith in
    ap (λ (js : Jobs). job ∷ js) (from_both c (n + 1) time ds es ∙ ap (λ k. jobs_from c (n + 1) time ds ++ jobs_from c k time es) e)

-- the numbers of the first of these
from_below : (c : Connection) (n time k : ℕ) (deeds : List Deed) → AllByRecursion (λ (job : Item). job.number < n + k) (take k (jobs_from c n time deeds))
from_below c n time zero deeds = subst (AllByRecursion (λ (job : Item). job.number < n + zero)) (sym (take_none (jobs_from c n time deeds))) tt
from_below c n time (suc k) [] = tt
from_below c n time (suc k) (deed ∷ deeds) =
    let more = from_below c (n + 1) time k deeds in
    let e : (n + 1) + k ≡ n + suc k = omega arith in
    (omega arith, subst (λ (m : ℕ). AllByRecursion (λ (job : Item). job.number < m) (take k (jobs_from c (n + 1) time deeds))) e more)

all_below : (c : Connection) (n time : ℕ) (deeds : List Deed) → AllByRecursion (λ (job : Item). job.number < n + length deeds) (jobs_from c n time deeds)
all_below c n time [] = tt
all_below c n time (deed ∷ deeds) =
    let more = all_below c (n + 1) time deeds in
    let e : (n + 1) + length deeds ≡ n + length (deed ∷ deeds) = omega arith in
    (omega arith, subst (λ (m : ℕ). AllByRecursion (λ (job : Item). job.number < m) (jobs_from c (n + 1) time deeds)) e more)

-- ---- what bytes ask for at a seat
abbrev new_jobs : OpenConnectionState → ℕ → Bytes → Jobs
new_jobs s moment bytes = jobs_from s.session.connection s.session.next moment (asked s.session.mode s.session.rest bytes).deeds

-- the first of these were added, and the session went on, or no more bytes are taken
record HasGone (moment : ℕ) (bytes : Bytes) (was is : OpenConnectionState) (more : Jobs) : Type 0 where
  left : Jobs
  front : more ++ left ≡ new_jobs was moment bytes
  handed : is.handed ≡ was.handed
  own : is.session.connection ≡ was.session.connection
  session : is.cut ≡ false → (text : Bytes) → IsSession was.session text → IsSession is.session (text ++ bytes)
  whole : is.cut ≡ false → more ≡ new_jobs was moment bytes
  next : is.cut ≡ false → is.session.next ≡ was.session.next + length (asked was.session.mode was.session.rest bytes).deeds
  -- the numbers of those that were added, and how many there are in all
  below : AllByRecursion (λ (job : Item). job.number < is.session.next) more
  on : was.session.next ≤ is.session.next
  few : is.session.next ≤ was.session.next + length (new_jobs was moment bytes)

abbrev client_of : SessionState → Client
client_of s = record (fresh_client 0 0 s.connection) { rest = s.rest; mode = s.mode; next = s.next; ended = s.ended }

going : (s : SessionState) (text bytes : Bytes) → s.ended ≡ false → IsSession s text → sessions.IsGoing (client_of s) text bytes
going s text bytes on is = sessions.session_fed (client_of s) text bytes on (record { mode = is.mode; ended = is.ended; next = is.next; rest = is.rest })

took : (ended cut : Bool) → (not ended && not cut) ≡ true → (ended ≡ false) × (cut ≡ false)
took true cut is = absurd (cc is)
took false true is = absurd (cc is)
took false false is = (refl, refl)

has_fed : (moment : ℕ) (bytes : Bytes) (was is : OpenConnectionState) (before after : Jobs) → takes was ≡ true → HasFed moment bytes was is before after
    → HasGone moment bytes was is (new_jobs was moment bytes)
has_fed moment bytes was is before after takes f =
    let a = asked was.session.mode was.session.rest bytes in
    record {
      left = [];
      front = append-nil (new_jobs was moment bytes);
      handed = f.handed;
      own = f.connection;
      session = λ uncut text s.
          let g = (going was.session text bytes (took was.session.ended was.cut takes).0 s).session in
          record {
            mode = f.mode ∙ g.mode;
            ended = f.ended ∙ g.ended;
            next = f.next ∙ g.next;
            rest = λ e.
                let on : a.ended ≡ false = sym f.ended ∙ e in
                f.rest e ∙ sym (ap (λ b. cond b [] (framed was.session.rest bytes).rest) on) ∙ g.rest on;
          };
      whole = λ uncut. refl;
      next = λ uncut. f.next;
      below = subst (λ (m : ℕ). AllByRecursion (λ (job : Item). job.number < m) (new_jobs was moment bytes)) (sym f.next)
          (all_below was.session.connection was.session.next moment a.deeds);
      on = let e = f.next in omega (arith, e);
      few = let e = f.next in let n = length-jobs_from was.session.connection was.session.next moment a.deeds in omega (arith, e, n);
    }

has_stopped : (moment : ℕ) (bytes : Bytes) (was is : OpenConnectionState) (before after : Jobs) → HasStopped moment bytes was is before after
    → (more : Jobs) × (after ≡ before ++ more) × HasGone moment bytes was is more
has_stopped moment bytes was is before after f =
    let s = was.session in
    let framing = framed s.rest bytes in
    let all = request_jobs s.connection s.next moment s.mode framing.frames in
    let begun = deeds_begin served s.mode framing.frames [] framing.fault in
    let ds = (requested s.mode framing.frames).deeds in
    let es = jobs_from s.connection (s.next + length ds) moment begun.0 in
    let whole : (requested s.mode framing.frames).deeds ++ begun.0 ≡ (asked s.mode s.rest bytes).deeds =
    begun.1 ∙ ap (λ fs. (conversation served s.mode fs framing.fault).deeds) (append-nil framing.frames) in
    let n = f.jobs.count in (
      take n all,
      f.jobs.added,
      record {
        left = drop n all ++ es;
        front =
            sym (append_assoc (take n all) (drop n all) es) ∙ ap (λ (js : Jobs). js ++ es) (take-append-drop n all)
            ∙ sym (from_both s.connection s.next moment ds begun.0) ∙ ap (jobs_from s.connection s.next moment) whole;
        handed = f.handed;
        own = f.connection;
        session = λ uncut. absurd (cc (sym f.cut ∙ uncut));
        whole = λ uncut. absurd (cc (sym f.cut ∙ uncut));
        next = λ uncut. absurd (cc (sym f.cut ∙ uncut));
        below = subst (λ (m : ℕ). AllByRecursion (λ (job : Item). job.number < m) (take n all)) (sym f.jobs.numbered)
            (from_below s.connection s.next moment n ds);
        on = let e = f.jobs.numbered in omega (arith, e);
        few =
            let e = f.jobs.numbered in
            let few = f.jobs.few in
            let l : length all ≡ length ds = length-jobs_from s.connection s.next moment ds in
            let m = length-jobs_from s.connection s.next moment (asked s.mode s.rest bytes).deeds in
            let w = ap length whole in
            let p = length-append ds begun.0 in
            omega (arith, e, few, l, m, w, p);
      },
    )

-- ---- one of some
pub parts_of : {A : Type 0} (xs : List A) (x : A) → Contains xs x → (front : List A) × (back : List A) × (xs ≡ front ++ x ∷ back)
parts_of [] x there = absurd (some_in [] x refl there)
parts_of (y ∷ ys) x there = elim (in_cases x y ys there) [
  | inl is ↦ ([], ys, ap (λ z. z ∷ ys) is)
  | inr more ↦ let on = parts_of ys x more in (y ∷ on.0, on.1, ap (λ zs. y ∷ zs) on.2)
]

all_stay : (f : Served → Served) (c : Connection) → ((y : Served) → y.connection ≢ c → f y ≡ y) → (ys : List Served)
    → AllByRecursion (λ (other : Connection). other ≢ c) (connections_of ys) → map f ys ≡ ys
all_stay f c stay [] apart = refl
all_stay f c stay (y ∷ ys) apart = λ i. stay y apart.0 i ∷ all_stay f c stay ys apart.1 i

pub one_changes : (f : Served → Served) (x : Served) → ((y : Served) → y.connection ≢ x.connection → f y ≡ y) → (front back : List Served)
    → AreApart (connections_of (front ++ x ∷ back)) → map f (front ++ x ∷ back) ≡ front ++ f x ∷ back
one_changes f x stay [] back apart = ap (λ (ys : List Served). f x ∷ ys) (all_stay f x.connection stay back apart.0)
one_changes f x stay (y ∷ front) back apart =
    let differs : y.connection ≢ x.connection = λ same.
    all_at (λ (other : Connection). other ≢ y.connection) (connections_of (front ++ x ∷ back)) x.connection apart.0
    (map_has (λ (z : Served). z.connection) (front ++ x ∷ back) x (in_middle x front back)) (sym same) in
    λ i. stay y differs i ∷ one_changes f x stay front back apart.1 i

pub differ_false : (a b : Connection) → b ≢ a → same_connection a b ≡ false
differ_false a b differs = elim (same_connection a b) as (λ t. same_connection a b ≡ t → t ≡ false) [
  | true ↦ λ same. absurd (differs (sym (same_is a b same)))
  | false ↦ λ other. refl
] refl

pub false_differs : (a b : Connection) → same_connection a b ≡ false → b ≢ a
false_differs a b other same =
    let both : true ≡ false = sym (same_self a) ∙ ap (same_connection a) (sym same) ∙ other in cc both

-- ---- a connection is fed
abbrev feeding_of : Connection → ℕ → Bytes → Feeding
feeding_of c moment bytes = record { connection = c; moment = moment; bytes = bytes }

-- another stays as it is
other_fed : (f : Feeding) (x : Served) → same_connection f.connection x.connection ≡ false → fed_more f x ≡ x
other_fed f x other = λ i. record x { fed = cond (other i) (x.fed ++ f ∷ []) x.fed }

-- this one asks for more
module _ (c : Connection) (moment : ℕ) (bytes : Bytes) (was is : OpenConnectionState) (more : Jobs) (taken : takes was ≡ true) (gone : HasGone moment bytes was is more)
    (x : Served) (same : x.connection ≡ c) (seat : IsSeatOf was x) where
  abbrev f : Feeding
  f = feeding_of c moment bytes

  abbrev text : Bytes
  text = fed_to x.connection x.fed

  own : same_connection c x.connection ≡ true
  own = ap (λ (d : Connection). same_connection d x.connection) (sym same) ∙ same_self x.connection

  abbrev parts : (was.session.ended ≡ false) × (was.cut ≡ false)
  parts = took was.session.ended was.cut taken

  deeds : drop (length (deeds_by served text)) (deeds_by served (text ++ bytes)) ≡ (asked was.session.mode was.session.rest bytes).deeds
  deeds =
      ap (drop (length (deeds_by served text))) (going was.session text bytes parts.0 (seat.session parts.1)).deeds
      ∙ drop-append_seam (deeds_by served text) (asked was.session.mode was.session.rest bytes).deeds

  asks_more : asked_of (fed_more f x) ≡ asked_of x ++ new_jobs was moment bytes
  asks_more =
      (λ i. cut_by (seat.unclosed i) (jobs_of_feeds x.connection [] (cond (own i) (x.fed ++ f ∷ []) x.fed)))
      ∙ jobs_of_feeds-append x.connection [] x.fed (f ∷ [])
      ∙ ap (λ (js : Jobs). jobs_of_feeds x.connection [] x.fed ++ js)
      (own_feed x.connection text f own ∙ (λ i. jobs_from (sym seat.own i) (sym (seat.session parts.1).next i) moment (deeds i)))
      ∙ ap (λ o. cut_by o (jobs_of_feeds x.connection [] x.fed) ++ new_jobs was moment bytes) (sym seat.unclosed)

  feeds_text : fed_to x.connection (fed_more f x).fed ≡ text ++ bytes
  feeds_text =
      ap (λ b. fed_to x.connection (cond b (x.fed ++ f ∷ []) x.fed)) own ∙ fed_to-append x.connection x.fed (f ∷ [])
      ∙ ap (λ (b : Bytes). text ++ b) (own_bytes x.connection f own)

  seat_fed : IsSeatOf is (fed_more f x)
  seat_fed = record {
    unclosed = seat.unclosed;
    live = seat.live;
    handed = gone.handed ∙ seat.handed;
    own = gone.own ∙ seat.own;
    session = λ uncut. subst (IsSession is.session) (sym feeds_text) (gone.session uncut text (seat.session parts.1));
    counted = λ uncut.
        ap length asks_more ∙ length-append (asked_of x) (new_jobs was moment bytes)
        ∙ (λ i. seat.counted parts.1 i
        + length-jobs_from was.session.connection was.session.next moment (asked was.session.mode was.session.rest bytes).deeds i) ∙ sym (gone.next uncut);
    few =
        let long = ap length asks_more in
        let sum = length-append (asked_of x) (new_jobs was moment bytes) in
        let had = seat.few in
        let few = gone.few in
        omega (arith, long, sum, had, few);
  }

  counts_fed : CountsFrom 0 (asked_of x) → CountsFrom 0 (asked_of (fed_more f x))
  counts_fed was_counted =
      let from : was.session.next ≡ 0 + length (asked_of x) = let e = seat.counted parts.1 in omega (arith, e) in
      subst (CountsFrom 0) (sym asks_more)
      (counts_both 0 (asked_of x) (new_jobs was moment bytes) was_counted
      (subst (λ (k : ℕ). CountsFrom k (new_jobs was moment bytes)) from
      (from_counts was.session.connection was.session.next moment (asked was.session.mode was.session.rest bytes).deeds)))

  had : (job : Item) → Contains (asked_of x) job → Contains (asked_of (fed_more f x)) job
  had job there = subst (λ (js : Jobs). Contains js job) (sym asks_more) (Contains-append_left (asked_of x) (new_jobs was moment bytes) job there)

  has_new : (job : Item) → Contains (new_jobs was moment bytes) job → Contains (asked_of (fed_more f x)) job
  has_new job there = subst (λ (js : Jobs). Contains js job) (sym asks_more) (Contains-append_right (asked_of x) (new_jobs was moment bytes) job there)

module _ (v : WorkState) (seats : OpenConnectionsState) (jobs : List Job) (serial moment : ℕ) (bytes : Bytes) (was is : OpenConnectionState) (more : Jobs)
    (there : seat_at serial v.seats ≡ Some was) (put : IsPut serial (Some is) v.seats seats) (taken : takes was ≡ true) (gone : HasGone moment bytes was is more)
    (added : items_of jobs ≡ items_of v.jobs ++ more) (d : WorkerState) (led : IsLed d) (r : Reflects v d) where
  abbrev c : Connection
  c = named v.worker.node serial

  abbrev change : Served → Served
  change = fed_more (feeding_of c moment bytes)

  abbrev now : WorkState
  now = record v { seats = seats; jobs = jobs }

  abbrev after : WorkerState
  after = record d { served = map change d.served }

  at_seat : IsSeated d.served c was
  at_seat = r.seats c was (ap (λ b. cond b (seat_at serial v.seats) None) (eq-eqb v.worker.node v.worker.node refl) ∙ there)

  seat_at_own : (x : Served) → Contains d.served x → x.connection ≡ c → IsSeatOf was x
  seat_at_own x within = all_at (λ (y : Served). y.connection ≡ c → IsSeatOf was y) d.served x at_seat.seat within

  stay : (y : Served) → y.connection ≢ c → change y ≡ y
  stay y other = other_fed (feeding_of c moment bytes) y (differ_false c y.connection other)

  -- what was asked for is
  had_each : (x : Served) → Contains d.served x → (job : Item) → Contains (asked_of x) job → Contains (asked_of (change x)) job
  had_each x within job has = elim (same_connection c x.connection) as (λ b. same_connection c x.connection ≡ b → Contains (asked_of (change x)) job) [
    | true ↦ λ own. let same = sym (same_is c x.connection own) in had c moment bytes was is more taken gone x same (seat_at_own x within same) job has
    | false ↦ λ other. subst (λ (y : Served). Contains (asked_of y) job) (sym (other_fed (feeding_of c moment bytes) x other)) has
  ] refl

  -- also among its ends
  had_any : (x : Served) → Contains d.served x → (job : Item) → Contains (all_asked x) job → Contains (all_asked (change x)) job
  had_any x within job has = elim (Contains-append_cases (asked_of x) x.ends job has) [
    | inl asked ↦ Contains-append_left (asked_of (change x)) x.ends job (had_each x within job asked)
    | inr end ↦ Contains-append_right (asked_of (change x)) x.ends job end
  ]

  old_to_post : (job : Item) → IsToPost d.served job → IsToPost (map change d.served) job
  old_to_post job t = record {
    known = known_more change (λ x. refl) d.served job.connection t.known;
    asked = all_map (λ (y : Served). job.connection ≡ y.connection → Contains (all_asked y) job) change d.served
        (all_of (λ (x : Served). job.connection ≡ x.connection → Contains (all_asked (change x)) job) d.served
        (λ x within same. had_any x within job (all_at (λ (y : Served). job.connection ≡ y.connection → Contains (all_asked y) job) d.served x t.asked within same)));
  }

  is_own : (job : Item) → Contains (new_jobs was moment bytes) job → job.connection ≡ c
  is_own job has =
      let deeds = (asked was.session.mode was.session.rest bytes).deeds in
      let mine = all_at (λ (j : Item). j.connection ≡ was.session.connection) (new_jobs was moment bytes) job
      (from_own was.session.connection was.session.next moment deeds) has in
      let k = at_seat.known in
      mine ∙ (seat_at_own k.one k.there k.connection).own ∙ k.connection

  new_to_post : (job : Item) → Contains more job → IsToPost (map change d.served) job
  new_to_post job has =
      let here : Contains (new_jobs was moment bytes) job = subst (λ (js : Jobs). Contains js job) gone.front (Contains-append_left more gone.left job has) in
      let mine = is_own job here in
      let k = at_seat.known in
      record {
        known = known_more change (λ x. refl) d.served job.connection (record { one = k.one; there = k.there; connection = k.connection ∙ sym mine });
        asked = all_map (λ (y : Served). job.connection ≡ y.connection → Contains (all_asked y) job) change d.served
            (all_of (λ (x : Served). job.connection ≡ x.connection → Contains (all_asked (change x)) job) d.served
            (λ x within same.
            Contains-append_left (asked_of (change x)) x.ends job
            (has_new c moment bytes was is more taken gone x (sym same ∙ mine) (seat_at_own x within (sym same ∙ mine)) job here)));
      }

  seated_now : EachSeat (IsSeated (map change d.served)) v.worker.node seats
  seated_now = λ e t at. elim (same_connection e c) as (λ b. same_connection e c ≡ b → IsSeated (map change d.served) e t) [
    | true ↦ λ own.
        let same : e ≡ c = same_is e c own in
        let stands : is ≡ t =
        ap (λ (o : Option OpenConnectionState). elim o [ None ↦ is | Some z ↦ z ])
        (sym (seat_here v.worker.node serial (Some is) v.seats seats put) ∙ ap (seat_of v.worker.node seats) (sym same) ∙ at) in
        subst (λ (g : Connection). IsSeated (map change d.served) g t) (sym same)
        (subst (IsSeated (map change d.served) c) stands (record {
          known = known_more change (λ x. refl) d.served c at_seat.known;
          seat = all_map (λ (y : Served). y.connection ≡ c → IsSeatOf is y) change d.served
              (all_of (λ (x : Served). x.connection ≡ c → IsSeatOf is (change x)) d.served
              (λ x within mine. seat_fed c moment bytes was is more taken gone x mine (seat_at_own x within mine)));
        }))
    | false ↦ λ other.
        let old = r.seats e t (sym (seat_others v.worker.node serial (Some is) v.seats seats put e other) ∙ at) in record {
          known = known_more change (λ x. refl) d.served e old.known;
          seat = all_map (λ (y : Served). y.connection ≡ e → IsSeatOf t y) change d.served
              (all_weaker (λ (y : Served). y.connection ≡ e → IsSeatOf t y) (λ (y : Served). y.connection ≡ e → IsSeatOf t (change y))
              (λ y seat mine.
              subst (IsSeatOf t) (sym (stay y (λ same. false_differs e c other (sym (sym mine ∙ same))))) (seat mine)) d.served old.seat);
        }
  ] refl

  numbers_now : EachSeat (λ e t. IsBelow v.worker.seat.lane.posted (items_of jobs) e t.session.next) v.worker.node seats
  numbers_now = λ e t at. elim (same_connection e c) as (λ b. same_connection e c ≡ b → IsBelow v.worker.seat.lane.posted (items_of jobs) e t.session.next) [
    | true ↦ λ own.
        let same : e ≡ c = same_is e c own in
        let stands : is ≡ t =
        ap (λ (o : Option OpenConnectionState). elim o [ None ↦ is | Some z ↦ z ])
        (sym (seat_here v.worker.node serial (Some is) v.seats seats put) ∙ ap (seat_of v.worker.node seats) (sym same) ∙ at) in
        let old = r.numbers c was (ap (λ b. cond b (seat_at serial v.seats) None) (eq-eqb v.worker.node v.worker.node refl) ∙ there) in
        let P : ℕ → Item → Type 0 = λ n job. job.connection ≡ c → job.number < n in
        let further : (job : Item) → P was.session.next job → P is.session.next job =
        λ job below mine. let b = below mine in let on = gone.on in omega (arith, b, on) in
        subst (λ (g : Connection). IsBelow v.worker.seat.lane.posted (items_of jobs) g t.session.next) (sym same)
        (subst (λ (u : OpenConnectionState). IsBelow v.worker.seat.lane.posted (items_of jobs) c u.session.next) stands (record {
          posted = posted_weaker (P was.session.next) (P is.session.next) further v.worker.seat.lane.posted old.posted;
          waits = subst (AllByRecursion (P is.session.next)) (sym added)
              (All-append (P is.session.next) (items_of v.jobs) more
              (all_weaker (P was.session.next) (P is.session.next) further (items_of v.jobs) old.waits)
              (all_weaker (λ (job : Item). job.number < is.session.next) (P is.session.next) (λ job below mine. below) more gone.below));
        }))
    | false ↦ λ other.
        let old = r.numbers e t (sym (seat_others v.worker.node serial (Some is) v.seats seats put e other) ∙ at) in
        let P : Item → Type 0 = λ job. job.connection ≡ e → job.number < t.session.next in record {
          posted = old.posted;
          waits = subst (AllByRecursion P) (sym added)
              (All-append P (items_of v.jobs) more old.waits
              (all_of P more
              (λ job has mine.
              absurd (false_differs e c other (sym (sym mine ∙ is_own job (subst (λ (js : Jobs). Contains js job) gone.front (Contains-append_left more gone.left job has))))))));
        }
  ] refl

  -- none of them is lost
  own_jobs : AllByRecursion (λ (job : Item). job.connection ≡ c) (new_jobs was moment bytes)
  own_jobs = all_of (λ (job : Item). job.connection ≡ c) (new_jobs was moment bytes) is_own

  was_accounted : AreAccountedFor v.down (items_of v.jobs) v.worker.seat.lane c was
  was_accounted = r.accounted c was (ap (λ b. cond b (seat_at serial v.seats) None) (eq-eqb v.worker.node v.worker.node refl) ∙ there)

  accounted_here : AreAccountedFor v.down (items_of jobs) v.worker.seat.lane c is
  accounted_here uncut number below =
      let deeds = (asked was.session.mode was.session.rest bytes).deeds in
      let long = length-jobs_from was.session.connection was.session.next moment deeds in
      let next = gone.next uncut in
      subst (λ (js : Jobs). IsAccountedFor v.down js v.worker.seat.lane c number) (sym (added ∙ ap (λ (js : Jobs). items_of v.jobs ++ js) (gone.whole uncut)))
      (accounted_fed v.down (items_of v.jobs) (new_jobs was moment bytes) v.worker.seat.lane c was.session.next number
      (from_counts was.session.connection was.session.next moment deeds) own_jobs (omega (arith, long, next, below))
      (λ old. was_accounted (took was.session.ended was.cut taken).1 number old))

  accounted_now : EachSeat (AreAccountedFor v.down (items_of jobs) v.worker.seat.lane) v.worker.node seats
  accounted_now = each_put (AreAccountedFor v.down (items_of jobs) v.worker.seat.lane) v.worker.node serial (Some is) v.seats seats put
      (λ t at.
      subst (AreAccountedFor v.down (items_of jobs) v.worker.seat.lane c) (ap (λ (o : Option OpenConnectionState). elim o [ None ↦ is | Some z ↦ z ]) at) accounted_here)
      (λ e t at uncut number below.
      subst (λ (js : Jobs). IsAccountedFor v.down js v.worker.seat.lane e number) (sym added)
      (accounted_more v.down (items_of v.jobs) more v.worker.seat.lane e number (r.accounted e t at uncut number below)))

  -- the law's step
  asks : Asks (at_seat.known.one.fed ++ feeding_of c moment bytes ∷ []) None d after
  asks =
      let k = at_seat.known in
      let one = k.one in
      let seat = seat_at_own one k.there k.connection in
      let split = parts_of d.served one k.there in
      let new : Served = record one { fed = one.fed ++ feeding_of c moment bytes ∷ []; closing = None } in
      let own_one = own c moment bytes was is more taken gone one k.connection seat in
      let is_new : change one ≡ new =
      λ i. record one { fed = cond (own_one i) (one.fed ++ feeding_of c moment bytes ∷ []) one.fed; closing = seat.unclosed i } in
      let served_at = all_at (IsServedAt d) d.served one led.each k.there in
      let apart = subst (λ (l : List Served). AreApart (connections_of l)) split.2 r.apart in
      record {
        front = split.0;
        one = one;
        back = split.1;
        there = split.2;
        live = seat.live;
        counted = subst (λ (y : Served). CountsFrom 0 (asked_of y)) is_new
            (counts_fed c moment bytes was is more taken gone one k.connection seat served_at.counted);
        posted = posted_weaker (λ (job : Item). job.connection ≡ one.connection → Contains (asked_of one) job)
            (λ (job : Item). job.connection ≡ one.connection → Contains (asked_of new) job)
            (λ job asks mine. subst (λ (y : Served). Contains (asked_of y) job) is_new (had_each one k.there job (asks mine))) d.posted
            (posted_live d one served_at seat.live);
        changed = ap (λ (l : List Served). record d { served = l })
            (ap (map change) split.2
            ∙ one_changes change one (λ y differs. stay y (λ same. differs (same ∙ sym k.connection))) split.0 split.1 apart
            ∙ ap (λ (y : Served). split.0 ++ y ∷ split.1) is_new);
      }

  leads : LeadsTo (all_fed (feeding_of c moment bytes)) now d
  leads =
      let on = asked_led (at_seat.known.one.fed ++ feeding_of c moment bytes ∷ []) None d after led asks in
      record {
        then = after;
        led = on.0;
        goes = on.1;
        reflects = record {
          node = r.node;
          worker = r.worker;
          posted = r.posted;
          heard = r.heard;
          mark = r.mark;
          below = all_map (λ (x : Served). x.connection.serial < v.next) change d.served r.below;
          apart = subst AreApart (sym (same_connections change (λ x. refl) d.served)) r.apart;
          jobs = subst (AllByRecursion (IsToPost (map change d.served))) (sym added)
              (All-append (IsToPost (map change d.served)) (items_of v.jobs) more
              (all_weaker (IsToPost d.served) (IsToPost (map change d.served)) old_to_post (items_of v.jobs) r.jobs)
              (all_of (IsToPost (map change d.served)) more new_to_post));
          seats = seated_now;
          numbers = numbers_now;
          accounted = accounted_now;
        };
        served = refl;
      }

pub both_hold : (a b : Bool) → (a && b) ≡ true → (a ≡ true) × (b ≡ true)
both_hold true b is = (refl, is)
both_hold false b is = absurd (cc is)

takes_it : (o : Option OpenConnectionState) (s : OpenConnectionState) → o ≡ Some s → takes_here o ≡ true → takes s ≡ true
takes_it o s is takes = ap takes_here (sym is) ∙ takes

pub fed_at : (v : WorkState) (seats : OpenConnectionsState) (jobs : List Job) (serial moment : ℕ) (bytes : Bytes) {E : Type 0} (result : Result (Unit {0}) E)
    → takes_here (seat_at serial v.seats) ≡ true
    → OnOk result (FeedsSeat serial moment bytes v.seats seats (items_of v.jobs) (items_of jobs))
    → OnErr result (StopsSeat serial moment bytes v.seats seats (items_of v.jobs) (items_of jobs))
    → Goes (all_fed (feeding_of (named v.worker.node serial) moment bytes)) v (record v { seats = seats; jobs = jobs })
fed_at v seats jobs serial moment bytes (Ok done) takes fed stopped =
    let f = fed in
    let taken = takes_it (seat_at serial v.seats) f.was f.there takes in
    record {
      leads = leads v seats jobs serial moment bytes f.was f.is (new_jobs f.was moment bytes) f.there f.put taken
          (has_fed moment bytes f.was f.is (items_of v.jobs) (items_of jobs) taken f.fed) f.fed.jobs;
    }
fed_at v seats jobs serial moment bytes (Err error) takes fed stopped =
    let f = stopped in
    let taken = takes_it (seat_at serial v.seats) f.was f.there takes in
    let gone = has_stopped moment bytes f.was f.is (items_of v.jobs) (items_of jobs) f.stopped in
    record { leads = leads v seats jobs serial moment bytes f.was f.is gone.0 f.there f.put taken gone.2 gone.1 }

pub fed_by : (v u : WorkState) (seats : OpenConnectionsState) (jobs : List Job) (late : ℕ) (c : Connection) (moment : ℕ) (bytes : Bytes) {E : Type 0} (result : Result (Unit {0}) E) → u ≡ v
    → takes_from c v ≡ true
    → OnOk result (FeedsSeat c.serial moment bytes u.seats seats (items_of u.jobs) (items_of jobs))
    → OnErr result (StopsSeat c.serial moment bytes u.seats seats (items_of u.jobs) (items_of jobs))
    → Goes (all_fed (feeding_of c moment bytes)) v (record u { seats = seats; jobs = jobs; late = late })
fed_by v u seats jobs late c moment bytes result same takes fed stopped =
    let w : WorkState = record u { seats = seats; jobs = jobs } in
    let parts = both_hold (c.node == u.worker.node) (takes_here (seat_at c.serial u.seats)) (ap (takes_from c) same ∙ takes) in
    let node = eqb-true c.node u.worker.node parts.0 in
    let is : named u.worker.node c.serial ≡ c = λ i. record { node = sym node i; serial = c.serial } in
    subst (λ (x : WorkState). Goes (all_fed (feeding_of c moment bytes)) x (record w { late = late })) same
    (late_too (all_fed (feeding_of c moment bytes)) u w late
    (subst (λ (d : Connection). Goes (all_fed (feeding_of d moment bytes)) u w) is (fed_at u seats jobs c.serial moment bytes result parts.1 fed stopped)))

-- ---- behind jobs that were handed back
pub behind : (r a b : List Job) (new : Jobs) → items_of b ≡ items_of a ++ new → items_of (r ++ b) ≡ items_of (r ++ a) ++ new
behind r a b new is =
    map-append item_of r b ∙ ap (λ (js : Jobs). items_of r ++ js) is ∙ sym (append_assoc (items_of r) (items_of a) new)
    ∙ ap (λ (js : Jobs). js ++ new) (sym (map-append item_of r a))

ends_both : (xs ys : Jobs) → ends (xs ++ ys) ≡ ends xs + ends ys
ends_both xs ys =
    ap length (filter-append (λ (job : Item). is_end job.deed) xs ys)
    ∙ length-append (filter (λ (job : Item). is_end job.deed) xs) (filter (λ (job : Item). is_end job.deed) ys)

no_end_behind : (r a b : List Job) → ends (items_of b) ≡ ends (items_of a) → ends (items_of (r ++ b)) ≡ ends (items_of (r ++ a))
no_end_behind r a b is =
    ap ends (map-append item_of r b) ∙ ends_both (items_of r) (items_of b) ∙ ap (λ n. ends (items_of r) + n) is
    ∙ sym (ap ends (map-append item_of r a) ∙ ends_both (items_of r) (items_of a))

feeds_behind : (serial moment : ℕ) (bytes : Bytes) (old new : OpenConnectionsState) (r a b : List Job)
    → FeedsSeat serial moment bytes old new (items_of a) (items_of b)
    → FeedsSeat serial moment bytes old new (items_of (r ++ a)) (items_of (r ++ b))
feeds_behind serial moment bytes old new r a b f =
    let g = f.fed in
    record {
      was = f.was;
      is = f.is;
      there = f.there;
      put = f.put;
      fed = record {
        jobs = behind r a b (new_jobs f.was moment bytes) g.jobs;
        next = g.next;
        fed = g.fed;
        mode = g.mode;
        ended = g.ended;
        gave_end = g.gave_end;
        rest = g.rest;
        numbers = g.numbers;
        connection = g.connection;
        pending = g.pending;
        handed = g.handed;
        cut = g.cut;
      };
    }

stops_behind : (serial moment : ℕ) (bytes : Bytes) (old new : OpenConnectionsState) (r a b : List Job)
    → StopsSeat serial moment bytes old new (items_of a) (items_of b)
    → StopsSeat serial moment bytes old new (items_of (r ++ a)) (items_of (r ++ b))
stops_behind serial moment bytes old new r a b f =
    let g = f.stopped in
    let s = f.was.session in
    let all = request_jobs s.connection s.next moment s.mode (framed s.rest bytes).frames in
    record {
      was = f.was;
      is = f.is;
      there = f.there;
      put = f.put;
      stopped = record {
        jobs = record {
          count = g.jobs.count;
          few = g.jobs.few;
          added = behind r a b (take g.jobs.count all) g.jobs.added;
          numbered = g.jobs.numbered;
        };
        no_end = no_end_behind r a b g.no_end;
        gave_end = g.gave_end;
        connection = g.connection;
        pending = g.pending;
        handed = g.handed;
        cut = g.cut;
      };
    }

pub on_feeds : {E : Type 0} (result : Result (Unit {0}) E) (serial moment : ℕ) (bytes : Bytes) (old new : OpenConnectionsState) (r a b : List Job)
    → OnOk result (FeedsSeat serial moment bytes old new (items_of a) (items_of b))
    → OnOk result (FeedsSeat serial moment bytes old new (items_of (r ++ a)) (items_of (r ++ b)))
on_feeds (Ok done) serial moment bytes old new r a b f = feeds_behind serial moment bytes old new r a b f
on_feeds (Err error) serial moment bytes old new r a b f = tt

pub on_stops : {E : Type 0} (result : Result (Unit {0}) E) (serial moment : ℕ) (bytes : Bytes) (old new : OpenConnectionsState) (r a b : List Job)
    → OnErr result (StopsSeat serial moment bytes old new (items_of a) (items_of b))
    → OnErr result (StopsSeat serial moment bytes old new (items_of (r ++ a)) (items_of (r ++ b)))
on_stops (Ok done) serial moment bytes old new r a b f = tt
on_stops (Err error) serial moment bytes old new r a b f = stops_behind serial moment bytes old new r a b f
