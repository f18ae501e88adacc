-- The code's worker stands for a worker of the law once a connection was closed.
use Rattle.std.proofs.Common.{zero, suc, ◌≡◌, ℕ, ◌+◌, ◌<◌, ◌≤◌, inl, inr, true, false, cond, List, [], ◌∷◌, ◌++◌, map, take, drop, length, Contains, Option, Some, None, refl, ap, sym, ◌∙◌, subst, arith, append-nil, eq-eqb}
use Rattle.std.specs.Prelude.{◌≢◌, option_to_list}
use Rattle.std.specs.List.{AllByRecursion}
use Rattle.std.specs.Option.{option_map}
use Rattle.std.proofs.lemmas.List.{take-append-drop}
use Rattle.std.proofs.lemmas.List.Elements.{Contains-append_cases, Contains-append_left, Contains-append_right}
use Rattle.nr_model.specs.Items.{Connection, End, Item, same_connection}
use Rattle.nr_model.specs.Entries.{Jobs}
use Rattle.nr_model.specs.Asked.{cut_by, jobs_of_feeds}
use Rattle.nr_model.proofs.JobLists.{All-append, same_is, same_self}
use Rattle.nr_model.proofs.NodesExecutedLists.{first_in, in_cases, in_middle, later_in, some_in}
use Rattle.nr_entry.specs.Jobs.{items_of}
use Rattle.nr_entry.specs.declared.batch.Batch.{Batch}
use Rattle.nr_entry.specs.declared.job.Job.{Job}
use Rattle.nr_combiner.specs.Workers.{NodeHandleState}
use Rattle.nr_combiner.specs.Workers as workers
use Rattle.nr_worker.specs.Seated.{OpenConnectionState, last_job}
use Rattle.nr_worker.specs.Placed.{IsPut, OpenConnectionsState, closed_seen, seat_at}
use Rattle.nr_worker.specs.Portions.{EachSeat, seat_of}
use Rattle.nr_worker.specs.declared.open_connections.Closed.{Closed}
use Rattle.nr_worker.proofs.Putting.{each_put, named, seat_here, seat_others}
use Rattle.nr_worker.specs.Worker.{AllPosted, CountsFrom, WorkerState, IsLed, IsServedAt, Served, all_asked, asked_of}
use Rattle.nr_worker.specs.Moves.{Asks}
use Rattle.nr_worker.specs.Working.{AreAccountedFor, AreApart, Closes, Goes, IsAccountedFor, IsBelow, IsSeatOf, IsSeated, IsToPost, LeadsTo, Reflects, WorkState, all_closed, closed_with, connections_of, last_here, last_seen}
use Rattle.nr_worker.proofs.Accounted.{accounted_more}
use Rattle.nr_worker.proofs.Batched.{closed_too, goes_nowhere, late_too}
use Rattle.nr_worker.proofs.Workers.{asked_led, posted_live}
use Rattle.nr_worker.proofs.Lists.{above, all_at, all_both, all_weaker, posted_both, posted_weaker}
use Rattle.nr_worker.proofs.Nourished.{behind, counts_both, differ_false, false_differs, one_changes, parts_of}
use Rattle.nr_worker.proofs.Portioned.{all_map, all_of, known_more, same_connections}

-- ---- the first of the jobs that were asked for
counts_front : (n : ℕ) (xs ys : Jobs) → CountsFrom n (xs ++ ys) → CountsFrom n xs
counts_front n [] ys c = tt
counts_front n (x ∷ xs) ys c = (c.0, counts_front (n + 1) xs ys c.1)

as_long : {A : Type 0} (n : ℕ) (xs : List A) → n ≤ length xs → length (take n xs) ≡ n
as_long zero [] few = refl
as_long zero (x ∷ xs) few = refl
as_long (suc n) [] few = absurd (omega (arith, few))
as_long (suc n) (x ∷ xs) few = ap suc (as_long n xs (omega (arith, few)))

first_has : (m n : ℕ) (jobs : Jobs) (job : Item) → CountsFrom m jobs → Contains jobs job → job.number < m + n → Contains (take n jobs) job
first_has m n [] job c there below = absurd (some_in [] job refl there)
first_has m zero (x ∷ xs) job c there below = absurd (let from = above m (x ∷ xs) job c there in omega (arith, from, below))
first_has m (suc n) (x ∷ xs) job c there below = elim (in_cases job x xs there) [
  | inl is ↦ subst (Contains (x ∷ take n xs)) is (first_in x (take n xs))
  | inr more ↦ later_in job x (take n xs) (first_has (m + 1) n xs job c.1 more (omega (arith, below)))
]

-- ---- the last job
abbrev last_of : ℕ → OpenConnectionState → Item
last_of moment s = record { connection = s.session.connection; number = s.session.next; moment = moment; deed = End None }

-- a connection is closed with it
module _ (moment : ℕ) (was : OpenConnectionState) (x : Served) (seat : IsSeatOf was x) where
  abbrev last : Item
  last = last_of moment was

  abbrev n : ℕ
  n = was.session.next

  own : same_connection last.connection x.connection ≡ true
  own = ap (λ (d : Connection). same_connection d x.connection) seat.own ∙ same_self x.connection

  asks_so : asked_of (closed_with last x) ≡ take n (asked_of x) ++ last ∷ []
  asks_so =
      (λ i. cut_by (cond (own i) (Some last) x.closing) (jobs_of_feeds x.connection [] x.fed))
      ∙ ap (λ o. take n (cut_by o (jobs_of_feeds x.connection [] x.fed)) ++ last ∷ []) (sym seat.unclosed)

  counts_so : CountsFrom 0 (asked_of x) → CountsFrom 0 (asked_of (closed_with last x))
  counts_so counted =
      let front = counts_front 0 (take n (asked_of x)) (drop n (asked_of x)) (subst (CountsFrom 0) (sym (take-append-drop n (asked_of x))) counted) in
      let long = as_long n (asked_of x) seat.few in
      let from : n ≡ 0 + length (take n (asked_of x)) = omega (arith, long) in
      subst (CountsFrom 0) (sym asks_so) (counts_both 0 (take n (asked_of x)) (last ∷ []) front (from, tt))

  had : (job : Item) → CountsFrom 0 (asked_of x) → Contains (asked_of x) job → job.number < n → Contains (asked_of (closed_with last x)) job
  had job counted has below =
      subst (λ (js : Jobs). Contains js job) (sym asks_so)
      (Contains-append_left (take n (asked_of x)) (last ∷ []) job (first_has 0 n (asked_of x) job counted has (omega (arith, below))))

  has_last : Contains (asked_of (closed_with last x)) last
  has_last = subst (λ (js : Jobs). Contains js last) (sym asks_so) (in_middle last (take n (asked_of x)) [])

module _ (v : WorkState) (seats : OpenConnectionsState) (jobs : List Job) (serial moment : ℕ) (was : OpenConnectionState) (there : seat_at serial v.seats ≡ Some was)
    (put : IsPut serial None v.seats seats) (added : items_of jobs ≡ items_of v.jobs ++ last_of moment was ∷ []) (d : WorkerState) (led : IsLed d) (r : Reflects v d) where
  abbrev c : Connection
  c = named v.worker.node serial

  abbrev job : Item
  job = last_of moment was

  abbrev change : Served → Served
  change = closed_with job

  abbrev now : WorkState
  now = record v { seats = seats; jobs = jobs }

  abbrev after : WorkerState
  after = record d { served = map change d.served }

  at_here : seat_of v.worker.node v.seats c ≡ Some was
  at_here = ap (λ b. cond b (seat_at serial v.seats) None) (eq-eqb v.worker.node v.worker.node refl) ∙ there

  at_seat : IsSeated d.served c was
  at_seat = r.seats c was at_here

  numbers : IsBelow v.worker.seat.lane.posted (items_of v.jobs) c was.session.next
  numbers = r.numbers c was at_here

  seat_at_own : (x : Served) → Contains d.served x → x.connection ≡ c → IsSeatOf was x
  seat_at_own x within = all_at (λ (y : Served). y.connection ≡ c → IsSeatOf was y) d.served x at_seat.seat within

  job_own : job.connection ≡ c
  job_own = let k = at_seat.known in (seat_at_own k.one k.there k.connection).own ∙ k.connection

  other_stays : (y : Served) → same_connection job.connection y.connection ≡ false → change y ≡ y
  other_stays y other = λ i. record y { closing = cond (other i) (Some job) y.closing }

  stay : (y : Served) → y.connection ≢ c → change y ≡ y
  stay y other = other_stays y (differ_false job.connection y.connection (λ same. other (same ∙ job_own)))

  served_at : (x : Served) → Contains d.served x → IsServedAt d x
  served_at x within = all_at (IsServedAt d) d.served x led.each within

  had_each : (x : Served) → Contains d.served x → (j : Item) → (x.connection ≡ c → j.number < was.session.next) → Contains (asked_of x) j
      → Contains (asked_of (change x)) j
  had_each x within j below has = elim (same_connection job.connection x.connection) as
      (λ b. same_connection job.connection x.connection ≡ b → Contains (asked_of (change x)) j) [
        | true ↦ λ own.
            let same : x.connection ≡ c = sym (same_is job.connection x.connection own) ∙ job_own in
            had moment was x (seat_at_own x within same) j (served_at x within).counted has (below same)
        | false ↦ λ other. subst (λ (y : Served). Contains (asked_of y) j) (sym (other_stays x other)) has
      ] refl

  -- also among its ends
  had_any : (x : Served) → Contains d.served x → (j : Item) → (x.connection ≡ c → j.number < was.session.next) → Contains (all_asked x) j
      → Contains (all_asked (change x)) j
  had_any x within j below has = elim (Contains-append_cases (asked_of x) x.ends j has) [
    | inl asked ↦ Contains-append_left (asked_of (change x)) x.ends j (had_each x within j below asked)
    | inr end ↦ Contains-append_right (asked_of (change x)) x.ends j end
  ]

  old_to_post : (j : Item) → IsToPost d.served j × (j.connection ≡ c → j.number < was.session.next) → IsToPost (map change d.served) j
  old_to_post j (t, below) = record {
    known = known_more change (λ x. refl) d.served j.connection t.known;
    asked = all_map (λ (y : Served). j.connection ≡ y.connection → Contains (all_asked y) j) change d.served
        (all_of (λ (x : Served). j.connection ≡ x.connection → Contains (all_asked (change x)) j) d.served
        (λ x within same.
        had_any x within j (λ mine. below (same ∙ mine))
        (all_at (λ (y : Served). j.connection ≡ y.connection → Contains (all_asked y) j) d.served x t.asked within same)));
  }

  last_to_post : IsToPost (map change d.served) job
  last_to_post =
      let k = at_seat.known in
      record {
        known = known_more change (λ x. refl) d.served job.connection (record { one = k.one; there = k.there; connection = k.connection ∙ sym job_own });
        asked = all_map (λ (y : Served). job.connection ≡ y.connection → Contains (all_asked y) job) change d.served
            (all_of (λ (x : Served). job.connection ≡ x.connection → Contains (all_asked (change x)) job) d.served
            (λ x within same. Contains-append_left (asked_of (change x)) x.ends job (has_last moment was x (seat_at_own x within (sym same ∙ job_own)))));
      }

  no_seat : (P : OpenConnectionState → Type 0) (t : OpenConnectionState) → seat_of v.worker.node seats c ≡ Some t → P t
  no_seat P t at = absurd (let none : None ≡ Some t = sym (seat_here v.worker.node serial None v.seats seats put) ∙ at in cc none)

  seated_now : EachSeat (IsSeated (map change d.served)) v.worker.node seats
  seated_now = λ e t at. elim (same_connection e c) as (λ b. same_connection e c ≡ b → IsSeated (map change d.served) e t) [
    | true ↦ λ own. no_seat (IsSeated (map change d.served) e) t (ap (seat_of v.worker.node seats) (sym (same_is e c own)) ∙ at)
    | false ↦ λ other.
        let old = r.seats e t (sym (seat_others v.worker.node serial None v.seats seats put e other) ∙ at) in record {
          known = known_more change (λ x. refl) d.served e old.known;
          seat = all_map (λ (y : Served). y.connection ≡ e → IsSeatOf t y) change d.served
              (all_weaker (λ (y : Served). y.connection ≡ e → IsSeatOf t y) (λ (y : Served). y.connection ≡ e → IsSeatOf t (change y))
              (λ y seat mine.
              subst (IsSeatOf t) (sym (stay y (λ same. false_differs e c other (sym (sym mine ∙ same))))) (seat mine)) d.served old.seat);
        }
  ] refl

  numbers_now : EachSeat (λ e t. IsBelow v.worker.seat.lane.posted (items_of jobs) e t.session.next) v.worker.node seats
  numbers_now = λ e t at. elim (same_connection e c) as (λ b. same_connection e c ≡ b → IsBelow v.worker.seat.lane.posted (items_of jobs) e t.session.next) [
    | true ↦ λ own.
        no_seat (λ u. IsBelow v.worker.seat.lane.posted (items_of jobs) e u.session.next) t (ap (seat_of v.worker.node seats) (sym (same_is e c own)) ∙ at)
    | false ↦ λ other.
        let old = r.numbers e t (sym (seat_others v.worker.node serial None v.seats seats put e other) ∙ at) in
        let P : Item → Type 0 = λ j. j.connection ≡ e → j.number < t.session.next in record {
          posted = old.posted;
          waits = subst (AllByRecursion P) (sym added)
              (All-append P (items_of v.jobs) (job ∷ []) old.waits (λ mine. absurd (false_differs e c other (sym (sym mine ∙ job_own))), tt));
        }
  ] refl

  accounted_now : EachSeat (AreAccountedFor v.down (items_of jobs) v.worker.seat.lane) v.worker.node seats
  accounted_now = each_put (AreAccountedFor v.down (items_of jobs) v.worker.seat.lane) v.worker.node serial None v.seats seats put (λ t is. absurd (cc is))
      (λ e t at uncut number below.
      subst (λ (js : Jobs). IsAccountedFor v.down js v.worker.seat.lane e number) (sym added)
      (accounted_more v.down (items_of v.jobs) (job ∷ []) v.worker.seat.lane e number (r.accounted e t at uncut number below)))

  asks : Asks at_seat.known.one.fed (Some job) d after
  asks =
      let k = at_seat.known in
      let one = k.one in
      let seat = seat_at_own one k.there k.connection in
      let split = parts_of d.served one k.there in
      let new : Served = record one { fed = one.fed; closing = Some job } in
      let own_one = own moment was one seat in
      let is_new : change one ≡ new = λ i. record one { closing = cond (own_one i) (Some job) one.closing } in
      let at = served_at one k.there in
      let apart = subst (λ (l : List Served). AreApart (connections_of l)) split.2 r.apart in
      let Asked : Item → Type 0 = λ j. j.connection ≡ one.connection → Contains (asked_of one) j in
      let Below : Item → Type 0 = λ j. j.connection ≡ c → j.number < was.session.next in
      let below = subst (λ (bs : List Batch). AllPosted Below bs) (sym r.posted) numbers.posted in
      record {
        front = split.0;
        one = one;
        back = split.1;
        there = split.2;
        live = seat.live;
        counted = subst (λ (y : Served). CountsFrom 0 (asked_of y)) is_new (counts_so moment was one seat at.counted);
        posted = posted_weaker (λ (j : Item). Asked j × Below j) (λ (j : Item). j.connection ≡ one.connection → Contains (asked_of new) j)
            (λ j both mine.
            subst (λ (y : Served). Contains (asked_of y) j) is_new
            (had_each one k.there j (λ same. both.1 (mine ∙ k.connection)) (both.0 mine))) d.posted
            (posted_both Asked Below d.posted (posted_live d one at seat.live) below);
        changed = ap (λ (l : List Served). record d { served = l })
            (ap (map change) split.2
            ∙ one_changes change one (λ y differs. stay y (λ same. differs (same ∙ sym k.connection))) split.0 split.1 apart
            ∙ ap (λ (y : Served). split.0 ++ y ∷ split.1) is_new);
      }

  leads : LeadsTo (all_closed (Some job)) now d
  leads =
      let on = asked_led at_seat.known.one.fed (Some job) d after led asks in
      let Below : Item → Type 0 = λ j. j.connection ≡ c → j.number < was.session.next in
      record {
        then = after;
        led = on.0;
        goes = on.1;
        reflects = record {
          node = r.node;
          worker = r.worker;
          posted = r.posted;
          heard = r.heard;
          mark = r.mark;
          below = all_map (λ (x : Served). x.connection.serial < v.next) change d.served r.below;
          apart = subst AreApart (sym (same_connections change (λ x. refl) d.served)) r.apart;
          jobs = subst (AllByRecursion (IsToPost (map change d.served))) (sym added)
              (All-append (IsToPost (map change d.served)) (items_of v.jobs) (job ∷ [])
              (all_weaker (λ (j : Item). IsToPost d.served j × Below j) (IsToPost (map change d.served)) old_to_post (items_of v.jobs)
              (all_both (IsToPost d.served) Below (items_of v.jobs) r.jobs numbers.waits)) (last_to_post, tt));
          seats = seated_now;
          numbers = numbers_now;
          accounted = accounted_now;
        };
        served = refl;
      }

-- ---- no last job
gone_leads : (v : WorkState) (seats : OpenConnectionsState) (jobs : List Job) (serial : ℕ) → IsPut serial None v.seats seats → items_of jobs ≡ items_of v.jobs ++ []
    → (d : WorkerState) → IsLed d → Reflects v d → LeadsTo (all_closed None) (record v { seats = seats; jobs = jobs }) d
gone_leads v seats jobs serial put added d led r =
    let same : items_of v.jobs ≡ items_of jobs = sym (append-nil (items_of v.jobs)) ∙ sym added in
    let P : Connection → OpenConnectionState → Type 0 = λ e t. IsBelow v.worker.seat.lane.posted (items_of v.jobs) e t.session.next in
    record {
      then = d;
      led = led;
      goes = goes_nowhere d;
      reflects = record {
        node = r.node;
        worker = r.worker;
        posted = r.posted;
        heard = r.heard;
        mark = r.mark;
        below = r.below;
        apart = r.apart;
        jobs = subst (AllByRecursion (IsToPost d.served)) same r.jobs;
        seats = each_put (IsSeated d.served) v.worker.node serial None v.seats seats put (λ s is. absurd (cc is)) r.seats;
        numbers = subst (λ (js : Jobs). EachSeat (λ e t. IsBelow v.worker.seat.lane.posted js e t.session.next) v.worker.node seats) same
            (each_put P v.worker.node serial None v.seats seats put (λ s is. absurd (cc is)) r.numbers);
        accounted = subst (λ (js : Jobs). EachSeat (AreAccountedFor v.down js v.worker.seat.lane) v.worker.node seats) same
            (each_put (AreAccountedFor v.down (items_of v.jobs) v.worker.seat.lane) v.worker.node serial None v.seats seats put (λ s is. absurd (cc is)) r.accounted);
      };
      served = refl;
    }

closes_at : (v : WorkState) (seats : OpenConnectionsState) (jobs : List Job) (serial moment : ℕ) (o : Option OpenConnectionState) → seat_at serial v.seats ≡ o
    → IsPut serial None v.seats seats → items_of jobs ≡ items_of v.jobs ++ option_to_list (last_here moment o)
    → Goes (all_closed (last_here moment o)) v (record v { seats = seats; jobs = jobs })
closes_at v seats jobs serial moment None there put added = record { leads = gone_leads v seats jobs serial put added }
closes_at v seats jobs serial moment (Some s) there put added =
    let w : WorkState = record v { seats = seats; jobs = jobs } in
    let job = last_of moment s in
    elim s.session.gave_end as (λ b. items_of jobs ≡ items_of v.jobs ++ option_to_list (cond b None (Some job)) → Goes (all_closed (cond b None (Some job))) v w) [
      | true ↦ λ none. record { leads = gone_leads v seats jobs serial put none }
      | false ↦ λ one. record { leads = leads v seats jobs serial moment s there put one }
    ] added

-- ---- as the code has it
seen_here : (moment : ℕ) (o : Option OpenConnectionState) → last_seen (option_map (last_job moment) o) ≡ option_to_list (last_here moment o)
seen_here moment None = refl
seen_here moment (Some s) = refl

pub closed_by : (v u : WorkState) (worker : NodeHandleState) (seats : OpenConnectionsState) (r a b : List Job) (late serial moment : ℕ) (closed : Closed) → u ≡ v
    → workers.MayHaveClosed u.worker worker → u.jobs ≡ r ++ a
    → closed_seen closed ≡ option_map (last_job moment) (seat_at serial u.seats) → IsPut serial None u.seats seats
    → items_of b ≡ items_of a ++ last_seen (closed_seen closed) → late ≡ u.late + length (last_seen (closed_seen closed))
    → let w : WorkState = record u { worker = worker; seats = seats; jobs = r ++ b; late = late } in
    Closes serial moment v w × Goes (all_closed (last_here moment (seat_at serial v.seats))) v w
closed_by v u worker seats r a b late serial moment closed same may are seen put added late_is =
    let w : WorkState = record u { seats = seats; jobs = r ++ b } in
    let later : WorkState = record w { late = late } in
    let now : WorkState = record later { worker = worker } in
    let o = seat_at serial u.seats in
    let put_behind : items_of b ≡ items_of a ++ option_to_list (last_here moment o) =
    added ∙ (λ i. items_of a ++ last_seen (seen i)) ∙ ap (λ (js : Jobs). items_of a ++ js) (seen_here moment o) in
    let late_now : late ≡ u.late + length (option_to_list (last_here moment o)) =
    late_is ∙ (λ i. u.late + length (last_seen (seen i))) ∙ ap (λ (js : Jobs). u.late + length js) (seen_here moment o) in
    let last : items_of (r ++ b) ≡ items_of u.jobs ++ option_to_list (last_here moment o) =
    behind r a b (option_to_list (last_here moment o)) put_behind ∙ ap (λ (js : List Job). items_of js ++ option_to_list (last_here moment o)) (sym are) in
    subst (λ (x : WorkState). Closes serial moment x now × Goes (all_closed (last_here moment (seat_at serial x.seats))) x now) same (
      record { gone = put; last = last; late = late_now; worker = may; changed = refl },
      closed_too (all_closed (last_here moment o)) u later worker may
          (late_too (all_closed (last_here moment o)) u w late (closes_at u seats (r ++ b) serial moment o refl put last)),
    )
