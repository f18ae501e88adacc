-- The code's worker stands for a worker of the law once a connection was opened.
use Rattle.std.proofs.Common.{◌≡◌, ℕ, ◌+◌, ◌<◌, ◌≤◌, inl, inr, true, false, List, [], ◌∷◌, ◌++◌, Contains, Option, Some, None, refl, ap, sym, ◌∙◌, subst, arith}
use Rattle.std.specs.Prelude.{◌≢◌, is_some}
use Rattle.std.specs.List.{AllByRecursion}
use Rattle.std.proofs.lemmas.List.Elements.{Contains-append_left}
use Rattle.nr_model.specs.Items.{Connection, Item, same_connection}
use Rattle.nr_model.proofs.JobLists.{All-append, same_is}
use Rattle.nr_model.proofs.NodesExecutedLists.{in_middle}
use Rattle.nr_model.proofs.NodesOwnSessions as sessions
use Rattle.nr_entry.specs.Jobs.{connection_of, items_of}
use Rattle.nr_entry.specs.declared.batch.Batch.{Batch}
use Rattle.nr_entry.specs.declared.conn.ConnId.{ConnId}
use Rattle.nr_entry.specs.declared.job.Job.{Job}
use Rattle.nr_log_end.specs.declared.standing.Standing.{Standing}
use Rattle.nr_node.specs.Sound.{IsSound, ServesOpened}
use Rattle.nr_combiner.specs.Heard.{Knows, KnowsOpened}
use Rattle.nr_slots.specs.declared.view.CombinerPast.{CombinerPast}
use Rattle.nr_combiner.specs.Workers.{NodeHandleState, told_of}
use Rattle.nr_combiner.specs.Workers as workers
use Rattle.nr_taps.specs.Marks.{Adopts}
use Rattle.nr_taps.specs.Taps.{HaveMet}
use Rattle.nr_worker.specs.Seated.{OpenConnectionState, fresh_seat}
use Rattle.nr_worker.specs.Placed.{IsPut, OpenConnectionsState, seat_at}
use Rattle.nr_worker.specs.Portions.{EachSeat, seat_of}
use Rattle.nr_worker.proofs.Putting.{each_put, named, seat_here, seat_others}
use Rattle.nr_worker.specs.Worker.{AllPosted, WorkerState, IsAskedBy, IsLed, Served, all_asked}
use Rattle.nr_worker.specs.Moves.{HaveGot, Opens, HearsTurn}
use Rattle.nr_worker.specs.Working.{AreAccountedFor, AreApart, Goes, IsBelow, IsSeatOf, IsSeated, IsServed, IsToPost, LeadsTo, MayHaveClosed, OpensNew, Reflects, WorkState, connections_of, one_opened, unchanged}
use Rattle.nr_worker.proofs.Batched.{closed_too, stays}
use Rattle.nr_worker.proofs.Workers.{opened_led, turned_led}
use Rattle.nr_worker.proofs.Lists.{all_at, all_weaker, posted_weaker}
use Rattle.nr_worker.proofs.Nourished.{false_differs}

abbrev new_one : Connection → Served
new_one c = record { connection = c; fed = []; closing = None; handed = []; ends = [] }

-- at first
fresh_is : (c : Connection) → IsSeatOf (fresh_seat c) (new_one c)
fresh_is c =
    let s = sessions.fresh_session 0 0 c in
    record {
      unclosed = refl;
      live = refl;
      handed = refl;
      own = refl;
      session = λ uncut. record { mode = s.mode; ended = s.ended; next = s.next; rest = s.rest };
      counted = λ uncut. refl;
      few = omega arith;
    }

-- ---- one more
others_more : (P : Connection → Type 0) (xs : List Served) (y : Served) → AllByRecursion P (connections_of xs) → P y.connection
    → AllByRecursion P (connections_of (xs ++ y ∷ []))
others_more P [] y all here = (here, tt)
others_more P (x ∷ xs) y all here = (all.0, others_more P xs y all.1 here)

apart_more : (xs : List Served) (y : Served) → AreApart (connections_of xs) → AllByRecursion (λ (x : Served). x.connection ≢ y.connection) xs
    → AreApart (connections_of (xs ++ y ∷ []))
apart_more [] y apart new = (tt, tt)
apart_more (x ∷ xs) y apart new =
    (others_more (λ (other : Connection). other ≢ x.connection) xs y apart.0 (λ same. new.0 (sym same)), apart_more xs y apart.1 new.1)

known_still : (served : List Served) (y : Served) (c : Connection) → IsServed served c → IsServed (served ++ y ∷ []) c
known_still served y c k = record { one = k.one; there = Contains-append_left served (y ∷ []) k.one k.there; connection = k.connection }

module _ (v : WorkState) (desk : CombinerPast) (seats : OpenConnectionsState) (mark : Option Standing) (serial : ℕ) (s : Standing) (later : v.next ≤ serial)
    (sound : IsSound s × (s.node ≡ v.worker.node)) (put : IsPut serial (Some (fresh_seat (named v.worker.node serial))) v.seats seats)
    (d : WorkerState) (led : IsLed d) (r : Reflects v d) (knows : Knows d.worker desk s v.worker.seat.lane) (serves : ServesOpened s d.worker (named v.worker.node serial))
    (adopted : Adopts d.mark s mark) (met : HaveMet d.mark (Some s)) where
  abbrev c : Connection
  c = named v.worker.node serial

  abbrev now : WorkState
  now = record v { worker = told_of desk v.worker; seats = seats; next = serial + 1; mark = mark }

  abbrev served : List Served
  served = d.served ++ new_one c ∷ []

  abbrev after : WorkerState
  after = record d { heard = desk; mark = mark; served = served }

  new : AllByRecursion (λ (x : Served). x.connection ≢ c) d.served
  new = all_weaker (λ (x : Served). x.connection.serial < v.next) (λ (x : Served). x.connection ≢ c)
      (λ x below same. let at = ap (λ (e : Connection). e.serial) same in omega (arith, below, later, at)) d.served r.below

  opens : Opens c s v.worker.seat.lane d after
  opens = record {
    new = new;
    knows = knows;
    serves = serves;
    posted = sym r.posted;
    sound = (sound.0, sound.1 ∙ sym r.node);
    adopted = adopted;
    met = met;
    opened = refl;
  }

  to_post_still : (job : Item) → IsToPost d.served job → IsToPost served job
  to_post_still job t = record {
    known = known_still d.served (new_one c) job.connection t.known;
    asked = All-append (λ (y : Served). job.connection ≡ y.connection → Contains (all_asked y) job) d.served (new_one c ∷ []) t.asked
        (λ same. absurd (all_at (λ (x : Served). x.connection ≢ c) d.served t.known.one new t.known.there (t.known.connection ∙ same)), tt);
  }

  seated_now : EachSeat (IsSeated served) v.worker.node seats
  seated_now = λ e t at. elim (same_connection e c) as (λ b. same_connection e c ≡ b → IsSeated served e t) [
    | true ↦ λ own.
        let same : e ≡ c = same_is e c own in
        let stands : fresh_seat c ≡ t =
        ap (λ (o : Option OpenConnectionState). elim o [ None ↦ fresh_seat c | Some z ↦ z ])
        (sym (seat_here v.worker.node serial (Some (fresh_seat c)) v.seats seats put) ∙ ap (seat_of v.worker.node seats) (sym same) ∙ at) in
        subst (λ (g : Connection). IsSeated served g t) (sym same)
        (subst (IsSeated served c) stands (record {
          known = record { one = new_one c; there = in_middle (new_one c) d.served []; connection = refl };
          seat = All-append (λ (y : Served). y.connection ≡ c → IsSeatOf (fresh_seat c) y) d.served (new_one c ∷ [])
              (all_weaker (λ (x : Served). x.connection ≢ c) (λ (y : Served). y.connection ≡ c → IsSeatOf (fresh_seat c) y) (λ x other mine. absurd (other mine)) d.served new)
              (λ mine. fresh_is c, tt);
        }))
    | false ↦ λ other.
        let old = r.seats e t (sym (seat_others v.worker.node serial (Some (fresh_seat c)) v.seats seats put e other) ∙ at) in record {
          known = known_still d.served (new_one c) e old.known;
          seat = All-append (λ (y : Served). y.connection ≡ e → IsSeatOf t y) d.served (new_one c ∷ []) old.seat
              (λ mine. absurd (false_differs e c other mine), tt);
        }
  ] refl

  -- no job is of a connection that is new
  none_of : (job : Item) → IsServed d.served job.connection → job.connection ≡ c → job.number < 0
  none_of job k same = absurd (all_at (λ (x : Served). x.connection ≢ c) d.served k.one new k.there (k.connection ∙ same))

  numbers_now : EachSeat (λ e t. IsBelow v.worker.seat.lane.posted (items_of v.jobs) e t.session.next) v.worker.node seats
  numbers_now = each_put (λ e t. IsBelow v.worker.seat.lane.posted (items_of v.jobs) e t.session.next) v.worker.node serial (Some (fresh_seat c)) v.seats seats put
      (λ t is.
      subst (λ (u : OpenConnectionState). IsBelow v.worker.seat.lane.posted (items_of v.jobs) c u.session.next)
      (ap (λ (o : Option OpenConnectionState). elim o [ None ↦ fresh_seat c | Some z ↦ z ]) is) (record {
        posted = subst (λ (bs : List Batch). AllPosted (λ (job : Item). job.connection ≡ c → job.number < 0) bs) r.posted
            (posted_weaker (IsAskedBy d.served) (λ (job : Item). job.connection ≡ c → job.number < 0)
            (λ job by. none_of job (record { one = by.one; there = by.there; connection = by.connection })) d.posted led.known);
        waits = all_weaker (IsToPost d.served) (λ (job : Item). job.connection ≡ c → job.number < 0) (λ job t. none_of job t.known) (items_of v.jobs) r.jobs;
      })) r.numbers

  accounted_now : EachSeat (AreAccountedFor v.down (items_of v.jobs) v.worker.seat.lane) v.worker.node seats
  accounted_now = each_put (AreAccountedFor v.down (items_of v.jobs) v.worker.seat.lane) v.worker.node serial (Some (fresh_seat c)) v.seats seats put
      (λ t is.
      subst (AreAccountedFor v.down (items_of v.jobs) v.worker.seat.lane c) (ap (λ (o : Option OpenConnectionState). elim o [ None ↦ fresh_seat c | Some z ↦ z ]) is)
      (λ uncut number below. absurd (omega (arith, below)))) r.accounted

  leads : LeadsTo (one_opened c) now d
  leads =
      let on = opened_led c s v.worker.seat.lane d after led opens in
      record {
        then = after;
        led = on.0;
        goes = on.1;
        reflects = record {
          node = r.node;
          worker = r.worker;
          posted = r.posted;
          heard = refl;
          mark = refl;
          below = All-append (λ (x : Served). x.connection.serial < serial + 1) d.served (new_one c ∷ [])
              (all_weaker (λ (x : Served). x.connection.serial < v.next) (λ (x : Served). x.connection.serial < serial + 1)
              (λ x below. omega (arith, below, later)) d.served r.below)
              (omega arith, tt);
          apart = apart_more d.served (new_one c) r.apart new;
          jobs = all_weaker (IsToPost d.served) (IsToPost served) to_post_still (items_of v.jobs) r.jobs;
          seats = seated_now;
          numbers = numbers_now;
          accounted = accounted_now;
        };
        served = refl;
      }

opened_goes : (v : WorkState) (desk : CombinerPast) (seats : OpenConnectionsState) (mark : Option Standing) (conn : ConnId) (s : Standing) → connection_of conn ≡ named v.worker.node conn.serial
    → v.next ≤ conn.serial → KnowsOpened v.worker.seat.worker conn desk s v.worker.seat.lane → IsSound s × (s.node ≡ v.worker.node) → Adopts v.mark s mark
    → HaveMet v.mark (Some s) → IsPut conn.serial (Some (fresh_seat (connection_of conn))) v.seats seats
    → Goes (one_opened (connection_of conn)) v (record v { worker = told_of desk v.worker; seats = seats; next = conn.serial + 1; mark = mark })
opened_goes v desk seats mark conn s is later knows sound adopted met put =
    let w : WorkState = record v { worker = told_of desk v.worker; seats = seats; next = conn.serial + 1; mark = mark } in
    subst (λ (c : Connection). Goes (one_opened c) v w) (sym is) (record {
      leads = λ d led r.
          leads v desk seats mark conn.serial s later sound
          (subst (λ (c : Connection). IsPut conn.serial (Some (fresh_seat c)) v.seats seats) is put) d led r
          (subst (λ (n : ℕ). Knows n desk s v.worker.seat.lane) (sym r.worker) knows.knows)
          (subst (λ (n : ℕ). ServesOpened s n (named v.worker.node conn.serial)) (sym r.worker)
          (subst (λ (c : Connection). ServesOpened s v.worker.seat.worker c) is knows.serves))
          (subst (λ (m : Option Standing). Adopts m s mark) (sym r.mark) adopted) (subst (λ (m : Option Standing). HaveMet m (Some s)) (sym r.mark) met);
    })

pub none_there : (o : Option OpenConnectionState) → is_some o ≡ false → o ≡ None
none_there None absent = refl
none_there (Some s) absent = absurd (cc absent)

-- of the worker as opening left it
pub opened_by : (v u : WorkState) (desk : CombinerPast) (worker : NodeHandleState) (seats : OpenConnectionsState) (mark : Option Standing) (conn : ConnId) (s : Standing) (next : ℕ) (jobs : List Job)
    (late : ℕ) → u ≡ v → worker ≡ told_of desk u.worker → jobs ≡ u.jobs → late ≡ u.late → u.next ≤ conn.serial → is_some (seat_at conn.serial u.seats) ≡ false → next ≡ conn.serial + 1 → KnowsOpened u.worker.seat.worker conn desk s u.worker.seat.lane
    → IsSound s × (s.node ≡ u.worker.node) → Adopts u.mark s mark → HaveMet u.mark (Some s)
    → IsPut conn.serial (Some (fresh_seat (connection_of conn))) u.seats seats
    → let w : WorkState = record u { worker = worker; seats = seats; next = next; mark = mark; jobs = jobs; late = late } in
    OpensNew (connection_of conn) v w × Goes (one_opened (connection_of conn)) v w
opened_by v u desk worker seats mark conn s next jobs late same still waits lates later absent next_is knows sound adopted met put =
    let w : WorkState = record u { worker = worker; seats = seats; next = next; mark = mark; jobs = jobs; late = late } in
    let w_is : w ≡ record u { worker = told_of desk u.worker; seats = seats; next = conn.serial + 1; mark = mark } =
    λ i. record u { worker = still i; seats = seats; next = next_is i; mark = mark; jobs = waits i; late = lates i } in
    let noted : desk ≡ worker.seat.noted = sym (ap (λ (x : NodeHandleState). x.seat.noted) still) in
    let heard_so : record u { worker = told_of desk u.worker; seats = seats; next = conn.serial + 1; mark = mark }
    ≡ record u { worker = told_of worker.seat.noted u.worker; seats = seats; next = conn.serial + 1; mark = mark } =
    λ i. record u { worker = told_of (noted i) u.worker; seats = seats; next = conn.serial + 1; mark = mark } in
    let node : conn.node ≡ u.worker.node = knows.serves.node ∙ sound.1 in
    let is : connection_of conn ≡ named u.worker.node conn.serial = λ i. record { node = node i; serial = conn.serial } in
    subst (λ (x : WorkState). OpensNew (connection_of conn) x w × Goes (one_opened (connection_of conn)) x w) same (
      record { node = node; later = later; absent = none_there (seat_at conn.serial u.seats) absent; put = put; changed = w_is ∙ heard_so },
      subst (Goes (one_opened (connection_of conn)) u) (sym w_is) (opened_goes u desk seats mark conn s is later knows sound adopted met put),
    )

-- ---- none was opened
got_none : (xs : List Served) → HaveGot [] xs xs
got_none [] = tt
got_none (x ∷ xs) = (inl refl, got_none xs)

-- what was heard, and the mark that adopted the token, stand for the same worker of the law
pub heard_goes : (v : WorkState) (desk : CombinerPast) (mark : Option Standing) (s : Standing) → Knows v.worker.seat.worker desk s v.worker.seat.lane
    → IsSound s × (s.node ≡ v.worker.node) → Adopts v.mark s mark → HaveMet v.mark (Some s)
    → Goes unchanged v (record v { worker = told_of desk v.worker; mark = mark })
heard_goes v desk mark s knows sound adopted met = record {
  leads = λ d led r.
      let e : WorkerState = record d { heard = desk; mark = mark } in
      let turns : HearsTurn 1 false s v.worker.seat.lane [] [] d e = record {
        heard = record {
          knows = subst (λ (n : ℕ). Knows n desk s v.worker.seat.lane) (sym r.worker) knows;
          added = record { pieces = []; behind = refl; all = tt; own = tt; rising = tt };
        };
        posted = sym r.posted;
        sound = (sound.0, sound.1 ∙ sym r.node);
        adopted = subst (λ (m : Option Standing). Adopts m s mark) (sym r.mark) adopted;
        met = subst (λ (m : Option Standing). HaveMet m (Some s)) (sym r.mark) met;
        got = got_none d.served;
        same = refl;
      } in
      let on = turned_led 1 false s v.worker.seat.lane [] [] d e led turns in
      record {
        then = e;
        led = on.0;
        goes = on.1;
        reflects = record {
          node = r.node;
          worker = r.worker;
          posted = r.posted;
          heard = refl;
          mark = refl;
          below = r.below;
          apart = r.apart;
          jobs = r.jobs;
          seats = r.seats;
          numbers = r.numbers;
          accounted = r.accounted;
        };
        served = refl;
      };
}

-- its node may have closed it again
pub unopened_by : (v u : WorkState) (desk : CombinerPast) (heard worker : NodeHandleState) (seats : OpenConnectionsState) (mark : Option Standing) (s : Standing) (jobs : List Job) (late : ℕ)
    → u ≡ v → heard ≡ told_of desk u.worker → workers.MayHaveClosed heard worker → seats ≡ u.seats → jobs ≡ u.jobs → late ≡ u.late
    → Knows u.worker.seat.worker desk s u.worker.seat.lane → IsSound s × (s.node ≡ u.worker.node) → Adopts u.mark s mark → HaveMet u.mark (Some s)
    → let w : WorkState = record u { worker = worker; seats = seats; mark = mark; jobs = jobs; late = late } in
    MayHaveClosed v w × Goes unchanged v w
unopened_by v u desk heard worker seats mark s jobs late same is closed still waits lates knows sound adopted met =
    let told : WorkState = record u { worker = told_of desk u.worker; mark = mark } in
    let w : WorkState = record u { worker = worker; mark = mark } in
    let now : WorkState = record u { worker = worker; seats = seats; mark = mark; jobs = jobs; late = late } in
    let now_is : now ≡ w = λ i. record u { worker = worker; seats = still i; mark = mark; jobs = waits i; late = lates i } in
    let may : workers.MayHaveClosed (told_of desk u.worker) worker = subst (λ (x : NodeHandleState). workers.MayHaveClosed x worker) is closed in
    let noted : desk ≡ worker.seat.noted = elim may [
      | inl more ↦ sym (ap (λ (x : NodeHandleState). x.seat.noted) more)
      | inr stays ↦ sym (ap (λ (x : NodeHandleState). x.seat.noted) stays)
    ] in
    subst (λ (x : WorkState). MayHaveClosed x now × Goes unchanged x now) same (subst (λ (x : WorkState). MayHaveClosed u x × Goes unchanged u x) (sym now_is) (
      record { worker = subst (λ (b : CombinerPast). workers.MayHaveClosed (told_of b u.worker) worker) noted may; changed = refl },
      closed_too unchanged u told worker may (heard_goes u desk mark s knows sound adopted met),
    ))
