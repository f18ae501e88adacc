-- The code's worker stands for a worker of the law once its node fell, as it comes back, and once the end of a connection of before was put.
use Rattle.std.proofs.Common.{◌≡◌, ℕ, ◌<◌, Bool, true, false, cond, List, [], ◌∷◌, ◌++◌, map, length, Contains, Option, Some, None, inl, refl, ap, sym, ◌∙◌, subst, append-nil, eq-eqb}
use Rattle.std.specs.Prelude.{◌≢◌, ◌==◌, not, is_some}
use Rattle.std.specs.List.{AllByRecursion}
use Rattle.std.proofs.lemmas.Bool.{eqb-true}
use Rattle.std.proofs.lemmas.List.Elements.{Contains-append_right}
use Rattle.nr_model.specs.Items.{Connection, Item, same_connection}
use Rattle.nr_model.specs.Entries.{Jobs}
use Rattle.nr_model.proofs.JobLists.{All-append, same_self}
use Rattle.nr_model.proofs.NodesExecutedLists.{in_middle}
use Rattle.nr_entry.specs.Jobs.{items_of}
use Rattle.nr_entry.specs.declared.batch.Batch.{Batch}
use Rattle.nr_entry.specs.declared.job.Job.{Job}
use Rattle.nr_log_end.specs.declared.standing.Standing.{Standing}
use Rattle.nr_job_numbers.specs.declared.account.Unended.{Unended}
use Rattle.nr_slots.specs.Seats.{NoteView}
use Rattle.nr_slots.specs.declared.view.CombinerPast.{CombinerPast}
use Rattle.nr_node.specs.Sound.{IsSound}
use Rattle.nr_combiner.specs.Behind.{EndsBehind}
use Rattle.nr_combiner.specs.Heard.{KnowsUnended}
use Rattle.nr_combiner.specs.Workers.{NodeHandleState, told_of}
use Rattle.nr_taps.specs.Marks.{Adopts}
use Rattle.nr_taps.specs.Taps.{HaveMet}
use Rattle.nr_taps.proofs.Marks.{adopts_has}
use Rattle.nr_worker.specs.Seated.{OpenConnectionState}
use Rattle.nr_worker.specs.Placed.{OpenConnectionsState, seat_at}
use Rattle.nr_worker.specs.Portions.{EachSeat, seat_of}
use Rattle.nr_worker.proofs.Putting.{named}
use Rattle.nr_worker.specs.Worker.{WorkerState, IsAskedBy, IsLed, Served, all_asked, asked_of}
use Rattle.nr_worker.specs.Moves.{Ends, ended_with}
use Rattle.nr_worker.specs.Working.{AreAccountedFor, AreApart, EndsNext, Goes, IsAccountedFor, IsBelow, IsKept, IsSeatOf, IsSeated, IsServed, IsToPost, LeadsTo, Reflects, WorkState, all_ended, back_work, end_of, ended_more, fallen_work, is_bare, unchanged}
use Rattle.nr_worker.proofs.Accounted.{accounted_more}
use Rattle.nr_worker.proofs.Admitted.{heard_goes, none_there}
use Rattle.nr_worker.proofs.Awaited.{none_left}
use Rattle.nr_worker.proofs.Batched.{aside_too, goes_nowhere, stays}
use Rattle.nr_worker.proofs.Workers.{ended_asked, ended_led}
use Rattle.nr_worker.proofs.Lists.{all_weaker, posted_at}
use Rattle.nr_worker.proofs.Nourished.{behind, both_hold, differ_false}
use Rattle.nr_worker.proofs.Portioned.{all_map, all_of, known_more, same_connections}

-- ---- the node falls
-- then each job that was asked for is accounted for
fallen : (v : WorkState) → Goes unchanged v (fallen_work v)
fallen v = record {
  leads = λ d led r. record {
    then = d;
    led = led;
    goes = goes_nowhere d;
    reflects = record {
      node = r.node;
      worker = r.worker;
      posted = r.posted;
      heard = r.heard;
      mark = r.mark;
      below = r.below;
      apart = r.apart;
      jobs = tt;
      seats = r.seats;
      numbers = λ c s at. record { posted = (r.numbers c s at).posted; waits = tt };
      accounted = λ c s at uncut number below. inl refl;
    };
    served = refl;
  };
}

pub fallen_by : (v u : WorkState) (back left : List Job) (late : ℕ) → u ≡ v → back ≡ [] → left ≡ [] → late ≡ 0
    → Goes unchanged v (record u { jobs = back ++ left; returned = length back; late = late; down = true })
fallen_by v u back left late same none gone still =
    let w : WorkState = record u { jobs = back ++ left; returned = length back; late = late; down = true } in
    let is : w ≡ fallen_work u = λ i. record u { jobs = none i ++ gone i; returned = length (none i); late = still i; down = true } in
    subst (λ (x : WorkState). Goes unchanged x w) same (subst (Goes unchanged u) (sym is) (fallen u))

-- ---- it comes back, where nothing is left of before
not_there : (b : Bool) (s : OpenConnectionState) → cond b None None ≡ Some s → ⊥
not_there true s is = cc is
not_there false s is = cc is

no_seats : (P : Connection → OpenConnectionState → Type 0) (node : ℕ) (seats : OpenConnectionsState) → seats ≡ [] → EachSeat P node seats
no_seats P node seats none = subst (EachSeat P node) (sym none) (λ c s at. absurd (not_there (c.node == node) s at))

bare_seats : (v : WorkState) → is_bare v ≡ true → v.seats ≡ []
bare_seats v bare = none_left v.seats (eqb-true (length v.seats) 0 (both_hold (not v.waiting) (length v.seats == 0) bare).1)

came_back : (v : WorkState) (since : ℕ) → is_bare v ≡ true → Goes unchanged v (back_work since v)
came_back v since bare = record {
  leads = λ d led r. record {
    then = d;
    led = led;
    goes = goes_nowhere d;
    reflects = record {
      node = r.node;
      worker = r.worker;
      posted = r.posted;
      heard = r.heard;
      mark = r.mark;
      below = r.below;
      apart = r.apart;
      jobs = tt;
      seats = r.seats;
      numbers = no_seats (λ c s. IsBelow v.worker.seat.lane.posted [] c s.session.next) v.worker.node v.seats (bare_seats v bare);
      accounted = no_seats (AreAccountedFor false [] v.worker.seat.lane) v.worker.node v.seats (bare_seats v bare);
    };
    served = refl;
  };
}

pub back_by : (v u : WorkState) (since : ℕ) (back left : List Job) (late : ℕ) → u ≡ v → is_bare v ≡ true → back ≡ [] → left ≡ [] → late ≡ 0
    → Goes unchanged v (record u { jobs = back ++ left; returned = length back; late = late; down = false; since = since; ending = true; ended = None })
back_by v u since back left late same bare none gone still =
    let w : WorkState = record u { jobs = back ++ left; returned = length back; late = late; down = false; since = since; ending = true; ended = None } in
    let is : w ≡ back_work since u =
    λ i. record u { jobs = none i ++ gone i; returned = length (none i); late = still i; down = false; since = since; ending = true; ended = None } in
    subst (λ (x : WorkState). Goes unchanged x w) same (subst (Goes unchanged u) (sym is) (came_back u since (ap is_bare same ∙ bare)))

-- ---- an end is put
module _ (v : WorkState) (desk : CombinerPast) (mark : Option Standing) (s : Standing) (jobs : List Job) (one : Unended)
    (put : items_of jobs ≡ items_of v.jobs ++ end_of v.worker.node one ∷ []) (absent : seat_at one.serial v.seats ≡ None)
    (sound : IsSound s × (s.node ≡ v.worker.node))
    (d : WorkerState) (led : IsLed d) (r : Reflects v d) (knows : KnowsUnended d.worker (named v.worker.node one.serial) desk s v.worker.seat.lane)
    (adopted : Adopts d.mark s mark) (met : HaveMet d.mark (Some s)) where
  abbrev c : Connection
  c = named v.worker.node one.serial

  abbrev job : Item
  job = end_of v.worker.node one

  abbrev change : Served → Served
  change = ended_with job

  abbrev now : WorkState
  now = record v { worker = told_of desk v.worker; mark = mark; jobs = jobs }

  abbrev after : WorkerState
  after = record d { heard = desk; mark = mark; served = map change d.served }

  ends : Ends job s v.worker.seat.lane d after
  ends = record {
    knows = knows;
    posted = sym r.posted;
    sound = (sound.0, sound.1 ∙ sym r.node);
    adopted = adopted;
    met = met;
    is_end = refl;
    ended = refl;
  }

  -- another connection stays as it is
  stay : (y : Served) → y.connection ≢ c → change y ≡ y
  stay y other = λ i. record y { ends = cond (differ_false c y.connection other i) (y.ends ++ job ∷ []) y.ends }

  old_to_post : (j : Item) → IsToPost d.served j → IsToPost (map change d.served) j
  old_to_post j t = record {
    known = known_more change (λ x. refl) d.served j.connection t.known;
    asked = all_map (λ (y : Served). j.connection ≡ y.connection → Contains (all_asked y) j) change d.served
        (all_weaker (λ (x : Served). j.connection ≡ x.connection → Contains (all_asked x) j)
        (λ (x : Served). j.connection ≡ x.connection → Contains (all_asked (change x)) j)
        (λ x has same. ended_asked (same_connection c x.connection) (asked_of x) x.ends job j (has same)) d.served t.asked);
  }

  -- the worker serves the connection, since it posted a job of it
  known : IsServed d.served c
  known =
      let p = knows.posted in
      let by = posted_at (IsAskedBy d.served) d.posted p.batch p.job led.known (subst (λ (bs : List Batch). Contains bs p.batch) (sym r.posted) p.there) p.has in
      record { one = by.one; there = by.there; connection = by.connection ∙ p.own }

  has_end : (x : Served) → c ≡ x.connection → Contains (all_asked (change x)) job
  has_end x same =
      let own : same_connection c x.connection ≡ true = ap (λ (e : Connection). same_connection e x.connection) same ∙ same_self x.connection in
      subst (λ (b : Bool). Contains (asked_of x ++ cond b (x.ends ++ job ∷ []) x.ends) job) (sym own)
      (Contains-append_right (asked_of x) (x.ends ++ job ∷ []) job (in_middle job x.ends []))

  end_to_post : IsToPost (map change d.served) job
  end_to_post = record {
    known = known_more change (λ x. refl) d.served c known;
    asked = all_map (λ (y : Served). c ≡ y.connection → Contains (all_asked y) job) change d.served
        (all_of (λ (x : Served). c ≡ x.connection → Contains (all_asked (change x)) job) d.served (λ x within. has_end x));
  }

  -- it isn't open here
  no_seat : (e : Connection) (t : OpenConnectionState) → seat_of v.worker.node v.seats e ≡ Some t → e ≢ c
  no_seat e t at same =
      let none : seat_of v.worker.node v.seats c ≡ None = ap (λ b. cond b (seat_at one.serial v.seats) None) (eq-eqb v.worker.node v.worker.node refl) ∙ absent in
      let both : None ≡ Some t = sym none ∙ ap (seat_of v.worker.node v.seats) (sym same) ∙ at in
      cc both

  seated_now : EachSeat (IsSeated (map change d.served)) v.worker.node v.seats
  seated_now = λ e t at.
      let old = r.seats e t at in record {
        known = known_more change (λ x. refl) d.served e old.known;
        seat = all_map (λ (y : Served). y.connection ≡ e → IsSeatOf t y) change d.served
            (all_weaker (λ (y : Served). y.connection ≡ e → IsSeatOf t y) (λ (y : Served). y.connection ≡ e → IsSeatOf t (change y))
            (λ y seat mine. subst (IsSeatOf t) (sym (stay y (λ same. no_seat e t at (sym mine ∙ same)))) (seat mine)) d.served old.seat);
      }

  numbers_now : EachSeat (λ e t. IsBelow v.worker.seat.lane.posted (items_of jobs) e t.session.next) v.worker.node v.seats
  numbers_now = λ e t at.
      let old = r.numbers e t at in
      let P : Item → Type 0 = λ j. j.connection ≡ e → j.number < t.session.next in record {
        posted = old.posted;
        waits = subst (AllByRecursion P) (sym put) (All-append P (items_of v.jobs) (job ∷ []) old.waits (λ mine. absurd (no_seat e t at (sym mine)), tt));
      }

  accounted_now : EachSeat (AreAccountedFor v.down (items_of jobs) v.worker.seat.lane) v.worker.node v.seats
  accounted_now = λ e t at uncut number below.
      subst (λ (js : Jobs). IsAccountedFor v.down js v.worker.seat.lane e number) (sym put)
      (accounted_more v.down (items_of v.jobs) (job ∷ []) v.worker.seat.lane e number (r.accounted e t at uncut number below))

  leads : LeadsTo (map change) now d
  leads =
      let on = ended_led job s v.worker.seat.lane d after led ends in
      record {
        then = after;
        led = on.0;
        goes = on.1;
        reflects = record {
          node = r.node;
          worker = r.worker;
          posted = r.posted;
          heard = refl;
          mark = refl;
          below = all_map (λ (x : Served). x.connection.serial < v.next) change d.served r.below;
          apart = subst AreApart (sym (same_connections change (λ x. refl) d.served)) r.apart;
          jobs = subst (AllByRecursion (IsToPost (map change d.served))) (sym put)
              (All-append (IsToPost (map change d.served)) (items_of v.jobs) (job ∷ [])
              (all_weaker (IsToPost d.served) (IsToPost (map change d.served)) old_to_post (items_of v.jobs) r.jobs) (end_to_post, tt));
          seats = seated_now;
          numbers = numbers_now;
          accounted = accounted_now;
        };
        served = refl;
      }

-- it is one end more for its connection, and none for the others
one_end : (b : Bool) (all : List Item) (last : Item) → cond b (all ++ last ∷ []) all ≡ all ++ cond b (last ∷ []) []
one_end true all last = refl
one_end false all last = sym (append-nil all)

ended_is : (last : Item) (x : Served) → ended_with last x ≡ ended_more (last ∷ []) x
ended_is last x = λ i. record x { ends = one_end (same_connection last.connection x.connection) x.ends last i }

all_are : (last : Item) (served : List Served) → map (ended_with last) served ≡ all_ended (last ∷ []) served
all_are last [] = refl
all_are last (x ∷ served) = λ i. ended_is last x i ∷ all_are last served i

none_are : (served : List Served) → served ≡ all_ended [] served
none_are [] = refl
none_are (x ∷ served) = λ i. record x { ends = sym (append-nil x.ends) i } ∷ none_are served i

-- ---- where no end is put
none_ended : (v w : WorkState) → Goes unchanged v w → Goes (all_ended []) v w
none_ended v w g = record {
  leads = λ d led r.
      let l = g.leads d led r in
      record { then = l.then; led = l.led; goes = l.goes; reflects = l.reflects; served = l.served ∙ none_are d.served };
}

-- none was told of
pub none_told : (v u : WorkState) (worker : NodeHandleState) → u ≡ v → worker ≡ u.worker → Goes (all_ended []) v (record u { worker = worker; ending = false })
none_told v u worker same still =
    let w : WorkState = record u { worker = worker; ending = false } in
    let is : w ≡ record u { ending = false } = λ i. record u { worker = still i; ending = false } in
    subst (λ (x : WorkState). Goes (all_ended []) x w) same
    (subst (Goes (all_ended []) u) (sym is) (aside_too (all_ended []) u u u.late u.worker.generation false u.ended (none_ended u u (stays u u refl))))

-- one was told of, and none put
pub none_put : (v u : WorkState) (desk : CombinerPast) (worker : NodeHandleState) (mark : Option Standing) (s : Standing) (one : Unended) (jobs : List Job)
    (late : ℕ) (ending : Bool) → u ≡ v → worker ≡ told_of desk u.worker → jobs ≡ u.jobs → KnowsUnended u.worker.seat.worker (named u.worker.node one.serial) desk s u.worker.seat.lane
    → IsSound s × (s.node ≡ u.worker.node) → Adopts u.mark s mark → HaveMet u.mark (Some s)
    → Goes (all_ended []) v (record u { worker = worker; mark = mark; jobs = jobs; late = late; ending = ending })
none_put v u desk worker mark s one jobs late ending same heard waits knows sound adopted met =
    let told : WorkState = record u { worker = told_of desk u.worker; mark = mark } in
    let w : WorkState = record u { worker = worker; mark = mark; jobs = jobs; late = late; ending = ending } in
    let is : w ≡ record told { late = late; ending = ending; ended = u.ended } =
    λ i. record u { worker = heard i; mark = mark; jobs = waits i; late = late; ending = ending } in
    subst (λ (x : WorkState). Goes (all_ended []) x w) same
    (subst (Goes (all_ended []) u) (sym is)
    (aside_too (all_ended []) u told late told.worker.generation ending u.ended (none_ended u told (heard_goes u desk mark s knows.knows sound adopted met))))

-- ---- as the code has it
put_goes : (v : WorkState) (desk : CombinerPast) (mark : Option Standing) (s : Standing) (jobs : List Job) (one : Unended)
    → items_of jobs ≡ items_of v.jobs ++ end_of v.worker.node one ∷ [] → seat_at one.serial v.seats ≡ None → IsSound s × (s.node ≡ v.worker.node)
    → KnowsUnended v.worker.seat.worker (named v.worker.node one.serial) desk s v.worker.seat.lane → Adopts v.mark s mark → HaveMet v.mark (Some s)
    → Goes (all_ended (end_of v.worker.node one ∷ [])) v (record v { worker = told_of desk v.worker; mark = mark; jobs = jobs })
put_goes v desk mark s jobs one put absent sound knows adopted met = record {
  leads = λ d led r.
      let c = named v.worker.node one.serial in
      let l = leads v desk mark s jobs one put absent sound d led r
      (subst (λ (n : ℕ). KnowsUnended n c desk s v.worker.seat.lane) (sym r.worker) knows)
      (subst (λ (m : Option Standing). Adopts m s mark) (sym r.mark) adopted) (subst (λ (m : Option Standing). HaveMet m (Some s)) (sym r.mark) met) in
      record { then = l.then; led = l.led; goes = l.goes; reflects = l.reflects; served = l.served ∙ all_are (end_of v.worker.node one) d.served };
}

pub put_by : (v u : WorkState) (desk : CombinerPast) (worker : NodeHandleState) (mark : Option Standing) (s : Standing) (note : NoteView) (one : Unended) (r a b : List Job)
    (late : ℕ) → u ≡ v → worker ≡ told_of desk u.worker → u.jobs ≡ r ++ a → items_of b ≡ items_of a ++ end_of u.worker.node one ∷ [] → late ≡ 0
    → is_some (seat_at one.serial u.seats) ≡ false → KnowsUnended u.worker.seat.worker (named u.worker.node one.serial) desk s u.worker.seat.lane
    → EndsBehind u.worker.node u.worker.seat.worker u.worker.generation u.ended one s note
    → IsSound s × (s.node ≡ u.worker.node) → Adopts u.mark s mark → HaveMet u.mark (Some s)
    → let w : WorkState = record u { worker = worker; mark = mark; jobs = r ++ b; late = late; ended = Some one.serial } in
    EndsNext v w × Goes (all_ended (end_of u.worker.node one ∷ [])) v w
put_by v u desk worker mark s note one r a b late same heard are added now_late absent knows told sound adopted met =
    let change : List Served → List Served = all_ended (end_of u.worker.node one ∷ []) in
    let put : WorkState = record u { worker = told_of desk u.worker; mark = mark; jobs = r ++ b } in
    let w : WorkState = record u { worker = worker; mark = mark; jobs = r ++ b; late = late; ended = Some one.serial } in
    let noted : desk ≡ worker.seat.noted = sym (ap (λ (x : NodeHandleState). x.seat.noted) heard) in
    let jobs : items_of (r ++ b) ≡ items_of u.jobs ++ end_of u.worker.node one ∷ [] =
    behind r a b (end_of u.worker.node one ∷ []) added ∙ ap (λ (js : List Job). items_of js ++ end_of u.worker.node one ∷ []) (sym are) in
    let is : w ≡ record put { late = late; ending = u.ending; ended = Some one.serial } =
    λ i. record u { worker = heard i; mark = mark; jobs = r ++ b; late = late; ended = Some one.serial } in
    subst (λ (x : WorkState). EndsNext x w × Goes change x w) same (
      record {
        one = one;
        standing = s;
        note = note;
        behind = told;
        adopted = adopted;
        jobs = jobs;
        changed = (λ i. record u { worker = heard i; mark = mark; jobs = r ++ b; late = now_late i; ended = Some one.serial })
            ∙ (λ i. record u { worker = told_of (noted i) u.worker; mark = mark; jobs = r ++ b; late = 0; ended = Some one.serial });
      },
      subst (Goes change u) (sym is)
          (aside_too change u put late put.worker.generation u.ending (Some one.serial)
          (put_goes u desk mark s (r ++ b) one jobs (none_there (seat_at one.serial u.seats) absent) sound knows adopted met)),
    )

-- what a worker counts is as before
pub heard_kept : (batches : ℕ) (v : WorkState) (worker : NodeHandleState) (mark : Option Standing) (s : Standing) (jobs : List Job) (late : ℕ)
    (ending : Bool) (ended : Option ℕ) → IsKept batches v → worker ≡ told_of worker.seat.noted v.worker → s.node ≡ v.worker.node → Adopts v.mark s mark
    → IsKept batches (record v { worker = worker; mark = mark; jobs = jobs; late = late; ending = ending; ended = ended })
heard_kept batches v worker mark s jobs late ending ended k is node adopted =
    subst (λ (w : NodeHandleState). IsKept batches (record v { worker = w; mark = mark; jobs = jobs; late = late; ending = ending; ended = ended })) (sym is) (record {
      counted = k.counted;
      each = k.each;
      waits = k.waits;
      mark = adopts_has (λ (x : Standing). x.node ≡ v.worker.node) (λ x n h. h) v.mark mark s k.mark node adopted;
      none = k.none;
      few = k.few;
    })
