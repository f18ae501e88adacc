-- What each call of a worker says in the words of what answers a service.
use Rattle.std.proofs.Common.{◌≡◌, ◌≤◌, ℕ, inl, inr, Bool, true, false, cond, [], ◌∷◌, drop, length, Option, Some, None, refl, ap, sym, ◌∙◌, subst, eq-eqb, true≢false}
use Rattle.std.specs.Prelude.{◌==◌, ◌&&◌, ◌≢◌, is_some, Result, Ok, Err, OnOk, OnErr}
use Rattle.std.specs.Option.{option_map}
use Rattle.std.proofs.lemmas.Bool.{eqb-true, ne_eqb}
use Rattle.nr_model.specs.Bytes.{Bytes}
use Rattle.nr_model.specs.Keyspace.{moment}
use Rattle.nr_model.specs.Items.{Connection, Item, same_connection}
use Rattle.nr_model.specs.Connections.{Feeding}
use Rattle.nr_model.proofs.JobLists.{same_is}
use Rattle.nr_service.specs.Stories.{Closing, Fed, HasWorked, IsClosed, IsFed, IsOpened, IsWritten, Keeps, KeepsOthers, Story, closed_at, fed_in, going_on, kept_bytes}
use Rattle.nr_service.specs.declared.backend.ConnectionState.TheVariants as standings
use Rattle.nr_service.proofs.Occurrences.{going_none}
use Rattle.nr_slots.specs.Names.{IsTold}
use Rattle.nr_slots.specs.Seats.{WorkerView}
use Rattle.nr_combiner.specs.Workers.{NodeHandleState}
use Rattle.nr_worker.specs.Seated.{OpenConnectionState, fresh_seat, last_job, with_written}
use Rattle.nr_worker.specs.Placed.{IsPut, OpenConnectionsState, pending_here, seat_at, takes_here}
use Rattle.nr_worker.specs.Portions.{seat_of, waiting_of}
use Rattle.nr_worker.proofs.Putting.{named, seat_here, seat_others}
use Rattle.nr_worker.specs.Worker.{WorkerState, Served}
use Rattle.nr_worker.specs.Resting.{AreAllExecuted}
use Rattle.nr_worker.specs.Working.{Closes, Feeds, Goes, IsSeatOf, MayHaveClosed, OpensNew, Reflects, Stops, WorkState, Writes, all_closed, all_fed, last_here, one_opened, takes_from, unchanged}
use Rattle.nr_worker.proofs.Rested.{rested}
use Rattle.nr_worker_service.specs.Serving.{WorkerBackendState, kept_at, standing_of}
use Rattle.nr_worker_service.specs.Led.{HasLedTo, IsAtRest}
use Rattle.nr_worker_service.specs.Works.{IsResting, Works}
use Rattle.nr_worker_service.specs.Told.{close_by}
use Rattle.nr_worker_service.proofs.Lists.{at_one}
use Rattle.nr_worker_service.proofs.Telling.{nothing_fed}
use Rattle.nr_worker_service.proofs.Working.{all_answered, looked_still}
use Rattle.nr_worker_service.proofs.Leading.{IsPutBy, absent_new, led_closed, led_fed, led_worked, led_opened, led_still}

-- ---- seats of a node
pub own_seat : (node : ℕ) (seats : OpenConnectionsState) (c : Connection) → c.node ≡ node → seat_of node seats c ≡ seat_at c.serial seats
own_seat node seats c here = ap (λ b. cond b (seat_at c.serial seats) None) (eq-eqb c.node node here)

own_name : (node : ℕ) (c : Connection) → c.node ≡ node → named node c.serial ≡ c
own_name node c here = λ i. record { node = sym here i; serial = c.serial }

none_waits : (b : Bool) (o : Option OpenConnectionState) → o ≡ None → option_map (λ (s : OpenConnectionState). s.pending) (cond b o None) ≡ None
none_waits true o none = ap (option_map (λ (s : OpenConnectionState). s.pending)) none
none_waits false o none = refl

-- one seat was put
module _ (v w : WorkState) (c : Connection) (seat : Option OpenConnectionState) (here : c.node ≡ v.worker.node) (node : w.worker.node ≡ v.worker.node)
    (put : IsPut c.serial seat v.seats w.seats) where
  put_here : waiting_of w.worker.node w.seats c ≡ option_map (λ (s : OpenConnectionState). s.pending) seat
  put_here =
      ap (λ n. waiting_of n w.seats c) node
      ∙ ap (λ (d : Connection). waiting_of v.worker.node w.seats d) (sym (own_name v.worker.node c here))
      ∙ ap (option_map (λ (s : OpenConnectionState). s.pending)) (seat_here v.worker.node c.serial seat v.seats w.seats put)

  put_others : KeepsOthers c (waiting_of v.worker.node v.seats) (waiting_of w.worker.node w.seats)
  put_others = λ other apart.
      ap (λ n. waiting_of n w.seats other) node
      ∙ ap (option_map (λ (s : OpenConnectionState). s.pending))
      (seat_others v.worker.node c.serial seat v.seats w.seats put other
      (subst (λ (d : Connection). same_connection other d ≡ false) (sym (own_name v.worker.node c here)) apart))

-- the same waits for each
module _ (v w : WorkState) (c : Connection) (s t : OpenConnectionState) (here : c.node ≡ v.worker.node) (node : w.worker.node ≡ v.worker.node)
    (at : seat_at c.serial v.seats ≡ Some s) (pending : t.pending ≡ s.pending) (put : IsPut c.serial (Some t) v.seats w.seats) where
  same_kept : (other : Connection) → waiting_of w.worker.node w.seats other ≡ waiting_of v.worker.node v.seats other
  same_kept = λ other. elim (same_connection other c) as (λ b. same_connection other c ≡ b → waiting_of w.worker.node w.seats other ≡ waiting_of v.worker.node v.seats other) [
    | true ↦ λ same.
        let is = same_is other c same in
        ap (waiting_of w.worker.node w.seats) is ∙ put_here v w c (Some t) here node put ∙ ap (λ (b : Bytes). Some b) pending
        ∙ sym (ap (option_map (λ (u : OpenConnectionState). u.pending)) (own_seat v.worker.node v.seats c here ∙ at)) ∙ ap (waiting_of v.worker.node v.seats) (sym is)
    | false ↦ λ apart. put_others v w c (Some t) here node put other apart
  ] refl

-- ---- a connection is opened
pub is_opened : (v w : WorkerBackendState) (c : Connection) → OpensNew c v.desk w.desk → Goes (one_opened c) v.desk w.desk
    → IsOpened c (HasLedTo v) (HasLedTo w) (kept_at v) (kept_at w)
is_opened v w c o g =
    let node : w.desk.worker.node ≡ v.desk.worker.node = ap (λ (x : WorkState). x.worker.node) o.changed in
    record {
      past = λ story h. led_opened v w c story g o.later h;
      first = λ story h. absent_new v.desk h.worker story.occurrences c h.reflects h.tells o.later;
      fed = λ story h.
          nothing_fed c (fed_in story.occurrences) (h.tells.others c (absent_new v.desk h.worker story.occurrences c h.reflects h.tells o.later)).fed;
      handed = λ story h. (h.tells.others c (absent_new v.desk h.worker story.occurrences c h.reflects h.tells o.later)).handed;
      closed = none_waits (c.node == v.desk.worker.node) (seat_at c.serial v.desk.seats) o.absent;
      kept = put_here v.desk w.desk c (Some (fresh_seat c)) o.node node o.put;
      others = put_others v.desk w.desk c (Some (fresh_seat c)) o.node node o.put;
    }

-- none was: its node may have closed it again
unopened_node : (v w : WorkState) → MayHaveClosed v w → w.worker.node ≡ v.worker.node
unopened_node v w m = elim m.worker [ inl more ↦ ap (λ (x : NodeHandleState). x.node) more | inr same ↦ ap (λ (x : NodeHandleState). x.node) same ]

pub keeps_unopened : (v w : WorkerBackendState) → MayHaveClosed v.desk w.desk → Goes unchanged v.desk w.desk → Keeps (HasLedTo v) (HasLedTo w) (kept_at v) (kept_at w)
keeps_unopened v w m g = record {
  past = λ story h. led_still v w story g h;
  kept = λ c.
      ap (λ n. waiting_of n w.desk.seats c) (unopened_node v.desk w.desk m)
      ∙ ap (λ (x : WorkState). waiting_of v.desk.worker.node x.seats c) m.changed;
}

-- ---- bytes are fed
takes_there : (o : Option OpenConnectionState) → takes_here o ≡ true → (s : OpenConnectionState) × (o ≡ Some s)
takes_there None is = absurd (true≢false (sym is))
takes_there (Some s) is = (s, refl)

both_true : (a b : Bool) → (a && b) ≡ true → (a ≡ true) × (b ≡ true)
both_true true b is = (refl, is)
both_true false b is = absurd (true≢false (sym is))

pub open_takes : (v : WorkerBackendState) (c : Connection) → standings.Open ≡ standing_of v c → takes_from c v.desk ≡ true
open_takes v c is = elim v.desk.down as (λ b. standings.Open ≡ cond b standings.Down (cond (takes_from c v.desk) standings.Open standings.Over) → takes_from c v.desk ≡ true) [
  | true ↦ λ e. absurd (cc e)
  | false ↦ λ e. elim (takes_from c v.desk) as (λ t. standings.Open ≡ cond t standings.Open standings.Over → t ≡ true) [
    | true ↦ λ f. refl
    | false ↦ λ f. absurd (cc f)
  ] e
] is

pub is_fed : {E : Type 0} (is_whole : Result (Unit {0}) E) (v w : WorkerBackendState) (c : Connection) (time capped : ℕ) (bytes : Bytes) → standings.Open ≡ standing_of v c → capped ≡ moment time
    → OnOk is_whole (Feeds c.serial capped bytes v.desk w.desk) → OnErr is_whole (Stops c.serial capped bytes v.desk w.desk)
    → Goes (all_fed (record { connection = c; moment = capped; bytes = bytes })) v.desk w.desk
    → IsFed c time bytes (HasLedTo v) (HasLedTo w) (kept_at v) (kept_at w)
is_fed is_whole v w c time capped bytes takes_it is feeds stops g =
    let takes = both_true (c.node == v.desk.worker.node) (takes_here (seat_at c.serial v.desk.seats)) (open_takes v c takes_it) in
    let here : c.node ≡ v.desk.worker.node = eqb-true c.node v.desk.worker.node takes.0 in
    let there = takes_there (seat_at c.serial v.desk.seats) takes.1 in
    let feeding : Feeding = record { connection = c; moment = capped; bytes = bytes } in
    record {
      past = λ story h.
          subst (λ (m : ℕ). HasLedTo w (going_on story (Fed (record { connection = c; moment = m; bytes = bytes }) ∷ []))) is
          (led_fed v w feeding there.0 story g (own_seat v.desk.worker.node v.desk.seats c here ∙ there.1) h);
      kept = elim is_whole as
          (λ r. OnOk r (Feeds c.serial capped bytes v.desk w.desk) → OnErr r (Stops c.serial capped bytes v.desk w.desk)
          → (other : Connection) → kept_at w other ≡ kept_at v other) [
            | Ok done ↦ λ f s.
                same_kept v.desk w.desk c f.fed.was f.fed.is here (ap (λ (x : WorkState). x.worker.node) f.changed) f.fed.there f.fed.fed.pending f.fed.put
            | Err error ↦ λ f s.
                same_kept v.desk w.desk c s.stopped.was s.stopped.is here (ap (λ (x : WorkState). x.worker.node) s.changed) s.stopped.there
                s.stopped.stopped.pending s.stopped.put
          ] feeds stops;
    }

-- ---- work
-- where nothing is left all that was asked for was executed
at_rest : (places : ℕ) (v : WorkerBackendState) (story : Story) (h : HasLedTo v story) → IsResting places v.desk → v.desk.down ≡ false
    → AreAllExecuted v.desk h.worker.served
at_rest places v story h i up = rested v.desk h.worker h.led h.reflects i.idle.none i.idle.each i.idle.told i.idle.lifted (all_answered places v.desk i.looked) up

pub has_worked : (places : ℕ) (v w : WorkerBackendState) → Works v.desk w.desk → (w.busy ≡ false → IsResting places w.desk)
    → HasWorked (HasLedTo v) (HasLedTo w) (IsAtRest places w) (kept_at v) (kept_at w)
has_worked places v w k rest = record {
  handed = k.handed;
  past = λ story h. led_worked v w k.handed k.ends story k.goes k.waiting h;
  rest = λ story h.
      let led = led_worked v w k.handed k.ends story k.goes k.waiting h in
      record { led = led; rest = rest; executed = λ calm up. at_rest places w _ led (rest calm) up };
  kept = λ c. ap (λ n. waiting_of n w.desk.seats c) k.node ∙ k.waiting.waiting c;
}

-- ---- what waits
pub kept_here : (v : WorkerBackendState) (c : Connection) → c.node ≡ v.desk.worker.node
    → kept_bytes (kept_at v c) ≡ pending_here (seat_at c.serial v.desk.seats)
kept_here v c here =
    ap (λ (o : Option OpenConnectionState). kept_bytes (option_map (λ (s : OpenConnectionState). s.pending) o)) (own_seat v.desk.worker.node v.desk.seats c here)
    ∙ (elim (seat_at c.serial v.desk.seats) as (λ o. kept_bytes (option_map (λ (s : OpenConnectionState). s.pending) o) ≡ pending_here o) [ None ↦ refl | Some s ↦ refl ])

pub kept_elsewhere : (v : WorkerBackendState) (c : Connection) → (c.node == v.desk.worker.node) ≡ false → kept_at v c ≡ None
kept_elsewhere v c other = ap (λ b. option_map (λ (s : OpenConnectionState). s.pending) (cond b (seat_at c.serial v.desk.seats) None)) other

written_waits : (count : ℕ) (o : Option OpenConnectionState) → option_map (λ (s : OpenConnectionState). s.pending) (option_map (with_written count) o)
    ≡ option_map (λ (bytes : Bytes). drop count bytes) (option_map (λ (s : OpenConnectionState). s.pending) o)
written_waits count None = refl
written_waits count (Some s) = refl

rest_still : (places : ℕ) (v w : WorkerBackendState) → Goes unchanged v.desk w.desk → w.busy ≡ v.busy → w.desk.jobs ≡ v.desk.jobs → w.desk.waiting ≡ v.desk.waiting
    → w.desk.worker.node ≡ v.desk.worker.node → w.desk.mark ≡ v.desk.mark → w.desk.worker.seat ≡ v.desk.worker.seat
    → (story : Story) → IsAtRest places v story → IsAtRest places w story
rest_still places v w g busy jobs waiting node mark seat story r =
    let led = led_still v w story g r.led in
    let rest : w.busy ≡ false → IsResting places w.desk = λ calm.
    let i = r.rest (sym busy ∙ calm) in
    record {
      idle = record {
        none = jobs ∙ i.idle.none;
        answered = waiting ∙ i.idle.answered;
        each = subst (λ (s : WorkerView). length s.lane.posted ≡ length s.lane.collected) (sym seat) i.idle.each;
        told = subst (λ (s : WorkerView). IsTold s.noted s.lane) (sym seat) i.idle.told;
        lifted = subst (λ (s : WorkerView). length s.noted.answered ≤ length s.noted.lifted) (sym seat) i.idle.lifted;
      };
      looked = looked_still places v.desk w.desk node mark seat i.looked;
    } in
    record { led = led; rest = rest; executed = λ calm up. at_rest places w story led (rest calm) up }

pub is_written : (places : ℕ) (v w : WorkerBackendState) (c : Connection) (count : ℕ) → c.node ≡ v.desk.worker.node → Writes c.serial count v.desk w.desk
    → Goes unchanged v.desk w.desk → w.busy ≡ v.busy
    → IsWritten c count (HasLedTo v) (HasLedTo w) (IsAtRest places v) (IsAtRest places w) (kept_at v) (kept_at w)
is_written places v w c count here k g busy =
    let node : w.desk.worker.node ≡ v.desk.worker.node = ap (λ (x : WorkState). x.worker.node) k.changed in
    let seat = option_map (with_written count) (seat_at c.serial v.desk.seats) in
    record {
      past = λ story h. led_still v w story g h;
      rest = rest_still places v w g busy (ap (λ (x : WorkState). x.jobs) k.changed) (ap (λ (x : WorkState). x.waiting) k.changed) node (ap (λ (x : WorkState). x.mark) k.changed)
          (ap (λ (x : WorkState). x.worker.seat) k.changed);
      kept = put_here v.desk w.desk c seat here node k.put ∙ written_waits count (seat_at c.serial v.desk.seats)
          ∙ sym (ap (λ (o : Option OpenConnectionState). option_map (λ (bytes : Bytes). drop count bytes) (option_map (λ (s : OpenConnectionState). s.pending) o))
          (own_seat v.desk.worker.node v.desk.seats c here));
      others = put_others v.desk w.desk c seat here node k.put;
    }

pub is_written_none : (places : ℕ) (v w : WorkerBackendState) (c : Connection) (count : ℕ) → (c.node == v.desk.worker.node) ≡ false → w ≡ v
    → IsWritten c count (HasLedTo v) (HasLedTo w) (IsAtRest places v) (IsAtRest places w) (kept_at v) (kept_at w)
is_written_none places v w c count other same =
    subst (λ (x : WorkerBackendState). IsWritten c count (HasLedTo v) (HasLedTo x) (IsAtRest places v) (IsAtRest places x) (kept_at v) (kept_at x)) (sym same) (record {
      past = λ story h. h;
      rest = λ story r. r;
      kept = kept_elsewhere v c other ∙ sym (ap (option_map (λ (bytes : Bytes). drop count bytes)) (kept_elsewhere v c other));
      others = λ e apart. refl;
    })

-- ---- a connection is closed
abbrev pub IsGoneFrom : WorkerBackendState → Connection → Type 0
IsGoneFrom v c = seat_of v.desk.worker.node v.desk.seats c ≡ None

there_not_gone : (o : Option OpenConnectionState) → is_some o ≡ true → o ≡ None → ⊥
there_not_gone o there gone = true≢false (sym there ∙ ap is_some gone)

there_is : (o : Option OpenConnectionState) → is_some o ≡ true → (s : OpenConnectionState) × (o ≡ Some s)
there_is None there = absurd (true≢false (sym there))
there_is (Some s) there = (s, refl)

-- a seat is of its connection
own_connection : (v : WorkState) (d : WorkerState) (c : Connection) (s : OpenConnectionState) → Reflects v d → seat_of v.worker.node v.seats c ≡ Some s
    → s.session.connection ≡ c
own_connection v d c s r at =
    let seated = r.seats c s at in
    let known = seated.known in
    (at_one (λ (x : Served). x.connection ≡ c → IsSeatOf s x) d.served known.one seated.seat known.there known.connection).own ∙ known.connection

-- its last job is its own, at the moment of its close
own_job : (gave_end : Bool) (item job : Item) → cond gave_end None (Some item) ≡ Some job → close_by job.connection job ≡ close_by item.connection item
own_job true item job is = absurd (cc is)
own_job false item job is =
    ap (λ (o : Option Item). elim o [ None ↦ close_by item.connection item | Some one ↦ close_by one.connection one ]) (sym is)

last_is_put : (v : WorkState) (d : WorkerState) (c : Connection) (time : ℕ) (s : OpenConnectionState) → Reflects v d → seat_of v.worker.node v.seats c ≡ Some s
    → IsPutBy (record { connection = c; moment = time }) (last_job time s)
last_is_put v d c time s r at put is =
    own_job s.session.gave_end _ put is
    ∙ ap (λ (e : Connection). let closing : Closing = record { connection = e; moment = time } in closing) (own_connection v d c s r at)

-- it is of the same node
closed_node : (serial time : ℕ) (v w : WorkState) → Closes serial time v w → w.worker.node ≡ v.worker.node
closed_node serial time v w k = elim k.worker [ inl more ↦ ap (λ (x : NodeHandleState). x.node) more | inr same ↦ ap (λ (x : NodeHandleState). x.node) same ]

pub is_closed : (v w : WorkerBackendState) (c : Connection) (time capped : ℕ) → c.node ≡ v.desk.worker.node → is_some (seat_at c.serial v.desk.seats) ≡ true
    → capped ≡ moment time → Closes c.serial capped v.desk w.desk
    → Goes (all_closed (last_here capped (seat_at c.serial v.desk.seats))) v.desk w.desk
    → IsClosed c time (IsGoneFrom v c) (HasLedTo v) (HasLedTo w) (kept_at v) (kept_at w)
is_closed v w c time capped here there is k g =
    let node : w.desk.worker.node ≡ v.desk.worker.node = closed_node c.serial capped v.desk w.desk k in
    let seat = there_is (seat_at c.serial v.desk.seats) there in
    let at : seat_of v.desk.worker.node v.desk.seats c ≡ Some seat.0 = own_seat v.desk.worker.node v.desk.seats c here ∙ seat.1 in
    let closes : Goes (all_closed (last_job capped seat.0)) v.desk w.desk =
    subst (λ (o : Option OpenConnectionState). Goes (all_closed (last_here capped o)) v.desk w.desk) seat.1 g in
    let put : (d : WorkerState) → Reflects v.desk d → IsPutBy (record { connection = c; moment = moment time }) (last_job capped seat.0) =
    λ d r.
    subst (λ (m : ℕ). IsPutBy (record { connection = c; moment = m }) (last_job capped seat.0)) is (last_is_put v.desk d c capped seat.0 r at) in
    record {
      shut = closed_at c time ∷ [];
      is = inl (refl, λ gone. there_not_gone (seat_at c.serial v.desk.seats) there (sym (own_seat v.desk.worker.node v.desk.seats c here) ∙ gone));
      past = λ story h.
          led_closed v w (record { connection = c; moment = moment time }) seat.0 (last_job capped seat.0) story closes at put h;
      kept = put_here v.desk w.desk c None here node k.gone;
      others = put_others v.desk w.desk c None here node k.gone;
    }

pub is_gone_now : (v w : WorkerBackendState) (c : Connection) (time : ℕ) → c.node ≡ v.desk.worker.node → Closes c.serial time v.desk w.desk → IsGoneFrom w c
is_gone_now v w c time here k =
    let node : w.desk.worker.node ≡ v.desk.worker.node = closed_node c.serial time v.desk w.desk k in
    ap (λ n. seat_of n w.desk.seats c) node
    ∙ ap (seat_of v.desk.worker.node w.desk.seats) (sym (own_name v.desk.worker.node c here))
    ∙ seat_here v.desk.worker.node c.serial None v.desk.seats w.desk.seats k.gone

pub is_closed_none : (v w : WorkerBackendState) (c : Connection) (time : ℕ) → IsGoneFrom v c → w ≡ v
    → IsClosed c time (IsGoneFrom v c) (HasLedTo v) (HasLedTo w) (kept_at v) (kept_at w)
is_closed_none v w c time gone same =
    subst (λ (x : WorkerBackendState). IsClosed c time (IsGoneFrom v c) (HasLedTo v) (HasLedTo x) (kept_at v) (kept_at x)) (sym same) (record {
      shut = [];
      is = inr (refl, gone);
      past = λ story h. subst (HasLedTo v) (sym (going_none story)) h;
      kept = ap (option_map (λ (s : OpenConnectionState). s.pending)) gone;
      others = λ other apart. refl;
    })

pub gone_elsewhere : (v : WorkerBackendState) (c : Connection) → (c.node == v.desk.worker.node) ≡ false → IsGoneFrom v c
gone_elsewhere v c other = ap (λ b. cond b (seat_at c.serial v.desk.seats) None) other

none_of : (b : Bool) (o : Option OpenConnectionState) → is_some o ≡ false → cond b o None ≡ None
none_of true None absent = refl
none_of true (Some s) absent = absurd (true≢false absent)
none_of false o absent = refl

pub gone_absent : (v : WorkerBackendState) (c : Connection) → is_some (seat_at c.serial v.desk.seats) ≡ false → IsGoneFrom v c
gone_absent v c absent = none_of (c.node == v.desk.worker.node) (seat_at c.serial v.desk.seats) absent

pub gone_other : (v : WorkerBackendState) (c : Connection) (node : ℕ) → node ≡ v.desk.worker.node → c.node ≢ node → IsGoneFrom v c
gone_other v c node is other =
    gone_elsewhere v c (ne_eqb c.node v.desk.worker.node (subst (λ (n : ℕ). c.node ≢ n) is other))
