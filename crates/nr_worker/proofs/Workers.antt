-- What holds of a worker goes on to hold, whatever step it takes.
use Rattle.std.proofs.Common.{◌≡◌, ℕ, Bool, true, false, cond, ◌<◌, inl, inr, List, [], ◌∷◌, ◌++◌, map, length, drop, get_or, Contains, Option, Some, None, refl, ap, sym, ◌∙◌, subst, arith, append_assoc}
use Rattle.std.specs.Prelude.{◌≢◌, IfSome}
use Rattle.std.specs.List.{AllByRecursion}
use Rattle.std.proofs.lemmas.List.{append-nil, get_or_append_left, length-append}
use Rattle.std.proofs.lemmas.List.Elements.{Contains-append_cases, Contains-append_left, Contains-append_right}
use Rattle.nr_model.specs.Bytes.{Bytes, IsBeginningOf}
use Rattle.nr_model.specs.Items.{Connection, Item, Sequence, same_connection}
use Rattle.nr_model.specs.Connections.{Feeding}
use Rattle.nr_model.specs.Entries.{Jobs}
use Rattle.nr_model.specs.Sequential.{emitted_for}
use Rattle.nr_model.proofs.JobLists.{All-append}
use Rattle.nr_model.proofs.NodesExecutedGrows.{begins_flat_map}
use Rattle.nr_model.proofs.NodesExecutedLists.{first_in, in_cases, in_middle, later_in, some_in}
use Rattle.nr_model.proofs.NodesPartsEmitted.{begins_on, none_begins}
use Rattle.nr_entry.specs.Jobs.{connection_of, items_of}
use Rattle.nr_entry.specs.declared.batch.Answer.{Answer}
use Rattle.nr_entry.specs.declared.batch.Batch.{Batch}
use Rattle.nr_log_end.specs.declared.standing.Standing.{Standing}
use Rattle.nr_log_end.specs.declared.standing.LogEvent.{LogEvent}
use Rattle.nr_log_end.specs.Standings.{items_of_turn, opened_of, record_of}
use Rattle.nr_slots.specs.declared.view.CombinerPast.{CombinerPast}
use Rattle.nr_slots.specs.declared.view.WorkerPast.{WorkerPast}
use Rattle.nr_node.specs.Sound.{IsSound, ServesOpened}
use Rattle.nr_node.specs.declared.collecting.LastPiece.{LastPiece}
use Rattle.nr_node.proofs.Owed.{all_back, all_front}
use Rattle.nr_node.proofs.Lists.{opened-append}
use Rattle.nr_combiner.specs.Heard.{Knows}
use Rattle.nr_combiner.specs.Pieces.{HasExecuted, IsHandedIn, IsHandedOf}
use Rattle.nr_combiner.specs.Served.{AreExecuted, IsAmong}
use Rattle.nr_taps.specs.Marks.{Adopts}
use Rattle.nr_taps.specs.Taps.{HaveMet}
use Rattle.nr_taps.proofs.Explains.{begins_emitted}
use Rattle.nr_taps.proofs.Marks.{adopts_begins, adopts_has, history_in, still_sound}
use Rattle.nr_worker.specs.Worker.{AllPosted, all_asked, ArePosted, asked_of, WorkerState, HasItsOwn, IsAskedBy, IsHandedOut, IsLed, IsOpenedFor, IsPosted, IsServedAt, Served, history_of}
use Rattle.nr_worker.specs.Law.{GoesTo}
use Rattle.nr_worker.specs.Moves.{Asks, Ends, HasGot, HaveGot, Opens, Posts, HearsTurn, ended_with, fresh_desk}
use Rattle.nr_worker.proofs.Lists.{no_front, all_at, all_both, all_weaker, piece_on, posted_both, posted_weaker}

pub fresh_led : (node worker : ℕ) → IsLed (fresh_desk node worker)
fresh_led node worker = record { sound = tt; own = tt; executed = tt; known = tt; each = tt }

begins_itself : {A : Type 0} (xs : List A) → IsBeginningOf xs xs
begins_itself xs = ([], append-nil xs)

-- nothing but what was posted, or asked for, changed
unmarked : (d e : WorkerState) → e.node ≡ d.node → e.worker ≡ d.worker → e.mark ≡ d.mark → GoesTo d e
unmarked d e node worker mark =
    record { node = node; worker = worker; mark = subst (λ (m : Option Standing). IsBeginningOf (history_of d.mark) (history_of m)) (sym mark) (begins_itself (history_of d.mark)) }

-- what holds of a connection, of the new mark
marked_on : (mark now : Option Standing) (posted : List Batch) (c : Connection) (handed : Bytes) → IsBeginningOf (history_of mark) (history_of now)
    → IsHandedOut mark posted c handed → IsHandedOut now posted c handed
marked_on mark now posted c handed begins h =
    record { history = h.history; kept = begins_on h.history (history_of mark) (history_of now) h.kept begins; begins = h.begins; jobs = h.jobs }

handed_in : (posted lifted : List Batch) (answered : _) (c : Connection) (done : Sequence) → lifted ≡ posted
    → AllByRecursion (λ (job : Item). job.connection ≡ c → IsHandedIn lifted answered job) done → ArePosted posted c done
handed_in posted lifted answered c done is all =
    all_weaker (λ (job : Item). job.connection ≡ c → IsHandedIn lifted answered job) (λ (job : Item). job.connection ≡ c → IsPosted posted job)
    (λ job from own.
    let h = from own in
    record { batch = h.batch; there = subst (λ (bs : List Batch). Contains bs h.batch) (sym h.posted_is ∙ is) (in_middle h.batch h.before h.after); has = h.has })
    done all

history_is : (mark : Option Standing) → history_in mark ≡ history_of mark
history_is None = refl
history_is (Some s) = refl

pub begins_record : (x y : List LogEvent) → IsBeginningOf x y → IsBeginningOf (record_of x) (record_of y)
begins_record x y b = begins_flat_map items_of_turn x y b

-- ---- what a mark knows once it adopted a token
-- what stands in a record stands in a longer one
among_on : (done more : Sequence) → IsBeginningOf done more → (job : Item) → IsAmong job done → IsAmong job more
among_on done more begins job a = record {
  item = a.item;
  there = subst (λ (jobs : Sequence). Contains jobs a.item) begins.1 (Contains-append_left done begins.0 a.item a.there);
  connection = a.connection;
  number = a.number;
  deed = a.deed;
}

executed_on : (done more : Sequence) → IsBeginningOf done more → (batches : List Batch) (answers : List Answer) → AreExecuted done batches answers
    → AreExecuted more batches answers
executed_on done more begins [] answers all = tt
executed_on done more begins (batch ∷ batches) [] all = tt
executed_on done more begins (batch ∷ batches) (answer ∷ answers) all = (
  λ says. all_weaker (λ (job : Item). IsAmong job done) (λ (job : Item). IsAmong job more) (among_on done more begins) (items_of batch.jobs.items) (all.0 says),
  executed_on done more begins batches answers all.1,
)

-- a connection that was opened for a worker goes on to be
pub opened_front : (xs ys : List ℕ) (i : ℕ) → IsBeginningOf xs ys → i < length xs → (i < length ys) × (get_or ys i 0 ≡ get_or xs i 0)
opened_front xs ys i b near =
    let long = ap length b.1 in
    let parts = length-append xs b.0 in
    (omega (arith, near, long, parts), ap (λ (ws : List ℕ). get_or ws i 0) (sym b.1) ∙ get_or_append_left xs b.0 0 i near)

pub opened_begins : (x y : List LogEvent) → IsBeginningOf x y → IsBeginningOf (opened_of x) (opened_of y)
opened_begins x y b = (opened_of b.0, sym (opened-append x b.0) ∙ ap opened_of b.1)

serves_on : (s t : Standing) (worker : ℕ) (c : Connection) → t.node ≡ s.node → IsBeginningOf s.history t.history → ServesOpened s worker c → ServesOpened t worker c
serves_on s t worker c node begins serves =
    let on = opened_front (opened_of s.history) (opened_of t.history) c.serial (opened_begins s.history t.history begins) serves.opened in
    record { node = serves.node ∙ sym node; opened = on.0; worker_is = on.1 ∙ serves.worker_is }

opened_for : (mark : Option Standing) (node worker : ℕ) (c : Connection) (s : Standing) → IfSome mark (λ (x : Standing). IsSound x × (x.node ≡ node)) → s.node ≡ node
    → IsBeginningOf s.history (history_of mark) → ServesOpened s worker c → IsOpenedFor worker c mark
opened_for None node worker c s sound at begins serves =
    let none : s.history ≡ [] = no_front s.history begins.0 begins.1 in
    absurd (let near = subst (λ (h : List LogEvent). c.serial < length (opened_of h)) none serves.opened in omega (arith, near))
opened_for (Some m) node worker c s sound at begins serves = serves_on s m worker c (sound.1 ∙ sym at) begins serves

opened_on : (old mark : Option Standing) (node worker : ℕ) (c : Connection) → IfSome old (λ (x : Standing). IsSound x × (x.node ≡ node))
    → IfSome mark (λ (x : Standing). IsSound x × (x.node ≡ node)) → IsBeginningOf (history_of old) (history_of mark) → IsOpenedFor worker c old → IsOpenedFor worker c mark
opened_on None mark node worker c was sound begins never = absurd never
opened_on (Some s) mark node worker c was sound begins serves = opened_for mark node worker c s sound was.1 begins serves

-- what it knew, and what the token keeps, are first in what it knows
module _ (d : WorkerState) (s : Standing) (now : Option Standing) (led : IsLed d) (at : IsSound s × (s.node ≡ d.node)) (met : HaveMet d.mark (Some s)) (adopted : Adopts d.mark s now) where
  pub marks_begin : IsBeginningOf (history_of d.mark) (history_of now) × IsBeginningOf s.history (history_of now)
  marks_begin =
      let same_node : IfSome d.mark (λ (x : Standing). x.node ≡ s.node) = on d.mark led.sound in
      let b = adopts_begins d.mark now s same_node met adopted in (
        subst (λ (h : List LogEvent). IsBeginningOf h (history_of now)) (history_is d.mark) (subst (IsBeginningOf (history_in d.mark)) (history_is now) b.0),
        subst (IsBeginningOf s.history) (history_is now) b.1,
      )
    where
      on : (mark : Option Standing) → IfSome mark (λ (x : Standing). IsSound x × (x.node ≡ d.node)) → IfSome mark (λ (x : Standing). x.node ≡ s.node)
      on None h = tt
      on (Some x) h = h.1 ∙ sym at.1

  pub sound_now : IfSome now (λ (x : Standing). IsSound x × (x.node ≡ d.node))
  sound_now = adopts_has (λ (x : Standing). IsSound x × (x.node ≡ d.node)) (λ x n h. (still_sound x n h.0, h.1)) d.mark now s led.sound at adopted

  -- the worker's jobs in its record are those that it posted
  pub own_now : (desk : CombinerPast) (lane : WorkerPast) → Knows d.worker desk s lane → lane.posted ≡ d.posted → IfSome now (HasItsOwn d)
  own_now desk lane knows posted =
      adopts_has (HasItsOwn d) (λ x n h. λ c serves. h c (record { node = serves.node; opened = serves.opened; worker_is = serves.worker_is })) d.mark now s led.own
      (λ c serves. handed_in d.posted lane.posted desk.answered c (record_of s.history) posted (knows.own c serves)) adopted

  -- and it has the jobs of each batch that was answered as executed
  pub executed_now : (desk : CombinerPast) → HasExecuted desk s → AreExecuted (record_of (history_of now)) desk.lifted desk.answered
  executed_now desk all = executed_on (record_of s.history) (record_of (history_of now)) (begins_record s.history (history_of now) marks_begin.1) desk.lifted desk.answered all

  pub goes_now : (e : WorkerState) → e.node ≡ d.node → e.worker ≡ d.worker → e.mark ≡ now → GoesTo d e
  goes_now e node worker mark =
      record { node = node; worker = worker; mark = subst (λ (m : Option Standing). IsBeginningOf (history_of d.mark) (history_of m)) (sym mark) marks_begin.0 }

-- Of a connection that got no end all that was posted counts.
all_before : (d : WorkerState) (x : Served) (k : IsServedAt d x) → x.ends ≡ [] → k.before ≡ d.posted
all_before d x k none = sym (k.split ∙ ap (λ (bs : List Batch). k.before ++ bs) (k.live none) ∙ append-nil k.before)

handed_before : (d : WorkerState) (x : Served) → IsServedAt d x → x.ends ≡ [] → IsHandedOut d.mark d.posted x.connection x.handed
handed_before d x k none = subst (λ (bs : List Batch). IsHandedOut d.mark bs x.connection x.handed) (all_before d x k none) k.handed

-- so each job that was posted is one that it asked for
pub posted_live : (d : WorkerState) (x : Served) (k : IsServedAt d x) → x.ends ≡ []
    → AllPosted (λ (job : Item). job.connection ≡ x.connection → Contains (asked_of x) job) d.posted
posted_live d x k none = subst (AllPosted (λ (job : Item). job.connection ≡ x.connection → Contains (asked_of x) job)) (all_before d x k none) k.posted

-- of any it is one that it asked for, or an end
pub posted_any : (d : WorkerState) (x : Served) → IsServedAt d x → AllPosted (λ (job : Item). job.connection ≡ x.connection → Contains (all_asked x) job) d.posted
posted_any d x k =
    let asked = λ (job : Item). job.connection ≡ x.connection → Contains (asked_of x) job in
    let any = λ (job : Item). job.connection ≡ x.connection → Contains (all_asked x) job in
    subst (AllPosted any) (sym k.split)
    (All-append (λ (batch : Batch). AllByRecursion any (items_of batch.jobs.items)) k.before k.after
    (posted_weaker asked any (λ job asks same. Contains-append_left (asked_of x) x.ends job (asks same)) k.before k.posted) k.later)

-- ---- a connection is opened
abbrev no_jobs : Jobs
no_jobs = []

still_at : (d : WorkerState) (served : List Served) (y : Served) → IsServedAt d y → IsServedAt (record d { served = served }) y
still_at d served y s = record {
  node = s.node;
  opened = s.opened;
  counted = s.counted;
  before = s.before;
  after = s.after;
  split = s.split;
  live = s.live;
  posted = s.posted;
  later = s.later;
  handed = s.handed;
}

abbrev new_one : Connection → Served
new_one c = record { connection = c; fed = []; closing = None; handed = []; ends = [] }

none_asked : (served : List Served) (c : Connection) (job : Item) → AllByRecursion (λ (x : Served). x.connection ≢ c) served → IsAskedBy served job → job.connection ≡ c
    → Contains no_jobs job
none_asked served c job new by is = absurd (all_at (λ (x : Served). x.connection ≢ c) served by.one new by.there (by.connection ∙ is))

opened_more : (served : List Served) (x : Served) (job : Item) → IsAskedBy served job → IsAskedBy (served ++ x ∷ []) job
opened_more served x job by = record { one = by.one; there = Contains-append_left served (x ∷ []) by.one by.there; connection = by.connection; asked = by.asked }

module _ (c : Connection) (s : Standing) (lane : WorkerPast) (d e : WorkerState) (led : IsLed d) (o : Opens c s lane d e) where
  abbrev x : Served
  x = new_one c

  abbrev opened_desk : WorkerState
  opened_desk = record d { heard = e.heard; mark = e.mark; served = d.served ++ x ∷ [] }

  abbrev first : IsBeginningOf (history_of d.mark) (history_of e.mark) × IsBeginningOf s.history (history_of e.mark)
  first = marks_begin d s e.mark led o.sound o.met o.adopted

  abbrev sound_then : IfSome e.mark (λ (m : Standing). IsSound m × (m.node ≡ d.node))
  sound_then = sound_now d s e.mark led o.sound o.met o.adopted

  others : (y : Served) → IsServedAt d y → IsServedAt opened_desk y
  others y k = record {
    node = k.node;
    opened = opened_on d.mark e.mark d.node d.worker y.connection led.sound sound_then first.0 k.opened;
    counted = k.counted;
    before = k.before;
    after = k.after;
    split = k.split;
    live = k.live;
    posted = k.posted;
    later = k.later;
    handed = marked_on d.mark e.mark k.before y.connection y.handed first.0 k.handed;
  }

  pub opened_led : IsLed e × GoesTo d e
  opened_led = (
    subst IsLed (sym o.opened) record {
      sound = sound_then;
      own = own_now d s e.mark led o.sound o.met o.adopted e.heard lane o.knows o.posted;
      executed = executed_now d s e.mark led o.sound o.met o.adopted e.heard o.knows.executed;
      known = posted_weaker (IsAskedBy d.served) (IsAskedBy opened_desk.served) (opened_more d.served x) d.posted led.known;
      each = All-append (IsServedAt opened_desk) d.served (x ∷ []) (all_weaker (IsServedAt d) (IsServedAt opened_desk) others d.served led.each) (
        record {
          node = o.serves.node ∙ o.sound.1;
          opened = opened_for e.mark d.node d.worker c s sound_then o.sound.1 first.1 o.serves;
          counted = tt;
          before = d.posted;
          after = [];
          split = sym (append-nil d.posted);
          live = λ _. refl;
          posted = posted_weaker (IsAskedBy d.served) (λ (job : Item). job.connection ≡ c → Contains no_jobs job) (λ job by. none_asked d.served c job o.new by) d.posted led.known;
          later = tt;
          handed = record { history = []; kept = none_begins (history_of e.mark); begins = none_begins (emitted_for c (record_of [])); jobs = tt };
        },
        tt,
      );
    },
    goes_now d s e.mark led o.sound o.met o.adopted e (ap (λ (f : WorkerState). f.node) o.opened) (ap (λ (f : WorkerState). f.worker) o.opened) refl,
  )

-- ---- what a connection asks for changes
asked_there : (front back : List Served) (one now : Served) (job : Item) → now.connection ≡ one.connection
    → IsAskedBy (front ++ one ∷ back) job × (job.connection ≡ one.connection → Contains (asked_of now) job) → IsAskedBy (front ++ now ∷ back) job
asked_there front back one now job named (by, own) =
    elim (Contains-append_cases front (one ∷ back) by.one by.there) [
      | inl before ↦ record { one = by.one; there = Contains-append_left front (now ∷ back) by.one before; connection = by.connection; asked = by.asked }
      | inr after ↦ elim (in_cases by.one one back after) [
        | inl is ↦
            let same : one.connection ≡ job.connection = ap (λ (x : Served). x.connection) is ∙ by.connection in
            record { one = now; there = in_middle now front back; connection = named ∙ same; asked = Contains-append_left (asked_of now) now.ends job (own (sym same)) }
        | inr behind ↦ record {
          one = by.one;
          there = Contains-append_right front (now ∷ back) by.one (later_in by.one now back behind);
          connection = by.connection;
          asked = by.asked;
        }
      ]
    ]

pub asked_led : (fed : List Feeding) (closing : Option Item) (d e : WorkerState) → IsLed d → Asks fed closing d e → IsLed e × GoesTo d e
asked_led fed closing d e led a =
    let now : Served = record a.one { fed = fed; closing = closing } in
    let served = a.front ++ now ∷ a.back in
    let f : WorkerState = record d { served = served } in
    let each = subst (AllByRecursion (IsServedAt d)) a.there led.each in
    let here = (all_back (IsServedAt d) a.front (a.one ∷ a.back) each).0 in
    let known = posted_both (IsAskedBy (a.front ++ a.one ∷ a.back)) (λ (job : Item). job.connection ≡ a.one.connection → Contains (asked_of now) job) d.posted
    (subst (λ (xs : List Served). AllPosted (IsAskedBy xs) d.posted) a.there led.known) a.posted in (
      subst IsLed (sym a.changed) record {
        sound = led.sound;
        own = led.own;
        executed = led.executed;
        known = posted_weaker (λ (job : Item). IsAskedBy (a.front ++ a.one ∷ a.back) job × (job.connection ≡ a.one.connection → Contains (asked_of now) job)) (IsAskedBy served)
            (λ job. asked_there a.front a.back a.one now job refl) d.posted known;
        each = All-append (IsServedAt f) a.front (now ∷ a.back)
            (all_weaker (IsServedAt d) (IsServedAt f) (still_at d served) a.front (all_front (IsServedAt d) a.front (a.one ∷ a.back) each)) (
              record {
                node = here.node;
                opened = here.opened;
                counted = a.counted;
                before = d.posted;
                after = [];
                split = sym (append-nil d.posted);
                live = λ _. refl;
                posted = a.posted;
                later = tt;
                handed = handed_before d a.one here a.live;
              },
              all_weaker (IsServedAt d) (IsServedAt f) (still_at d served) a.back (all_back (IsServedAt d) a.front (a.one ∷ a.back) each).1,
            );
      },
      unmarked d e (ap (λ (x : WorkerState). x.node) a.changed) (ap (λ (x : WorkerState). x.worker) a.changed) (ap (λ (x : WorkerState). x.mark) a.changed),
    )

-- ---- a batch is posted
posted_on : (posted : List Batch) (batch : Batch) (job : Item) → IsPosted posted job → IsPosted (posted ++ batch ∷ []) job
posted_on posted batch job p = record { batch = p.batch; there = Contains-append_left posted (batch ∷ []) p.batch p.there; has = p.has }

all_posted_on : (posted : List Batch) (batch : Batch) (c : Connection) (done : Sequence) → ArePosted posted c done → ArePosted (posted ++ batch ∷ []) c done
all_posted_on posted batch c done all =
    all_weaker (λ (job : Item). job.connection ≡ c → IsPosted posted job) (λ (job : Item). job.connection ≡ c → IsPosted (posted ++ batch ∷ []) job)
    (λ job p is. posted_on posted batch job (p is)) done all

own_posted : (d : WorkerState) (batch : Batch) (mark : Option Standing) → IfSome mark (HasItsOwn d) → IfSome mark (HasItsOwn (record d { posted = d.posted ++ batch ∷ [] }))
own_posted d batch None own = tt
own_posted d batch (Some s) own = λ c serves. all_posted_on d.posted batch c (record_of s.history) (own c serves)

-- a connection with ends gets no more, and one with none goes on
posted_by : (d : WorkerState) (batch : Batch) (x : Served) (ends : List Item) → x.ends ≡ ends → IsServedAt d x
    → AllByRecursion (λ (job : Item). job.connection ≡ x.connection → Contains (asked_of x ++ ends) job) (items_of batch.jobs.items)
    → IsServedAt (record d { posted = d.posted ++ batch ∷ [] }) x
posted_by d batch x [] is k new =
    let asked = λ (job : Item). job.connection ≡ x.connection → Contains (asked_of x) job in
    let h = handed_before d x k is in
    record {
      node = k.node;
      opened = k.opened;
      counted = k.counted;
      before = d.posted ++ batch ∷ [];
      after = [];
      split = sym (append-nil (d.posted ++ batch ∷ []));
      live = λ _. refl;
      posted = All-append (λ (b : Batch). AllByRecursion asked (items_of b.jobs.items)) d.posted (batch ∷ []) (posted_live d x k is) (
        subst (λ (js : Jobs). AllByRecursion (λ (job : Item). job.connection ≡ x.connection → Contains js job) (items_of batch.jobs.items)) (append-nil (asked_of x)) new,
        tt,
      );
      later = tt;
      handed = record { history = h.history; kept = h.kept; begins = h.begins; jobs = all_posted_on d.posted batch x.connection (record_of h.history) h.jobs };
    }
posted_by d batch x (end ∷ ends) is k new =
    let asked = λ (job : Item). job.connection ≡ x.connection → Contains (all_asked x) job in
    record {
      node = k.node;
      opened = k.opened;
      counted = k.counted;
      before = k.before;
      after = k.after ++ batch ∷ [];
      split = ap (λ (bs : List Batch). bs ++ batch ∷ []) k.split ∙ append_assoc k.before k.after (batch ∷ []);
      live = λ none. absurd (cc (sym none ∙ is));
      posted = k.posted;
      later = All-append (λ (b : Batch). AllByRecursion asked (items_of b.jobs.items)) k.after (batch ∷ []) k.later (
        subst (λ (es : List Item). AllByRecursion (λ (job : Item). job.connection ≡ x.connection → Contains (asked_of x ++ es) job) (items_of batch.jobs.items)) (sym is) new,
        tt,
      );
      handed = k.handed;
    }

served_posted : (d : WorkerState) (batch : Batch) (x : Served) → IsServedAt d x
    × AllByRecursion (λ (job : Item). job.connection ≡ x.connection → Contains (all_asked x) job) (items_of batch.jobs.items)
    → IsServedAt (record d { posted = d.posted ++ batch ∷ [] }) x
served_posted d batch x (k, new) = posted_by d batch x x.ends refl k new

known_jobs : (served : List Served) (all jobs : Jobs)
    → AllByRecursion (λ (x : Served). AllByRecursion (λ (job : Item). job.connection ≡ x.connection → Contains (all_asked x) job) all) served
    → AllByRecursion (λ (job : Item). Contains all job) jobs
    → AllByRecursion (λ (job : Item). (x : Served) × Contains served x × (x.connection ≡ job.connection)) jobs → AllByRecursion (IsAskedBy served) jobs
known_jobs served all [] asked within known = tt
known_jobs served all (job ∷ jobs) asked within known =
    let x = known.0.0 in
    let mine = all_at (λ (y : Served). AllByRecursion (λ (j : Item). j.connection ≡ y.connection → Contains (all_asked y) j) all) served x asked known.0.1 in (
      record {
        one = x;
        there = known.0.1;
        connection = known.0.2;
        asked = all_at (λ (j : Item). j.connection ≡ x.connection → Contains (all_asked x) j) all job mine within.0 (sym known.0.2);
      },
      known_jobs served all jobs asked within.1 known.1,
    )

each_there : (front jobs : Jobs) → AllByRecursion (λ (job : Item). Contains (front ++ jobs) job) jobs
each_there front [] = tt
each_there front (job ∷ jobs) = (
  in_middle job front jobs,
  subst (λ (all : Jobs). AllByRecursion (λ (j : Item). Contains all j) jobs) (append_assoc front (job ∷ []) jobs) (each_there (front ++ job ∷ []) jobs),
)

pub posted_led : (batch : Batch) (d e : WorkerState) → IsLed d → Posts batch d e → IsLed e × GoesTo d e
posted_led batch d e led p =
    let items = items_of batch.jobs.items in
    let f : WorkerState = record d { posted = d.posted ++ batch ∷ [] } in
    let new = λ (x : Served). AllByRecursion (λ (job : Item). job.connection ≡ x.connection → Contains (all_asked x) job) items in (
      subst IsLed (sym p.posted) record {
        sound = led.sound;
        own = own_posted d batch d.mark led.own;
        executed = led.executed;
        known = All-append (λ (b : Batch). AllByRecursion (IsAskedBy d.served) (items_of b.jobs.items)) d.posted (batch ∷ []) led.known
            (known_jobs d.served items items p.asked (each_there [] items) p.known, tt);
        each = all_weaker (λ (x : Served). IsServedAt d x × new x) (IsServedAt f) (served_posted d batch) d.served (all_both (IsServedAt d) new d.served led.each p.asked);
      },
      unmarked d e (ap (λ (x : WorkerState). x.node) p.posted) (ap (λ (x : WorkerState). x.worker) p.posted) (ap (λ (x : WorkerState). x.mark) p.posted),
    )

-- ---- a turn
-- a connection asked for what it asked for
got_there : (pieces : List LastPiece) (xs ys : List Served) (x : Served) → HaveGot pieces xs ys → Contains xs x
    → (y : Served) × Contains ys y × (y.connection ≡ x.connection) × (all_asked y ≡ all_asked x)
got_there pieces [] [] x got there = absurd (some_in [] x refl there)
got_there pieces [] (y ∷ ys) x got there = absurd got
got_there pieces (a ∷ xs) [] x got there = absurd got
got_there pieces (a ∷ xs) (y ∷ ys) x (here, more) there = elim (in_cases x a xs there) [
  | inl is ↦ elim here [
    | inl same ↦ (y, first_in y ys, ap (λ (z : Served). z.connection) (same ∙ is), ap all_asked (same ∙ is))
    | inr (one, live, in_pieces, named, from, got) ↦ (
      y,
      first_in y ys,
      ap (λ (z : Served). z.connection) got ∙ ap (λ (z : Served). z.connection) is,
      ap all_asked got ∙ ap all_asked is,
    )
  ]
  | inr behind ↦ let on = got_there pieces xs ys x more behind in (on.0, later_in on.0 y ys on.1, on.2, on.3)
]

asked_on : (pieces : List LastPiece) (xs ys : List Served) → HaveGot pieces xs ys → (job : Item) → IsAskedBy xs job → IsAskedBy ys job
asked_on pieces xs ys got job by =
    let on = got_there pieces xs ys by.one got by.there in
    record { one = on.0; there = on.1; connection = on.2 ∙ by.connection; asked = subst (λ (js : Jobs). Contains js job) (sym on.3) by.asked }

-- it got a piece
got_piece : (mark now : Option Standing) (posted : List Batch) (c : Connection) (handed bytes : Bytes) (s : Standing) → IsBeginningOf (history_of mark) (history_of now)
    → IsBeginningOf s.history (history_of now) → IsBeginningOf bytes (drop (length handed) (emitted_for c (record_of s.history))) → 0 < length bytes
    → AllByRecursion (λ (job : Item). job.connection ≡ c → IsPosted posted job) (record_of s.history) → IsHandedOut mark posted c handed
    → IsHandedOut now posted c (handed ++ bytes)
got_piece mark now posted c handed bytes s begins kept behind some jobs h =
    let all = record_of (history_of now) in
    let longer = begins_record h.history (history_of now) (begins_on h.history (history_of mark) (history_of now) h.kept begins) in
    let front = begins_on handed (emitted_for c (record_of h.history)) (emitted_for c all) h.begins (begins_emitted c (record_of h.history) all longer) in
    let part = begins_emitted c (record_of s.history) all (begins_record s.history (history_of now) kept) in
    record { history = s.history; kept = kept; begins = piece_on handed bytes (emitted_for c (record_of s.history)) (emitted_for c all) front part behind some; jobs = jobs }

module _ (most : ℕ) (down : Bool) (s : Standing) (lane : WorkerPast) (old new : List LastPiece) (d e : WorkerState) (led : IsLed d) (t : HearsTurn most down s lane old new d e) where
  abbrev pieces : List LastPiece
  pieces = t.heard.added.pieces

  abbrev begins : IsBeginningOf (history_of d.mark) (history_of e.mark) × IsBeginningOf s.history (history_of e.mark)
  begins = marks_begin d s e.mark led t.sound t.met t.adopted

  abbrev sound_after : IfSome e.mark (λ (m : Standing). IsSound m × (m.node ≡ d.node))
  sound_after = sound_now d s e.mark led t.sound t.met t.adopted

  abbrev after : WorkerState
  after = record d { heard = e.heard; mark = e.mark; served = e.served }

  served_on : (x y : Served) → HasGot pieces x y → IsServedAt d x → IsServedAt after y
  served_on x y (inl same) k = subst (IsServedAt after) (sym same) record {
    node = k.node;
    opened = opened_on d.mark e.mark d.node d.worker x.connection led.sound sound_after begins.0 k.opened;
    counted = k.counted;
    before = k.before;
    after = k.after;
    split = k.split;
    live = k.live;
    posted = k.posted;
    later = k.later;
    handed = marked_on d.mark e.mark k.before x.connection x.handed begins.0 k.handed;
  }
  served_on x y (inr (one, live, there, named, from, got)) k =
      let added = t.heard.added in
      let piece = (all_at (λ (h : LastPiece). IsHandedOf most down h s) pieces one added.all there).piece in
      let jobs = handed_in d.posted lane.posted e.heard.answered (connection_of one.piece.conn) (record_of s.history) t.posted (all_at _ pieces one added.own there) in
      let bytes = one.piece.bytes.items in
      subst (IsServedAt after) (sym got) record {
        node = k.node;
        opened = opened_on d.mark e.mark d.node d.worker x.connection led.sound sound_after begins.0 k.opened;
        counted = k.counted;
        before = d.posted;
        after = [];
        split = sym (append-nil d.posted);
        live = λ _. refl;
        posted = posted_live d x k live;
        later = tt;
        handed = got_piece d.mark e.mark d.posted x.connection x.handed bytes s begins.0 begins.1
            (subst (λ (n : ℕ). IsBeginningOf bytes (drop n (emitted_for x.connection (record_of s.history)))) from
            (subst (λ (c : Connection). IsBeginningOf bytes (drop one.piece.from (emitted_for c (record_of s.history)))) named piece.emitted))
            piece.some (subst (λ (c : Connection). AllByRecursion (λ (job : Item). job.connection ≡ c → IsPosted d.posted job) (record_of s.history)) named jobs)
            (handed_before d x k live);
      }

  all_served_on : (xs ys : List Served) → HaveGot pieces xs ys → AllByRecursion (IsServedAt d) xs → AllByRecursion (IsServedAt after) ys
  all_served_on [] [] got all = tt
  all_served_on [] (y ∷ ys) got all = absurd got
  all_served_on (x ∷ xs) [] got all = absurd got
  all_served_on (x ∷ xs) (y ∷ ys) got all = (served_on x y got.0 all.0, all_served_on xs ys got.1 all.1)

  pub turned_led : IsLed e × GoesTo d e
  turned_led = (
    subst IsLed (sym t.same) record {
      sound = sound_after;
      own = own_now d s e.mark led t.sound t.met t.adopted e.heard lane t.heard.knows t.posted;
      executed = executed_now d s e.mark led t.sound t.met t.adopted e.heard t.heard.knows.executed;
      known = posted_weaker (IsAskedBy d.served) (IsAskedBy e.served) (asked_on pieces d.served e.served t.got) d.posted led.known;
      each = all_served_on d.served e.served t.got led.each;
    },
    goes_now d s e.mark led t.sound t.met t.adopted e (ap (λ (f : WorkerState). f.node) t.same) (ap (λ (f : WorkerState). f.worker) t.same) refl,
  )

-- ---- an end came
-- more ends are more
ended_none : (b : Bool) (ends : List Item) (job : Item) → cond b (ends ++ job ∷ []) ends ≡ [] → ends ≡ []
ended_none true ends job none = no_front ends (job ∷ []) none
ended_none false ends job none = none

pub ended_asked : (b : Bool) (asked ends : Jobs) (job one : Item) → Contains (asked ++ ends) one → Contains (asked ++ cond b (ends ++ job ∷ []) ends) one
ended_asked true asked ends job one there =
    subst (λ (js : Jobs). Contains js one) (append_assoc asked ends (job ∷ [])) (Contains-append_left (asked ++ ends) (job ∷ []) one there)
ended_asked false asked ends job one there = there

ended_there : (job : Item) (served : List Served) (x : Served) → Contains served x → Contains (map (ended_with job) served) (ended_with job x)
ended_there job [] x there = absurd (some_in [] x refl there)
ended_there job (y ∷ ys) x there = elim (in_cases x y ys there) [
  | inl is ↦
      subst (λ (z : Served). Contains (ended_with job y ∷ map (ended_with job) ys) (ended_with job z)) is (first_in (ended_with job y) (map (ended_with job) ys))
  | inr behind ↦ later_in (ended_with job x) (ended_with job y) (map (ended_with job) ys) (ended_there job ys x behind)
]

ended_by : (job : Item) (served : List Served) (one : Item) → IsAskedBy served one → IsAskedBy (map (ended_with job) served) one
ended_by job served one by = record {
  one = ended_with job by.one;
  there = ended_there job served by.one by.there;
  connection = by.connection;
  asked = ended_asked (same_connection job.connection by.one.connection) (asked_of by.one) by.one.ends job one by.asked;
}

all_map : {A : Type 0} (P Q : A → Type 0) (f : A → A) → ((x : A) → P x → Q (f x)) → (xs : List A) → AllByRecursion P xs → AllByRecursion Q (map f xs)
all_map P Q f on [] all = tt
all_map P Q f on (x ∷ xs) all = (on x all.0, all_map P Q f on xs all.1)

module _ (job : Item) (s : Standing) (lane : WorkerPast) (d e : WorkerState) (led : IsLed d) (end : Ends job s lane d e) where
  abbrev ahead : IsBeginningOf (history_of d.mark) (history_of e.mark) × IsBeginningOf s.history (history_of e.mark)
  ahead = marks_begin d s e.mark led end.sound end.met end.adopted

  abbrev ended_sound : IfSome e.mark (λ (m : Standing). IsSound m × (m.node ≡ d.node))
  ended_sound = sound_now d s e.mark led end.sound end.met end.adopted

  abbrev ended_desk : WorkerState
  ended_desk = record d { heard = e.heard; mark = e.mark; served = map (ended_with job) d.served }

  ended_on : (x : Served) → IsServedAt d x → IsServedAt ended_desk (ended_with job x)
  ended_on x k =
      let own = same_connection job.connection x.connection in
      record {
        node = k.node;
        opened = opened_on d.mark e.mark d.node d.worker x.connection led.sound ended_sound ahead.0 k.opened;
        counted = k.counted;
        before = k.before;
        after = k.after;
        split = k.split;
        live = λ none. k.live (ended_none own x.ends job none);
        posted = k.posted;
        later = posted_weaker (λ (one : Item). one.connection ≡ x.connection → Contains (all_asked x) one)
            (λ (one : Item). one.connection ≡ x.connection → Contains (all_asked (ended_with job x)) one)
            (λ one asked is. ended_asked own (asked_of x) x.ends job one (asked is)) k.after k.later;
        handed = marked_on d.mark e.mark k.before x.connection x.handed ahead.0 k.handed;
      }

  pub ended_led : IsLed e × GoesTo d e
  ended_led = (
    subst IsLed (sym end.ended) record {
      sound = ended_sound;
      own = own_now d s e.mark led end.sound end.met end.adopted e.heard lane end.knows.knows end.posted;
      executed = executed_now d s e.mark led end.sound end.met end.adopted e.heard end.knows.knows.executed;
      known = posted_weaker (IsAskedBy d.served) (IsAskedBy ended_desk.served) (ended_by job d.served) d.posted led.known;
      each = all_map (IsServedAt d) (IsServedAt ended_desk) (ended_with job) ended_on d.served led.each;
    },
    goes_now d s e.mark led end.sound end.met end.adopted e (ap (λ (f : WorkerState). f.node) end.ended) (ap (λ (f : WorkerState). f.worker) end.ended) refl,
  )
