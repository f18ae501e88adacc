-- A story that led to a worker goes on.
use Rattle.std.proofs.Common.{◌≡◌, ℕ, ◌≤◌, true, false, cond, inl, inr, List, [], ◌∷◌, ◌++◌, map, Contains, Option, Some, None, refl, ap, sym, ◌∙◌, subst, append-nil, true≢false}
use Rattle.std.specs.Prelude.{◌⊎◌}
use Rattle.std.proofs.lemmas.List.{map-id}
use Rattle.nr_model.specs.Items.{Connection, Item, same_connection}
use Rattle.nr_model.specs.Connections.{Feeding, Handed, handed_to}
use Rattle.nr_model.proofs.JobLists.{same_is, same_self}
use Rattle.nr_model.proofs.NodesExecutedLists.{first_in}
use Rattle.nr_service.specs.Stories.{Closed, Closing, Fed, HandedOut, Occurrence, Opened, Story, beginning, fed_in, going_on, is_among, opened_in}
use Rattle.nr_service.proofs.Occurrences.{pieces_closings, pieces_fed, pieces_handed, pieces_opened}
use Rattle.nr_worker.specs.Seated.{OpenConnectionState}
use Rattle.nr_worker.specs.Portions.{HandsOut, seat_of}
use Rattle.nr_worker.specs.Worker.{WorkerState, Served}
use Rattle.nr_worker.specs.Law.{GoesTo}
use Rattle.nr_worker.specs.Moves.{fresh_desk}
use Rattle.nr_worker.specs.Working.{Goes, IsServed, Reflects, WorkState, all_closed, all_fed, all_handed, closed_with, connections_of, fed_more, handed_more, one_opened, unchanged}
use Rattle.nr_worker_service.specs.Serving.{WorkerBackendState}
use Rattle.nr_worker_service.specs.Told.{Tells, close_by, closings_of, feeds_to}
use Rattle.nr_worker_service.specs.Led.{HasLedTo, size_of}
use Rattle.nr_worker_service.specs.Works.{all_worked}
use Rattle.nr_worker_service.proofs.Lists.{at_one, fresh_is_led, goes_further, goes_nowhere}
use Rattle.nr_worker_service.proofs.Telling.{IsClosedBy, NoneElse, some_there, absent_above, none_among, tells_ended, tells_map, tells_opened, was_fed, was_on}

-- ---- who isn't told of has no seat
absent_served : (served : List Served) (c : Connection) → is_among c (connections_of served) ≡ false → IsServed served c → ⊥
absent_served served c absent k =
    let other = at_one (λ (x : Served). same_connection x.connection c ≡ false) served k.one (none_among served c absent) k.there in
    true≢false (sym (subst (λ (d : Connection). same_connection k.one.connection d ≡ true) k.connection (same_self k.one.connection)) ∙ other)

no_seat : (o : Option OpenConnectionState) → ((s : OpenConnectionState) → o ≡ Some s → ⊥) → o ≡ None
no_seat None none = refl
no_seat (Some s) none = absurd (none s refl)

pub absent_seat : (v : WorkState) (d : WorkerState) (c : Connection) → Reflects v d → is_among c (connections_of d.served) ≡ false
    → seat_of v.worker.node v.seats c ≡ None
absent_seat v d c r absent =
    no_seat (seat_of v.worker.node v.seats c) (λ s at. absent_served d.served c absent (r.seats c s at).known)

among_told : (occurrences : List Occurrence) (d : WorkerState) (c : Connection) → Tells occurrences d.served → is_among c (opened_in occurrences) ≡ false
    → is_among c (connections_of d.served) ≡ false
among_told occurrences d c t absent = ap (is_among c) (sym t.opened) ∙ absent

-- one with a serial that none has had
pub absent_new : (v : WorkState) (d : WorkerState) (occurrences : List Occurrence) (c : Connection) → Reflects v d → Tells occurrences d.served
    → v.next ≤ c.serial → is_among c (opened_in occurrences) ≡ false
absent_new v d occurrences c r t later = ap (is_among c) t.opened ∙ absent_above d.served c v.next later r.below

-- and who is told of is none of whom nothing is told
apart_from : (v : WorkState) (d : WorkerState) (occurrences : List Occurrence) (c other : Connection) (s : OpenConnectionState) → Reflects v d → Tells occurrences d.served
    → seat_of v.worker.node v.seats c ≡ Some s → is_among other (opened_in occurrences) ≡ false → same_connection c other ≡ false
apart_from v d occurrences c other s r t at absent = elim (same_connection c other) as (λ b. same_connection c other ≡ b → b ≡ false) [
  | true ↦ λ same.
      let is = same_is c other same in
      let none = absent_seat v d c r (among_told occurrences d c t (ap (λ (e : Connection). is_among e (opened_in occurrences)) is ∙ absent)) in
      absurd (cc (at, none))
  | false ↦ λ apart. refl
] refl

-- ---- a story goes on
-- which worker it is stays
size_kept : (story : Story) (d e : WorkerState) → GoesTo d e → story.setup ≡ size_of d.node d.worker → story.setup ≡ size_of e.node e.worker
size_kept story d e g is = is ∙ (λ i. size_of (sym g.node i) (sym g.worker i))

pub led_on : (v w : WorkerBackendState) (story : Story) (more : List Occurrence) (change : List Served → List Served) → Goes change v.desk w.desk → fed_in more ≡ []
    → ((d : WorkerState) → Reflects v.desk d → Tells story.occurrences d.served → Tells (story.occurrences ++ more) (change d.served))
    → HasLedTo v story → HasLedTo w (going_on story more)
led_on v w story more change g none tells h =
    let l = g.leads h.worker h.led h.reflects in
    record {
      worker = l.then;
      sized = size_kept story h.worker l.then l.goes h.sized;
      led = l.led;
      reflects = l.reflects;
      tells = subst (Tells (story.occurrences ++ more)) (sym l.served) (tells h.worker h.reflects h.tells);
      earlier = was_on story.occurrences more h.worker l.then none l.goes h.earlier;
    }

-- nothing happened
pub led_still : (v w : WorkerBackendState) (story : Story) → Goes unchanged v.desk w.desk → HasLedTo v story → HasLedTo w story
led_still v w story g h =
    let l = g.leads h.worker h.led h.reflects in
    record {
      worker = l.then;
      sized = size_kept story h.worker l.then l.goes h.sized;
      led = l.led;
      reflects = l.reflects;
      tells = subst (Tells story.occurrences) (sym l.served) h.tells;
      earlier = λ front back feeding is.
          let w = h.earlier front back feeding is in
          record { earlier = w.earlier; led = w.led; tells = w.tells; goes = goes_further w.earlier h.worker l.then w.goes l.goes };
    }

-- a connection was opened
pub led_opened : (v w : WorkerBackendState) (c : Connection) (story : Story) → Goes (one_opened c) v.desk w.desk
    → v.desk.next ≤ c.serial → HasLedTo v story → HasLedTo w (going_on story (Opened c ∷ []))
led_opened v w c story g later h =
    led_on v w story (Opened c ∷ []) (one_opened c) g refl
    (λ d r t. tells_opened story.occurrences c d.served (absent_new v.desk d story.occurrences c r t later) t) h

-- bytes were handed out, and ends came
none_handed : (v w : WorkState) (d : WorkerState) (occurrences : List Occurrence) (handed : List Handed) → HandsOut v.worker.node handed v.seats w.seats
    → Reflects v d → Tells occurrences d.served → NoneElse occurrences (map HandedOut handed)
none_handed v w d occurrences handed out r t = λ c absent. (
  ap (feeds_to c) (pieces_fed handed),
  ap (handed_to c) (pieces_handed handed) ∙ (out.none c (absent_seat v d c r (among_told occurrences d c t absent))).0,
  ap (closings_of c) (pieces_closings handed),
)

pub led_worked : (v w : WorkerBackendState) (handed : List Handed) (ends : List Item) (story : Story) → Goes (all_worked handed ends) v.desk w.desk
    → HandsOut v.desk.worker.node handed v.desk.seats w.desk.seats → HasLedTo v story → HasLedTo w (going_on story (map HandedOut handed))
led_worked v w handed ends story g out h =
    let more = map HandedOut handed in
    led_on v w story more (all_worked handed ends) g (pieces_fed handed)
    (λ d r t.
    tells_ended (story.occurrences ++ more) ends (all_handed handed d.served)
    (tells_map story.occurrences more (handed_more handed) d.served (pieces_opened handed) (λ x. refl)
    (λ x. sym (append-nil x.fed) ∙ ap (λ (l : List Feeding). x.fed ++ feeds_to x.connection l) (sym (pieces_fed handed)))
    (λ x. ap (λ (l : List Handed). x.handed ++ handed_to x.connection l) (sym (pieces_handed handed))) (λ x job is. inl is)
    (none_handed v.desk w.desk d story.occurrences handed out r t) t)) h

-- bytes were fed
fed_is : (feeding : Feeding) (x : Served) → (fed_more feeding x).fed ≡ x.fed ++ feeds_to x.connection (feeding ∷ [])
fed_is feeding x = elim (same_connection feeding.connection x.connection) as
    (λ b. cond b (x.fed ++ feeding ∷ []) x.fed ≡ x.fed ++ cond b (feeding ∷ []) []) [
      | true ↦ refl
      | false ↦ sym (append-nil x.fed)
    ]

none_fed_else : (v : WorkState) (d : WorkerState) (occurrences : List Occurrence) (feeding : Feeding) (s : OpenConnectionState) → Reflects v d
    → Tells occurrences d.served → seat_of v.worker.node v.seats feeding.connection ≡ Some s → NoneElse occurrences (Fed feeding ∷ [])
none_fed_else v d occurrences feeding s r t at = λ c absent. (
  ap (λ b. cond b (feeding ∷ []) []) (apart_from v d occurrences feeding.connection c s r t at absent),
  refl,
  refl,
)

pub led_fed : (v w : WorkerBackendState) (feeding : Feeding) (s : OpenConnectionState) (story : Story) → Goes (all_fed feeding) v.desk w.desk
    → seat_of v.desk.worker.node v.desk.seats feeding.connection ≡ Some s → HasLedTo v story → HasLedTo w (going_on story (Fed feeding ∷ []))
led_fed v w feeding s story g at h =
    let l = g.leads h.worker h.led h.reflects in
    let more = Fed feeding ∷ [] in
    record {
      worker = l.then;
      sized = size_kept story h.worker l.then l.goes h.sized;
      led = l.led;
      reflects = l.reflects;
      tells = subst (Tells (story.occurrences ++ more)) (sym l.served)
          (tells_map story.occurrences more (fed_more feeding) h.worker.served refl (λ x. refl) (fed_is feeding) (λ x. sym (append-nil x.handed)) (λ x job is. inl is)
          (none_fed_else v.desk h.worker story.occurrences feeding s h.reflects h.tells at) h.tells);
      earlier = was_fed story.occurrences feeding h.worker l.then
          (record { earlier = h.worker; led = h.led; tells = h.tells; goes = goes_nowhere h.worker }) l.goes h.earlier;
    }

-- one was closed, and the job that its close put, if it put one, is its own, at the moment of the close
abbrev pub IsPutBy : Closing → Option Item → Type 0
IsPutBy closing job = (put : Item) → job ≡ Some put → close_by put.connection put ≡ closing

same_job : (job put : Item) → Some job ≡ Some put → job ≡ put
same_job job put is = ap (λ (o : Option Item). elim o [ None ↦ job | Some item ↦ item ]) is

closed_by : (closing : Closing) (job : Item) → close_by job.connection job ≡ closing → (x : Served) → IsClosedBy (Closed closing ∷ []) x (closed_with job x)
closed_by closing job is x put at = elim (same_connection job.connection x.connection) as
    (λ b. same_connection job.connection x.connection ≡ b → cond b (Some job) x.closing ≡ Some put
    → (x.closing ≡ Some put) ⊎ Contains (closing ∷ []) (close_by x.connection put)) [
      | true ↦ λ same its.
          inr (subst (λ (c : Closing). Contains (closing ∷ []) c)
          (sym is ∙ ap (λ (c : Connection). close_by c job) (same_is job.connection x.connection same) ∙ ap (close_by x.connection) (same_job job put its))
          (first_in closing []))
      | false ↦ λ apart its. inl its
    ] refl at

none_closed_else : (v : WorkState) (d : WorkerState) (occurrences : List Occurrence) (closing : Closing) (s : OpenConnectionState) → Reflects v d
    → Tells occurrences d.served → seat_of v.worker.node v.seats closing.connection ≡ Some s → NoneElse occurrences (Closed closing ∷ [])
none_closed_else v d occurrences closing s r t at = λ c absent. (
  refl,
  refl,
  ap (λ b. cond b (closing ∷ []) []) (apart_from v d occurrences closing.connection c s r t at absent),
)

closed_told : (occurrences : List Occurrence) (closing : Closing) (job : Option Item) (xs : List Served) → IsPutBy closing job
    → NoneElse occurrences (Closed closing ∷ []) → Tells occurrences xs → Tells (occurrences ++ Closed closing ∷ []) (all_closed job xs)
closed_told occurrences closing None xs put else t =
    subst (Tells (occurrences ++ Closed closing ∷ [])) (map-id xs)
    (tells_map occurrences (Closed closing ∷ []) (λ (x : Served). x) xs refl (λ x. refl) (λ x. sym (append-nil x.fed)) (λ x. sym (append-nil x.handed))
    (λ x job is. inl is) else t)
closed_told occurrences closing (Some job) xs put else t =
    tells_map occurrences (Closed closing ∷ []) (closed_with job) xs refl (λ x. refl) (λ x. sym (append-nil x.fed)) (λ x. sym (append-nil x.handed))
    (closed_by closing job (put job refl)) else t

pub led_closed : (v w : WorkerBackendState) (closing : Closing) (s : OpenConnectionState) (job : Option Item) (story : Story) → Goes (all_closed job) v.desk w.desk
    → seat_of v.desk.worker.node v.desk.seats closing.connection ≡ Some s → ((d : WorkerState) → Reflects v.desk d → IsPutBy closing job) → HasLedTo v story
    → HasLedTo w (going_on story (Closed closing ∷ []))
led_closed v w closing s job story g at put h =
    led_on v w story (Closed closing ∷ []) (all_closed job) g refl
    (λ d r t. closed_told story.occurrences closing job d.served (put d r) (none_closed_else v.desk d story.occurrences closing s r t at) t) h

-- at first
pub led_fresh : (v : WorkerBackendState) (node worker : ℕ) → Reflects v.desk (fresh_desk node worker) → HasLedTo v (beginning (size_of node worker))
led_fresh v node worker r = record {
  worker = fresh_desk node worker;
  sized = refl;
  led = fresh_is_led node worker;
  reflects = r;
  tells = record { opened = refl; each = tt; others = λ c absent. record { fed = refl; handed = refl; closed = refl } };
  earlier = λ front back feeding is. absurd (some_there front back (Fed feeding) (sym is));
}
