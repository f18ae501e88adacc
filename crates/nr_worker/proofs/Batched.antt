-- The code's worker stands for a worker of the law once a batch was handed in.
use Rattle.std.proofs.Common.{◌<◌, ◌≡◌, ℕ, Bool, true, Option, List, [], ◌∷◌, ◌++◌, length, take, drop, Contains, inl, inr, refl, ap, sym, ◌∙◌, subst, append-nil}
use Rattle.std.specs.Prelude.{suc, Result, Ok, Err, IsOk, OnOk}
use Rattle.std.specs.List.{AllByRecursion}
use Rattle.std.proofs.lemmas.List.{map-append, take-append-drop}
use Rattle.nr_model.specs.Items.{Connection, Item}
use Rattle.nr_model.proofs.JobLists.{All-append}
use Rattle.nr_entry.specs.Jobs.{items_of}
use Rattle.nr_entry.specs.declared.batch.Batch.{Batch}
use Rattle.nr_entry.specs.declared.job.Job.{Job}
use Rattle.nr_node.proofs.Owed.{all_back, all_front}
use Rattle.nr_slots.specs.Seats.{with_posted}
use Rattle.nr_combiner.specs.Counts.{next_generation}
use Rattle.nr_combiner.specs.Workers.{HasPosted, NodeHandleState, with_more}
use Rattle.nr_combiner.specs.Workers as workers
use Rattle.nr_worker.specs.Worker.{WorkerState, IsLed, Served, all_asked}
use Rattle.nr_worker.specs.Law.{GoesTo}
use Rattle.nr_worker.specs.Moves.{Posts}
use Rattle.nr_worker.specs.Working.{Goes, IsBelow, IsToPost, LeadsTo, Reflects, WorkState, unchanged}
use Rattle.nr_worker.proofs.Accounted.{accounted_posted}
use Rattle.nr_worker.proofs.Workers.{posted_led}
use Rattle.nr_worker.proofs.Lists.{all_weaker}

-- ---- nothing changes
pub goes_nowhere : (d : WorkerState) → GoesTo d d
goes_nowhere d = record { node = refl; worker = refl; mark = ([], append-nil _) }

pub stays : (v w : WorkState) → w ≡ v → Goes unchanged v w
stays v w same = record {
  leads = λ d led r. record {
    then = d;
    led = led;
    goes = goes_nowhere d;
    reflects = subst (λ (x : WorkState). Reflects x d) (sym same) r;
    served = refl;
  };
}

-- What the law doesn't look at: how many of the jobs are late, the worker's generation, and what is known of the ends that are to be put.
pub aside_too : (change : List Served → List Served) (v w : WorkState) (late generation : ℕ) (ending : Bool) (ended : Option ℕ) → Goes change v w
    → Goes change v (record w { late = late; worker = record w.worker { generation = generation }; ending = ending; ended = ended })
aside_too change v w late generation ending ended g = record {
  leads = λ d led r.
      let l = g.leads d led r in
      let now = l.reflects in
      record {
        then = l.then;
        led = l.led;
        goes = l.goes;
        reflects = record {
          node = now.node;
          worker = now.worker;
          posted = now.posted;
          heard = now.heard;
          mark = now.mark;
          below = now.below;
          apart = now.apart;
          jobs = now.jobs;
          seats = now.seats;
          numbers = now.numbers;
          accounted = now.accounted;
        };
        served = l.served;
      };
}

pub late_too : (change : List Served → List Served) (v w : WorkState) (late : ℕ) → Goes change v w → Goes change v (record w { late = late })
late_too change v w late g = aside_too change v w late w.worker.generation w.ending w.ended g

more_too : (change : List Served → List Served) (v w : WorkState) → Goes change v w → Goes change v (record w { worker = with_more w.worker })
more_too change v w g = aside_too change v w w.late (next_generation w.worker.generation) w.ending w.ended g

pub closed_too : (change : List Served → List Served) (v w : WorkState) (worker : NodeHandleState) → workers.MayHaveClosed w.worker worker → Goes change v w
    → Goes change v (record w { worker = worker })
closed_too change v w worker (inl more) g = subst (λ (x : NodeHandleState). Goes change v (record w { worker = x })) (sym more) (more_too change v w g)
closed_too change v w worker (inr same) g = subst (λ (x : NodeHandleState). Goes change v (record w { worker = x })) (sym same) g

-- ---- a batch is handed in
-- what holds of each of these with each of those
for_each : {A B : Type 0} (R : A → B → Type 0) (xs : List A) (ys : List B) → AllByRecursion (λ (y : B). AllByRecursion (λ (x : A). R x y) xs) ys
    → AllByRecursion (λ (x : A). AllByRecursion (λ (y : B). R x y) ys) xs
for_each R [] ys all = tt
for_each R (x ∷ xs) ys all = (
  all_weaker (λ y. AllByRecursion (λ z. R z y) (x ∷ xs)) (R x) (λ y h. h.0) ys all,
  for_each R xs ys (all_weaker (λ y. AllByRecursion (λ z. R z y) (x ∷ xs)) (λ y. AllByRecursion (λ z. R z y) xs) (λ y h. h.1) ys all),
)

abbrev AsksFor : Served → Item → Type 0
AsksFor x job = job.connection ≡ x.connection → Contains (all_asked x) job

-- jobs that were asked for may be posted
may_post : (d : WorkerState) (batch : Batch) → AllByRecursion (IsToPost d.served) (items_of batch.jobs.items)
    → Posts batch d (record d { posted = d.posted ++ batch ∷ [] })
may_post d batch all =
    let items = items_of batch.jobs.items in
    record {
      asked = for_each AsksFor d.served items (all_weaker (IsToPost d.served) (λ job. AllByRecursion (λ x. AsksFor x job) d.served) (λ job t. t.asked) items all);
      known = all_weaker (IsToPost d.served) (λ (job : Item). (x : Served) × Contains d.served x × (x.connection ≡ job.connection))
          (λ job t. (t.known.one, t.known.there, t.known.connection)) items all;
      posted = refl;
    }

both_parts : (served : List Served) (all some left : List Job) → all ≡ some ++ left → AllByRecursion (IsToPost served) (items_of all)
    → AllByRecursion (IsToPost served) (items_of some ++ items_of left)
both_parts served all some left are h =
    subst (AllByRecursion (IsToPost served)) (ap items_of are ∙ map-append Rattle.nr_entry.specs.Jobs.item_of some left) h

-- the numbers of jobs that waited are those of jobs that were posted
numbers_posted : (posted : List Batch) (batch : Batch) (all left : List Job) (c : Connection) (next : ℕ) → all ≡ batch.jobs.items ++ left
    → IsBelow posted (items_of all) c next → IsBelow (posted ++ batch ∷ []) (items_of left) c next
numbers_posted posted batch all left c next are n =
    let P : Item → Type 0 = λ job. job.connection ≡ c → job.number < next in
    let some = items_of batch.jobs.items in
    let parts = subst (AllByRecursion P) (ap items_of are ∙ map-append Rattle.nr_entry.specs.Jobs.item_of batch.jobs.items left) n.waits in
    record {
      posted = All-append (λ (b : Batch). AllByRecursion P (items_of b.jobs.items)) posted (batch ∷ []) n.posted (all_front P some (items_of left) parts, tt);
      waits = all_back P some (items_of left) parts;
    }

-- of the worker as it is behind that
abbrev posting : Batch → NodeHandleState → NodeHandleState
posting batch w = record w { seat = with_posted batch w.seat; next = suc w.next }

posts : (v : WorkState) (batch : Batch) (left : List Job) (waiting : Bool) → v.jobs ≡ batch.jobs.items ++ left
    → length v.worker.seat.lane.posted ≡ length v.worker.seat.lane.collected → (d : WorkerState) → IsLed d → Reflects v d
    → LeadsTo unchanged (record v { worker = posting batch v.worker; jobs = left; returned = 0; waiting = waiting }) d
posts v batch left waiting are answered d led r =
    let e : WorkerState = record d { posted = d.posted ++ batch ∷ [] } in
    let parts = both_parts d.served v.jobs batch.jobs.items left are r.jobs in
    let on = posted_led batch d e led (may_post d batch (all_front (IsToPost d.served) (items_of batch.jobs.items) (items_of left) parts)) in
    record {
      then = e;
      led = on.0;
      goes = on.1;
      reflects = record {
        node = r.node;
        worker = r.worker;
        posted = ap (λ (bs : List Batch). bs ++ batch ∷ []) r.posted;
        heard = r.heard;
        mark = r.mark;
        below = r.below;
        apart = r.apart;
        jobs = all_back (IsToPost d.served) (items_of batch.jobs.items) (items_of left) parts;
        seats = r.seats;
        numbers = λ c s at. numbers_posted v.worker.seat.lane.posted batch v.jobs left c s.session.next are (r.numbers c s at);
        accounted = λ c s at uncut number below.
            accounted_posted v.down v.jobs left v.worker.seat.lane batch c number are answered (r.accounted c s at uncut number below);
      };
      served = refl;
    }

handed_in : (most : ℕ) (v w : WorkState) → HasPosted (take most v.jobs) v.worker w.worker
    → length v.worker.seat.lane.posted ≡ length v.worker.seat.lane.collected
    → w ≡ record v { worker = w.worker; jobs = drop most v.jobs; returned = 0; waiting = true } → Goes unchanged v w
handed_in most v w p answered changed =
    let front : v.jobs ≡ p.batch.jobs.items ++ drop most v.jobs =
    sym (take-append-drop most v.jobs) ∙ ap (λ (xs : List Job). xs ++ drop most v.jobs) (sym p.holds) in
    subst (Goes unchanged v)
    (sym (changed ∙ ap (λ (x : NodeHandleState). record v { worker = x; jobs = drop most v.jobs; returned = 0; waiting = true }) p.posted))
    (record { leads = posts v p.batch (drop most v.jobs) true front answered })

pub goes_by : (most : ℕ) (v u : WorkState) (worker : NodeHandleState) (first back left : List Job) (late : ℕ) → u ≡ v → first ≡ take most u.jobs → back ≡ []
    → left ≡ drop most u.jobs → HasPosted first u.worker worker → length u.worker.seat.lane.posted ≡ length u.worker.seat.lane.collected
    → Goes unchanged v (record u { worker = worker; jobs = back ++ left; returned = length back; waiting = true; late = late })
goes_by most v u worker first back left late same front none behind p answered =
    let w : WorkState = record u { worker = worker; jobs = back ++ left; returned = length back; waiting = true } in
    subst (λ (x : WorkState). Goes unchanged x (record w { late = late })) same
    (late_too unchanged u w late (handed_in most u w (subst (λ (js : List Job). HasPosted js u.worker worker) front p) answered
    (λ i. record u { worker = worker; jobs = none i ++ behind i; returned = length (none i); waiting = true })))

-- ---- the worker takes a batch
pub taken_in : {A B : Type 0} (r : Result A B) (P : Type 0) → IsOk r → OnOk r P → P
taken_in (Ok x) P ok is = is
taken_in (Err x) P ok is = absurd (cc ok)
