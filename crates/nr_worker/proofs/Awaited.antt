-- The code's worker stands for the same worker of the law once its batch was answered.
use Rattle.std.proofs.Common.{◌<◌, ◌≡◌, ℕ, Bool, true, false, cond, List, [], ◌∷◌, ◌++◌, length, Contains, refl, ap, sym, ◌∙◌, subst}
use Rattle.std.specs.Prelude.{nat_le}
use Rattle.std.specs.List.{AllByRecursion}
use Rattle.std.proofs.lemmas.List.{map-append}
use Rattle.nr_model.specs.Items.{Connection, Item}
use Rattle.nr_model.proofs.JobLists.{All-append}
use Rattle.nr_model.proofs.NodesExecutedLists.{in_middle}
use Rattle.nr_entry.specs.Jobs.{item_of, items_of}
use Rattle.nr_entry.specs.declared.batch.Batch.{Batch}
use Rattle.nr_entry.specs.declared.batch.Outcome.{Outcome}
use Rattle.nr_entry.specs.declared.batch.Outcome.TheVariants as outcomes
use Rattle.nr_entry.specs.declared.job.Job.{Job}
use Rattle.nr_slots.specs.Names.{IsBackOf}
use Rattle.nr_combiner.specs.Workers.{HasCollected, NodeHandleState}
use Rattle.nr_entry.specs.declared.entry.TheConstants.{MOST_JOBS}
use Rattle.nr_worker.specs.Portions.{EachSeat}
use Rattle.nr_worker.specs.Worker.{AllPosted, WorkerState, IsAskedBy, IsLed, IsServedAt, Served, all_asked}
use Rattle.nr_worker.specs.Settling.{AreOfBatches, IsOfBatch, back_of, down_of, late_of, left_of, settled_work}
use Rattle.nr_worker.specs.Working.{AreAccountedFor, Goes, IsAccountedFor, IsBelow, IsSeated, IsToPost, WorkState, unchanged}
use Rattle.nr_worker.proofs.Accounted.{accounted_settled}
use Rattle.nr_worker.proofs.Batched.{goes_nowhere, late_too}
use Rattle.nr_worker.proofs.Workers.{posted_any}
use Rattle.nr_worker.proofs.Lists.{all_weaker, posted_at}
use Rattle.nr_worker.proofs.Portioned.{all_of}

-- a job that was posted may be posted again
to_post_again : (d : WorkerState) → IsLed d → (job : Item) → IsOfBatch d.posted job → IsToPost d.served job
to_post_again d led job of =
    let by = posted_at (IsAskedBy d.served) d.posted of.batch job led.known of.there of.has in
    record {
      known = record { one = by.one; there = by.there; connection = by.connection };
      asked = all_weaker (IsServedAt d) (λ (x : Served). job.connection ≡ x.connection → Contains (all_asked x) job)
          (λ x at same.
          posted_at (λ (j : Item). j.connection ≡ x.connection → Contains (all_asked x) j) d.posted of.batch job (posted_any d x at) of.there
          of.has same) d.served led.each;
    }

goes_settled : (v : WorkState) (worker : NodeHandleState) (back left : List Job) (down : Bool) → worker.node ≡ v.worker.node
    → worker.seat.worker ≡ v.worker.seat.worker → worker.seat.lane.posted ≡ v.worker.seat.lane.posted → worker.seat.noted ≡ v.worker.seat.noted
    → ((P : Item → Type 0) → AllByRecursion P (items_of v.jobs) → AllByRecursion P (items_of left)) → AreOfBatches v.worker.seat.lane.posted back
    → ((c : Connection) (n : ℕ) → IsAccountedFor v.down (items_of v.jobs) v.worker.seat.lane c n → IsAccountedFor down (items_of (back ++ left)) worker.seat.lane c n)
    → Goes unchanged v (record v { worker = worker; jobs = back ++ left; returned = length back; waiting = false; down = down })
goes_settled v worker back left down node number posted noted keeps of accounted = record {
  leads = λ d led r. record {
    then = d;
    led = led;
    goes = goes_nowhere d;
    reflects = record {
      node = r.node ∙ sym node;
      worker = r.worker ∙ sym number;
      posted = r.posted ∙ sym posted;
      heard = r.heard ∙ sym noted;
      mark = r.mark;
      below = r.below;
      apart = r.apart;
      jobs = subst (AllByRecursion (IsToPost d.served)) (sym (map-append item_of back left))
          (All-append (IsToPost d.served) (items_of back) (items_of left)
          (all_weaker (IsOfBatch v.worker.seat.lane.posted) (IsToPost d.served)
          (λ job h. to_post_again d led job (subst (λ (bs : List Batch). IsOfBatch bs job) (sym r.posted) h)) (items_of back) of)
          (keeps (IsToPost d.served) r.jobs));
      seats = subst (λ (n : ℕ). EachSeat (IsSeated d.served) n v.seats) (sym node) r.seats;
      numbers = subst (λ (n : ℕ). EachSeat (λ c s. IsBelow worker.seat.lane.posted (items_of (back ++ left)) c s.session.next) n v.seats) (sym node)
          (λ c s at.
          let old = r.numbers c s at in
          let P : Item → Type 0 = λ job. job.connection ≡ c → job.number < s.session.next in
          record {
            posted = subst (λ (bs : List Batch). AllPosted P bs) (sym posted) old.posted;
            waits = subst (AllByRecursion P) (sym (map-append item_of back left))
                (All-append P (items_of back) (items_of left)
                (all_weaker (IsOfBatch v.worker.seat.lane.posted) P (λ job h. posted_at P v.worker.seat.lane.posted h.batch job old.posted h.there h.has) (items_of back) of)
                (keeps P old.waits));
          });
      accounted = subst (λ (n : ℕ). EachSeat (AreAccountedFor down (items_of (back ++ left)) worker.seat.lane) n v.seats) (sym node)
          (λ c s at uncut number under. accounted c number (r.accounted c s at uncut number under));
    };
    served = refl;
  };
}

left_keeps : (most : ℕ) (outcome : Outcome) (jobs : List Job) (P : Item → Type 0) → AllByRecursion P (items_of jobs)
    → AllByRecursion P (items_of (left_of most outcome jobs))
left_keeps most outcomes.Executed jobs P all = all
left_keeps most outcomes.Down jobs P all = tt
left_keeps most (outcomes.Refused why back) jobs P all =
    elim (nat_le (length back.items) most) as (λ b. AllByRecursion P (items_of (cond b jobs []))) [ true ↦ all | false ↦ tt ]

-- jobs that come back are of the batch that was posted last
are_of_batch : (posted : List Batch) (batch : Batch) (jobs : List Job) → Contains posted batch → jobs ≡ batch.jobs.items → AreOfBatches posted jobs
are_of_batch posted batch jobs there same =
    all_of (IsOfBatch posted) (items_of jobs)
    (λ job has. record { batch = batch; there = there; has = subst (λ (js : List Job). Contains (items_of js) job) same has })

back_batched : (most : ℕ) (outcome : Outcome) (posted : List Batch) (batch : Batch) → Contains posted batch → IsBackOf outcome batch.jobs.items
    → AreOfBatches posted (back_of most outcome)
back_batched most outcomes.Executed posted batch there same = tt
back_batched most outcomes.Down posted batch there same = tt
back_batched most (outcomes.Refused why back) posted batch there same =
    elim (nat_le (length back.items) most) as (λ b. AreOfBatches posted (cond b back.items [])) [ true ↦ are_of_batch posted batch back.items there same | false ↦ tt ]

pub collected_goes : (outcome : Outcome) (v : WorkState) (worker : NodeHandleState) → HasCollected outcome v.worker worker
    → Goes unchanged v (settled_work outcome worker v)
collected_goes outcome v worker c =
    let back = back_of MOST_JOBS outcome in
    let left = left_of MOST_JOBS outcome v.jobs in
    let posted = v.worker.seat.lane.posted in
    let there : Contains posted c.last.1 = subst (λ (bs : List Batch). Contains bs c.last.1) (sym c.last.2) (in_middle c.last.1 c.last.0 []) in
    late_too unchanged v (record v { worker = worker; jobs = back ++ left; returned = length back; waiting = false; down = down_of MOST_JOBS outcome v.down })
    (late_of MOST_JOBS outcome v.late)
    (goes_settled v worker back left (down_of MOST_JOBS outcome v.down) (ap (λ (w : NodeHandleState). w.node) c.collected)
    (ap (λ (w : NodeHandleState). w.seat.worker) c.collected) (ap (λ (w : NodeHandleState). w.seat.lane.posted) c.collected)
    (ap (λ (w : NodeHandleState). w.seat.noted) c.collected) (left_keeps MOST_JOBS outcome v.jobs)
    (back_batched MOST_JOBS outcome posted c.last.1 there (subst (λ (o : Outcome). IsBackOf o c.last.1.jobs.items) c.says c.last.4.3))
    (λ e n.
    accounted_settled v.worker.seat.lane worker.seat.lane c.answer c.last (ap (λ (w : NodeHandleState). w.seat.lane.posted) c.collected)
    (ap (λ (w : NodeHandleState). w.seat.lane.collected) c.collected) e n MOST_JOBS outcome v.down v.jobs c.says))

pub none_left : {A : Type 0} (xs : List A) → length xs ≡ 0 → xs ≡ []
none_left [] none = refl
none_left (x ∷ xs) none = absurd (cc none)

pub settled_by : (v u : WorkState) (outcome : Outcome) (worker : NodeHandleState) (returned jobs back left : List Job) (down : Bool) (late : ℕ) → u ≡ v
    → u.jobs ≡ returned ++ jobs → length returned ≡ 0 → HasCollected outcome u.worker worker → back ≡ back_of MOST_JOBS outcome
    → left ≡ left_of MOST_JOBS outcome jobs → down ≡ down_of MOST_JOBS outcome u.down
    → late ≡ late_of MOST_JOBS outcome u.late
    → Goes unchanged v (record u { worker = worker; jobs = back ++ left; returned = length back; waiting = false; down = down; late = late })
settled_by v u outcome worker returned jobs back left down late same are none c back_is left_is down_is late_is =
    let w : WorkState = record u { worker = worker; jobs = back ++ left; returned = length back; waiting = false; down = down; late = late } in
    let all : u.jobs ≡ jobs = are ∙ ap (λ (r : List Job). r ++ jobs) (none_left returned none) in
    let left_now : left ≡ left_of MOST_JOBS outcome u.jobs = left_is ∙ ap (left_of MOST_JOBS outcome) (sym all) in
    let is : w ≡ settled_work outcome worker u =
    λ i. record u { worker = worker; jobs = back_is i ++ left_now i; returned = length (back_is i); waiting = false; down = down_is i; late = late_is i } in
    subst (λ (x : WorkState). Goes unchanged x w) same (subst (Goes unchanged u) (sym is) (collected_goes outcome u worker c))
