-- What a worker at which nothing waits knows of the jobs that were asked for.
use Rattle.std.proofs.Common.{◌≡◌, ℕ, zero, suc, ◌<◌, ◌≤◌, inl, inr, false, List, [], ◌∷◌, ◌++◌, length, Contains, Option, None, Some, refl, ap, sym, ◌∙◌, subst, arith}
use Rattle.std.specs.List.{slice_get}
use Rattle.std.proofs.lemmas.Option.{slice_get_within}
use Rattle.std.proofs.lemmas.List.{length-append}
use Rattle.nr_model.specs.Bytes.{IsBeginningOf}
use Rattle.nr_model.specs.Items.{Item, Sequence}
use Rattle.nr_model.proofs.NodesExecutedLists.{in_middle, some_in}
use Rattle.nr_entry.specs.Jobs.{items_of}
use Rattle.nr_entry.specs.declared.batch.Answer.{Answer}
use Rattle.nr_entry.specs.declared.batch.Batch.{Batch}
use Rattle.nr_entry.specs.declared.batch.Outcome.TheVariants.{Executed}
use Rattle.nr_entry.specs.declared.job.Job.{Job}
use Rattle.nr_log_end.specs.declared.standing.Standing.{Standing}
use Rattle.nr_log_end.specs.Standings.{record_of}
use Rattle.nr_slots.specs.declared.view.CombinerPast.{CombinerPast}
use Rattle.nr_slots.specs.Names.{IsTold}
use Rattle.nr_combiner.specs.Served.{AreExecuted, IsAmong, StandIn}
use Rattle.nr_worker.specs.Worker.{WorkerState, IsLed, IsServedAt, Served, asked_of, history_of}
use Rattle.nr_worker.specs.Resting.{AreAllExecuted, AreExecutedOf, IsDone, WasExecuted}
use Rattle.nr_worker.specs.Working.{IsSeatOf, IsUnderway, Reflects, WorkState}
use Rattle.nr_worker.proofs.Accounted.{answer_at, below_end, same_number}
use Rattle.nr_worker.proofs.Workers.{posted_live}
use Rattle.nr_worker.proofs.Lists.{all_at, posted_at}
use Rattle.nr_worker.proofs.Portioned.{all_of}

told_executed : (v : WorkState) (d : WorkerState) (x : Served) (job : Item) → Reflects v d → IsServedAt d x → x.ends ≡ [] → Contains (asked_of x) job
    → length v.worker.seat.lane.posted ≡ length v.worker.seat.lane.collected → IsUnderway v.worker.seat.lane x.connection job.number
    → WasExecuted v.worker.seat.lane job
told_executed v d x job r k live asked all u =
    let lane = v.worker.seat.lane in
    let long = ap length u.posted ∙ length-append u.before (u.batch ∷ u.after) in
    let answer = answer_at lane.collected (length u.before) (omega (arith, long, all)) u.answered in
    let there : Contains d.posted u.batch =
    subst (λ (bs : List Batch). Contains bs u.batch) (sym (r.posted ∙ u.posted)) (in_middle u.batch u.before u.after) in
    let of = posted_at (λ (j : Item). j.connection ≡ x.connection → Contains (asked_of x) j) d.posted u.batch u.has.job
    (posted_live d x k live) there u.has.there u.has.own in
    let same = same_number 0 (asked_of x) u.has.job job k.counted of asked u.has.numbered in
    record {
      before = u.before;
      batch = u.batch;
      after = u.after;
      posted = u.posted;
      answer = answer.0;
      collected = answer.1;
      executed = answer.2;
      has = subst (Contains (items_of u.batch.jobs.items)) same u.has.there;
    }

-- ---- in the record
-- what stands in the record of a batch that was answered as executed
executed_at : (done : Sequence) (before : List Batch) (batch : Batch) (after : List Batch) (answers : List Answer) (answer : Answer)
    → AreExecuted done (before ++ batch ∷ after) answers → slice_get answers (length before) ≡ Some answer → answer.outcome ≡ Executed
    → StandIn done (items_of batch.jobs.items)
executed_at done [] batch after [] answer all is says = absurd (cc is)
executed_at done [] batch after (a ∷ answers) answer all is says =
    all.0 (ap (λ (o : Option Answer). elim o [ None ↦ a.outcome | Some z ↦ z.outcome ]) is ∙ says)
executed_at done (b ∷ before) batch after [] answer all is says = absurd (cc is)
executed_at done (b ∷ before) batch after (a ∷ answers) answer all is says = executed_at done before batch after answers answer all.1 is says

-- what was collected is what was answered
answered_same : (collected answered : List Answer) (k : ℕ) (answer : Answer) → IsBeginningOf collected answered → slice_get collected k ≡ Some answer
    → slice_get answered k ≡ Some answer
answered_same collected answered k answer begins is =
    subst (λ (xs : List Answer). slice_get xs k ≡ Some answer) begins.1 (front_same collected begins.0 k answer is)
  where
    front_same : (xs ys : List Answer) (k : ℕ) (answer : Answer) → slice_get xs k ≡ Some answer → slice_get (xs ++ ys) k ≡ Some answer
    front_same [] ys k answer is = absurd (cc is)
    front_same (x ∷ xs) ys zero answer is = is
    front_same (x ∷ xs) ys (suc k) answer is = front_same xs ys k answer is

batch_is : (x y : Batch) (xs ys : List Batch) → x ∷ xs ≡ y ∷ ys → x ≡ y
batch_is x y xs ys is = ap (λ (l : List Batch). elim l [ [] ↦ x | z ∷ zs ↦ z ]) is

batches_are : (x y : Batch) (xs ys : List Batch) → x ∷ xs ≡ y ∷ ys → xs ≡ ys
batches_are x y xs ys is = ap (λ (l : List Batch). elim l [ [] ↦ xs | z ∷ zs ↦ zs ]) is

-- the batch at a place of a beginning
lifted_at : (lifted : List Batch) (before : List Batch) (batch : Batch) (after : List Batch) → IsBeginningOf lifted (before ++ batch ∷ after) → length before < length lifted
    → (rest : List Batch) × (lifted ≡ before ++ batch ∷ rest)
lifted_at [] before batch after begins within = absurd (omega (arith, within))
lifted_at (x ∷ lifted) [] batch after (more, is) within = (lifted, ap (λ (b : Batch). b ∷ lifted) (batch_is x batch (lifted ++ more) after is))
lifted_at (x ∷ lifted) (b ∷ before) batch after (more, is) within =
    let on = lifted_at lifted before batch after (more, batches_are x b (lifted ++ more) (before ++ batch ∷ after) is) (omega (arith, within)) in
    (on.0, λ i. batch_is x b (lifted ++ more) (before ++ batch ∷ after) is i ∷ on.1 i)

in_record : (v : WorkState) (d : WorkerState) (job : Item) → IsLed d → Reflects v d → IsTold v.worker.seat.noted v.worker.seat.lane
    → length v.worker.seat.noted.answered ≤ length v.worker.seat.noted.lifted
    → length v.worker.seat.lane.collected ≤ length v.worker.seat.noted.answered → WasExecuted v.worker.seat.lane job
    → IsAmong job (record_of (history_of v.mark))
in_record v d job led r told few all w =
    let lane = v.worker.seat.lane in
    let noted = v.worker.seat.noted in
    let answered = answered_same lane.collected noted.answered (length w.before) w.answer (told.2 all) w.collected in
    let within = slice_get_within noted.answered (length w.before) w.answer answered in
    let lifted = lifted_at noted.lifted w.before w.batch w.after (subst (IsBeginningOf noted.lifted) w.posted told.0) (omega (arith, within, few)) in
    let done = record_of (history_of v.mark) in
    let executed : AreExecuted done (w.before ++ w.batch ∷ lifted.0) noted.answered =
    subst (λ (bs : List Batch). AreExecuted done bs noted.answered) lifted.1
    (subst (λ (m : Option Standing). AreExecuted (record_of (history_of m)) noted.lifted noted.answered) r.mark
    (subst (λ (b : CombinerPast). AreExecuted (record_of (history_of d.mark)) b.lifted b.answered) r.heard led.executed)) in
    all_at (λ (j : Item). IsAmong j done) (items_of w.batch.jobs.items) job (executed_at done w.before w.batch lifted.0 noted.answered w.answer executed answered w.executed) w.has

told_each : (v : WorkState) (d : WorkerState) (x : Served) → IsLed d → Reflects v d → IsServedAt d x → Contains d.served x → v.jobs ≡ []
    → length v.worker.seat.lane.posted ≡ length v.worker.seat.lane.collected → IsTold v.worker.seat.noted v.worker.seat.lane
    → length v.worker.seat.noted.answered ≤ length v.worker.seat.noted.lifted
    → length v.worker.seat.lane.collected ≤ length v.worker.seat.noted.answered → v.down ≡ false → AreExecutedOf v x
told_each v d x led r k within none all told few answered up s at uncut =
    let lane = v.worker.seat.lane in
    let seat = all_at (λ (y : Served). y.connection ≡ x.connection → IsSeatOf s y) d.served x (r.seats x.connection s at).seat within refl in
    all_of (IsDone lane (record_of (history_of v.mark))) (asked_of x)
    (λ job asked.
    let long = seat.counted uncut in
    let end = below_end 0 (asked_of x) job k.counted asked in
    elim (r.accounted x.connection s at uncut job.number (omega (arith, long, end))) [
      | inl down ↦ absurd (cc (sym down ∙ up))
      | inr (inl waits) ↦ absurd (some_in [] waits.job refl (subst (λ (js : List Job). Contains (items_of js) waits.job) none waits.there))
      | inr (inr underway) ↦
          let was = told_executed v d x job r k seat.live asked all underway in
          record { told = was; there = in_record v d job led r told few answered was }
    ])

-- Where none waits, each batch's answer was collected and had been given as the worker heard last, and the node isn't known to be down, all that was asked for was told as
-- executed, and stands in the mark's record.
pub rested : (v : WorkState) (d : WorkerState) → IsLed d → Reflects v d → v.jobs ≡ [] → length v.worker.seat.lane.posted ≡ length v.worker.seat.lane.collected
    → IsTold v.worker.seat.noted v.worker.seat.lane → length v.worker.seat.noted.answered ≤ length v.worker.seat.noted.lifted
    → length v.worker.seat.lane.posted ≤ length v.worker.seat.noted.answered → v.down ≡ false → AreAllExecuted v d.served
rested v d led r none all told few answered up =
    all_of (AreExecutedOf v) d.served
    (λ x within.
    told_each v d x led r (all_at (IsServedAt d) d.served x led.each within) within none all told few (omega (arith, all, answered)) up)
