-- A batch was lifted and taken in, or handed back, or answered.
use Rattle.std.proofs.Common.{◌≡◌, ℕ, ◌+◌, ◌<◌, inl, inr, true, false, List, [], ◌∷◌, ◌++◌, length, length-set, Option, Some, None, refl, ap, sym, ◌∙◌, subst, arith, get_or, set, get_or-set_same, get_or-set_other}
use Rattle.std.specs.List.{AllByRecursion}
use Rattle.std.proofs.lemmas.Bool.Decides.{eqb_tells}
use Rattle.std.proofs.lemmas.List.{length-append, set-get_or}
use lib.Seq.{set-set}
use Rattle.nr_model.specs.Items.{Item, Sequence}
use Rattle.nr_model.specs.Entries.{Jobs}
use Rattle.nr_model.proofs.NodesExecutedGrows.{begins_itself}
use Rattle.nr_entry.specs.Jobs.{items_of}
use Rattle.nr_entry.specs.declared.batch.Batch.{Batch}
use Rattle.nr_entry.specs.declared.batch.Answer.{Answer}
use Rattle.nr_entry.specs.declared.batch.Outcome.{Outcome}
use Rattle.nr_entry.specs.declared.batch.Outcome.TheVariants.{Executed, Refused, Down}
use Rattle.nr_entry.specs.declared.job.Job.{Job}
use Rattle.nr_log_end.specs.Standings.{record_of}
use Rattle.nr_job_numbers.specs.Stored.{takes_all}
use Rattle.nr_replica.specs.Members.{jobs_of_worker}
use Rattle.nr_slots.specs.declared.view.CombinerPast.{CombinerPast}
use Rattle.nr_slots.specs.Seats.{CombinerView, desk_of, with_lifted, with_answered}
use Rattle.nr_slots.specs.Rule.{no_desk}
use Rattle.nr_slots.specs.Names.{IsBackOf, IsForLast}
use Rattle.nr_node.specs.Level.{NodeState}
use Rattle.nr_node.specs.Owing.{IsServedBy, unexecuted}
use Rattle.nr_node.specs.Steps.{taken_node}
use Rattle.nr_combiner.specs.Served.{owed_at, IsAmong, IsOfWorker, IsTakenOf, HoldsBatch, IsDesk, StandIn, AreExecuted, IsNoRefusal, IsLifted, IsOwnOfBatch, AllJobs, IsServed}
use Rattle.nr_combiner.proofs.Among.{all_among, among_done, newly_there, taken_keeps}
use Rattle.nr_combiner.proofs.Deeds.{same_jobs, jobs_weaker, of_lifted, answered_lifted, back_lifted, taken_jobs}
use Rattle.nr_combiner.proofs.Grows.{Grows, still_itself, desk_still, all_still, own_still}
use Rattle.nr_combiner.proofs.CombinerPasts.{all_of_node, executed_more, executed_front, executed_answered}

-- at one worker's desk another one lies, and the numbers and what is owed are changed there alone
pub at_desk : (n m : NodeState) (seat : CombinerView) (numbers : List ℕ) (worker number : ℕ) (desk : CombinerPast) (owed : Option ℕ) (v : CombinerView)
    → worker < length n.replica.owed → Grows n m → m.replica.owed ≡ set n.replica.owed worker owed → v.desks ≡ set seat.desks worker desk
    → record_of m.seat.standing.history ≡ record_of n.seat.standing.history
    → IsDesk m worker number desk owed → AreExecuted (record_of n.seat.standing.history) desk.lifted desk.answered → AllJobs (IsOwnOfBatch m v.desks) m
    → IsServed n seat numbers → IsServed m v (set numbers worker number)
at_desk n m seat numbers worker number desk owed v near grows owed_is desks_is same here executed jobs s =
    let near' : worker < length seat.desks = subst (λ k. worker < k) (sym s.workers) near in
    let near'' : worker < length numbers = subst (λ k. worker < k) (sym s.numbered) near in
    record {
      workers = ap length desks_is ∙ length-set seat.desks worker desk ∙ s.workers ∙ sym grows.workers;
      numbered = length-set numbers worker number ∙ s.numbered ∙ sym grows.workers;
      desks = λ w w_near. elim (eqb_tells w worker) [
        | inl e ↦ subst (λ k. IsDesk m k (get_or (set numbers worker number) k 0) (desk_of v k) (owed_at k m)) (sym e.1)
            (subst (λ (x : ℕ × (CombinerPast × Option ℕ)). IsDesk m worker x.0 x.1.0 x.1.1)
            (λ i. (
              sym (get_or-set_same numbers worker number 0 near'') i,
              (
                sym (ap (λ (ds : List CombinerPast). get_or ds worker no_desk) desks_is ∙ get_or-set_same seat.desks worker desk no_desk near') i,
                sym (ap (λ (os : List (Option ℕ)). get_or os worker None) owed_is ∙ get_or-set_same n.replica.owed worker owed None near) i,
              ),
            ))
            here)
        | inr e ↦ subst (λ (x : ℕ × (CombinerPast × Option ℕ)). IsDesk m w x.0 x.1.0 x.1.1)
            (λ i. (
              sym (get_or-set_other numbers worker w number 0 e.1) i,
              (
                sym (ap (λ (ds : List CombinerPast). get_or ds w no_desk) desks_is ∙ get_or-set_other seat.desks worker w desk no_desk e.1) i,
                sym (ap (λ (os : List (Option ℕ)). get_or os w None) owed_is ∙ get_or-set_other n.replica.owed worker w owed None e.1) i,
              ),
            ))
            (desk_still n m grows w (get_or numbers w 0) (desk_of seat w) (owed_at w n) (owed_at w n) (still_itself (owed_at w n))
            (s.desks w (subst (λ k. w < k) grows.workers w_near)))
      ];
      executed = λ w w_near. subst (λ (r : Sequence). AreExecuted r (desk_of v w).lifted (desk_of v w).answered) (sym same) (elim (eqb_tells w worker) [
        | inl e ↦ subst (λ k. AreExecuted (record_of n.seat.standing.history) (desk_of v k).lifted (desk_of v k).answered) (sym e.1)
            (subst (λ (d : CombinerPast). AreExecuted (record_of n.seat.standing.history) d.lifted d.answered)
            (sym (ap (λ (ds : List CombinerPast). get_or ds worker no_desk) desks_is ∙ get_or-set_same seat.desks worker desk no_desk near')) executed)
        | inr e ↦ subst (λ (d : CombinerPast). AreExecuted (record_of n.seat.standing.history) d.lifted d.answered)
            (sym (ap (λ (ds : List CombinerPast). get_or ds w no_desk) desks_is ∙ get_or-set_other seat.desks worker w desk no_desk e.1))
            (s.executed w (subst (λ k. w < k) grows.workers w_near))
      ]);
      handed_in = jobs;
    }

-- the jobs of a batch that is taken in are there
each_taken : (n : NodeState) (batch : Batch) (jobs : Jobs) → AllByRecursion (λ (job : Item). job.connection.node ≡ n.book.node) jobs
    → AllByRecursion (IsServedBy batch.worker n.replica.members) jobs → AllByRecursion (λ (job : Item). IsAmong job (items_of batch.jobs.items)) jobs
    → AllByRecursion (IsTakenOf (taken_node batch n) batch.worker) jobs
each_taken n batch [] own served there = tt
each_taken n batch (job ∷ jobs) own served there = (
  record { own = record { node = own.0; served = served.0 }; has = λ _. newly_there n batch job there.0 },
  each_taken n batch jobs own.1 served.1 there.1,
)

each_own : (n : NodeState) (worker : ℕ) (jobs : Jobs) → AllByRecursion (IsTakenOf n worker) jobs → AllByRecursion (IsOfWorker n worker) jobs
each_own n worker jobs all = all_still (λ (job : Item). λ (t : IsTakenOf n worker job). t.own) jobs all

taken_grows : (n : NodeState) (batch : Batch) → Grows n (taken_node batch n)
taken_grows n batch = record {
  node = refl;
  workers = length-set n.replica.owed batch.worker (Some (length batch.jobs.items));
  members = λ c near. (near, refl);
  keeps = taken_keeps n batch;
  log = begins_itself (record_of n.seat.standing.history);
}

pub taken_served : (n : NodeState) (seat : CombinerView) (numbers : List ℕ) (batch : Batch) → batch.worker < length n.replica.owed → owed_at batch.worker n ≡ None
    → batch.node ≡ n.book.node → takes_all n.book.node batch.worker n.book.held (items_of batch.jobs.items) ≡ true
    → AllByRecursion (IsServedBy batch.worker n.replica.members) (items_of batch.jobs.items)
    → IsServed n seat numbers → IsServed (taken_node batch n) (with_lifted batch.worker batch seat) (set numbers batch.worker batch.number)
taken_served n seat numbers batch near idle node all served s =
    let worker = batch.worker in
    let old = desk_of seat worker in
    let m = taken_node batch n in
    let even : length old.lifted ≡ length old.answered = subst (IsDesk n worker (get_or numbers worker 0) old) idle (s.desks worker near) in
    let near' : worker < length seat.desks = subst (λ k. worker < k) (sym s.workers) near in
    let items = items_of batch.jobs.items in
    let jobs : AllByRecursion (IsTakenOf m worker) items =
    each_taken n batch items (all_of_node n.book.node worker n.book.held items all) served (all_among [] items) in
    at_desk n m seat numbers worker batch.number record { lifted = old.lifted ++ batch ∷ []; answered = old.answered; grip = old.grip } (Some (length batch.jobs.items))
    (with_lifted worker batch seat) near (taken_grows n batch) refl refl refl
    record {
      before = old.lifted;
      batch = batch;
      lifted = refl;
      answered = sym even;
      named = (node, refl, refl);
      jobs = jobs;
    }
    (executed_more (record_of n.seat.standing.history) old.lifted batch old.answered (omega (arith, even)) (s.executed worker near))
    (taken_jobs n seat batch near' even (each_own m worker items jobs) s.handed_in) s

-- the node stays, and nothing is owed by it for another reason
grows_itself : (n : NodeState) → Grows n n
grows_itself n = record {
  node = refl;
  workers = refl;
  members = λ c near. (near, refl);
  keeps = λ up. (up, λ job a. a);
  log = begins_itself (record_of n.seat.standing.history);
}

-- one that was lifted is answered at once, and wasn't executed
pub back_served : (n : NodeState) (seat : CombinerView) (numbers : List ℕ) (worker : ℕ) (batch : Batch) (answer : Answer) → worker < length n.replica.owed
    → owed_at worker n ≡ None → (answer.outcome ≡ Executed → ⊥) → IsServed n seat numbers
    → IsServed n (with_answered worker answer (with_lifted worker batch seat)) numbers
back_served n seat numbers worker batch answer near idle other s =
    let old = desk_of seat worker in
    let near' : worker < length seat.desks = subst (λ k. worker < k) (sym s.workers) near in
    let even : length old.lifted ≡ length old.answered = subst (IsDesk n worker (get_or numbers worker 0) old) idle (s.desks worker near) in
    let mid : CombinerPast = record { lifted = old.lifted ++ batch ∷ []; answered = old.answered; grip = old.grip } in
    let desk : CombinerPast = record { lifted = old.lifted ++ batch ∷ []; answered = old.answered ++ answer ∷ []; grip = old.grip } in
    let v = with_answered worker answer (with_lifted worker batch seat) in
    let there : desk_of (with_lifted worker batch seat) worker ≡ mid = get_or-set_same seat.desks worker mid no_desk near' in
    let desks_is : v.desks ≡ set seat.desks worker desk =
    ap (λ (d : CombinerPast). set (set seat.desks worker mid) worker record { lifted = d.lifted; answered = d.answered ++ answer ∷ []; grip = d.grip }) there
    ∙ set-set seat.desks worker mid desk in
    subst (λ (ns : List ℕ). IsServed n v ns) (set-get_or numbers worker 0)
    (at_desk n n seat numbers worker (get_or numbers worker 0) desk None v near (grows_itself n)
    (sym (ap (set n.replica.owed worker) (sym idle) ∙ set-get_or n.replica.owed worker None)) desks_is refl
    (length-append old.lifted (batch ∷ []) ∙ ap (λ k. k + 1) even ∙ sym (length-append old.answered (answer ∷ [])))
    (executed_answered (record_of n.seat.standing.history) old.lifted batch old.answered answer (sym even) (λ e. absurd (other e)) (s.executed worker near))
    (jobs_weaker (IsOwnOfBatch n seat.desks) (IsOwnOfBatch n v.desks)
    (of_lifted n n seat.desks v.desks (λ w job own. own) refl
    (λ w b is. subst (λ (ds : List CombinerPast). IsLifted ds w b) (sym desks_is) (back_lifted seat worker batch answer near' even w b is))) n s.handed_in) s)

-- nothing comes back of one that isn't refused
none_back : (o : Outcome) (jobs : List Job) → IsNoRefusal o → IsBackOf o jobs
none_back Executed jobs none = tt
none_back Down jobs none = tt
none_back (Refused why back) jobs none = absurd none

-- the answer is for the batch that the desk holds
pub is_last : (n : NodeState) (worker number : ℕ) (desk : CombinerPast) (answer : Answer) → HoldsBatch n worker number desk
    → answer.node ≡ n.book.node → answer.worker ≡ worker → answer.batch ≡ number → IsNoRefusal answer.outcome
    → IsForLast answer desk.lifted desk.answered
is_last n worker number desk answer h node named batch none = (
  h.before,
  h.batch,
  h.lifted,
  h.answered,
  (node ∙ sym h.named.0, named ∙ sym h.named.1, batch ∙ sym h.named.2, none_back answer.outcome h.batch.jobs.items none),
)

-- something is owed where a desk holds a batch
pub holds_some : (n : NodeState) (seat : CombinerView) (numbers : List ℕ) (worker owed : ℕ) → worker < length n.replica.owed → owed_at worker n ≡ Some owed
    → IsServed n seat numbers → HoldsBatch n worker (get_or numbers worker 0) (desk_of seat worker)
holds_some n seat numbers worker owed near is s = subst (IsDesk n worker (get_or numbers worker 0) (desk_of seat worker)) is (s.desks worker near)

-- all jobs that were taken from a worker's connections are in the record, where none of them is left
pub stand_all : (n : NodeState) (worker : ℕ) (jobs : List Item) → n.replica.down ≡ false
    → jobs_of_worker worker n.replica.members (unexecuted n.seat.standing n.next n.replica.waiting) ≡ [] → AllByRecursion (IsTakenOf n worker) jobs
    → StandIn (record_of n.seat.standing.history) jobs
stand_all n worker jobs up none all =
    all_still (λ (job : Item). λ (t : IsTakenOf n worker job). among_done n worker job none t.own.served.1 (t.has up)) jobs all

-- it is answered
pub answered_served : (n m : NodeState) (seat : CombinerView) (numbers : List ℕ) (worker owed : ℕ) (answer : Answer) → worker < length n.replica.owed
    → owed_at worker n ≡ Some owed → IsNoRefusal answer.outcome → m ≡ record n { replica = record n.replica { owed = set n.replica.owed worker None } }
    → (answer.outcome ≡ Executed
    → (n.replica.down ≡ false) × (jobs_of_worker worker n.replica.members (unexecuted n.seat.standing n.next n.replica.waiting) ≡ []))
    → IsServed n seat numbers → IsServed m (with_answered worker answer seat) numbers
answered_served n m seat numbers worker owed answer near is told m_is done s =
    let r = record_of n.seat.standing.history in
    let old = desk_of seat worker in
    let h = holds_some n seat numbers worker owed near is s in
    let desk : CombinerPast = record { lifted = old.lifted; answered = old.answered ++ answer ∷ []; grip = old.grip } in
    let v = with_answered worker answer seat in
    let all : AreExecuted r (h.before ++ h.batch ∷ []) old.answered = subst (λ (bs : List Batch). AreExecuted r bs old.answered) h.lifted (s.executed worker near) in
    let now : AreExecuted r old.lifted (old.answered ++ answer ∷ []) =
    subst (λ (bs : List Batch). AreExecuted r bs (old.answered ++ answer ∷ [])) (sym h.lifted)
    (executed_answered r h.before h.batch old.answered answer h.answered (λ e. stand_all n worker (items_of h.batch.jobs.items) (done e).0 (done e).1 h.jobs)
    (executed_front r h.before h.batch old.answered (omega (arith, h.answered)) all)) in
    let even : length old.lifted ≡ length (old.answered ++ answer ∷ []) =
    ap length h.lifted ∙ length-append h.before (h.batch ∷ []) ∙ ap (λ k. k + 1) (sym h.answered) ∙ sym (length-append old.answered (answer ∷ [])) in
    let near' : worker < length seat.desks = subst (λ k. worker < k) (sym s.workers) near in
    let grows : Grows n m = subst (Grows n) (sym m_is) record {
      node = refl;
      workers = length-set n.replica.owed worker None;
      members = λ c near. (near, refl);
      keeps = λ up. (up, λ job a. a);
      log = begins_itself r;
    } in
    subst (λ (ns : List ℕ). IsServed m v ns) (set-get_or numbers worker 0)
    (at_desk n m seat numbers worker (get_or numbers worker 0) desk None v near grows (ap (λ (x : NodeState). x.replica.owed) m_is) refl
    (ap (λ (x : NodeState). record_of x.seat.standing.history) m_is) even now
    (jobs_weaker (IsOwnOfBatch n seat.desks) (IsOwnOfBatch m v.desks)
    (of_lifted n m seat.desks v.desks (own_still n m grows) (sym grows.node) (answered_lifted seat worker answer near' told)) m
    (same_jobs (IsOwnOfBatch n seat.desks) n m (ap (λ (x : NodeState). x.seat.standing) m_is) (ap (λ (x : NodeState). x.next) m_is)
    (ap (λ (x : NodeState). x.replica.waiting) m_is) s.handed_in)) s)
