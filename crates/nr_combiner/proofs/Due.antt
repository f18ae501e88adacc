-- A batch that was lifted is due or refused: the combiner keeps what it kept.
use Rattle.std.proofs.Common.{◌≡◌, ℕ, zero, suc, ◌+◌, ◌<◌, inl, inr, Bool, true, false, cond, not, eqb, ltb, List, [], ◌∷◌, ◌++◌, length, Option, Some, None, refl, ap, sym, ◌∙◌, subst, arith, get_or, set, get_or-set_same}
use Rattle.std.specs.Prelude.{◌||◌}
use Rattle.std.specs.List.{AllByRecursion, list_any}
use Rattle.std.proofs.lemmas.Bool.{eqb-true}
use Rattle.std.proofs.lemmas.List.{length-append}
use Rattle.nr_entry.specs.Jobs.{item_of, items_of}
use Rattle.nr_entry.specs.declared.batch.Batch.{Batch}
use Rattle.nr_entry.specs.declared.batch.Answer.{Answer}
use Rattle.nr_entry.specs.declared.batch.Outcome.{Outcome}
use Rattle.nr_entry.specs.declared.batch.Outcome.TheVariants.{Executed, Refused, Down}
use Rattle.nr_entry.specs.declared.batch.Refusal.{Refusal}
use Rattle.nr_entry.specs.declared.batch.Refusal.TheVariants.{Stranger, WrongNumber}
use Rattle.nr_entry.specs.declared.job.Job.{Job}
use Rattle.nr_job_numbers.specs.Book.{refusal_of, is_in_order}
use Rattle.nr_job_numbers.specs.Stored.{has_stranger}
use Rattle.nr_job_numbers.proofs.Batches.{all_of_due}
use Rattle.nr_slots.specs.declared.view.CombinerPast.{CombinerPast}
use Rattle.nr_slots.specs.Names.{IsBackOf, IsUnanswered, IsForLast, Names}
use Rattle.nr_slots.specs.Rule.{no_desk}
use Rattle.nr_slots.specs.Seats.{CombinerView, FoundNone, desk_of, with_lifted, with_answered}
use Rattle.nr_node.specs.Batches.{AreSame, refusal, refused_by}
use Rattle.nr_node.specs.Level.{NodeState}
use Rattle.nr_node.specs.Steps.{taken_node}
use Rattle.nr_node.specs.declared.answers.TakeError.{TakeError}
use Rattle.nr_node.specs.declared.answers.TakeError.TheVariants as errors
use Rattle.nr_combiner.specs.Served.{CombinerState, owed_at, IsDesk, IsNoRefusal, IsServed}
use Rattle.nr_combiner.specs.Steps.{has_lost, is_lost, refusal_at, IsRefusedFor, IsOutcomeOf, HandsBack}
use Rattle.nr_node.specs.Owing.{answer_by, answer_of, answered_node, IsServedBy, HasAllExecuted}
use Rattle.nr_combiner.proofs.Lifted.{taken_served, back_served, is_last, holds_some, answered_served}

-- a worker of the seat is one of the node
pub near_of : (n : NodeState) (seat : CombinerView) (numbers : List ℕ) (worker : ℕ) → worker < length seat.desks → IsServed n seat numbers → worker < length n.replica.owed
near_of n seat numbers worker near s = subst (λ (k : ℕ). worker < k) s.workers near

-- nothing is owed where all batches are answered
none_by : (n : NodeState) (worker number : ℕ) (desk : CombinerPast) (o : Option ℕ) → IsDesk n worker number desk o → length desk.lifted ≡ length desk.answered → o ≡ None
none_by n worker number desk None d even = refl
none_by n worker number desk (Some owed) d even =
    let long : length desk.lifted ≡ length d.before + 1 = ap length d.lifted ∙ length-append d.before (d.batch ∷ []) in
    let short : length desk.answered ≡ length d.before = d.answered in
    absurd (omega (arith, long, short, even))

-- nothing is owed where a batch was lifted
pub idle_at : (n : NodeState) (seat after : CombinerView) (numbers : List ℕ) (worker : ℕ) (batch : Batch) → worker < length seat.desks
    → after ≡ with_lifted worker batch seat → IsUnanswered batch (desk_of after worker).lifted (desk_of after worker).answered → IsServed n seat numbers
    → owed_at worker n ≡ None
idle_at n seat after numbers worker batch near is u s =
    let old = desk_of seat worker in
    let mid : CombinerPast = record { lifted = old.lifted ++ batch ∷ []; answered = old.answered; grip = old.grip } in
    let there : desk_of after worker ≡ mid = ap (λ (v : CombinerView). desk_of v worker) is ∙ get_or-set_same seat.desks worker mid no_desk near in
    let long : length (old.lifted ++ batch ∷ []) ≡ length (u.0 ++ batch ∷ []) = ap (λ (d : CombinerPast). length d.lifted) (sym there) ∙ ap length u.1 in
    let few : length old.answered ≡ length u.0 = ap (λ (d : CombinerPast). length d.answered) (sym there) ∙ u.2 in
    let left : length (old.lifted ++ batch ∷ []) ≡ length old.lifted + 1 = length-append old.lifted (batch ∷ []) in
    let right : length (u.0 ++ batch ∷ []) ≡ length u.0 + 1 = length-append u.0 (batch ∷ []) in
    let even : length old.lifted ≡ length old.answered = omega (arith, long, few, left, right) in
    none_by n worker (get_or numbers worker 0) old (owed_at worker n) (s.desks worker (near_of n seat numbers worker near s)) even

-- one of some jobs is lost
any_lost : (since : ℕ) (jobs : List Job) → list_any (λ (job : Job). is_lost since (item_of job)) jobs ≡ has_lost since (items_of jobs)
any_lost since [] = refl
any_lost since (job ∷ jobs) = ap (λ (more : Bool). is_lost since (item_of job) || more) (any_lost since jobs)

pub lost_by : (found : Bool) (since : ℕ) (jobs : List Job) → found ≡ list_any (λ (job : Job). is_lost since (item_of job)) jobs → found ≡ has_lost since (items_of jobs)
lost_by found since jobs is = is ∙ any_lost since jobs

-- what isn't refused is of the node, and its jobs are due
same_by : (lost same : Bool) (o : Option TakeError) → cond lost (Some errors.Down) (cond same o (Some errors.Stranger)) ≡ None → (same ≡ true) × (o ≡ None)
same_by true same o e = absurd (cc e)
same_by false true o e = (refl, e)
same_by false false o e = absurd (cc e)

none_refused : (down : Bool) (o : Option Refusal) → cond down (Some errors.Down) (refused_by o) ≡ None → o ≡ None
none_refused true o e = absurd (cc e)
none_refused false None e = refl
none_refused false (Some why) e = absurd (cc e)

own_by : (own there strange ordered : Bool) → cond ((not own || not there) || strange) (Some Stranger) (cond ordered None (Some WrongNumber)) ≡ None → own ≡ true
own_by true there strange ordered e = refl
own_by false there strange ordered e = absurd (cc e)

-- one is taken in
pub lifted_served : (n m : NodeState) (seat after : CombinerView) (numbers : List ℕ) (worker since : ℕ) (batch : Batch) → worker < length seat.desks
    → owed_at worker n ≡ None → refusal_at worker since n batch ≡ None → AllByRecursion (IsServedBy worker n.replica.members) (items_of batch.jobs.items) → m ≡ taken_node batch n
    → after ≡ with_lifted worker batch seat
    → IsServed n seat numbers → IsServed m after (set numbers worker batch.number)
lifted_served n m seat after numbers worker since batch near idle due served m_is is s =
    let parts = same_by (n.replica.down || has_lost since (items_of batch.jobs.items)) (eqb batch.worker worker) (refusal n batch) due in
    let named : batch.worker ≡ worker = eqb-true batch.worker worker parts.0 in
    let accepted : refusal_of n.book batch ≡ None = none_refused n.replica.down (refusal_of n.book batch) parts.1 in
    let jobs = items_of batch.jobs.items in
    let own : batch.node ≡ n.book.node = eqb-true batch.node n.book.node (own_by (eqb batch.node n.book.node) (ltb batch.worker (length n.book.last))
    (has_stranger n.book.node batch.worker n.book.held [] jobs) (is_in_order n.book batch.worker batch.number jobs) accepted) in
    let near' : batch.worker < length n.replica.owed = subst (λ (k : ℕ). k < length n.replica.owed) (sym named) (near_of n seat numbers worker near s) in
    let idle' : owed_at batch.worker n ≡ None = ap (λ (k : ℕ). owed_at k n) named ∙ idle in
    let there : IsServed (taken_node batch n) (with_lifted batch.worker batch seat) (set numbers batch.worker batch.number) =
    taken_served n seat numbers batch near' idle' own (all_of_due n.book batch.node batch.worker batch.number jobs accepted)
    (subst (λ (k : ℕ). AllByRecursion (IsServedBy k n.replica.members) jobs) (sym named) served) s in
    let moved : IsServed (taken_node batch n) (with_lifted worker batch seat) (set numbers worker batch.number) =
    subst (λ (k : ℕ). IsServed (taken_node batch n) (with_lifted k batch seat) (set numbers k batch.number)) named there in
    subst (λ (x : NodeState). IsServed x after (set numbers worker batch.number)) (sym m_is)
    (subst (λ (v : CombinerView). IsServed (taken_node batch n) v (set numbers worker batch.number)) (sym is) moved)

-- one that was refused wasn't executed
pub not_executed : (why : TakeError) (jobs : List Job) (o : Outcome) → IsOutcomeOf why jobs o → o ≡ Executed → ⊥
not_executed why jobs (Refused reason back) is e = absurd (cc e)
not_executed why jobs Down is e = absurd (cc e)
not_executed why jobs Executed is e = is

-- one is handed back
pub back_kept : (n m : NodeState) (seat after last : CombinerView) (numbers : List ℕ) (worker : ℕ) (batch back : Batch) (why : TakeError) (answer : Answer)
    → worker < length seat.desks → owed_at worker n ≡ None → m ≡ n → after ≡ with_lifted worker batch seat → last ≡ with_answered worker answer after
    → IsOutcomeOf why back.jobs.items answer.outcome → IsServed n seat numbers → IsServed m last numbers
back_kept n m seat after last numbers worker batch back why answer near idle m_is is last_is told s =
    let there = back_served n seat numbers worker batch answer (near_of n seat numbers worker near s) idle (not_executed why back.jobs.items answer.outcome told) s in
    let whole : last ≡ with_answered worker answer (with_lifted worker batch seat) = last_is ∙ ap (with_answered worker answer) is in
    subst (λ (x : NodeState). IsServed x last numbers) (sym m_is) (subst (λ (v : CombinerView). IsServed n v numbers) (sym whole) there)

-- the jobs of a batch that is refused come back
back_of : (why : TakeError) (o : Outcome) (jobs lifted : List Job) → IsOutcomeOf why jobs o → jobs ≡ lifted → IsBackOf o lifted
back_of why Executed jobs lifted is same = absurd is
back_of why Down jobs lifted is same = tt
back_of why (Refused reason back) jobs lifted is same = is.1 ∙ same

-- the answer to a batch that was refused is for the one that was lifted last
pub is_for_refused : (answer : Answer) (batch lifted : Batch) (why : TakeError) (batches : List Batch) (answers : List Answer) → AreSame batch lifted
    → IsUnanswered lifted batches answers → answer.node ≡ batch.node → answer.worker ≡ batch.worker → answer.batch ≡ batch.number
    → IsOutcomeOf why batch.jobs.items answer.outcome → IsForLast answer batches answers
is_for_refused answer batch lifted why batches answers same last node worker number told = (
  last.0,
  lifted,
  last.1,
  last.2,
  (node ∙ same.0, worker ∙ same.1, number ∙ same.2, back_of why answer.outcome batch.jobs.items lifted.jobs.items told same.3),
)

pub names_refused : (answer : Answer) (batch : Batch) (why : TakeError) → answer.node ≡ batch.node → answer.worker ≡ batch.worker
    → answer.batch ≡ batch.number → IsOutcomeOf why batch.jobs.items answer.outcome → Names answer batch
names_refused answer batch why node worker number told =
    (node, worker, number, back_of why answer.outcome batch.jobs.items batch.jobs.items told refl)

pub hands_back : (c d : CombinerState) (after : CombinerView) (worker : ℕ) (batch back : Batch) (why : TakeError) (answer : Answer)
    → IsRefusedFor worker c.counts.since c.node batch why → AreSame back batch → d.node ≡ c.node → after ≡ with_lifted worker batch c.seat → d.seat ≡ with_answered worker answer after
    → d.counts ≡ c.counts → Names answer back → IsOutcomeOf why back.jobs.items answer.outcome → HandsBack worker batch answer why c d
hands_back c d after worker batch back why answer refused same node is last taken names told = record {
  refused = refused;
  names = (names.0 ∙ same.0, names.1 ∙ same.1, names.2 ∙ same.2, subst (λ (jobs : List Job). IsBackOf answer.outcome jobs) same.3 names.3);
  outcome = subst (λ (jobs : List Job). IsOutcomeOf why jobs answer.outcome) same.3 told;
  node = node;
  seat = last ∙ ap (with_answered worker answer) is;
  counts = taken;
}

-- nothing was lifted
pub none_kept : (n : NodeState) (seat after : CombinerView) (numbers : List ℕ) (worker : ℕ) → FoundNone worker seat after → IsServed n seat numbers → IsServed n after numbers
none_kept n seat after numbers worker (inl h) s = subst (λ (v : CombinerView). IsServed n v numbers) (sym h.1) s
none_kept n seat after numbers worker (inr same) s = subst (λ (v : CombinerView). IsServed n v numbers) (sym same)
    record { workers = s.workers; numbered = s.numbered; desks = s.desks; executed = s.executed; handed_in = s.handed_in }

pub found_slots : (seat after : CombinerView) (worker : ℕ) → FoundNone worker seat after → after.slots ≡ seat.slots
found_slots seat after worker (inl h) = ap (λ (v : CombinerView). v.slots) h.1
found_slots seat after worker (inr same) = ap (λ (v : CombinerView). v.slots) same

-- something is owed where it is known what became of a batch
owes : (o : Option ℕ) (down : Bool) (x : Outcome) → answer_by o down ≡ Some x → (owed : ℕ) × (o ≡ Some owed)
owes None down x e = absurd (cc e)
owes (Some owed) down x e = (owed, refl)

-- none is handed back by then
told_by : (o : Option ℕ) (down : Bool) (x : Outcome) → answer_by o down ≡ Some x → IsNoRefusal x
told_by o down Executed e = tt
told_by o down Down e = tt
told_by None down (Refused why back) e = absurd (cc e)
told_by (Some owed) true (Refused why back) e = absurd (cc e)
told_by (Some zero) false (Refused why back) e = absurd (cc e)
told_by (Some (suc owed)) false (Refused why back) e = absurd (cc e)

-- one is executed only where the replica is up
up_executed : (o : Option ℕ) (down : Bool) (x : Outcome) → answer_by o down ≡ Some x → x ≡ Executed → down ≡ false
up_executed None down x e is = absurd (cc e)
up_executed (Some owed) true x e is = absurd (cc (e, is))
up_executed (Some owed) false x e is = refl

-- it is the one that the desk holds
pub is_held : (n : NodeState) (seat : CombinerView) (numbers : List ℕ) (worker : ℕ) (answer : Answer) → worker < length seat.desks
    → answer_of n worker ≡ Some answer.outcome → answer.node ≡ n.book.node → answer.worker ≡ worker → answer.batch ≡ get_or numbers worker 0
    → IsServed n seat numbers → IsForLast answer (desk_of seat worker).lifted (desk_of seat worker).answered
is_held n seat numbers worker answer near known node named number s =
    let some = owes (owed_at worker n) n.replica.down answer.outcome known in
    is_last n worker (get_or numbers worker 0) (desk_of seat worker) answer
    (holds_some n seat numbers worker some.0 (near_of n seat numbers worker near s) some.1 s) node named number
    (told_by (owed_at worker n) n.replica.down answer.outcome known)

pub answered_kept : (n m : NodeState) (seat after : CombinerView) (numbers : List ℕ) (worker : ℕ) (answer : Answer) → worker < length seat.desks
    → answer_of n worker ≡ Some answer.outcome → m ≡ answered_node worker n → after ≡ with_answered worker answer seat
    → (answer.outcome ≡ Executed → HasAllExecuted worker m) → IsServed n seat numbers → IsServed m after numbers
answered_kept n m seat after numbers worker answer near known m_is is all s =
    let some = owes (owed_at worker n) n.replica.down answer.outcome known in
    subst (λ (v : CombinerView). IsServed m v numbers) (sym is)
    (answered_served n m seat numbers worker some.0 answer (near_of n seat numbers worker near s) some.1 (told_by (owed_at worker n) n.replica.down answer.outcome known) m_is
    (λ e. (up_executed (owed_at worker n) n.replica.down answer.outcome known e, (subst (HasAllExecuted worker) m_is (all e)).none)) s)

get_any : (xs : List ℕ) (i d e : ℕ) → i < length xs → get_or xs i d ≡ get_or xs i e
get_any [] i d e near = absurd (omega arith)
get_any (x ∷ xs) zero d e near = refl
get_any (x ∷ xs) (suc i) d e near = get_any xs i d e (omega arith)

-- the number that was read, where there is one for each worker
pub number_at : (n : NodeState) (seat : CombinerView) (numbers : List ℕ) (worker number : ℕ) → worker < length seat.desks → number ≡ get_or numbers worker number
    → IsServed n seat numbers → number ≡ get_or numbers worker 0
number_at n seat numbers worker number near is s =
    is ∙ get_any numbers worker number 0 (subst (λ (k : ℕ). worker < k) (sym s.numbered) (near_of n seat numbers worker near s))

pub same_slots : (v w : CombinerView) (worker : ℕ) (answer : Answer) → w ≡ with_answered worker answer v → w.slots ≡ v.slots
same_slots v w worker answer is = ap (λ (x : CombinerView). x.slots) is

pub same_node : (n m : NodeState) (worker : ℕ) → m ≡ answered_node worker n → n.book.node ≡ m.book.node
same_node n m worker is = ap (λ (x : NodeState). x.book.node) (sym is)
