-- What a combiner keeps of its node holds on as the node goes on.
use Rattle.std.proofs.Common.{◌≡◌, ℕ, ◌<◌, List, [], ◌∷◌, ◌++◌, length, Option, Some, None, sym, ◌∙◌, subst, get_or}
use Rattle.std.specs.List.{AllByRecursion}
use Rattle.nr_model.specs.Bytes.{IsBeginningOf}
use Rattle.nr_model.specs.Items.{Connection, Item, Sequence}
use Rattle.nr_entry.specs.Jobs.{items_of}
use Rattle.nr_entry.specs.declared.batch.Batch.{Batch}
use Rattle.nr_entry.specs.declared.batch.Answer.{Answer}
use Rattle.nr_log_end.specs.Standings.{record_of}
use Rattle.nr_slots.specs.declared.view.CombinerPast.{CombinerPast}
use Rattle.nr_slots.specs.Seats.{CombinerView, desk_of}
use Rattle.nr_replica.specs.Members.{Member, worker_of}
use Rattle.nr_node.specs.Level.{NodeState}
use Rattle.nr_combiner.specs.Served.{owed_at, IsAmong, IsOfWorker, IsTakenOf, HoldsBatch, IsDesk, StandIn, AreExecuted, IsOwnOfBatch, AllJobs, IsServed}
use Rattle.nr_combiner.proofs.Among.{Keeps, among_left}
use Rattle.nr_combiner.proofs.Deeds.{jobs_weaker, of_lifted}

-- a batch is owed where one was
abbrev pub IsStill : Option ℕ → Option ℕ → Type 0
IsStill None None = Unit {0}
IsStill None (Some m) = ⊥
IsStill (Some n) None = ⊥
IsStill (Some n) (Some m) = Unit {0}

pub still_itself : (o : Option ℕ) → IsStill o o
still_itself None = tt
still_itself (Some n) = tt

-- the same worker serves a connection that was opened
abbrev pub AreServedOn : List Member → List Member → Type 0
AreServedOn olds news = (c : Connection) → c.serial < length olds → (c.serial < length news) × (worker_of news c ≡ worker_of olds c)

pub record Grows (n m : NodeState) : Type 0 where
  pub node : m.book.node ≡ n.book.node
  pub workers : length m.replica.owed ≡ length n.replica.owed
  pub members : AreServedOn n.replica.members m.replica.members
  pub keeps : Keeps n m
  pub log : IsBeginningOf (record_of n.seat.standing.history) (record_of m.seat.standing.history)

-- each of some
pub all_still : {P Q : Item → Type 0} → ((job : Item) → P job → Q job) → (jobs : List Item) → AllByRecursion P jobs → AllByRecursion Q jobs
all_still f [] all = tt
all_still f (job ∷ jobs) all = (f job all.0, all_still f jobs all.1)

-- a job of a worker's connection stays so, and one that was taken is still there
pub own_still : (n m : NodeState) → Grows n m → (worker : ℕ) (job : Item) → IsOfWorker n worker job → IsOfWorker m worker job
own_still n m grows worker job own =
    let on = grows.members job.connection own.served.0 in
    record { node = own.node ∙ sym grows.node; served = (on.0, on.1 ∙ own.served.1) }

taken_still : (n m : NodeState) → Grows n m → (worker : ℕ) (job : Item) → IsTakenOf n worker job → IsTakenOf m worker job
taken_still n m grows worker job t = record {
  own = own_still n m grows worker job t.own;
  has = λ up. let kept = grows.keeps up in kept.1 job (t.has kept.0);
}

pub stand_still : (old more : Sequence) (jobs : List Item) → StandIn old jobs → StandIn (old ++ more) jobs
stand_still old more jobs all = all_still (λ (job : Item). λ (a : IsAmong job old). among_left job old more a) jobs all

pub executed_still : (old more : Sequence) (batches : List Batch) (answers : List Answer) → AreExecuted old batches answers → AreExecuted (old ++ more) batches answers
executed_still old more [] answers all = tt
executed_still old more (batch ∷ batches) [] all = tt
executed_still old more (batch ∷ batches) (answer ∷ answers) all =
    (λ e. stand_still old more (items_of batch.jobs.items) (all.0 e), executed_still old more batches answers all.1)

pub held_still : (n m : NodeState) → Grows n m → (worker number : ℕ) (desk : CombinerPast) → HoldsBatch n worker number desk → HoldsBatch m worker number desk
held_still n m grows worker number desk h = record {
  before = h.before;
  batch = h.batch;
  lifted = h.lifted;
  answered = h.answered;
  named = (h.named.0 ∙ sym grows.node, h.named.1, h.named.2);
  jobs = all_still (taken_still n m grows worker) (items_of h.batch.jobs.items) h.jobs;
}

pub desk_still : (n m : NodeState) → Grows n m → (worker number : ℕ) (desk : CombinerPast) (o p : Option ℕ) → IsStill o p → IsDesk n worker number desk o → IsDesk m worker number desk p
desk_still n m grows worker number desk None None still d = d
desk_still n m grows worker number desk None (Some p) still d = absurd still
desk_still n m grows worker number desk (Some o) None still d = absurd still
desk_still n m grows worker number desk (Some o) (Some p) still d = held_still n m grows worker number desk d

-- the node goes on, and owes what it owed
pub served_still : (n m : NodeState) (seat : CombinerView) (numbers : List ℕ) → Grows n m → ((worker : ℕ) → IsStill (owed_at worker n) (owed_at worker m))
    → AllJobs (IsOwnOfBatch n seat.desks) m → IsServed n seat numbers → IsServed m seat numbers
served_still n m seat numbers grows still jobs s = record {
  workers = s.workers ∙ sym grows.workers;
  numbered = s.numbered ∙ sym grows.workers;
  desks = λ worker near. desk_still n m grows worker (get_or numbers worker 0) (desk_of seat worker) (owed_at worker n) (owed_at worker m) (still worker)
      (s.desks worker (subst (λ k. worker < k) grows.workers near));
  executed = λ worker near. subst (λ (r : Sequence). AreExecuted r (desk_of seat worker).lifted (desk_of seat worker).answered) grows.log.1
      (executed_still (record_of n.seat.standing.history) grows.log.0 (desk_of seat worker).lifted (desk_of seat worker).answered
      (s.executed worker (subst (λ k. worker < k) grows.workers near)));
  handed_in = jobs_weaker (IsOwnOfBatch n seat.desks) (IsOwnOfBatch m seat.desks)
      (of_lifted n m seat.desks seat.desks (own_still n m grows) (sym grows.node) (λ worker batch lifted. lifted)) m jobs;
}
