-- What a combiner's calls come to.
use Rattle.std.specs.Prelude.{◌≡◌, ◌≢◌, ◌↔◌, ◌⊎◌, ◌==◌, ◌&&◌, ◌||◌, not, nat_lt, ◌<◌, ◌≤◌, ℕ, zero, suc, Bool, true, false, if◌then◌else◌, List, [], ◌++◌, length, Option, Some, None, Result, Ok, Err}
use Rattle.std.specs.FinMap as finmap
use Rattle.std.specs.List.{list_any, range_with_len}
use Rattle.nr_model.specs.Items.{Item, is_end}
use Rattle.nr_model.specs.Entries.{Jobs}
use Rattle.nr_blob.specs.declared.memory.Memory.{Memory}
use Rattle.nr_entry.specs.Jobs.{items_of}
use Rattle.nr_entry.specs.declared.batch.Batch.{Batch}
use Rattle.nr_entry.specs.declared.batch.Answer.{Answer}
use Rattle.nr_entry.specs.declared.batch.Outcome.{Outcome}
use Rattle.nr_entry.specs.declared.batch.Outcome.TheVariants as outcomes
use Rattle.nr_entry.specs.declared.entry.Entry.{Entry}
use Rattle.nr_entry.specs.declared.job.Job.{Job}
use Rattle.nr_log_end.specs.declared.standing.Load.{Load}
use Rattle.nr_log_end.specs.Standings.{passed_of}
use Rattle.nr_log_end.specs.Tries.{IsFull, IsLost}
use Rattle.nr_slots.specs.Names.{Names, IsForLast}
use Rattle.nr_slots.specs.Seats.{FoundNone, desk_of, with_lifted, with_answered}
use Rattle.nr_node.specs.Level.{NodeState, connection_at, is_closed_at, worker_at}
use Rattle.nr_node.specs.Owing.{answer_of, answered_node}
use Rattle.nr_node.specs.Batches.{refusal, take_error}
use Rattle.nr_node.specs.Steps.{closed_node, taken_node, HasOpened, HasReserved, HasNoneDue, GoesOnWaiting, GoesOnBy, HasRead}
use Rattle.nr_node.specs.declared.answers.Round.{Round}
use Rattle.nr_node.specs.declared.answers.Round.TheVariants as rounds
use Rattle.nr_node.specs.declared.answers.TakeError.{TakeError}
use Rattle.nr_node.specs.declared.answers.TakeError.TheVariants as errors
use Rattle.nr_combiner.specs.declared.answering.Lifts.{Lifts}
use Rattle.nr_combiner.specs.declared.answering.Lifts.TheVariants as lifts
use Rattle.nr_node.specs.Revived.{OfferState, HasRevived, IsNotYet}
use Rattle.nr_job_numbers.specs.Stored.{is_unended, numbers_in, ComesAfter}
use Rattle.nr_job_numbers.specs.declared.account.Unended.{Unended}
use Rattle.nr_combiner.specs.Counts.{with_closed, with_opened, with_since}
use Rattle.nr_combiner.specs.Served.{CombinerState, jobs_of}

-- fewer connections than so many aren't closed, and the node has this worker
abbrev pub HasRoom : ℕ → ℕ → CombinerState → Type 0
HasRoom worker most c = (c.counts.unclosed < most) × (worker < length c.seat.desks)

-- a connection more
pub record OpensFor (limit worker : ℕ) (c d : CombinerState) : Type 0 where
  pub node : HasOpened limit worker c.node d.node
  pub seat : d.seat ≡ c.seat
  pub counts : d.counts ≡ with_opened c.counts

-- one was closed, unless it was before
abbrev pub closed_combiner : ℕ → CombinerState → CombinerState
closed_combiner serial c =
    record c {
      node = closed_node serial c.node;
      counts = if is_closed_at serial c.node.replica.members then c.counts else with_closed (worker_at serial c.node.replica.members) c.counts;
    }

-- a job is of a connection with a lower serial than this, and doesn't end it; and one of these is
abbrev pub is_lost : ℕ → Item → Bool
is_lost since job = nat_lt job.connection.serial since && not (is_end job.deed)

abbrev pub has_lost : ℕ → Jobs → Bool
has_lost since jobs = list_any (is_lost since) jobs

-- What a batch in a worker's slot is refused for, where there is memory. Of the connections that there were as the node came back last, which have lower serials than
-- this, only ends are taken: any other job of theirs was asked for before the worker heard of the fall, and is lost as those were that the node had then.
abbrev pub refusal_at : ℕ → ℕ → NodeState → Batch → Option TakeError
refusal_at worker since n batch =
    if n.replica.down || has_lost since (items_of batch.jobs.items) then Some errors.Down
    else if batch.worker == worker then refusal n batch else Some errors.Stranger

-- so it is refused, or for want of memory
abbrev pub IsRefusedFor : ℕ → ℕ → NodeState → Batch → TakeError → Type 0
IsRefusedFor worker since n batch why =
    (refusal_at worker since n batch ≡ Some why) ⊎ ((refusal_at worker since n batch ≡ None) × ((memory : Memory) × (why ≡ errors.Memory memory)))

-- a batch that was refused is answered with its jobs, or that the replica is down
abbrev pub IsOutcomeOf : TakeError → List Job → Outcome → Type 0
IsOutcomeOf why jobs (outcomes.Refused reason back) = (take_error reason ≡ why) × (back.items ≡ jobs)
IsOutcomeOf why jobs outcomes.Down = why ≡ errors.Down
IsOutcomeOf why jobs outcomes.Executed = ⊥

-- a batch was lifted from the worker's slot, and its jobs wait at the node
pub record TakesIn (worker : ℕ) (batch : Batch) (c d : CombinerState) : Type 0 where
  pub due : refusal_at worker c.counts.since c.node batch ≡ None
  pub node : d.node ≡ taken_node batch c.node
  pub seat : d.seat ≡ with_lifted worker batch c.seat
  pub counts : d.counts ≡ c.counts

-- one was lifted and refused, and this was answered
pub record HandsBack (worker : ℕ) (batch : Batch) (answer : Answer) (why : TakeError) (c d : CombinerState) : Type 0 where
  pub refused : IsRefusedFor worker c.counts.since c.node batch why
  pub names : Names answer batch
  pub outcome : IsOutcomeOf why batch.jobs.items answer.outcome
  pub node : d.node ≡ c.node
  pub seat : d.seat ≡ with_answered worker answer (with_lifted worker batch c.seat)
  pub counts : d.counts ≡ c.counts

abbrev pub HasLifted : ℕ → CombinerState → CombinerState → Type 0
HasLifted worker c d = (FoundNone worker c.seat d.seat × (d.node ≡ c.node) × (d.counts ≡ c.counts))
    ⊎ (((batch : Batch) × TakesIn worker batch c d) ⊎ ((batch : Batch) × (answer : Answer) × (why : TakeError) × HandsBack worker batch answer why c d))

-- so it was done at the slots of so many workers, one after the other
abbrev pub HasLiftedAll : ℕ → CombinerState → CombinerState → Type 0
HasLiftedAll zero c d = d ≡ c
HasLiftedAll (suc workers) c d = (mid : CombinerState) × HasLiftedAll workers c mid × HasLifted workers mid d

-- so it was done at the slot of this worker alone, where the node has the worker
abbrev pub HasLiftedOwn : ℕ → CombinerState → CombinerState → Type 0
HasLiftedOwn worker c d = ((worker < length c.seat.desks) × HasLifted worker c d) ⊎ ((length c.seat.desks ≤ worker) × (d ≡ c))

-- at the slots of all workers, or at that of this one
abbrev pub HasLiftedBy : Lifts → ℕ → CombinerState → CombinerState → Type 0
HasLiftedBy lifts.All worker c d = HasLiftedAll (length c.seat.desks) c d
HasLiftedBy lifts.Own worker c d = HasLiftedOwn worker c d

-- what became of the batch that was taken last from a worker is known, and was answered
pub record Answers (worker : ℕ) (answer : Answer) (c d : CombinerState) : Type 0 where
  pub last : IsForLast answer (desk_of c.seat worker).lifted (desk_of c.seat worker).answered
  pub outcome : answer_of c.node worker ≡ Some answer.outcome
  pub node : d.node ≡ answered_node worker c.node
  pub seat : d.seat ≡ with_answered worker answer c.seat
  pub counts : d.counts ≡ c.counts

abbrev pub HasAnswered : ℕ → CombinerState → CombinerState → Type 0
HasAnswered worker c d = ((answer_of c.node worker ≡ None) × (d ≡ c)) ⊎ ((answer : Answer) × Answers worker answer c d)

abbrev pub HasAnsweredAll : ℕ → CombinerState → CombinerState → Type 0
HasAnsweredAll zero c d = d ≡ c
HasAnsweredAll (suc workers) c d = (mid : CombinerState) × HasAnsweredAll workers c mid × HasAnswered workers mid d

-- the updates that were due stand in the log now, or there were none
abbrev pub HasPut : NodeState → NodeState → Type 0
HasPut n m = ((at : ℕ) × (entry : Entry) × HasReserved at entry n m) ⊎ HasNoneDue n m

-- What a try to reserve comes to: the updates that were due stand in the log, or there were none; or they go on waiting, since the log was full as the try met
-- it, or another node's entry was there first; or the replica is down, and nothing changed. An error for want of memory loses no job.
abbrev pub ComesTo : ℕ → Result Round Memory → NodeState → NodeState → Type 0
ComesTo places (Ok rounds.Done) n m = HasPut n m
ComesTo places (Ok rounds.Full) n m = GoesOnWaiting n m × IsFull n.seat.standing n.seat.looks places m.seat.standing m.seat.looks
ComesTo places (Ok rounds.Again) n m = GoesOnWaiting n m × IsLost n.seat.standing n.seat.looks m.seat.standing m.seat.looks
ComesTo places (Ok rounds.NotYet) n m = ⊥
ComesTo places (Ok rounds.Down) n m = m ≡ n
ComesTo places (Err memory) n m = (m ≡ n) ⊎ GoesOnWaiting n m

-- so it came out, and the loads that the node's end had made before stay in front of those that it made
pub record HasTried (places : ℕ) (r : Result Round Memory) (n m : NodeState) : Type 0 where
  pub comes : ComesTo places r n m
  pub down : (r ≡ Ok rounds.Down) ↔ (n.replica.down ≡ true)
  pub looks : (more : List Load) × (m.seat.looks ≡ n.seat.looks ++ more)

-- its node came back with an offer: all connections that it has are of before
pub record ComesBack (offer : OfferState) (c d : CombinerState) : Type 0 where
  pub node : HasRevived offer c.node d.node
  pub seat : d.seat ≡ c.seat
  pub counts : d.counts ≡ with_since (length c.node.replica.members) c.counts

-- or it didn't yet
pub record IsNotBack (offer : OfferState) (c d : CombinerState) : Type 0 where
  pub node : IsNotYet offer c.node d.node
  pub seat : d.seat ≡ c.seat
  pub counts : d.counts ≡ c.counts

-- The first connection after one, by serial, of those that there were as the node came back last, that this worker serves, and of which a job was taken, but not its
-- end. Its next job is the one behind all that the node has of it.
pub record IsUnendedAt (worker : ℕ) (last : Option ℕ) (one : Unended) (c : CombinerState) : Type 0 where
  pub after : ComesAfter last one.serial
  pub below : one.serial < c.counts.since
  pub unended : is_unended worker (finmap.get c.node.book.held one.serial) ≡ true
  pub numbered : numbers_in (connection_at c.node.book.node one.serial) (jobs_of c.node) ≡ range_with_len 0 one.next
  pub between : (other : ℕ) → ComesAfter last other → other < one.serial → is_unended worker (finmap.get c.node.book.held other) ≡ false

-- What a look comes to: entries were passed up to the tail that it loaded, or, where one of them isn't filled yet, up to there, which it tells, also where the replica
-- is down; and reads were run only where it is done, and then all that led, while else all that waits goes on waiting.
pub record HasLooked (looked : Result Round Memory) (behind : Bool) (entries : List Entry) (ran : List Job) (tail : ℕ) (n m : NodeState) : Type 0 where
  pub by : GoesOnBy entries ran tail n m
  pub read : looked ≡ Ok rounds.Done → HasRead ran tail n m
  pub none : looked ≢ Ok rounds.Done → ran ≡ []
  pub reached : behind ≡ false → tail ≤ passed_of m.seat.standing
  pub stopped : behind ≡ true → passed_of m.seat.standing < tail
  pub waiting : looked ≢ Ok rounds.Done → m.replica.down ≡ false → (m.replica.waiting ≡ n.replica.waiting) × (m.next ≡ n.next)
  pub not_yet : (looked ≡ Ok rounds.NotYet) ↔ ((behind ≡ true) × (m.replica.down ≡ false))
  pub again : looked ≡ Ok rounds.Again → n.next ≢ []
  pub never : looked ≢ Ok rounds.Full
  pub down : (looked ≡ Ok rounds.Down) ↔ (m.replica.down ≡ true)

-- what a turn comes to, by its try and by its look
abbrev pub by_try : Result Round Memory → Round → Result Round Memory
by_try (Err memory) looked = Err memory
by_try (Ok rounds.Done) looked = Ok looked
by_try (Ok rounds.Full) looked = Ok rounds.Full
by_try (Ok rounds.Again) looked = Ok rounds.Again
by_try (Ok rounds.NotYet) looked = Ok rounds.Again
by_try (Ok rounds.Down) looked = Ok rounds.Again

abbrev pub outcome_of : Result Round Memory → Result Round Memory → Result Round Memory
outcome_of tried (Err memory) = Err memory
outcome_of tried (Ok rounds.Down) = Ok rounds.Down
outcome_of tried (Ok rounds.Done) = by_try tried rounds.Done
outcome_of tried (Ok rounds.Full) = by_try tried rounds.Full
outcome_of tried (Ok rounds.Again) = by_try tried rounds.Again
outcome_of tried (Ok rounds.NotYet) = by_try tried rounds.NotYet

-- A turn of the combiner at a log of so many places: the batches that are offered at all slots, or at one worker's, a try to reserve, a look, and the answers. So where
-- it is done all updates that were due stand in the log, and the reads that led were run behind all entries that there were as the look loaded the tail. Where it isn't
-- behind, all those entries are passed, also by a node that is down.
pub record HasCombined (places : ℕ) (which : Lifts) (worker : ℕ) (round : Result Round Memory) (behind : Bool) (c d : CombinerState) : Type 0 where
  pub lifted : CombinerState
  pub has_lifted : HasLiftedBy which worker c lifted
  pub try_is : Result Round Memory
  pub tried : NodeState
  pub has_tried : HasTried places try_is lifted.node tried
  pub look_is : Result Round Memory
  pub looked : NodeState
  pub entries : List Entry
  pub ran : List Job
  pub tail : ℕ
  pub has_looked : HasLooked look_is behind entries ran tail tried looked
  pub round_is : round ≡ outcome_of try_is look_is
  pub has_answered : HasAnsweredAll (length c.seat.desks) (record { node = looked; seat = lifted.seat; counts = lifted.counts }) d
