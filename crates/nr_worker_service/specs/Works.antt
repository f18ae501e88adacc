-- What the work of a worker comes to.
use Rattle.std.specs.Prelude.{◌≡◌, ◌≤◌, ◌⊎◌, ℕ, false, List, [], length, Ok}
use Rattle.nr_model.specs.Connections.{Handed}
use Rattle.nr_model.specs.Items.{Item}
use Rattle.nr_node.specs.declared.answers.Round.TheVariants as rounds
use Rattle.nr_combiner.specs.declared.answering.Collected.{Collected}
use Rattle.nr_combiner.specs.declared.answering.Lifts.{Lifts}
use Rattle.nr_combiner.specs.declared.answering.Turned.{Turned}
use Rattle.nr_slots.specs.Names.{IsTold}
use Rattle.nr_worker.specs.Portions.{HandsOut}
use Rattle.nr_worker.specs.Worker.{Served}
use Rattle.nr_worker.specs.Working.{Goes, TakesPieces, TakesTurn, WorkState, all_ended, all_handed}
use Rattle.nr_worker_service.specs.declared.turns.TheConstants.{EVERY}
use Rattle.nr_worker_service.specs.declared.turns.TurnWait.{TurnWait}
use Rattle.nr_worker_service.specs.declared.turns.TurnWait.TheVariants as waits

-- so much more was handed out, and these ends came
abbrev pub all_worked : List Handed → List Item → List Served → List Served
all_worked handed ends served = all_ended ends (all_handed handed served)

-- Bytes were handed out, which wait at the seats of their connections; and ends came to connections that the node had before it came back.
pub record Works (v w : WorkState) : Type 0 where
  pub handed : List Handed
  pub ends : List Item
  pub goes : Goes (all_worked handed ends) v w
  pub waiting : HandsOut v.worker.node handed v.seats w.seats
  pub node : w.worker.node ≡ v.worker.node

-- No job waits, no answer is awaited, and that to each batch that was posted was collected. Of the answers that the node had given, as the worker heard last, and of
-- those that were collected, one is a beginning of the other; and no more were given than batches were lifted.
pub record IsIdle (v : WorkState) : Type 0 where
  pub none : v.jobs ≡ []
  pub answered : v.waiting ≡ false
  pub each : length v.worker.seat.lane.posted ≡ length v.worker.seat.lane.collected
  pub told : IsTold v.worker.seat.noted v.worker.seat.lane
  pub lifted : length v.worker.seat.noted.answered ≤ length v.worker.seat.noted.lifted

-- A turn left nothing to be done at once of a worker that posted so many batches: each was answered; and its node is down, or all updates that were due stand in the log, all
-- entries are passed that there were as it looked, the reads that led were run behind them, and all that waited for the worker's connections was handed out.
pub record LeftNothing (batches : ℕ) (turned : Turned) : Type 0 where
  pub answered : batches ≤ turned.answered
  pub done : (turned.combined ≡ Ok rounds.Down) ⊎ ((turned.combined ≡ Ok rounds.Done) × (turned.is_behind ≡ false) × (turned.collected ≡ Ok tt))

-- The mark of a worker and what it heard last are those that it had behind a turn of its node that handed out all that waits, and tells this.
pub record IsBehindTurn (places : ℕ) (turned : Turned) (w : WorkState) : Type 0 where
  pub lifts : Lifts
  pub before : WorkState
  pub after : WorkState
  pub took : TakesTurn places lifts EVERY turned before after
  pub node : w.worker.node ≡ after.worker.node
  pub mark : w.mark ≡ after.mark
  pub heard : w.worker.seat.noted ≡ after.worker.seat.noted

-- Or those that it had behind pieces of all that waited, which came without a turn.
pub record IsBehindPieces (collected : Collected) (w : WorkState) : Type 0 where
  pub before : WorkState
  pub after : WorkState
  pub took : TakesPieces EVERY collected before after
  pub node : w.worker.node ≡ after.worker.node
  pub mark : w.mark ≡ after.mark
  pub heard : w.worker.seat.noted ≡ after.worker.seat.noted

-- what came of waiting for a turn: behind one that was taken it is so
abbrev pub HasWaited : ℕ → TurnWait → WorkState → Type 0
HasWaited places (waits.Turned turned) w = IsBehindTurn places turned w
HasWaited places (waits.Settled settled) w = Unit {0}
HasWaited places waits.Nothing w = Unit {0}

-- of a worker that posted so many batches each was answered, and all that waited was handed out
pub record GaveAll (batches : ℕ) (collected : Collected) : Type 0 where
  pub answered : batches ≤ collected.answered
  pub all : collected.result ≡ Ok tt

-- A worker's last turn left nothing to be done, or, its batch being answered in another's, all that waited was handed out to it without one.
abbrev pub HasLooked : ℕ → WorkState → Type 0
HasLooked places w =
    ((turned : Turned) × IsBehindTurn places turned w × LeftNothing (length w.worker.seat.lane.posted) turned)
    ⊎ ((collected : Collected) × IsBehindPieces collected w × GaveAll (length w.worker.seat.lane.posted) collected)

-- nothing is left to be done: no job waits, no answer is awaited, and so its last turn says
pub record IsResting (places : ℕ) (w : WorkState) : Type 0 where
  pub idle : IsIdle w
  pub looked : HasLooked places w
