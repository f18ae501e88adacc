-- Reads that a worker runs beside its node's lock, by a loan of the node's server, and hands in with the replies prepared.
use Rattle.std.specs.Prelude.{◌≡◌, ℕ, ◌<◌, ◌≤◌, List, [], ◌∷◌, ◌++◌, length}
use Rattle.nr_entry.specs.Jobs.{items_of}
use Rattle.nr_entry.specs.declared.batch.Batch.{Batch}
use Rattle.nr_entry.specs.declared.job.Job.{Job}
use Rattle.nr_log_end.specs.declared.standing.Standing.{Standing}
use Rattle.nr_slots.specs.Seats.{NoteView}
use Rattle.nr_node.specs.Lending.{AreReadyFor, HasLent, PreparedState}
use Rattle.nr_node.specs.Sound.{IsSound}
use Rattle.nr_node.specs.declared.collecting.LastPiece.{LastPiece}
use Rattle.nr_combiner.specs.declared.answering.Lifts.TheVariants.{Own}
use Rattle.nr_combiner.specs.declared.answering.Turned.{Turned}
use Rattle.nr_combiner.specs.Behind.{TurnsBehind}
use Rattle.nr_combiner.specs.Heard.{HasHeard}
use Rattle.nr_combiner.specs.Served.{CombinerState, StandsLevel}
use Rattle.nr_combiner.specs.Steps.{TakesIn}
use Rattle.nr_combiner.specs.Turned.{tells_down}
use Rattle.nr_combiner.specs.Workers.{CountFrom, HasPosted, NodeHandleState, told_of, with_more}

-- a batch of this number was lifted from the worker's slot, and its jobs wait at the node
pub record HasTakenIn (worker number : ℕ) (c d : CombinerState) : Type 0 where
  pub batch : Batch
  pub took : TakesIn worker batch c d
  pub number_is : batch.number ≡ number

-- so it was, at a worker that the node has, and nothing but its jobs waits there
pub record HoldsAlone (worker number : ℕ) (c d : CombinerState) : Type 0 where
  pub near : worker < length c.seat.desks
  pub taken : HasTakenIn worker number c d
  pub alone : d.node.replica.waiting ≡ taken.batch.jobs.items

-- The last of the batches that a worker posted, which are numbered from nought on, has this number, and the replies to its jobs, which are reads, are prepared.
pub record IsPreparedLast (number : ℕ) (prepared : PreparedState) (posted : List Batch) : Type 0 where
  pub before : List Batch
  pub batch : Batch
  pub posted_is : posted ≡ before ++ batch ∷ []
  pub counted : CountFrom 0 posted
  pub number_is : batch.number ≡ number
  pub ready : AreReadyFor (items_of batch.jobs.items) prepared

-- A node lent its server behind its lock: it was up, no job waited, no entry was due, and all entries were passed that there were by a load of the tail then. The loan keeps how
-- it stood.
pub record LendsBehind (node : ℕ) (loan : Standing) : Type 0 where
  pub before : CombinerState
  pub after : CombinerState
  pub has_lent : HasLent loan before.node after.node
  pub seat : after.seat ≡ before.seat
  pub counts : after.counts ≡ before.counts
  pub node_is : before.node.book.node ≡ node
  pub standing : loan.node ≡ node
  pub was_level : StandsLevel before
  pub is_level : StandsLevel after

-- A worker handed in these jobs as its next batch, took a turn with its own slot, and heard of its node's combiner behind that.
pub record ReadsBehind (places : ℕ) (jobs : List Job) (most : ℕ) (old new : List LastPiece) (turned : Turned) (s : Standing) (w v : NodeHandleState) : Type 0 where
  pub posted : NodeHandleState
  pub has_posted : HasPosted jobs w posted
  pub note : NoteView
  pub behind : TurnsBehind places w.node w.seat.worker w.generation Own most old new turned s note
  pub heard : HasHeard w.seat.worker most (tells_down turned.combined) v.seat.noted s posted.seat.lane old new
  pub sound : IsSound s
  pub node : s.node ≡ w.node
  pub more : v ≡ with_more (told_of v.seat.noted posted)
  pub counted : turned.answered ≤ length v.seat.noted.answered
