-- What a worker knows of what its node has done, and of what that hands out, by a turn or without one, in its own words.
use Rattle.std.specs.Prelude.{ℕ, Bool, List}
use Rattle.nr_model.specs.Items.{Connection}
use Rattle.nr_entry.specs.Jobs.{connection_of}
use Rattle.nr_entry.specs.declared.conn.ConnId.{ConnId}
use Rattle.nr_log_end.specs.declared.standing.Standing.{Standing}
use Rattle.nr_log_end.specs.Standings.{record_of}
use Rattle.nr_slots.specs.declared.view.CombinerPast.{CombinerPast}
use Rattle.nr_slots.specs.declared.view.WorkerPast.{WorkerPast}
use Rattle.nr_slots.specs.Names.{IsTold}
use Rattle.nr_node.specs.Sound.{ServesOpened}
use Rattle.nr_node.specs.declared.collecting.LastPiece.{LastPiece}
use Rattle.nr_combiner.specs.Pieces.{AreHandedIn, HasAdded, HasExecuted, HasJobOf, HasOwn}

-- what a combiner has done at a worker's desk, with all batches that the worker posted
abbrev pub with_posted : WorkerPast → CombinerPast → CombinerPast
with_posted lane desk = record { lifted = lane.posted; answered = desk.answered; grip = desk.grip }

-- At this desk the combiner had lifted the first batches that the worker posted, and answered as many of them or more than it collected, or fewer. Each batch that was answered as
-- executed is in the record; and each job there of a connection that was opened for this worker is one that it handed in, in a batch that it didn't get back.
pub record Knows (worker : ℕ) (desk : CombinerPast) (s : Standing) (lane : WorkerPast) : Type 0 where
  pub told : IsTold desk lane
  pub executed : HasExecuted desk s
  pub own : HasOwn worker (with_posted lane desk) s

-- So it knows of the record of which these pieces are, each for a connection of its own.
pub record HasHeard (worker most : ℕ) (down : Bool) (desk : CombinerPast) (s : Standing) (lane : WorkerPast) (old new : List LastPiece) : Type 0 where
  pub knows : Knows worker desk s lane
  pub added : HasAdded most down s (AreHandedIn (with_posted lane desk) (record_of s.history)) old new

-- So it knows of the record of a node that has a job of this connection, which was opened for it: a batch that it posted has one.
pub record KnowsUnended (worker : ℕ) (c : Connection) (desk : CombinerPast) (s : Standing) (lane : WorkerPast) : Type 0 where
  pub knows : Knows worker desk s lane
  pub serves : ServesOpened s worker c
  pub posted : HasJobOf c lane.posted

-- So it knows of the record of a node at which this connection was opened for it.
pub record KnowsOpened (worker : ℕ) (conn : ConnId) (desk : CombinerPast) (s : Standing) (lane : WorkerPast) : Type 0 where
  pub knows : Knows worker desk s lane
  pub serves : ServesOpened s worker (connection_of conn)
