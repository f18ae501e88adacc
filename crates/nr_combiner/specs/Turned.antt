-- What a combiner hands out of what waits for a worker's connections, and what its turn for a worker comes to.
use Rattle.std.specs.Prelude.{◌≡◌, ℕ, ◌<◌, ◌≤◌, Bool, true, false, List, length, Result, Ok, Err}
use Rattle.nr_blob.specs.declared.memory.Memory.{Memory}
use Rattle.nr_log_end.specs.declared.standing.Standing.{Standing}
use Rattle.nr_log_end.specs.Standings.{opened_of}
use Rattle.nr_slots.specs.Seats.{NoteView, note_of}
use Rattle.nr_node.specs.Collected.{Collects}
use Rattle.nr_node.specs.Level.{workers_of}
use Rattle.nr_node.specs.Steps.{IsStill}
use Rattle.nr_node.specs.declared.answers.Round.{Round}
use Rattle.nr_node.specs.declared.answers.Round.TheVariants as rounds
use Rattle.nr_node.specs.declared.collecting.LastPiece.{LastPiece}
use Rattle.nr_combiner.specs.declared.answering.Lifts.{Lifts}
use Rattle.nr_combiner.specs.declared.answering.Turned.{Turned}
use Rattle.nr_combiner.specs.Counts.{with_next}
use Rattle.nr_combiner.specs.Served.{CombinerState}
use Rattle.nr_combiner.specs.Steps.{HasCombined}

-- a piece of what waited for each of a worker's connections was handed out, by which its generation goes up, and nothing else changed but at the node; one that the node
-- doesn't have got nothing
pub record HasCollectedFor (worker most : ℕ) (old new : List LastPiece) (result : Result (Unit {0}) Memory) (c d : CombinerState) : Type 0 where
  pub own : worker < length c.seat.desks → Collects worker most old new result c.node d.node
  pub stranger : length c.seat.desks ≤ worker → (result ≡ Ok tt) × (new ≡ old) × (d ≡ c)
  pub seat : d.seat ≡ c.seat
  pub counts : worker < length c.seat.desks → d.counts ≡ with_next worker c.counts

-- So it was, and then it is kept how the node stands, and what its combiner has done.
pub record HandsOutTo (worker most : ℕ) (old new : List LastPiece) (result : Result (Unit {0}) Memory) (s : Standing) (note : NoteView) (c d : CombinerState) : Type 0 where
  pub collected : CombinerState
  pub has_collected : HasCollectedFor worker most old new result c collected
  pub still : IsStill collected.node d.node
  pub seat : d.seat ≡ collected.seat
  pub counts : d.counts ≡ collected.counts
  pub token : s ≡ d.node.seat.standing
  pub opened : workers_of d.node.replica.members ≡ opened_of s.history
  pub note_is : note ≡ note_of d.seat

-- A turn of the combiner, which lifts from all slots or from the worker's own, and then, whatever came of it, pieces of what waits for the worker's connections are
-- handed out; what came of each is told.
pub record HasTurned (places worker : ℕ) (which : Lifts) (most : ℕ) (old new : List LastPiece) (turned : Turned) (s : Standing) (note : NoteView) (c d : CombinerState) : Type 0 where
  pub combined : CombinerState
  pub has_combined : HasCombined places which worker turned.combined turned.is_behind c combined
  pub handed : HandsOutTo worker most old new turned.collected s note combined d

-- whether a turn tells that the replica is down
abbrev pub tells_down : Result Round Memory → Bool
tells_down (Ok rounds.Down) = true
tells_down (Ok rounds.Done) = false
tells_down (Ok rounds.Full) = false
tells_down (Ok rounds.Again) = false
tells_down (Ok rounds.NotYet) = false
tells_down (Err memory) = false
