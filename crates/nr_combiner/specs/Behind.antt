-- What a node did behind its lock, between two states of a combiner that nobody else sees, and that are level with the log.
use Rattle.std.specs.Prelude.{◌≡◌, ◌↔◌, ℕ, ◌-◌, ◌^◌, min, Bool, false, true, filter, List, ◌++◌, length, Option, Result, Ok}
use Rattle.nr_blob.specs.declared.memory.Memory.{Memory}
use Rattle.nr_entry.specs.Jobs.{connection_of}
use Rattle.nr_entry.specs.declared.conn.ConnId.{ConnId}
use Rattle.nr_log_end.specs.declared.standing.Standing.{Standing}
use Rattle.nr_job_numbers.specs.declared.account.Unended.{Unended}
use Rattle.nr_slots.specs.Seats.{NoteView, desk_of, note_of}
use Rattle.nr_node.specs.Batches.{is_cut_at}
use Rattle.nr_node.specs.Level.{NodeState, connection_at, IsLevel}
use Rattle.nr_node.specs.Revived.{OfferState, IsOffered}
use Rattle.nr_node.specs.Steps.{refusing_node}
use Rattle.nr_node.specs.declared.answers.Round.{Round}
use Rattle.nr_node.specs.declared.answers.Round.TheVariants as rounds
use Rattle.nr_node.specs.declared.collecting.LastPiece.{LastPiece}
use Rattle.nr_combiner.specs.declared.answering.Collected.{Collected}
use Rattle.nr_combiner.specs.declared.answering.Lifts.{Lifts}
use Rattle.nr_combiner.specs.declared.answering.Lifts.TheVariants.{All}
use Rattle.nr_combiner.specs.declared.answering.Turned.{Turned}
use Rattle.nr_combiner.specs.Pieces.{ListsFront}
use Rattle.nr_combiner.specs.Counts.{generation_of}
use Rattle.nr_combiner.specs.Served.{CombinerState, IsServed, StandsLevel}
use Rattle.nr_combiner.specs.Shared.{NodeView}
use Rattle.nr_combiner.specs.Steps.{ComesBack, HasCombined, HasRoom, IsUnendedAt, OpensFor}
use Rattle.nr_combiner.specs.Turned.{HandsOutTo, HasTurned}

-- A turn of this node: it is down exactly where it says so, and keeps what a combiner keeps. As it began the worker had this generation: nothing was handed out for its
-- connections, and none of them was closed, since it was told of that. As it ended so many batches of the worker were answered as it says, as far as a u64 counts, and the
-- node had so many connections as it came back last.
pub record TurnsBehind (places node worker generation : ℕ) (which : Lifts) (most : ℕ) (old new : List LastPiece) (turned : Turned) (s : Standing) (note : NoteView) : Type 0 where
  pub before : CombinerState
  pub after : CombinerState
  pub has_turned : HasTurned places worker which most old new turned s note before after
  pub node_is : before.node.book.node ≡ node
  pub standing : s.node ≡ node
  pub down : (turned.combined ≡ Ok rounds.Down) ↔ (after.node.replica.down ≡ true)
  pub answered : turned.answered ≡ min (length (desk_of after.seat worker).answered) (2 ^ 64 - 1)
  pub since : turned.since ≡ after.counts.since
  pub met : generation_of worker before.counts ≡ generation
  pub numbers : List ℕ
  pub served : IsServed after.node after.seat numbers
  pub was_level : StandsLevel before
  pub is_level : StandsLevel after

-- It handed out alone, without a turn: no batch is lifted or answered, nothing is put into the log, and no entry is passed. So many batches of the worker were answered
-- before.
pub record CollectsBehind (node worker generation most : ℕ) (old new : List LastPiece) (told : Collected) (s : Standing) (note : NoteView) : Type 0 where
  pub before : CombinerState
  pub after : CombinerState
  pub handed : HandsOutTo worker most old new told.result s note before after
  pub node_is : before.node.book.node ≡ node
  pub standing : s.node ≡ node
  pub down : told.is_down ≡ after.node.replica.down
  pub answered : told.answered ≡ min (length (desk_of after.seat worker).answered) (2 ^ 64 - 1)
  pub since : told.since ≡ after.counts.since
  pub met : generation_of worker before.counts ≡ generation
  pub numbers : List ℕ
  pub served : IsServed after.node after.seat numbers
  pub was_level : StandsLevel before
  pub is_level : StandsLevel after

-- It opened a connection for a worker, of this generation then, which knew how many connections there were as the node came back last, the node being up, where fewer than
-- its limit weren't closed; it has the next serial, and the node's limit of bytes.
pub record OpensBehind (at : NodeView) (worker generation known : ℕ) (conn : ConnId) (s : Standing) (note : NoteView) : Type 0 where
  pub before : CombinerState
  pub after : CombinerState
  pub has_opened : OpensFor at.limit worker before after
  pub room : HasRoom worker at.connections before
  pub up : before.node.replica.down ≡ false
  pub since : before.counts.since ≡ known
  pub met : generation_of worker before.counts ≡ generation
  pub node_is : before.node.book.node ≡ at.node
  pub conn_is : connection_of conn ≡ connection_at before.node.replica.node (length before.node.replica.members)
  pub token : s ≡ after.node.seat.standing
  pub note_is : note ≡ note_of after.seat
  pub was_level : StandsLevel before
  pub is_level : StandsLevel after

-- It told a worker, of this generation then, of the first connection after one whose end it hasn't, of those that it had as it came back last.
pub record EndsBehind (node worker generation : ℕ) (last : Option ℕ) (one : Unended) (s : Standing) (note : NoteView) : Type 0 where
  pub at : CombinerState
  pub unended : IsUnendedAt worker last one at
  pub met : generation_of worker at.counts ≡ generation
  pub node_is : at.node.book.node ≡ node
  pub token : s ≡ at.node.seat.standing
  pub note_is : note ≡ note_of at.seat
  pub is_level : StandsLevel at

-- It was down, and came back with a copy of the server of another node, as that stood.
pub record RevivesBehind (node : ℕ) : Type 0 where
  pub before : CombinerState
  pub after : CombinerState
  pub offer : OfferState
  pub offered : IsOffered offer
  pub revived : ComesBack offer before after
  pub node_is : before.node.book.node ≡ node
  pub was_level : StandsLevel before
  pub is_level : StandsLevel after

-- A turn of it, for no worker.
pub record CombinesBehind (places : ℕ) (result : Result Round Memory) : Type 0 where
  pub before : CombinerState
  pub after : CombinerState
  pub behind : Bool
  pub combined : HasCombined places All 0 result behind before after
  pub down : (result ≡ Ok rounds.Down) ↔ (after.node.replica.down ≡ true)
  pub was_level : StandsLevel before
  pub is_level : StandsLevel after

-- Its replica falls over the next entry, unless it is down.
pub record RefusesBehind : Type 0 where
  pub before : CombinerState
  pub after : CombinerState
  pub refused : after ≡ record before { node = refusing_node before.node }
  pub was_level : StandsLevel before
  pub is_level : StandsLevel after

-- Those of some connections that were cut as it stood were added, in their order. A worker had this generation then.
pub record CutsBehind (node worker generation : ℕ) (conns old new : List ConnId) : Type 0 where
  pub at : CombinerState
  pub node_is : at.node.book.node ≡ node
  pub met : generation_of worker at.counts ≡ generation
  pub added : new ≡ old ++ filter (is_cut_at at.node) conns
  pub is_level : StandsLevel at

-- The first of those that were cut as a node stood were added.
pub record CutsFrontBehind (conns old new : List ConnId) : Type 0 where
  pub at : NodeState
  pub left : List ConnId
  pub added : ListsFront (filter (is_cut_at at) conns) old new left
  pub is_level : IsLevel at.seat.standing at.replica
