-- One connection of a worker that had posted nothing.
use Rattle.std.specs.Prelude.{◌≡◌, ℕ, Bool, List, [], ◌∷◌, Contains, Option, Some, None}
use Rattle.nr_model.specs.Bytes.{Bytes}
use Rattle.nr_model.specs.Items.{Connection}
use Rattle.nr_entry.specs.Jobs.{connection_of}
use Rattle.nr_entry.specs.declared.batch.Batch.{Batch}
use Rattle.nr_log_end.specs.declared.standing.Standing.{Standing}
use Rattle.nr_slots.specs.declared.view.CombinerPast.{CombinerPast}
use Rattle.nr_node.specs.Sound.{IsSound, ServesOpened}
use Rattle.nr_node.specs.declared.collecting.LastPiece.{LastPiece}
use Rattle.nr_combiner.specs.Heard.{HasHeard, Knows}
use Rattle.nr_combiner.specs.Workers.{NodeHandleState}
use Rattle.nr_taps.specs.Marks.{Adopts}
use Rattle.nr_taps.specs.Taps.{HaveMet}
use Rattle.nr_worker.specs.Worker.{WorkerState, Served}

-- a connection that was fed these bytes at the first moment, and for which those were handed out
abbrev pub served_one : Connection → Bytes → Bytes → Served
served_one c sent got = record { connection = c; fed = record { connection = c; moment = 0; bytes = sent } ∷ []; closing = None; handed = got; ends = [] }

-- a worker that has had this connection alone
abbrev pub desk_of_one : ℕ → ℕ → List Batch → CombinerPast → Option Standing → Connection → Bytes → Bytes → WorkerState
desk_of_one node worker posted heard mark c sent got =
    record { node = node; worker = worker; posted = posted; heard = heard; mark = mark; served = served_one c sent got ∷ [] }

-- a connection was opened for a worker, whose mark keeps the token of that alone
pub record HasOpened (w : NodeHandleState) (c : Connection) (mark : Option Standing) : Type 0 where
  pub standing : Standing
  pub desk : CombinerPast
  pub knows : Knows w.seat.worker desk standing w.seat.lane
  pub serves : ServesOpened standing w.seat.worker c
  pub sound : IsSound standing × (standing.node ≡ w.node)
  pub adopted : Adopts None standing mark

-- a worker took a turn, heard this of its node's combiner, adopted its token, and got these bytes for a connection, the first that were handed out for it
pub record HasGotFirst (w : NodeHandleState) (c : Connection) (old new : Option Standing) (desk : CombinerPast) (got : Bytes) : Type 0 where
  pub most : ℕ
  pub down : Bool
  pub standing : Standing
  pub pieces : List LastPiece
  pub heard : HasHeard w.seat.worker most down desk standing w.seat.lane [] pieces
  pub sound : IsSound standing × (standing.node ≡ w.node)
  pub adopted : Adopts old standing new
  pub met : HaveMet old (Some standing)
  pub one : LastPiece
  pub there : Contains pieces one
  pub named : connection_of one.piece.conn ≡ c
  pub from : one.piece.from ≡ 0
  pub bytes : one.piece.bytes.items ≡ got
