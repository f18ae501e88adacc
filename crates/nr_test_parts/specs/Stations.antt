-- The workers of all nodes of a server, and what a turn of one comes to.
use Rattle.std.specs.Prelude.{◌≡◌, ℕ, List, [], length, slice_get, Option, Some, flat_map}
use Rattle.nr_oplog.specs.declared.view.LogView.{LogView}
use Rattle.nr_slots.specs.Seats.{NoteView}
use Rattle.nr_node.specs.declared.collecting.LastPiece.{LastPiece}
use Rattle.nr_combiner.specs.Behind.{TurnsBehind}
use Rattle.nr_combiner.specs.Workers.{NodeHandleState, IsNode}
use Rattle.nr_combiner.specs.declared.answering.Lifts.{Lifts}
use Rattle.nr_combiner.specs.declared.answering.Turned.{Turned}

-- These are the workers of so many nodes, those of node 0 first, each of so many workers, connections and bytes for one, none of which has handed in anything yet.
pub record AreOfNodes (nodes workers connections limit : ℕ) (all : List NodeHandleState) : Type 0 where
  pub by_node : List (List NodeHandleState)
  pub count : length by_node ≡ nodes
  pub each : (node : ℕ) (list : List NodeHandleState) → slice_get by_node node ≡ Some list → IsNode workers connections limit node list
  pub order : all ≡ flat_map (λ (list : List NodeHandleState). list) by_node

-- its node took a turn for the worker, which handed out these pieces, and as the token keeps it stood behind that
pub record HasTurnedAt (places : ℕ) (worker : NodeHandleState) (which : Lifts) (most : ℕ) (pieces : List LastPiece) (turned : Turned) (token : Option LogView) : Type 0 where
  pub view : LogView
  pub there : token ≡ Some view
  pub note : NoteView
  pub behind : TurnsBehind places worker.node worker.seat.worker worker.generation which most [] pieces turned view.standing note
