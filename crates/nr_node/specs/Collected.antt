-- What a node hands out in one go of what waits for a worker's connections.
use Rattle.std.specs.Prelude.{◌≡◌, ◌≢◌, ℕ, ◌<◌, false, List, [], ◌∷◌, ◌++◌, length, drop, Result, OnOk, OnErr}
use Rattle.nr_blob.specs.declared.memory.Memory.{Memory}
use Rattle.nr_replica.specs.Members.{ready_of}
use Rattle.nr_node.specs.Batches.{IsPiece}
use Rattle.nr_node.specs.Level.{NodeState, connection_at, queue_at, emitted_to}
use Rattle.nr_node.specs.Sound.{IsSound}
use Rattle.nr_node.specs.declared.collecting.LastPiece.{LastPiece}
use Rattle.nr_node.specs.Steps.{HasHandedOut}

-- The first bytes that wait for the connection of this serial were handed out, of the record as it stands, and whether its queue is cut is told. Where it isn't,
-- and the replica is up, fewer than so many are all that the record emits.
pub record IsHanded (most serial : ℕ) (one : LastPiece) (n m : NodeState) : Type 0 where
  pub piece : IsPiece n (connection_at n.replica.node serial) most one.piece n.seat.standing
  pub cut : one.is_cut ≡ (queue_at serial n.replica.members).cut
  pub whole : n.replica.down ≡ false → one.is_cut ≡ false → length one.piece.bytes.items < most
      → one.piece.bytes.items ≡ drop one.piece.from (emitted_to n.seat.standing serial)
  pub sound : IsSound n.seat.standing
  pub handed : HasHandedOut serial most n m

-- one piece for each of these serials, handed out in this order, each of the node as it stood then
abbrev pub AreHanded : ℕ → List ℕ → List LastPiece → NodeState → NodeState → Type 0
AreHanded most [] [] n m = m ≡ n
AreHanded most [] (one ∷ pieces) n m = ⊥
AreHanded most (serial ∷ serials) [] n m = ⊥
AreHanded most (serial ∷ serials) (one ∷ pieces) n m = (mid : NodeState) × IsHanded most serial one n mid × AreHanded most serials pieces mid m

-- such a piece stands behind what was taken before
pub record HandsOver (most serial : ℕ) (old new : List LastPiece) (n m : NodeState) : Type 0 where
  pub one : LastPiece
  pub handed : IsHanded most serial one n m
  pub behind : new ≡ old ++ one ∷ []

-- Behind what was taken before stands a piece for each of the worker's connections for which bytes waited, by serial; or for the first of these alone, where
-- memory ran out before the last.
pub record Collects (worker most : ℕ) (old new : List LastPiece) (result : Result (Unit {0}) Memory) (n m : NodeState) : Type 0 where
  pub serials : List ℕ
  pub pieces : List LastPiece
  pub behind : new ≡ old ++ pieces
  pub handed : AreHanded most serials pieces n m
  pub left : List ℕ
  pub ready : serials ++ left ≡ ready_of worker n.replica.members
  pub all : OnOk result (left ≡ [])
  pub some : OnErr result (left ≢ [])
