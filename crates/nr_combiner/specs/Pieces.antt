-- What a node hands out, as it stands once the lock is free again.
use Rattle.std.specs.Prelude.{◌≡◌, ℕ, ◌<◌, ◌≤◌, Bool, false, List, [], ◌∷◌, ◌++◌, length, drop, Contains}
use Rattle.std.specs.List.{AllByRecursion, slice_get}
use Rattle.nr_model.specs.Bytes.{IsBeginningOf}
use Rattle.nr_model.specs.Items.{Connection, Item, Sequence}
use Rattle.nr_model.specs.Sequential.{emitted_for}
use Rattle.nr_entry.specs.Jobs.{connection_of, items_of}
use Rattle.nr_entry.specs.declared.conn.ConnId.{ConnId}
use Rattle.nr_entry.specs.declared.batch.Answer.{Answer}
use Rattle.nr_entry.specs.declared.batch.Batch.{Batch}
use Rattle.nr_log_end.specs.declared.standing.Standing.{Standing}
use Rattle.nr_log_end.specs.Standings.{record_of}
use Rattle.nr_slots.specs.declared.view.CombinerPast.{CombinerPast}
use Rattle.nr_replica.specs.declared.outbox.Piece.{Piece}
use Rattle.nr_node.specs.Sound.{IsSound, ServesOpened}
use Rattle.nr_node.specs.declared.collecting.LastPiece.{LastPiece}
use Rattle.nr_combiner.specs.Served.{AreExecuted, ComesFrom, HandsNoneBack}

-- at most so many bytes for a connection of the node that stands so, which are emitted for it along the record, behind as many as the piece says
pub record IsPieceOf (c : Connection) (most : ℕ) (piece : Piece) (s : Standing) : Type 0 where
  pub connection : connection_of piece.conn ≡ c
  pub node : (connection_of piece.conn).node ≡ s.node
  pub some : 0 < length piece.bytes.items
  pub few : length piece.bytes.items ≤ most
  pub emitted : IsBeginningOf piece.bytes.items (drop piece.from (emitted_for (connection_of piece.conn) (record_of s.history)))
  pub sound : IsSound s

-- a piece, told with whether its queue is cut: where it isn't, and the node is up, fewer bytes than were asked for are all that the record emits
pub record IsHandedOf (most : ℕ) (down : Bool) (one : LastPiece) (s : Standing) : Type 0 where
  pub piece : IsPieceOf (connection_of one.piece.conn) most one.piece s
  pub whole : down ≡ false → one.is_cut ≡ false → length one.piece.bytes.items < most
      → one.piece.bytes.items ≡ drop one.piece.from (emitted_for (connection_of one.piece.conn) (record_of s.history))

-- each is for a connection with a lower serial than those behind it
abbrev pub AreRising : List LastPiece → Type 0
AreRising [] = Unit {0}
AreRising (one ∷ more) = AllByRecursion (λ (other : LastPiece). one.piece.conn.serial < other.piece.conn.serial) more × AreRising more

-- What was taken before stays in front, and each piece behind it is so: by serial, one for a connection at most, and all of the record of one standing; and this
-- holds of the connection of each.
pub record HasAdded (most : ℕ) (down : Bool) (s : Standing) (P : Connection → Type 0) (old new : List LastPiece) : Type 0 where
  pub pieces : List LastPiece
  pub behind : new ≡ old ++ pieces
  pub all : AllByRecursion (λ (one : LastPiece). IsHandedOf most down one s) pieces
  pub own : AllByRecursion (λ (one : LastPiece). P (connection_of one.piece.conn)) pieces
  pub rising : AreRising pieces

-- One of these batches has the job, and wasn't handed back by these answers.
pub record IsHandedIn (posted : List Batch) (answered : List Answer) (job : Item) : Type 0 where
  pub before : List Batch
  pub batch : Batch
  pub after : List Batch
  pub posted_is : posted ≡ before ++ batch ∷ after
  pub kept : HandsNoneBack (slice_get answered (length before))
  pub has : ComesFrom job (items_of batch.jobs.items)

-- so is each job of a connection in a record, by what a combiner has done at a desk
abbrev pub AreHandedIn : CombinerPast → Sequence → Connection → Type 0
AreHandedIn desk done c = AllByRecursion (λ (job : Item). job.connection ≡ c → IsHandedIn desk.lifted desk.answered job) done

-- so is each job of a connection that the worker serves
abbrev pub HasOwn : ℕ → CombinerPast → Standing → Type 0
HasOwn worker desk s = (c : Connection) → ServesOpened s worker c → AreHandedIn desk (record_of s.history) c

-- the jobs of each batch that was answered as executed are in the record
abbrev pub HasExecuted : CombinerPast → Standing → Type 0
HasExecuted desk s = AreExecuted (record_of s.history) desk.lifted desk.answered

-- one of these batches has a job of the connection
pub record HasJobOf (c : Connection) (batches : List Batch) : Type 0 where
  pub batch : Batch
  pub there : Contains batches batch
  pub job : Item
  pub has : Contains (items_of batch.jobs.items) job
  pub own : job.connection ≡ c

-- what was there stays in front, and the first of all of these stand behind it, so that these are left
pub record ListsFront (all old new left : List ConnId) : Type 0 where
  pub more : List ConnId
  pub behind : new ≡ old ++ more
  pub front : more ++ left ≡ all
