-- What a batch is refused for, and what a node hands out.
use Rattle.std.specs.Prelude.{◌≡◌, ℕ, ◌<◌, Bool, ◌&&◌, ◌==◌, nat_lt, cond, length, take, drop, Option, Some, None}
use Rattle.nr_model.specs.Bytes.{IsBeginningOf}
use Rattle.nr_model.specs.Items.{Connection}
use Rattle.nr_model.specs.Sequential.{emitted_for}
use Rattle.nr_entry.specs.Jobs.{connection_of}
use Rattle.nr_entry.specs.declared.conn.ConnId.{ConnId}
use Rattle.nr_entry.specs.declared.batch.Batch.{Batch}
use Rattle.nr_entry.specs.declared.batch.Refusal.{Refusal}
use Rattle.nr_entry.specs.declared.batch.Refusal.TheVariants as refusals
use Rattle.nr_log_end.specs.declared.standing.Standing.{Standing}
use Rattle.nr_log_end.specs.Standings.{record_of}
use Rattle.nr_replica.specs.declared.outbox.Piece.{Piece}
use Rattle.nr_job_numbers.specs.Book.{refusal_of}
use Rattle.nr_node.specs.Level.{NodeState, queue_at}
use Rattle.nr_node.specs.declared.answers.TakeError.{TakeError}
use Rattle.nr_node.specs.declared.answers.TakeError.TheVariants as errors

-- the same batch
abbrev pub AreSame : Batch → Batch → Type 0
AreSame a b = (a.node ≡ b.node) × (a.worker ≡ b.worker) × (a.number ≡ b.number) × (a.jobs.items ≡ b.jobs.items)

-- a refusal by the accounts
abbrev pub take_error : Refusal → TakeError
take_error refusals.Stranger = errors.Stranger
take_error refusals.WrongNumber = errors.WrongNumber
take_error (refusals.Memory memory) = errors.Memory memory

-- what a batch is refused for, where there is memory
abbrev pub refused_by : Option Refusal → Option TakeError
refused_by (Some why) = Some (take_error why)
refused_by None = None

abbrev pub refusal : NodeState → Batch → Option TakeError
refusal n batch = cond n.replica.down (Some errors.Down) (refused_by (refusal_of n.book batch))

-- a connection of the node that was opened
abbrev pub IsOpened : NodeState → Connection → Type 0
IsOpened n c = (c.node ≡ n.replica.node) × (c.serial < length n.replica.members)

-- whether it is such a connection, for which nothing more comes to wait
abbrev pub is_cut_at : NodeState → ConnId → Bool
is_cut_at n conn = (conn.node == n.replica.node && nat_lt conn.serial (length n.replica.members)) && (queue_at conn.serial n.replica.members).cut

-- what is handed out: the first bytes that wait for the connection, and these are emitted for it along the record behind so many
pub record IsPiece (n : NodeState) (c : Connection) (most : ℕ) (piece : Piece) (s : Standing) : Type 0 where
  pub opened : IsOpened n c
  pub connection : connection_of piece.conn ≡ c
  pub from : piece.from ≡ (queue_at c.serial n.replica.members).handed
  pub bytes : piece.bytes.items ≡ take most (queue_at c.serial n.replica.members).waiting
  pub some : 0 < length piece.bytes.items
  pub record_is : s ≡ n.seat.standing
  pub node : c.node ≡ s.node
  pub emitted : IsBeginningOf piece.bytes.items (drop piece.from (emitted_for c (record_of s.history)))
