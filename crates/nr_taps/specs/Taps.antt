-- A connection's tap: what was handed out for it and isn't written yet.
use Rattle.std.specs.Prelude.{◌≡◌, ℕ, ◌+◌, ◌^◌, ◌<◌, ◌≤◌, ◌==◌, cond, [], ◌++◌, length, take, drop, Option, Some, None, option_map, refl}
use Rattle.std.specs.Coded.{Coded, code_by, coded×, coded_ℕ, coded_option}
use Rattle.std.specs.Ordering.{nat_cmp}
use Rattle.std.specs.declared.cmp.Ordering.{Ordering}
use Rattle.nr_model.specs.Bytes.{Bytes, IsBeginningOf}
use Rattle.nr_model.specs.Items.{Connection, Sequence, same_connection}
use Rattle.nr_model.specs.Keyspace.{coded_bytes}
use Rattle.nr_model.specs.Sequential.{emitted_for}
use Rattle.nr_log_end.specs.declared.standing.Standing.{Standing}
use Rattle.nr_log_end.specs.contracts.standing.Standing as of_standing
use Rattle.nr_log_end.specs.Standings.{known_of, record_of}
use Rattle.nr_oplog.specs.declared.view.LogView.{LogView}
use Rattle.nr_oplog.specs.Plays.{AreOfOneLog}
use Rattle.nr_replica.specs.declared.outbox.Piece.{Piece}
use Rattle.nr_node.specs.Sound.{IsSound}
use Rattle.nr_taps.specs.declared.tap.Refused.{Refused}
use Rattle.nr_taps.specs.declared.tap.Refused.TheVariants as refusals

-- Its connection, the bytes that aren't written yet, how many were written before them, and what the node had done when it handed out the last that were
-- accepted
pub record TapState : Type 0 where
  pub connection : Connection
  pub pending : Bytes
  pub written : ℕ
  pub standing : Option Standing

abbrev pub coded_connection : Coded Connection
coded_connection = code_by (ℕ × ℕ) (coded× coded_ℕ coded_ℕ) (λ c. (c.node, c.serial)) (λ p. record { node = p.0; serial = p.1 }) (λ _. refl)

abbrev pub coded_tap : Coded TapState
coded_tap =
    code_by (Connection × (Bytes × (ℕ × Option Standing)))
    (coded× coded_connection (coded× coded_bytes (coded× coded_ℕ (coded_option of_standing.the_row.coded))))
    (λ t. (t.connection, (t.pending, (t.written, t.standing))))
    (λ p. record { connection = p.0; pending = p.1.0; written = p.1.1.0; standing = p.1.1.1 }) (λ _. refl)

-- what the node had done by a token, if there is one
abbrev pub standing_of : Option LogView → Option Standing
standing_of token = option_map (λ (t : LogView). t.standing) token

-- how many bytes it has accepted, written or not
abbrev pub accepted : TapState → ℕ
accepted t = t.written + length t.pending

-- the record of its node then, and what one sequential Redis emits for its connection along that
abbrev pub record_in : Option Standing → Sequence
record_in None = []
record_in (Some s) = record_of s.history

abbrev pub emitted_by : TapState → Bytes
emitted_by t = emitted_for t.connection (record_in t.standing)

-- it is a sound standing of the connection's node
abbrev pub IsSoundAt : ℕ → Option Standing → Type 0
IsSoundAt node None = Unit {0}
IsSoundAt node (Some s) = IsSound s × (node ≡ s.node)

-- What holds of a tap: what is pending is emitted behind as many bytes as were written, the standing is sound, and a u64 counts the bytes.
pub record IsTapped (t : TapState) : Type 0 where
  pub within : accepted t ≤ length (emitted_by t)
  pub begins : IsBeginningOf t.pending (drop t.written (emitted_by t))
  pub sound : IsSoundAt t.connection.node t.standing
  pub counted : accepted t < 2 ^ 64

-- a tap with nothing
abbrev pub fresh_tap : Connection → TapState
fresh_tap c = record { connection = c; pending = []; written = 0; standing = None }

-- the same piece
abbrev pub IsSamePiece : Piece → Piece → Type 0
IsSamePiece a b = (a.conn ≡ b.conn) × (a.from ≡ b.from) × (a.bytes.items ≡ b.bytes.items)

-- a piece was taken in, and it was handed out at this standing
abbrev pub with_piece : Bytes → Standing → TapState → TapState
with_piece bytes s t = record t { pending = t.pending ++ bytes; standing = Some s }

-- the first so many bytes were written
abbrev pub with_written : ℕ → TapState → TapState
with_written count t = record t { pending = drop count t.pending; written = t.written + count }

-- what a piece of a connection, behind so many bytes, is refused for, where there is memory
abbrev pub refusal : TapState → Connection → ℕ → Option Refused
refusal t c from = cond (same_connection c t.connection) (cond (from == accepted t) None (Some refusals.Gap)) (Some refusals.OtherConnection)

-- two standings are of one log, where both are there
abbrev pub HaveMet : Option Standing → Option Standing → Type 0
HaveMet (Some s) (Some t) = AreOfOneLog s t
HaveMet (Some s) None = Unit {0}
HaveMet None t = Unit {0}

-- how many entries they know, compared
abbrev pub order_of : Option Standing → Option Standing → Option Ordering
order_of (Some s) (Some t) = Some (nat_cmp (length (known_of s)) (length (known_of t)))
order_of (Some s) None = None
order_of None t = None

-- the bytes that a tap has accepted, written or pending: the first of what one sequential Redis emits along its record
abbrev pub bytes_accepted : TapState → Bytes
bytes_accepted t = take (accepted t) (emitted_by t)
