-- What contracts see of a connection and of its worker.
use Rattle.std.specs.Prelude.{◌≡◌, ◌↔◌, ℕ, ◌+◌, ◌<◌, ◌≤◌, Bool, true, false, None, [], length}
use Rattle.nr_model.specs.Items.{Connection}
use Rattle.nr_model.specs.Modes.{plain}
use Rattle.nr_entry.specs.declared.batch.Outcome.{Outcome}
use Rattle.nr_entry.specs.declared.batch.Outcome.TheVariants.{Executed}
use Rattle.nr_session.specs.SessionState.{SessionState}
use Rattle.nr_taps.specs.Taps.{TapState}
use Rattle.nr_combiner.specs.Workers.{NodeHandleState, HasCollected}
use Rattle.nr_test_parts.specs.declared.client.Offered.{Offered}
use Rattle.nr_test_parts.specs.declared.client.Offered.TheVariants.{Nothing, Accepted, Refused}

-- a session of a connection that was fed nothing
abbrev pub fresh_session : Connection → SessionState
fresh_session c = record { connection = c; rest = []; mode = plain; next = 0; fed = 0; ended = false; gave_end = false; lost = None; fell = false }

-- a piece was accepted, of one byte at least and so many at most, or nothing changed
abbrev pub HasOffered : ℕ → Offered → TapState → TapState → Type 0
HasOffered most Nothing t u = u ≡ t
HasOffered most Accepted t u = (length t.pending < length u.pending) × (length u.pending ≤ length t.pending + most) × (u.written ≡ t.written)
HasOffered most (Refused from why) t u = u ≡ t

-- a worker collected the answer to its last batch, and whether that says that it was executed
pub record HasTold (is_executed : Bool) (w v : NodeHandleState) : Type 0 where
  pub outcome : Outcome
  pub collected : HasCollected outcome w v
  pub told : (is_executed ≡ true) ↔ (outcome ≡ Executed)
