-- What a worker keeps of its connections, and how each call changes it.
use Rattle.std.specs.Prelude.{◌≡◌, ℕ, ◌+◌, ◌≤◌, ◌^◌, ◌==◌, nat_le, Bool, true, false, not, ◌&&◌, cond, Option, None, Some, List, [], ◌++◌, drop, length, refl}
use Rattle.std.specs.Coded.{Coded, code_by, coded×, coded_ℕ, coded_bool}
use Rattle.nr_model.specs.Bytes.{Bytes}
use Rattle.nr_model.specs.Keyspace.{coded_bytes}
use Rattle.nr_model.specs.Items.{Connection, Item, End}
use Rattle.nr_model.specs.Modes.{is_subscribed, plain}
use Rattle.nr_model.specs.Asked.{jobs_from}
use Rattle.nr_replica.specs.declared.cut.CutReason.{CutReason}
use Rattle.nr_replica.specs.declared.cut.CutReason.TheVariants.{Full, Refused, Fallen, Closed}
use Rattle.nr_session.specs.SessionState.{SessionState, coded_session, framed, asked, request_jobs, AddsFront, ends}

-- of one connection: its session, the bytes that were handed out for it and aren't written yet, how many were handed out in all, and
-- whether no more bytes are taken from it
pub record OpenConnectionState : Type 0 where
  pub session : SessionState
  pub pending : Bytes
  pub handed : ℕ
  pub cut : Bool

abbrev pub coded_seat : Coded OpenConnectionState
coded_seat =
    code_by (SessionState × (Bytes × (ℕ × Bool))) (coded× coded_session (coded× coded_bytes (coded× coded_ℕ coded_bool)))
    (λ s. (s.session, (s.pending, (s.handed, s.cut)))) (λ p. record { session = p.0; pending = p.1.0; handed = p.1.1.0; cut = p.1.1.1 }) (λ _. refl)

-- a session that was fed nothing
abbrev pub fresh_session : Connection → SessionState
fresh_session c = record { connection = c; rest = []; mode = plain; next = 0; fed = 0; ended = false; gave_end = false; lost = None; fell = false }

-- a connection that was just opened
abbrev pub fresh_seat : Connection → OpenConnectionState
fresh_seat c = record { session = fresh_session c; pending = []; handed = 0; cut = false }

-- whether bytes are taken from it
abbrev pub takes : OpenConnectionState → Bool
takes s = not s.session.ended && not s.cut

-- whether messages may come for it, since it is subscribed to something
abbrev pub listens : OpenConnectionState → Bool
listens s = is_subscribed s.session.mode

-- no more bytes are taken from it
abbrev pub cut_off : OpenConnectionState → OpenConnectionState
cut_off s = record s { cut = true }

-- bytes were handed out for it, behind those that wait
abbrev pub with_bytes : Bytes → OpenConnectionState → OpenConnectionState
with_bytes bytes s = record s { pending = s.pending ++ bytes; handed = s.handed + length bytes }

-- whether so many bytes that begin behind so many are the next for it, at most so many wait behind them, and a u64 counts them
abbrev pub has_room : ℕ → ℕ → ℕ → OpenConnectionState → Bool
has_room from more limit s = from == s.handed && (nat_le (length s.pending + more) limit && nat_le (s.handed + more + 1) (2 ^ 64))

-- it was cut since there was no room, or no memory
abbrev pub IsFullOrRefused : CutReason → Type 0
IsFullOrRefused Full = Unit {0}
IsFullOrRefused (Refused memory) = Unit {0}
IsFullOrRefused Fallen = ⊥
IsFullOrRefused Closed = ⊥

-- so many of the bytes that wait were written
abbrev pub with_written : ℕ → OpenConnectionState → OpenConnectionState
with_written count s = record s { pending = drop count s.pending }

-- Bytes were fed at a moment: the jobs that they ask for stand behind those before, and the session has gone on by them.
pub record HasFed (moment : ℕ) (piece : Bytes) (old new : OpenConnectionState) (before after : List Item) : Type 0 where
  pub jobs : after ≡ before ++ jobs_from old.session.connection old.session.next moment (asked old.session.mode old.session.rest piece).deeds
  pub next : new.session.next ≡ old.session.next + length (asked old.session.mode old.session.rest piece).deeds
  pub fed : new.session.fed ≡ old.session.fed + length piece
  pub mode : new.session.mode ≡ (asked old.session.mode old.session.rest piece).mode
  pub ended : new.session.ended ≡ (asked old.session.mode old.session.rest piece).ended
  pub gave_end : new.session.gave_end ≡ (asked old.session.mode old.session.rest piece).ended
  pub rest : new.session.ended ≡ false → new.session.rest ≡ (framed old.session.rest piece).rest
  pub numbers : new.session.ended ≡ false → new.session.next + length new.session.rest ≤ old.session.next + (length old.session.rest + length piece)
  pub connection : new.session.connection ≡ old.session.connection
  pub pending : new.pending ≡ old.pending
  pub handed : new.handed ≡ old.handed
  pub cut : new.cut ≡ old.cut

-- Bytes were not fed to their end: no more are taken. Of the jobs that they ask for the first stand behind those before, none of them an end.
pub record HasStopped (moment : ℕ) (piece : Bytes) (old new : OpenConnectionState) (before after : List Item) : Type 0 where
  pub jobs : AddsFront before after old.session.next new.session.next
      (request_jobs old.session.connection old.session.next moment old.session.mode (framed old.session.rest piece).frames)
  pub no_end : ends after ≡ ends before
  pub gave_end : new.session.gave_end ≡ old.session.gave_end
  pub connection : new.session.connection ≡ old.session.connection
  pub pending : new.pending ≡ old.pending
  pub handed : new.handed ≡ old.handed
  pub cut : new.cut ≡ true

-- A piece was accepted: it begins where those before it ended, and no more than so many bytes wait behind it.
pub record HasAccepted (limit from : ℕ) (bytes : Bytes) (old new : OpenConnectionState) : Type 0 where
  pub next : from ≡ old.handed
  pub is : new ≡ with_bytes bytes old
  pub within : length new.pending ≤ limit

-- the last job of a connection that is closed at a moment, where its session gave no end before
abbrev pub last_job : ℕ → OpenConnectionState → Option Item
last_job moment s =
    cond s.session.gave_end None (Some (record { connection = s.session.connection; number = s.session.next; moment = moment; deed = End None }))

-- it was closed: its session keeps nothing any more, and takes nothing
abbrev pub closed_seat : OpenConnectionState → OpenConnectionState
closed_seat s = record s { session = record s.session { rest = []; mode = plain; ended = true } }
