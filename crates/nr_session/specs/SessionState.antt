-- What contracts see of a session, and the front of the jobs that is there where memory ran out.
use Rattle.std.specs.Prelude.{◌≡◌, ℕ, ◌+◌, ◌≤◌, Bool, List, ◌++◌, length, filter, take, Option, None, refl}
use Rattle.std.specs.Coded.{Coded, code_by, coded×, coded_ℕ, coded_bool, coded_option}
use Rattle.nr_model.specs.Bytes.{Bytes}
use Rattle.nr_model.specs.Commands.{served}
use Rattle.nr_model.specs.Requests.{Frame, Framing, framing_of}
use Rattle.nr_model.specs.Keyspace.{coded_bytes}
use Rattle.nr_model.specs.Items.{Connection, Item, is_end}
use Rattle.nr_model.specs.Modes.{Mode, Conversation, conversation, framed_conversation}
use Rattle.nr_model.specs.Asked.{jobs_from}
use Rattle.nr_session.specs.Coded.{coded_mode}

abbrev pub coded_connection : Coded Connection
coded_connection = code_by (ℕ × ℕ) (coded× coded_ℕ coded_ℕ) (λ c. (c.node, c.serial)) (λ p. record { node = p.0; serial = p.1 }) (λ _. refl)

-- the connection, the bytes since its last whole request, the mode that the requests left, the number of its next job, how many bytes
-- it was fed in all, whether it ended, and whether it gave an end then; the number of the first of its jobs that a fall of its node dropped, if one was dropped, and
-- whether its node fell while its queue wasn't cut
pub record SessionState : Type 0 where
  pub connection : Connection
  pub rest : Bytes
  pub mode : Mode
  pub next : ℕ
  pub fed : ℕ
  pub ended : Bool
  pub gave_end : Bool
  pub lost : Option ℕ
  pub fell : Bool

abbrev pub coded_session : Coded SessionState
coded_session =
    code_by (Connection × (Bytes × (Mode × (ℕ × (ℕ × (Bool × (Bool × (Option ℕ × Bool))))))))
    (coded× coded_connection (coded× coded_bytes (coded× coded_mode (coded× coded_ℕ (coded× coded_ℕ (coded× coded_bool (coded× coded_bool (coded× (coded_option coded_ℕ) coded_bool))))))))
    (λ s. (s.connection, (s.rest, (s.mode, (s.next, (s.fed, (s.ended, (s.gave_end, (s.lost, s.fell)))))))))
    (λ p. record {
      connection = p.0;
      rest = p.1.0;
      mode = p.1.1.0;
      next = p.1.1.1.0;
      fed = p.1.1.1.1.0;
      ended = p.1.1.1.1.1.0;
      gave_end = p.1.1.1.1.1.1.0;
      lost = p.1.1.1.1.1.1.1.0;
      fell = p.1.1.1.1.1.1.1.1;
    }) (λ _. refl)

-- the frames of the rest and a piece behind it, and what they ask for in a mode
abbrev pub framed : Bytes → Bytes → Framing
framed rest piece = framing_of (rest ++ piece)

abbrev pub asked : Mode → Bytes → Bytes → Conversation
asked mode rest piece = framed_conversation served mode (framed rest piece)

-- what the frames alone ask for, without a fault
abbrev pub requested : Mode → List Frame → Conversation
requested mode frames = conversation served mode frames None

abbrev pub request_jobs : Connection → ℕ → ℕ → Mode → List Frame → List Item
request_jobs c next moment mode frames = jobs_from c next moment (requested mode frames).deeds

-- the first of these frames
abbrev pub IsFrontOf : List Frame → List Frame → Type 0
IsFrontOf some all = (n : ℕ) × (some ≡ take n all)

-- the first of all jobs were added, and the next number stands behind them
pub record AddsFront (old new : List Item) (next next' : ℕ) (all : List Item) : Type 0 where
  pub count : ℕ
  pub few : count ≤ length all
  pub added : new ≡ old ++ take count all
  pub numbered : next' ≡ next + count

-- how many of these end a connection
abbrev pub ends : List Item → ℕ
ends items = length (filter (λ item. is_end item.deed) items)
