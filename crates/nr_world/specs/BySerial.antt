-- The sessions of a node's connections, by serial.
use Rattle.std.specs.Prelude.{ℕ, true, false, List, [], map, Option, Some, None}
use Rattle.std.specs.Coded.{Coded, coded_list}
use Rattle.std.specs.List.{range_with_len}
use Rattle.std.specs.Map.{lookup}
use Rattle.std.specs.Ordering.{eq_by_cmp, nat_cmp}
use Rattle.nr_model.specs.Items.{Connection}
use Rattle.nr_model.specs.Modes.{plain}
use Rattle.nr_session.specs.SessionState.{SessionState, coded_session}

abbrev pub coded_sessions : Coded (List SessionState)
coded_sessions = coded_list coded_session

-- one that takes bytes, from the first on
abbrev pub fresh_session : Connection → SessionState
fresh_session c = record { connection = c; rest = []; mode = plain; next = 0; fed = 0; ended = false; gave_end = false; lost = None; fell = false }

-- what is left of one that was closed: nothing
abbrev pub closed_session : SessionState
closed_session = record { connection = record { node = 0; serial = 0 }; rest = []; mode = plain; next = 0; fed = 0; ended = true; gave_end = false; lost = None; fell = false }

-- those that aren't closed, by serial
abbrev pub Entries : Type 0
Entries = List (ℕ × SessionState)

abbrev pub session_in : ℕ → Entries → Option SessionState
session_in serial entries = lookup (λ (key : ℕ). eq_by_cmp nat_cmp serial key) entries

abbrev pub session_or_closed : Option SessionState → SessionState
session_or_closed None = closed_session
session_or_closed (Some session) = session

abbrev pub session_at : Entries → ℕ → SessionState
session_at entries serial = session_or_closed (session_in serial entries)

-- all that were ever opened
abbrev pub sessions_of : ℕ → Entries → List SessionState
sessions_of count entries = map (session_at entries) (range_with_len 0 count)
