-- Which clients are over, and how they are let go of.
use Rattle.std.specs.Prelude.{◌≡◌, ◌≢◌, ℕ, ◌+◌, ◌<◌, ◌≤◌, Bool, true, false, cond, ◌⊎◌, List, [], ◌∷◌, ◌++◌, length, map, slice_index_or, Option, None, Some, All, IsPermutation}
use Rattle.nr_model.specs.Bytes.{Bytes}
use Rattle.nr_model.specs.Items.{Connection}
use Rattle.nr_service.specs.Readings.{IsClosedAt}
use Rattle.nr_service.specs.Serving.{connection, streams_of, IsLeft, IsWithin, AreServed}
use Rattle.nr_service.specs.Silence.{IsSilent}
use Rattle.nr_service.specs.declared.client.Client.{Client}
use Rattle.nr_service.specs.declared.client.Ending.{Ending}
use Rattle.nr_service.specs.declared.client.Ending.TheVariants as endings
use Rattle.nr_service.specs.declared.leaving.LeavingBounds.{LeavingBounds}
use Rattle.nr_service.specs.Pollers.{Parting, Finished, Abandoned, GivesBack, PartsWith}
use Rattle.nr_service.specs.Stories.{Occurrence, Story, Past, Kept, IsShut, closed_at, closings_in, opened_in, fed_in, going_on, kept_bytes}
use Rattle.nr_service.specs.declared.backend.ConnectionState.{ConnectionState}
use Rattle.nr_service.specs.declared.backend.ConnectionState.TheVariants as standings
use Rattle.nr_service.specs.Streams.{Course}

-- the bytes that are kept for a client
abbrev pub kept_for : {S : Type 0} → Kept → Client S → Bytes
kept_for keeps client = kept_bytes (keeps (connection client))

-- its connection takes no more bytes
abbrev pub TakesNone : (Connection → ConnectionState → Type 0) → Connection → Type 0
TakesNone stands c = (standing : ConnectionState) × stands c standing × (standing ≢ standings.Open)

-- ten seconds went by since a moment that is given
abbrev pub IsSlow : Option ℕ → ℕ → Type 0
IsSlow None now = ⊥
IsSlow (Some fell) now = fell + 10000 ≤ now

-- what answers it is down, and it took no byte, and gave none, for a second, or was seen ten seconds ago to take less than was there for it
abbrev pub IsStuck : {S : Type 0} → (Connection → ConnectionState → Type 0) → LeavingBounds → Client S → Type 0
IsStuck stands bounds client = ((client.heard + 1000 ≤ bounds.now) ⊎ IsSlow client.fell bounds.now) × stands (connection client) standings.Down

-- what answers it stands so that it isn't down
abbrev pub IsNoneDown : (Connection → ConnectionState → Type 0) → Connection → Type 0
IsNoneDown stands c = (standing : ConnectionState) × stands c standing × (standing ≢ standings.Down)

-- what answers it isn't down, or it took a byte, or gave one, within a second, and wasn't seen ten seconds ago to take less than was there for it
abbrev pub IsFlowing : {S : Type 0} → (Connection → ConnectionState → Type 0) → LeavingBounds → Client S → Type 0
IsFlowing stands bounds client = (¬ ((client.heard + 1000 ≤ bounds.now) ⊎ IsSlow client.fell bounds.now)) ⊎ IsNoneDown stands (connection client)

-- Since when what answers a client is down while its stream takes less than is there for it, as it is seen at a moment: since the moment that is known; else since this one, where
-- its stream takes less now and what answers it is down.
abbrev pub IsDownSince : {S : Type 0} → (Connection → ConnectionState → Type 0) → ℕ → Client S → Option ℕ → Type 0
IsDownSince stands moment client (Some since) =
    (client.fell ≡ Some since) ⊎ ((client.fell ≡ None) × (client.is_full ≡ true) × (since ≡ moment) × stands (connection client) standings.Down)
IsDownSince stands moment client None = (client.fell ≡ None) × ((client.is_full ≡ false) ⊎ IsNoneDown stands (connection client))

-- How a client ends by these bounds. It is lost where its stream failed or more waits for it than may, and where some does and it is stuck; else, where nothing waits for it and what answers
-- isn't busy, it has finished where its input has ended or its connection takes no more bytes, and else it is silent where it was so for too long; and
-- else it goes on.
abbrev pub IsEnding : {S : Type 0} → Kept → (Connection → ConnectionState → Type 0) → Bool → LeavingBounds → Client S → Option Ending → Type 0
IsEnding keeps stands busy bounds client None =
    IsWithin keeps bounds.limit client
    × (((0 < length (kept_for keeps client)) × IsFlowing stands bounds client) ⊎ (busy ≡ true)
    ⊎ ((client.is_ending ≡ false) × stands (connection client) standings.Open × (¬ IsSilent bounds client)))
IsEnding keeps stands busy bounds client (Some endings.Finished) =
    IsWithin keeps bounds.limit client × (kept_for keeps client ≡ []) × (busy ≡ false)
    × ((client.is_ending ≡ true) ⊎ TakesNone stands (connection client))
IsEnding keeps stands busy bounds client (Some endings.Silent) =
    IsWithin keeps bounds.limit client × (kept_for keeps client ≡ []) × (busy ≡ false) × (client.is_ending ≡ false)
    × stands (connection client) standings.Open × IsSilent bounds client
IsEnding keeps stands busy bounds client (Some endings.Lost) =
    (client.is_broken ≡ true) ⊎ ((bounds.limit < length (kept_for keeps client)) ⊎ ((0 < length (kept_for keeps client)) × IsStuck stands bounds client))

-- A client that was let go, how it ended, and whether its connection was closed by that: else it took no room any more. And what answers before and
-- behind that.
pub record Gone (A S : Type 0) : Type 0 where
  pub client : Client S
  pub ending : Ending
  pub closed : Bool
  pub before : A
  pub after : A

-- the connections that were closed, all at this moment
abbrev pub shut_by : {A S : Type 0} → ℕ → List (Gone A S) → List Occurrence
shut_by now [] = []
shut_by now (one ∷ gone) = cond one.closed (closed_at (connection one.client) now ∷ shut_by now gone) (shut_by now gone)

-- how a stream is given back to its device
abbrev pub parting : {S : Type 0} → Ending → S → Parting S
parting endings.Finished stream = Finished stream
parting endings.Silent stream = Finished stream
parting endings.Lost stream = Abandoned stream

abbrev pub parting_of : {A S : Type 0} → Gone A S → Parting S
parting_of one = parting one.ending one.client.stream

abbrev pub client_of : {A S : Type 0} → Gone A S → Client S
client_of one = one.client

-- It was over where it went, and was closed at the moment by which it was judged, unless it took no room any more. It takes none behind that.
pub record HasGone {A S : Type 0} (keeps : A → Kept) (stands : A → Connection → ConnectionState → Type 0) (busy : A → Bool)
    (is_gone : A → Connection → Type 0) (bounds : LeavingBounds) (one : Gone A S) : Type 0 where
  pub over : IsEnding (keeps one.before) (stands one.before) (busy one.before) bounds one.client (Some one.ending)
  pub shut : IsShut (connection one.client) bounds.now (is_gone one.before (connection one.client)) (shut_by bounds.now (one ∷ []))
  pub away : is_gone one.after (connection one.client)

-- they went one behind the other, and what answers did nothing between
abbrev pub AreGone : {A S : Type 0} → A → List (Gone A S) → A → Type 0
AreGone before [] after = after ≡ before
AreGone before (one ∷ gone) after = (one.before ≡ before) × AreGone one.after gone after

-- The client at this place was let go so: the others are served by each story by which all were before, going on by the close of its connection at this
-- moment alone, unless that took no room before.
pub record LetsGoOne {A S D : Type 0} (was_received was_sent : S → Option Bytes) (course : S → Option Course) (is_past : A → Past) (keeps : A → Kept)
    (is_gone : A → Connection → Type 0) (parted : D → Option (List (Parting S))) (ending : Ending) (now index : ℕ) (before after : A)
    (device_before device_after : D)
    (old new : List (Client S)) : Type 0 where
  pub client : Client S
  pub shut : List Occurrence
  pub at : client ≡ slice_index_or old index client
  pub moved : IsPermutation old (client ∷ new)
  pub parts : PartsWith (parting ending client.stream ∷ []) (parted device_before) (parted device_after)
  pub is : IsShut (connection client) now (is_gone before (connection client)) shut
  pub gone : is_gone after (connection client)
  pub further : (story : Story) → AreServed was_received was_sent course (is_past before) (keeps before) story old
      → AreServed was_received was_sent course (is_past after) (keeps after) (going_on story shut) new

-- Some that were over were let go, each as it ended: the others are served by each story by which all were before, going on by the closes of the
-- connections of those that are gone, in order, at the moment by which they were judged.
pub record LetsGo {A S D : Type 0} (was_received was_sent : S → Option Bytes) (course : S → Option Course) (is_past : A → Past) (keeps : A → Kept)
    (stands : A → Connection → ConnectionState → Type 0) (busy : A → Bool) (is_gone : A → Connection → Type 0) (parted : D → Option (List (Parting S)))
    (bounds : LeavingBounds) (before after : A) (device_before device_after : D) (old new : List (Client S)) : Type 0 where
  pub gone : List (Gone A S)
  pub all : IsPermutation old (map client_of gone ++ new)
  pub in_turn : AreGone before gone after
  pub each : All (HasGone keeps stands busy is_gone bounds) gone
  pub parts : PartsWith (map parting_of gone) (parted device_before) (parted device_after)
  pub further : (story : Story) → AreServed was_received was_sent course (is_past before) (keeps before) story old
      → AreServed was_received was_sent course (is_past after) (keeps after) (going_on story (shut_by bounds.now gone)) new

-- What is left of clients where memory ran out, by a story of which is left what answers then: some connections may have been closed since this one, at
-- this moment, none was opened, and nothing was fed.
pub record AreLost {A S : Type 0} (was_received was_sent : S → Option Bytes) (is_left : A → Past) (now : ℕ) (story : Story) (after : A)
    (clients : List (Client S)) : Type 0 where
  pub next : Story
  pub more : List Occurrence
  pub is : next ≡ going_on story more
  pub opens : opened_in more ≡ []
  pub fed : fed_in more ≡ []
  pub closes : All (IsClosedAt now) (closings_in more)
  pub left : is_left after next
  pub each : All (IsLeft was_received was_sent next) clients

-- Some went, their streams were given back, and then memory ran out: they and the others are left, by each story by which all were served before, and
-- some connections may have been closed since, at this moment.
pub record Loses {A S D : Type 0} (was_received was_sent : S → Option Bytes) (course : S → Option Course) (is_past is_left : A → Past) (keeps : A → Kept)
    (parted : D → Option (List (Parting S))) (now : ℕ) (before after : A) (device_before device_after : D) (old new : List (Client S)) : Type 0 where
  pub missing : List (Client S)
  pub all : IsPermutation old (missing ++ new)
  pub parts : GivesBack (streams_of missing) (parted device_before) (parted device_after)
  pub further : (story : Story) → AreServed was_received was_sent course (is_past before) (keeps before) story old
      → AreLost was_received was_sent is_left now story after (missing ++ new)
