-- What happened to connections, in order, by what answers them, and what each of its calls adds to that.
use Rattle.std.specs.Prelude.{◌≡◌, ℕ, Bool, false, ◌⊎◌, List, [], ◌∷◌, ◌++◌, map, drop, Option, None, Some}
use Rattle.std.specs.List.{list_any}
use Rattle.std.specs.Option.{option_map}
use Rattle.nr_model.specs.Bytes.{Bytes}
use Rattle.nr_model.specs.Items.{Connection, same_connection}
use Rattle.nr_model.specs.Keyspace.{moment}
use Rattle.nr_model.specs.Connections.{Setup, Feeding, Handed, fed_to, handed_to}

-- a connection that was closed, and the moment of that
pub record Closing : Type 0 where
  pub connection : Connection
  pub moment : ℕ

-- a connection was opened, bytes were fed to one, bytes were handed out for one, or one was closed
pub data Occurrence : Type 0 where
  Opened : Connection → Occurrence
  Fed : Feeding → Occurrence
  HandedOut : Handed → Occurrence
  Closed : Closing → Occurrence

-- how large what answers is, and what happened, in order
pub record Story : Type 0 where
  pub setup : Setup
  pub occurrences : List Occurrence

-- what was opened, fed, handed out and closed, each in order
abbrev pub opened_in : List Occurrence → List Connection
opened_in [] = []
opened_in (Opened c ∷ more) = c ∷ opened_in more
opened_in (Fed feeding ∷ more) = opened_in more
opened_in (HandedOut handed ∷ more) = opened_in more
opened_in (Closed closing ∷ more) = opened_in more

abbrev pub fed_in : List Occurrence → List Feeding
fed_in [] = []
fed_in (Opened c ∷ more) = fed_in more
fed_in (Fed feeding ∷ more) = feeding ∷ fed_in more
fed_in (HandedOut handed ∷ more) = fed_in more
fed_in (Closed closing ∷ more) = fed_in more

abbrev pub handed_in : List Occurrence → List Handed
handed_in [] = []
handed_in (Opened c ∷ more) = handed_in more
handed_in (Fed feeding ∷ more) = handed_in more
handed_in (HandedOut handed ∷ more) = handed ∷ handed_in more
handed_in (Closed closing ∷ more) = handed_in more

abbrev pub closings_in : List Occurrence → List Closing
closings_in [] = []
closings_in (Opened c ∷ more) = closings_in more
closings_in (Fed feeding ∷ more) = closings_in more
closings_in (HandedOut handed ∷ more) = closings_in more
closings_in (Closed closing ∷ more) = closing ∷ closings_in more

-- the connections of these closes
abbrev pub closed_in : List Occurrence → List Connection
closed_in occurrences = map (λ (closing : Closing). closing.connection) (closings_in occurrences)

-- all bytes that were fed to a connection, and all that were handed out for it
abbrev pub bytes_fed : Connection → Story → Bytes
bytes_fed c story = fed_to c (fed_in story.occurrences)

abbrev pub bytes_handed : Connection → Story → Bytes
bytes_handed c story = handed_to c (handed_in story.occurrences)

-- it is one of these
abbrev pub is_among : Connection → List Connection → Bool
is_among c connections = list_any (λ (other : Connection). same_connection other c) connections

-- these happened behind it
abbrev pub going_on : Story → List Occurrence → Story
going_on story more = record story { occurrences = story.occurrences ++ more }

-- what may have led to it, and the bytes that it keeps for a connection that is open
abbrev pub Past : Type 1
Past = Story → Type 0

abbrev pub Kept : Type 0
Kept = Connection → Option Bytes

abbrev pub kept_bytes : Option Bytes → Bytes
kept_bytes None = []
kept_bytes (Some bytes) = bytes

-- nothing happened
abbrev pub beginning : Setup → Story
beginning setup = record { setup = setup; occurrences = [] }

-- the same is kept for the other connections
abbrev pub KeepsOthers : Connection → Kept → Kept → Type 0
KeepsOthers c old new = (other : Connection) → same_connection other c ≡ false → new other ≡ old other

-- what may have led to it before is left of it
abbrev pub IsLeftOf : Past → Past → Type 0
IsLeftOf before left = (story : Story) → before story → left story

-- nothing happened
pub record Keeps (before after : Past) (old new : Kept) : Type 0 where
  pub past : (story : Story) → before story → after story
  pub kept : (c : Connection) → new c ≡ old c

-- A connection was opened, and no other. None of its name was opened before, nothing was fed to it, and nothing handed out for it.
pub record IsOpened (c : Connection) (before after : Past) (old new : Kept) : Type 0 where
  pub past : (story : Story) → before story → after (going_on story (Opened c ∷ []))
  pub first : (story : Story) → before story → is_among c (opened_in story.occurrences) ≡ false
  pub fed : (story : Story) → before story → bytes_fed c story ≡ []
  pub handed : (story : Story) → before story → bytes_handed c story ≡ []
  pub closed : old c ≡ None
  pub kept : new c ≡ Some []
  pub others : KeepsOthers c old new

-- Bytes were fed to a connection at a moment, or at the last one that is told apart where it is later.
pub record IsFed (c : Connection) (time : ℕ) (bytes : Bytes) (before after : Past) (old new : Kept) : Type 0 where
  pub past : (story : Story) → before story → after (going_on story (Fed (record { connection = c; moment = moment time; bytes = bytes }) ∷ []))
  pub kept : (other : Connection) → new other ≡ old other

-- Bytes were handed out, and what led to it then is what may have behind its work. They are kept behind those that were, where their connection is open.
pub record HasWorked (before after settled : Past) (old new : Kept) : Type 0 where
  pub handed : List Handed
  pub past : (story : Story) → before story → after (going_on story (map HandedOut handed))
  pub rest : (story : Story) → before story → settled (going_on story (map HandedOut handed))
  pub kept : (c : Connection) → new c ≡ option_map (λ (bytes : Bytes). bytes ++ handed_to c handed) (old c)

-- The first so many of the bytes that are kept for a connection were written. What may have led to it, also behind its work, may have so still.
pub record IsWritten (c : Connection) (count : ℕ) (before after settled_before settled_after : Past) (old new : Kept) : Type 0 where
  pub past : (story : Story) → before story → after story
  pub rest : (story : Story) → settled_before story → settled_after story
  pub kept : new c ≡ option_map (λ (bytes : Bytes). drop count bytes) (old c)
  pub others : KeepsOthers c old new

-- a connection's close at a moment, or at the last one that is told apart where it is later
abbrev pub closed_at : Connection → ℕ → Occurrence
closed_at c time = Closed (record { connection = c; moment = moment time })

-- what a close at a moment adds: its connection was closed then, or nothing where it took no room before
abbrev pub IsShut : Connection → ℕ → Type 0 → List Occurrence → Type 0
IsShut c time was_gone shut = ((shut ≡ closed_at c time ∷ []) × (was_gone → ⊥)) ⊎ ((shut ≡ []) × was_gone)

-- A connection was closed at a moment, and no other, unless it took no room before.
pub record IsClosed (c : Connection) (time : ℕ) (was_gone : Type 0) (before after : Past) (old new : Kept) : Type 0 where
  pub shut : List Occurrence
  pub is : IsShut c time was_gone shut
  pub past : (story : Story) → before story → after (going_on story shut)
  pub kept : new c ≡ None
  pub others : KeepsOthers c old new
