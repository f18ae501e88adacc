-- What holds of the frames of all bytes.
use Rattle.std.specs.Prelude.{◌≡◌, ℕ, ◌≤◌, List, ◌++◌, length, Some, None}
use Rattle.nr_model.specs.Bytes.{Bytes}
use Rattle.nr_model.specs.Requests.{Frame, Front, Whole, Faulty, Partial, Spells, request_at, Framing, with_request, unfinished, broken, frames_within, framing_of}

-- frames in front of others
abbrev pub with_frames : List Frame → Framing → Framing
with_frames frames framing = record framing { frames = frames ++ framing.frames }

-- the frames of bytes, and of more behind them: those of their rest with more behind it, but for a fault, which stays the last
abbrev pub continued : Framing → Bytes → Framing
continued framing more =
    elim framing.fault [ Some fault ↦ framing | None ↦ with_frames framing.frames (framing_of (framing.rest ++ more)) ]

-- however bytes are cut into pieces, their frames are the same
abbrev pub CutLaw : Type 0
CutLaw = (bytes more : Bytes) → framing_of (bytes ++ more) ≡ continued (framing_of bytes) more

-- the rest of bytes with no fault is less than a request
abbrev pub RestLaw : Type 0
RestLaw =
    (bytes : Bytes) → (framing_of bytes).fault ≡ None →
    let rest = (framing_of bytes).rest in (request_at rest ≡ Partial) × (framing_of rest ≡ unfinished rest)

-- the frames by the request at the front
abbrev pub framing_by : Bytes → Front Frame → Framing
framing_by bytes (Whole words rest) = with_request words (framing_of rest)
framing_by bytes (Faulty fault) = broken fault
framing_by bytes Partial = unfinished bytes

abbrev pub StepLaw : Type 0
StepLaw = (bytes : Bytes) → framing_of bytes ≡ framing_by bytes (request_at bytes)

-- any number of steps from the length on gives the same frames
abbrev pub FuelLaw : Type 0
FuelLaw = (n : ℕ) (bytes : Bytes) → length bytes ≤ n → frames_within n bytes ≡ framing_of bytes

-- a front of more bytes is this one, but for Partial, which may become any
abbrev pub Extends : {A : Type 0} → Front A → Bytes → Front A → Type 0
Extends (Whole a rest) more front = front ≡ Whole a (rest ++ more)
Extends (Faulty fault) more front = front ≡ Faulty fault
Extends Partial more front = Unit {0}

-- a request, or a fault, is decided by the bytes before it
abbrev pub FrontLaw : Type 0
FrontLaw = (bytes more : Bytes) → Extends (request_at bytes) more (request_at (bytes ++ more))

-- A request is found only where the bytes spell one, and each spelling of a request is found, whatever follows it.
abbrev pub EachIsFound : Type 0
EachIsFound = (words : List Bytes) (text : Bytes) → Spells words text → (more : Bytes) → request_at (text ++ more) ≡ Whole words more

abbrev pub EachIsSpelled : Type 0
EachIsSpelled = (bytes rest : Bytes) (words : List Bytes) → request_at bytes ≡ Whole words rest → (text : Bytes) × Spells words text × (bytes ≡ text ++ rest)
