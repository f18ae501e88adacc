-- What was read and written by a stream.
use Rattle.std.specs.Prelude.{◌≡◌, ◌<◌, ℕ, Bool, true, false, ◌++◌, take, Option}
use Rattle.std.specs.Option.{option_map}
use Rattle.nr_model.specs.Bytes.{Bytes}
use Rattle.nr_service.specs.declared.stream.Received.{Received}
use Rattle.nr_service.specs.declared.stream.Received.TheVariants as received
use Rattle.nr_service.specs.declared.stream.Sent.{Sent}
use Rattle.nr_service.specs.declared.stream.Sent.TheVariants as sent

-- how many bytes came, or were taken
abbrev pub received_count : Received → ℕ
received_count (received.Bytes count) = count
received_count received.Nothing = 0
received_count received.End = 0
received_count received.Failed = 0

abbrev pub sent_count : Sent → ℕ
sent_count (sent.Bytes count) = count
sent_count sent.Nothing = 0
sent_count sent.Failed = 0

-- at least one, where any came or were taken
abbrev pub IsSomeReceived : Received → Type 0
IsSomeReceived (received.Bytes count) = 0 < count
IsSomeReceived received.Nothing = Unit {0}
IsSomeReceived received.End = Unit {0}
IsSomeReceived received.Failed = Unit {0}

abbrev pub IsSomeSent : Sent → Type 0
IsSomeSent (sent.Bytes count) = 0 < count
IsSomeSent sent.Nothing = Unit {0}
IsSomeSent sent.Failed = Unit {0}

-- where they are known, bytes grow by the first so many of these
abbrev pub GrowsBy : ℕ → Bytes → Option Bytes → Option Bytes → Type 0
GrowsBy count bytes old new = new ≡ option_map (λ (before : Bytes). before ++ take count bytes) old

-- whether the end of a stream was read, whether it failed, and whether it took nothing when it was written last
pub record Course : Type 0 where
  pub ended : Bool
  pub failed : Bool
  pub full : Bool

-- nothing was tried yet
abbrev pub fresh_course : Course
fresh_course = record { ended = false; failed = false; full = false }

-- what a read and a write make of it
abbrev pub course_received : Received → Course → Course
course_received (received.Bytes count) course = course
course_received received.Nothing course = course
course_received received.End course = record course { ended = true }
course_received received.Failed course = record course { failed = true }

abbrev pub course_sent : Sent → Course → Course
course_sent (sent.Bytes count) course = record course { full = false }
course_sent sent.Nothing course = record course { full = true }
course_sent sent.Failed course = record course { failed = true }

-- it has ended, failed, or took nothing, exactly where these say so
abbrev pub IsCourse : Bool → Bool → Bool → Course → Type 0
IsCourse is_ending is_broken is_full course = (is_ending ≡ course.ended) × (is_broken ≡ course.failed) × (is_full ≡ course.full)
