-- What a clock gave, and at which moments bytes were fed by it, to whom, and connections closed.
use Rattle.std.specs.Prelude.{◌≡◌, ℕ, Bool, false, List, [], ◌∷◌, ◌++◌, map, Option, All}
use Rattle.std.specs.List.{Contains}
use Rattle.std.specs.Option.{unwrap_or}
use Rattle.nr_model.specs.Items.{Connection}
use Rattle.nr_model.specs.Keyspace.{moment}
use Rattle.nr_model.specs.Connections.{Feeding}
use Rattle.nr_service.specs.Stories.{Closing}

-- which bytes may be fed
abbrev pub Feedings : Type 1
Feedings = Feeding → Type 0

-- the moment behind a reading: what the clock gave, or the one before where it failed
abbrev pub moment_behind : ℕ → Option ℕ → ℕ
moment_behind before reading = unwrap_or reading before

-- The clock was read once, and the moment is the one behind that.
pub record ReadsClock {M : Type 0} (gives : M → M → Option ℕ → Type 0) (old new : M) (before after : ℕ) : Type 0 where
  pub reading : Option ℕ
  pub given : gives old new reading
  pub moment_is : after ≡ moment_behind before reading

-- it wasn't read
pub record IsUnread {M : Type 0} (old new : M) (before after : ℕ) : Type 0 where
  pub clock_is : new ≡ old
  pub moment_is : after ≡ before

-- what the clock gave as it was read once, and, until it was read again, the bytes that were fed and the connections that were closed, each in order
pub record ClockRound : Type 0 where
  pub reading : Option ℕ
  pub feeds : List Feeding
  pub closes : List Closing

abbrev pub readings_of : List ClockRound → List (Option ℕ)
readings_of rounds = map (λ (round : ClockRound). round.reading) rounds

abbrev pub feeds_of : List ClockRound → List Feeding
feeds_of [] = []
feeds_of (round ∷ rounds) = round.feeds ++ feeds_of rounds

abbrev pub closes_of : List ClockRound → List Closing
closes_of [] = []
closes_of (round ∷ rounds) = round.closes ++ closes_of rounds

-- these readings, each by the clock that the one before left, lead from one clock to another
abbrev pub AreReadings : {M : Type 0} → (M → M → Option ℕ → Type 0) → M → List (Option ℕ) → M → Type 0
AreReadings gives old [] new = new ≡ old
AreReadings {M} gives old (reading ∷ readings) new = (middle : M) × gives old middle reading × AreReadings gives middle readings new

-- the moment behind the last of these rounds, where this was the one before the first
abbrev pub moment_after : ℕ → List ClockRound → ℕ
moment_after before [] = before
moment_after before (round ∷ rounds) = moment_after (moment_behind before round.reading) rounds

abbrev pub IsFedAt : ℕ → Feedings
IsFedAt now feeding = feeding.moment ≡ moment now

abbrev pub IsClosedAt : ℕ → Closing → Type 0
IsClosedAt now closing = closing.moment ≡ moment now

-- all that was fed in a round was fed at the moment behind its reading, and all that was closed in it was closed then
abbrev pub AreTimed : ℕ → List ClockRound → Type 0
AreTimed before [] = Unit {0}
AreTimed before (round ∷ rounds) =
    All (IsFedAt (moment_behind before round.reading)) round.feeds × All (IsClosedAt (moment_behind before round.reading)) round.closes
    × AreTimed (moment_behind before round.reading) rounds

-- From the first clock to this one there were such rounds: these bytes were fed in them, in this order, these connections were closed in them, in this order,
-- and this is the moment behind the last of them, 0 where there was none.
pub record AreFedByClock {M : Type 0} (gives : M → M → Option ℕ → Type 0) (first last : M) (now : ℕ) (feeds : List Feeding) (closes : List Closing) : Type 0 where
  pub rounds : List ClockRound
  pub readings : AreReadings gives first (readings_of rounds) last
  pub fed : feeds_of rounds ≡ feeds
  pub closed : closes_of rounds ≡ closes
  pub timed : AreTimed 0 rounds
  pub moment_is : moment_after 0 rounds ≡ now

-- so it is of them up to some clock
pub record AreFedFrom {M : Type 0} (gives : M → M → Option ℕ → Type 0) (first : M) (feeds : List Feeding) (closes : List Closing) : Type 0 where
  pub last : M
  pub now : ℕ
  pub by_clock : AreFedByClock gives first last now feeds closes

-- no bytes are fed
abbrev pub IsNeverFed : Feedings
IsNeverFed feeding = ⊥

-- bytes are fed at this moment to this connection
abbrev pub IsFedTo : ℕ → Connection → Feedings
IsFedTo now c feeding = IsFedAt now feeding × (feeding.connection ≡ c)

-- bytes are fed at this moment to one of these
abbrev pub IsFedAmong : ℕ → List Connection → Feedings
IsFedAmong now connections feeding = IsFedAt now feeding × Contains connections feeding.connection

-- so they are where no work is at hand, and else none are
abbrev pub IsFedAtRest : Bool → ℕ → List Connection → Feedings
IsFedAtRest busy now connections feeding = (busy ≡ false) × IsFedAmong now connections feeding
