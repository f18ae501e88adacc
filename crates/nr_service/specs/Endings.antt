-- What holds where a service ended.
use Rattle.std.specs.Prelude.{◌≡◌, ◌≢◌, ◌<◌, ◌≤◌, ◌⊎◌, ℕ, ◌+◌, ◌-◌, ◌^◌, Bool, true, false, List, [], ◌∷◌, ◌++◌, length, map, Option, All}
use Rattle.nr_model.specs.Bytes.{Bytes}
use Rattle.nr_model.specs.Items.{Connection}
use Rattle.nr_model.specs.Connections.{Setup}
use Rattle.nr_service.specs.Arriving.{Arrives, ArrivesUntil}
use Rattle.nr_service.specs.Pollers.{Parting, AreGivenBack}
use Rattle.nr_service.specs.Leaving.{Loses}
use Rattle.nr_service.specs.Readings.{AreFedByClock, IsFedAmong, IsUnread, ReadsClock}
use Rattle.nr_service.specs.Serving.{connection, streams_of, AreOpened, IsApart, IsLeft}
use Rattle.nr_service.specs.Steps.{Accepts, Exchanges, Leaves}
use Rattle.nr_service.specs.declared.client.Client.{Client}
use Rattle.nr_service.specs.declared.gate.Go.{Go}
use Rattle.nr_service.specs.declared.gate.Go.TheVariants as told
use Rattle.nr_service.specs.declared.ended.Ended.{Ended}
use Rattle.nr_service.specs.declared.ended.Ended.TheVariants.{Stopped, Memory, Down, Device}
use Rattle.nr_service.specs.declared.service.Service.{Service}
use Rattle.nr_service.specs.Turns.{IsSameWorker, most_accepted}
use Rattle.nr_service.specs.Stories.{Story, Past, Kept, fed_in, closings_in}
use Rattle.nr_service.specs.Streams.{Course}

-- the first, or the second where memory ran out or every node is down
abbrev pub ByEnding : Ended → Type 0 → Type 0 → Type 0
ByEnding Stopped P Q = P
ByEnding (Memory memory) P Q = Q
ByEnding Down P Q = Q
ByEnding Device P Q = P

-- Memory ran out while connections were accepted: the clock wasn't read.
pub record BreaksOffAccepting {A S D M : Type 0} (was_received was_sent : S → Option Bytes) (course : S → Option Course) (is_past is_left : A → Past) (keeps : A → Kept)
    (is_full : A → Type 0) (is_placed : A → A → ℕ → Connection → Type 0) (parted : D → Option (List (Parting S))) (old new : Service A S D M) : Type 0 where
  pub until : ArrivesUntil most_accepted was_received was_sent course is_past is_left keeps is_full is_placed parted old.answers new.answers old.accepted old.device
      new.device old.clients.items new.clients.items
  pub unread : IsUnread old.clock new.clock old.moment new.moment

-- Some were accepted, the clock was read, and then memory ran out while bytes were exchanged with these clients: they are left.
pub record BreaksOffExchanging {A S D M : Type 0} (was_received was_sent : S → Option Bytes) (course : S → Option Course) (is_past is_left : A → Past) (keeps : A → Kept)
    (is_full : A → Type 0) (is_placed : A → A → ℕ → Connection → Type 0) (parted : D → Option (List (Parting S))) (gives : M → M → Option ℕ → Type 0)
    (old new : Service A S D M) : Type 0 where
  pub opened : A
  pub taken : List (Client S)
  pub accepts : Accepts was_received was_sent course is_past keeps old.answers opened old.clients.items taken
  pub arrives : Arrives is_full is_placed parted old.answers opened old.accepted new.accepted old.device new.device old.clients.items taken
  pub few : length arrives.came ≤ most_accepted
  pub reads : ReadsClock gives old.clock new.clock old.moment new.moment
  pub leaves : Leaves was_received was_sent course is_past is_left keeps (IsFedAmong new.moment (map connection taken)) opened new.answers taken
      new.clients.items
  pub same : map connection new.clients.items ≡ map connection taken

-- Bytes were exchanged with them, and then memory ran out while some were let go.
pub record BreaksOffLettingGo {A S D M : Type 0} (was_received was_sent : S → Option Bytes) (course : S → Option Course)
    (is_past is_left is_settled : A → Past) (keeps : A → Kept) (busy : A → Bool) (is_full : A → Type 0) (is_placed : A → A → ℕ → Connection → Type 0)
    (parted : D → Option (List (Parting S))) (gives : M → M → Option ℕ → Type 0) (old new : Service A S D M) : Type 0 where
  pub opened : A
  pub worked : A
  pub device : D
  pub taken : List (Client S)
  pub served : List (Client S)
  pub accepts : Accepts was_received was_sent course is_past keeps old.answers opened old.clients.items taken
  pub arrives : Arrives is_full is_placed parted old.answers opened old.accepted new.accepted old.device device old.clients.items taken
  pub few : length arrives.came ≤ most_accepted
  pub reads : ReadsClock gives old.clock new.clock old.moment new.moment
  pub exchanges : Exchanges was_received was_sent course is_past is_settled keeps busy new.moment opened worked taken served
  pub same : map connection served ≡ map connection taken
  pub loses : Loses was_received was_sent course is_past is_left keeps parted new.moment worked new.answers device new.device served new.clients.items

-- A turn in which memory ran out, in one of its parts: who was there is left, whether still there or not.
pub record BreaksOff {A S D M : Type 0} (was_received was_sent : S → Option Bytes) (course : S → Option Course)
    (is_past is_left is_settled : A → Past) (keeps : A → Kept) (busy : A → Bool) (is_full : A → Type 0) (is_placed : A → A → ℕ → Connection → Type 0)
    (parted : D → Option (List (Parting S))) (gives : M → M → Option ℕ → Type 0) (old new : Service A S D M) : Type 0 where
  pub worker : IsSameWorker old new
  pub way : BreaksOffAccepting was_received was_sent course is_past is_left keeps is_full is_placed parted old new
      ⊎ BreaksOffExchanging was_received was_sent course is_past is_left keeps is_full is_placed parted gives old new
      ⊎ BreaksOffLettingGo was_received was_sent course is_past is_left is_settled keeps busy is_full is_placed parted gives old new

-- the first where the gate stopped it, the second where memory ran out, the third where the device can't wait any more
abbrev pub ByCause : Ended → Type 0 → Type 0 → Type 0 → Type 0
ByCause Stopped P Q R = P
ByCause (Memory memory) P Q R = Q
ByCause Down P Q R = Q
ByCause Device P Q R = R

-- behind so many turns it may be done although clients are left
abbrev pub most_turns_down : ℕ
most_turns_down = 1000

-- It goes on behind a turn: connections can be answered, or a client is left yet.
abbrev pub IsGoing : {A S D M : Type 0} → (A → Bool → Type 0) → Service A S D M → Type 0
IsGoing falls service = falls service.answers false ⊎ (falls service.answers true × (service.clients.items ≢ []))

-- and so many turns more may be taken, one fewer than before where none can be answered
abbrev pub GoesOn : {A S D M : Type 0} → (A → Bool → Type 0) → ℕ → ℕ → Service A S D M → Type 0
GoesOn falls before after service =
    (falls service.answers false × (after ≡ before)) ⊎ (falls service.answers true × (service.clients.items ≢ []) × (after + 1 ≡ before))

-- It is done behind so many turns and one more: no connection can be answered any more, and no client is left, or so many turns are enough for that.
abbrev pub IsDone : {A S D M : Type 0} → (A → Bool → Type 0) → ℕ → Service A S D M → Type 0
IsDone falls count service = falls service.answers true × ((service.clients.items ≡ []) ⊎ (most_turns_down ≤ count))

-- these are what turns left, each behind the one before, from the first service on to the last
abbrev pub AreTurns : {T : Type 0} → (T → T → Type 0) → T → List T → T → Type 0
AreTurns turns old [] new = new ≡ old
AreTurns turns old (next ∷ more) new = turns old next × AreTurns turns next more new

-- The gate stopped it behind so many turns; or it was asked as often as it may be, and all other times it said that it is to be asked again.
abbrev pub IsStopped : (ℕ → Go → Type 0) → ℕ → Type 0
IsStopped says count =
    says count told.Stop ⊎ ((holds : List ℕ) × All (λ turn. says turn told.Hold) holds × (length holds + count ≡ 2 ^ 64 - 1))

-- Whole turns were taken, one behind the other, each where the gate said so, and behind each it went on. Behind the last the gate stopped it; or memory ran
-- out in one turn more, or it was done behind that; or the device can't wait any more behind one turn more.
pub record TakesTurns {T : Type 0} (says : ℕ → Go → Type 0) (goes : T → Type 0) (turns : Bool → T → T → Type 0) (breaks : T → T → Type 0)
    (is_done : ℕ → T → Type 0) (ended : Ended) (old new : T) : Type 0 where
  pub whole : List T
  pub last : T
  pub taken : AreTurns (turns true) old whole last
  pub allowed : (turn : ℕ) → turn < length whole → says turn told.On
  pub going : All goes whole
  pub ends : ByCause ended (IsStopped says (length whole) × (new ≡ last))
      (says (length whole) told.On × (breaks last new ⊎ (turns true last new × is_done (length whole) new)))
      (says (length whole) told.On × turns false last new)

-- Memory ran out: the clients that left and those that are there are left, by a story of which is left what answers then, which is so large, and whose
-- bytes were fed and connections closed at the moments behind the readings of the clock. The streams of those that left were given back in their order, and
-- nobody else was ever there.
pub record RanOut {A S D M : Type 0} (was_received was_sent : S → Option Bytes) (gives : M → M → Option ℕ → Type 0) (is_left : A → Past)
    (parted : D → Option (List (Parting S))) (first : M) (setup : Setup) (service : Service A S D M) : Type 0 where
  pub story : Story
  pub gone : List (Client S)
  pub sized : story.setup ≡ setup
  pub known : is_left service.answers story
  pub left : All (IsLeft was_received was_sent story) (gone ++ service.clients.items)
  pub given_back : AreGivenBack (streams_of gone) (parted service.device)
  pub opened : AreOpened story gone service.clients.items
  pub apart : IsApart story
  pub in_time : AreFedByClock gives first service.clock service.moment (fed_in story.occurrences) (closings_in story.occurrences)
