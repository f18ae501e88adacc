-- What the parts of a turn do, whatever led to it.
use Rattle.std.specs.Prelude.{◌≡◌, ℕ, ◌+◌, ◌%◌, ◌^◌, Bool, true, false, List, [], ◌∷◌, ◌++◌, map, Option, All}
use Rattle.nr_model.specs.Bytes.{Bytes}
use Rattle.nr_model.specs.Items.{Connection}
use Rattle.nr_service.specs.Readings.{Feedings, IsNeverFed, IsFedAtRest}
use Rattle.nr_service.specs.Serving.{connection, AreServed, IsApart, IsLeft}
use Rattle.nr_service.specs.declared.client.Client.{Client}
use Rattle.nr_service.specs.Stories.{Occurrence, Story, Past, Kept, opened_in, fed_in, closed_in, going_on}
use Rattle.nr_service.specs.Streams.{Course}

-- The clients are served by a story that goes on from this one: these connections were opened in it, none of them twice, none was closed, and such bytes
-- were fed alone.
pub record HasServed {S : Type 0} (was_received was_sent : S → Option Bytes) (course : S → Option Course) (allowed : Feedings) (opened : List Connection)
    (is_past : Past)
    (keeps : Kept) (story : Story) (clients : List (Client S)) : Type 0 where
  pub next : Story
  pub more : List Occurrence
  pub is : next ≡ going_on story more
  pub opens : opened_in more ≡ opened
  pub apart : IsApart story → IsApart next
  pub closed : closed_in more ≡ []
  pub feeds : All allowed (fed_in more)
  pub served : AreServed was_received was_sent course is_past keeps next clients

-- so it is by each story by which the clients were served before
pub record Serves {A S : Type 0} (was_received was_sent : S → Option Bytes) (course : S → Option Course) (is_past : A → Past) (keeps : A → Kept)
    (allowed : Feedings)
    (opened : List Connection) (before after : A) (old new : List (Client S)) : Type 0 where
  pub further : (story : Story) → AreServed was_received was_sent course (is_past before) (keeps before) story old
      → HasServed was_received was_sent course allowed opened (is_past after) (keeps after) story new

-- so it is of one client beside any others, and nothing was opened
pub record ServesOne {A S : Type 0} (was_received was_sent : S → Option Bytes) (course : S → Option Course) (is_past : A → Past) (keeps : A → Kept)
    (allowed : Feedings)
    (before after : A) (old new : Client S) : Type 0 where
  pub beside : (others : List (Client S)) → Serves was_received was_sent course is_past keeps allowed [] before after (old ∷ others) (new ∷ others)

-- Clients were taken on behind the others, in the order in which their connections were opened, and nothing else was.
pub record Accepts {A S : Type 0} (was_received was_sent : S → Option Bytes) (course : S → Option Course) (is_past : A → Past) (keeps : A → Kept)
    (before after : A) (old new : List (Client S)) : Type 0 where
  pub accepted : List (Client S)
  pub items : new ≡ old ++ accepted
  pub serves : Serves was_received was_sent course is_past keeps IsNeverFed (map connection accepted) before after old new

-- the number behind this one: behind the last that there is comes the first
abbrev pub next_number : ℕ → ℕ
next_number number = (number + 1) % 2 ^ 64

-- A client of this very stream, which hasn't ended, failed or taken nothing yet, stands behind the others, at such a connection.
pub record HasTakenOn {S : Type 0} (at : Connection → Type 0) (stream : S) (old new : List (Client S)) : Type 0 where
  pub client : Client S
  pub items : new ≡ old ++ client ∷ []
  pub its_stream : client.stream ≡ stream
  pub placed : at (connection client)
  pub going : client.is_ending ≡ false
  pub sound : client.is_broken ≡ false
  pub empty : client.is_full ≡ false

-- so it is of a stream that was taken on; else the clients are the same
abbrev pub IsTakenOn : {S : Type 0} → (Connection → Type 0) → Bool → S → List (Client S) → List (Client S) → Type 0
IsTakenOn at true stream old new = HasTakenOn at stream old new
IsTakenOn at false stream old new = new ≡ old

-- it may have led to what answers, and behind its work
pub record IsSettledPast (is_past is_settled : Past) (story : Story) : Type 0 where
  pub past : is_past story
  pub rest : is_settled story

abbrev pub settled_past : {A : Type 0} → (A → Past) → (A → Past) → A → Past
settled_past is_past is_settled answers = IsSettledPast (is_past answers) (is_settled answers)

-- the clients are served further, nothing was opened, and the story may have led to what answers behind its work
pub record HasSettled {S : Type 0} (was_received was_sent : S → Option Bytes) (course : S → Option Course) (allowed : Feedings) (is_past is_settled : Past)
    (keeps : Kept)
    (story : Story) (clients : List (Client S)) : Type 0 where
  pub has : HasServed was_received was_sent course allowed [] is_past keeps story clients
  pub rest : is_settled has.next

-- so it is by each story by which the clients were served before, and bytes were fed to these clients alone, at this moment: none where what answers is
-- busy behind the work that was left
pub record Exchanges {A S : Type 0} (was_received was_sent : S → Option Bytes) (course : S → Option Course) (is_past is_settled : A → Past)
    (keeps : A → Kept) (busy : A → Bool) (now : ℕ) (before after : A) (old new : List (Client S)) : Type 0 where
  pub ready : A
  pub readied : Serves was_received was_sent course is_past keeps IsNeverFed [] before ready old old
  pub further : (story : Story) → AreServed was_received was_sent course (is_past before) (keeps before) story old
      → HasSettled was_received was_sent course (IsFedAtRest (busy ready) now (map connection old)) (is_past after) (is_settled after) (keeps after) story new

-- What is left of clients where memory ran out, by a story of which is left what answers then: no connection was closed since this one, none was opened,
-- and such bytes were fed alone.
pub record AreLeft {A S : Type 0} (was_received was_sent : S → Option Bytes) (is_left : A → Past) (allowed : Feedings) (story : Story) (after : A)
    (clients : List (Client S)) : Type 0 where
  pub next : Story
  pub more : List Occurrence
  pub is : next ≡ going_on story more
  pub opens : opened_in more ≡ []
  pub closed : closed_in more ≡ []
  pub feeds : All allowed (fed_in more)
  pub left : is_left after next
  pub each : All (IsLeft was_received was_sent next) clients

-- so it is by each story by which the clients were served before
pub record Leaves {A S : Type 0} (was_received was_sent : S → Option Bytes) (course : S → Option Course) (is_past is_left : A → Past) (keeps : A → Kept)
    (allowed : Feedings) (before after : A) (old new : List (Client S)) : Type 0 where
  pub further : (story : Story) → AreServed was_received was_sent course (is_past before) (keeps before) story old
      → AreLeft was_received was_sent is_left allowed story after new

-- so it is of one client beside any others
pub record LeavesOne {A S : Type 0} (was_received was_sent : S → Option Bytes) (course : S → Option Course) (is_past is_left : A → Past) (keeps : A → Kept)
    (allowed : Feedings) (before after : A) (old new : Client S) : Type 0 where
  pub beside : (others : List (Client S)) → Leaves was_received was_sent course is_past is_left keeps allowed before after (old ∷ others) (new ∷ others)
