-- How the first of a service's clients goes on, and ends, whatever answers it.
use Rattle.std.specs.Prelude.{◌≡◌, true, false, ◌⊎◌, List, [], ◌∷◌, Option, IfSome, All}
use Rattle.nr_model.specs.Bytes.{Bytes}
use Rattle.nr_model.specs.Items.{Connection}
use Rattle.nr_model.specs.Connections.{Feeding}
use Rattle.nr_service.specs.declared.client.Client.{Client}
use Rattle.nr_service.specs.Serving.{connection, AreServed, IsLeft}
use Rattle.nr_service.specs.Stories.{Closing, Occurrence, Story, Past, Kept, kept_bytes, opened_in, fed_in, closings_in, closed_in, going_on}
use Rattle.nr_service.specs.declared.backend.ConnectionState.{ConnectionState}
use Rattle.nr_service.specs.declared.backend.ConnectionState.TheVariants as standings
use Rattle.nr_server.specs.declared.run.Done.{Done}
use Rattle.nr_server.specs.declared.run.Done.TheVariants as dones
use Rattle.nr_service.specs.Streams.{Course}

-- a client's stream hasn't failed, nothing waits for it, and it takes no more bytes, or none come
pub record IsOver {A S : Type 0} (keeps : A → Kept) (stands : A → Connection → ConnectionState → Type 0) (answers : A) (client : Client S) : Type 0 where
  pub sound : client.is_broken ≡ false
  pub empty : kept_bytes (keeps answers (connection client)) ≡ []
  pub over : stands answers (connection client) standings.Over ⊎ (stands answers (connection client) standings.Open × (client.is_ending ≡ true))

-- so it is of the first one, where it ended without a failure; it is broken where it ended so
abbrev pub IsDone : {A S : Type 0} → (A → Kept) → (A → Connection → ConnectionState → Type 0) → A → List (Client S) → Done → Type 0
IsDone keeps stands answers [] done = done ≡ dones.Memory
IsDone keeps stands answers (client ∷ clients) done =
    (done ≡ dones.Whole → IsOver keeps stands answers client) × (done ≡ dones.Broken → client.is_broken ≡ true)

-- the stream of the first one failed, where that is known
abbrev pub HasFirstFailed : {S : Type 0} → (S → Option Course) → List (Client S) → Type 0
HasFirstFailed course [] = Unit {0}
HasFirstFailed course (client ∷ clients) = IfSome (course client.stream) (λ at. at.failed ≡ true)

-- What all bytes that were fed and all connections that were closed are like: those of a story are, by the readings of a clock.
abbrev pub InTime : Type 1
InTime = List Feeding → List Closing → Type 0

-- nothing was opened or closed, nothing is left to be done, the clients are served, and the first one is over
pub record AreOver {A S : Type 0} (was_received was_sent : S → Option Bytes) (course : S → Option Course) (is_past is_settled : A → Past) (keeps : A → Kept)
    (stands : A → Connection → ConnectionState → Type 0) (in_time : InTime) (story : Story) (answers : A) (clients : List (Client S)) : Type 0 where
  pub next : Story
  pub more : List Occurrence
  pub is : next ≡ going_on story more
  pub opens : opened_in more ≡ []
  pub closed : closed_in more ≡ []
  pub timed : in_time (fed_in next.occurrences) (closings_in next.occurrences)
  pub served : AreServed was_received was_sent course (is_past answers) (keeps answers) next clients
  pub rest : is_settled answers next
  pub first : IsDone keeps stands answers clients dones.Whole

-- Nothing was closed, and the clients are left, by a story of which is left what answers then.
pub record AreCutOff {A S : Type 0} (was_received was_sent : S → Option Bytes) (is_left : A → Past) (in_time : InTime) (story : Story) (answers : A)
    (clients : List (Client S)) : Type 0 where
  pub next : Story
  pub more : List Occurrence
  pub is : next ≡ going_on story more
  pub closed : closed_in more ≡ []
  pub timed : in_time (fed_in next.occurrences) (closings_in next.occurrences)
  pub left : is_left answers next
  pub each : All (IsLeft was_received was_sent next) clients

-- What holds at the end, by a story by which the clients were served at the beginning: in any case of those that are left; the more where it didn't fail.
pub record HasEnded {A S : Type 0} (was_received was_sent : S → Option Bytes) (course : S → Option Course) (is_past is_left is_settled : A → Past) (keeps : A → Kept)
    (stands : A → Connection → ConnectionState → Type 0) (in_time : InTime) (story : Story) (answers : A) (clients : List (Client S)) (done : Done) : Type 0 where
  pub left : AreCutOff was_received was_sent is_left in_time story answers clients
  pub broken : done ≡ dones.Broken → HasFirstFailed course clients
  pub whole : done ≡ dones.Whole → AreOver was_received was_sent course is_past is_settled keeps stands in_time story answers clients

-- so it is by each story by which they were served, and whose bytes were fed and connections closed in time
abbrev pub Ends : {A S : Type 0} → (S → Option Bytes) → (S → Option Bytes) → (S → Option Course) → (A → Past) → (A → Past) → (A → Past) → (A → Kept)
    → (A → Connection → ConnectionState → Type 0) → InTime → InTime → Story → A → List (Client S) → A → List (Client S) → Done → Type 0
Ends was_received was_sent course is_past is_left is_settled keeps stands in_time_before in_time_after story before old after new done =
    AreServed was_received was_sent course (is_past before) (keeps before) story old → in_time_before (fed_in story.occurrences) (closings_in story.occurrences)
    → HasEnded was_received was_sent course is_past is_left is_settled keeps stands in_time_after story after new done
