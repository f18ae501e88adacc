-- What a service has done for its clients: the theorem of its turns is `IsServing`.
use Rattle.std.specs.Prelude.{◌≡◌, ℕ, ◌≤◌, false, List, ◌++◌, length, map, Option, Some, IfSome, All, IsPermutation}
use Rattle.std.specs.List.{IsDistinct}
use Rattle.nr_entry.specs.Jobs.{connection_of}
use Rattle.nr_model.specs.Bytes.{Bytes, IsBeginningOf}
use Rattle.nr_model.specs.Items.{Connection, same_connection}
use Rattle.nr_model.specs.Connections.{Setup}
use Rattle.nr_service.specs.Pollers.{Parting, AreGivenBack}
use Rattle.nr_service.specs.Readings.{AreFedByClock}
use Rattle.nr_service.specs.declared.client.Client.{Client}
use Rattle.nr_service.specs.declared.service.Service.{Service}
use Rattle.nr_service.specs.Stories.{Story, Past, Kept, opened_in, fed_in, closings_in, bytes_fed, bytes_handed, kept_bytes}
use Rattle.nr_service.specs.Streams.{Course, IsCourse}

abbrev pub connection : {S : Type 0} → Client S → Connection
connection client = connection_of client.conn

-- What was read and written of one client. Where it is known what its stream received, it was fed exactly that; where it is known what its stream sent,
-- what was handed out for it is that, and behind it what is kept. Where it is known how its stream stands, its input has ended where that has, it is
-- broken where that has failed, and full where that took nothing last.
pub record IsServed {S : Type 0} (was_received was_sent : S → Option Bytes) (course : S → Option Course) (keeps : Kept) (story : Story)
    (client : Client S) : Type 0 where
  pub pending : Bytes
  pub kept : keeps (connection client) ≡ Some pending
  pub received : IfSome (was_received client.stream) (λ bytes. bytes ≡ bytes_fed (connection client) story)
  pub sent : IfSome (was_sent client.stream) (λ bytes. bytes_handed (connection client) story ≡ bytes ++ pending)
  pub course_is : IfSome (course client.stream) (IsCourse client.is_ending client.is_broken client.is_full)

-- each of these clients, by a story that may have led to what answers them, and no two of them have one connection
pub record AreServed {S : Type 0} (was_received was_sent : S → Option Bytes) (course : S → Option Course) (is_past : Past) (keeps : Kept) (story : Story)
    (clients : List (Client S)) : Type 0 where
  pub past : is_past story
  pub each : All (IsServed was_received was_sent course keeps story) clients
  pub apart : IsDistinct same_connection (map connection clients)

-- at most so many bytes wait for it, and its stream hasn't failed
pub record IsWithin {S : Type 0} (keeps : Kept) (limit : ℕ) (client : Client S) : Type 0 where
  pub waiting : length (kept_bytes (keeps (connection client))) ≤ limit
  pub sound : client.is_broken ≡ false

-- What holds of a client that left, and of each where memory ran out: it was fed a beginning of what its stream received, and its stream sent a
-- beginning of what was handed out for it.
pub record IsLeft {S : Type 0} (was_received was_sent : S → Option Bytes) (story : Story) (client : Client S) : Type 0 where
  pub received : IfSome (was_received client.stream) (λ bytes. IsBeginningOf (bytes_fed (connection client) story) bytes)
  pub sent : IfSome (was_sent client.stream) (λ bytes. IsBeginningOf bytes (bytes_handed (connection client) story))

-- no two connections of one name were opened
abbrev pub IsApart : Story → Type 0
IsApart story = IsDistinct same_connection (opened_in story.occurrences)

-- Each connection that was opened is that of one of these, of a client that left or of one that is there, and each of these has one of them.
abbrev pub AreOpened : {S : Type 0} → Story → List (Client S) → List (Client S) → Type 0
AreOpened story gone clients = IsPermutation (opened_in story.occurrences) (map connection (gone ++ clients))

abbrev pub streams_of : {S : Type 0} → List (Client S) → List S
streams_of clients = map (λ client. client.stream) clients

-- There is a story by which all clients of a service are served, and what answers them is so large. By it those that left are left, their streams were
-- given back to the device in their order, and nobody else was ever there. From the first clock to that of the service bytes were fed and connections closed
-- at the moments behind its readings, and the moment of the service is the last of these.
pub record IsServing {A S D M : Type 0} (was_received was_sent : S → Option Bytes) (course : S → Option Course) (gives : M → M → Option ℕ → Type 0)
    (is_past : A → Past) (keeps : A → Kept) (parted : D → Option (List (Parting S))) (first : M) (setup : Setup) (service : Service A S D M) : Type 0 where
  pub story : Story
  pub gone : List (Client S)
  pub sized : story.setup ≡ setup
  pub served : AreServed was_received was_sent course (is_past service.answers) (keeps service.answers) story service.clients.items
  pub left : All (IsLeft was_received was_sent story) gone
  pub given_back : AreGivenBack (streams_of gone) (parted service.device)
  pub opened : AreOpened story gone service.clients.items
  pub apart : IsApart story
  pub in_time : AreFedByClock gives first service.clock service.moment (fed_in story.occurrences) (closings_in story.occurrences)
