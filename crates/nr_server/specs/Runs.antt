-- What serving one connection has done: the theorem of `serve_stream` is `IsServed`.
use Rattle.std.specs.Prelude.{◌≡◌, ℕ, true, false, ◌⊎◌, List, [], Option, IfSome}
use Rattle.nr_model.specs.Bytes.{Bytes, IsBeginningOf}
use Rattle.nr_model.specs.Items.{Connection}
use Rattle.nr_model.specs.Sequential.{emitted_for}
use Rattle.nr_model.specs.Connections.{Setup, fed_to}
use Rattle.nr_model.specs.Asked.{own_jobs}
use Rattle.nr_model.specs.Nodes.{World, node_at, client_of, sequence_of}
use Rattle.nr_model.specs.Nodes.Steps.{is_client}
use Rattle.nr_model.specs.Nodes.Pasts.{Event, IsPast}
use Rattle.nr_model.specs.Nodes.Explained.{jobs_executed, asked_jobs, Explains}
use Rattle.nr_service.specs.Readings.{AreFedFrom}
use Rattle.nr_server.specs.declared.run.Done.TheVariants as dones
use Rattle.nr_server.specs.declared.run.ServedConnection.{ServedConnection}
use Rattle.nr_service.specs.Streams.{Course, fresh_course}

-- one node, one worker and one connection
abbrev pub alone : Setup
alone = record { nodes = 1; places = 1024; workers = 1; connections = 1; queue_limit = 67108864 }

-- where it is known what a stream received and sent, and how it stands, nothing was tried on it yet
pub record IsFresh {S : Type 0} (was_received was_sent : S → Option Bytes) (course : S → Option Course) (stream : S) : Type 0 where
  pub received : IfSome (was_received stream) (λ bytes. bytes ≡ [])
  pub sent : IfSome (was_sent stream) (λ bytes. bytes ≡ [])
  pub untried : IfSome (course stream) (λ at. at ≡ fresh_course)

-- What holds however it ended: these events of the server of one connection led to this world, and what was taken in it, in order, explains them.
pub record IsBegun {S M : Type 0} (was_received was_sent : S → Option Bytes) (gives : M → M → Option ℕ → Type 0) (clock : M) (c : Connection)
    (events : List Event) (world : World) (stream : S) : Type 0 where
  pub past : IsPast alone events world
  pub explained : Explains (sequence_of world) alone events world
  -- no connection was closed
  pub unclosed : world.closed ≡ []
  -- all that was fed was fed at the moments behind the readings of the clock, one for each exchange, in which nothing was closed
  pub in_time : AreFedFrom gives clock world.fed []
  -- the connection was fed a beginning of what the stream received
  pub fed : IfSome (was_received stream) (λ bytes. IsBeginningOf (fed_to c world.fed) bytes)
  -- the stream sent a beginning of what one sequential Redis emits for it
  pub sent : IfSome (was_sent stream) (λ bytes. IsBeginningOf bytes (emitted_for c (sequence_of world)))

-- Why it ended without a failure: no more bytes come, or the connection takes no more, since those that it was fed ended it, or since its queue was cut.
abbrev pub IsOver : {S : Type 0} → (S → Option Course) → Connection → World → S → Type 0
IsOver course c world stream =
    IfSome (course stream) (λ at. at.ended ≡ true) ⊎ ((client_of c world).ended ≡ true) ⊎ ((client_of c world).queue.cut ≡ true)

-- what holds besides where it didn't fail
pub record IsWhole {S : Type 0} (was_received was_sent : S → Option Bytes) (course : S → Option Course) (c : Connection) (world : World)
    (stream : S) : Type 0 where
  pub over : IsOver course c world stream
  -- its stream didn't fail
  pub sound : IfSome (course stream) (λ at. at.failed ≡ false)
  -- it is there, and its node is up
  pub there : is_client world c ≡ true
  pub up : (node_at c.node world).down ≡ false
  -- the connection was fed all that the stream received
  pub fed : IfSome (was_received stream) (λ bytes. bytes ≡ fed_to c world.fed)
  -- every job that it asked for was executed
  pub executed : own_jobs c (jobs_executed world) ≡ asked_jobs world c
  -- the stream sent all that one sequential Redis emits for it, unless its queue was cut
  pub sent : (client_of c world).queue.cut ≡ false → IfSome (was_sent stream) (λ bytes. bytes ≡ emitted_for c (sequence_of world))

-- There are a connection, events of a server of one connection, and the world that they led to; and the whole holds where it didn't fail. It is broken only
-- where its stream failed.
abbrev pub IsServed : {S M : Type 0} → (S → Option Bytes) → (S → Option Bytes) → (S → Option Course) → (M → M → Option ℕ → Type 0) → M → ServedConnection S → Type 0
IsServed was_received was_sent course gives clock served =
    (c : Connection) × (events : List Event) × (world : World)
    × IsBegun was_received was_sent gives clock c events world served.stream
    × (served.done ≡ dones.Whole → IsWhole was_received was_sent course c world served.stream)
    × (served.done ≡ dones.Broken → IfSome (course served.stream) (λ at. at.failed ≡ true))
