-- What serving one connection on a reader and a writer has done: the theorem of `run_on` is `HasRunOn`.
use Rattle.std.specs.Prelude.{◌≡◌, ℕ, Bool, true, false, ◌⊎◌, if◌then◌else◌, List, [], Option, IfSome, Result, Ok, Err}
use Rattle.std.specs.Io.KnownBytes.{Appends, Consumes}
use Rattle.nr_model.specs.Asked.{own_jobs}
use Rattle.nr_model.specs.Bytes.{Bytes, IsBeginningOf}
use Rattle.nr_model.specs.Connections.{fed_to}
use Rattle.nr_model.specs.Items.{Connection}
use Rattle.nr_model.specs.Nodes.{World, node_at, client_of, sequence_of}
use Rattle.nr_model.specs.Nodes.Explained.{jobs_executed, asked_jobs, Explains}
use Rattle.nr_model.specs.Nodes.Pasts.{Event, IsPast}
use Rattle.nr_model.specs.Nodes.Steps.{is_client}
use Rattle.nr_model.specs.Sequential.{emitted_for}
use Rattle.nr_server.specs.Runs.{alone}
use Rattle.nr_server.specs.declared.fault.Fault.{Fault}
use Rattle.nr_server.specs.declared.fault.Fault.TheVariants as faults
use Rattle.nr_server.specs.declared.line.Ran.{Ran}
use Rattle.nr_server.specs.declared.run.Done.{Done}
use Rattle.nr_server.specs.declared.run.Done.TheVariants as dones
use Rattle.nr_service.specs.Readings.{AreFedFrom}

-- What is told of it, as it ended, where a read failed, and where what was written last wasn't passed on: a read that failed is told before a write, and
-- what isn't passed on is told also where the connection ended whole.
abbrev pub run_answer : Done → Bool → Bool → Result (Unit {0}) Fault
run_answer dones.Whole has_read_failed is_stuck = if is_stuck then Err faults.Write else Ok tt
run_answer dones.Broken has_read_failed is_stuck = if has_read_failed then Err faults.Read else Err faults.Write
run_answer dones.Memory has_read_failed is_stuck = Err faults.Memory

-- that it ended whole, that a read failed, that a write did, or that memory ran out
abbrev pub IsTold : Result (Unit {0}) Fault → Type 0
IsTold told = (told ≡ Ok tt) ⊎ (told ≡ Err faults.Read) ⊎ (told ≡ Err faults.Write) ⊎ (told ≡ Err faults.Memory)

-- Why it ended whole: all that the reader would give was read, where that is known; or the connection takes no more, since the bytes that it was fed ended
-- it, or since its queue was cut.
abbrev pub IsOver : Option Bytes → Bytes → Connection → World → Type 0
IsOver all read c world =
    IfSome all (λ bytes. read ≡ bytes) ⊎ ((client_of c world).ended ≡ true) ⊎ ((client_of c world).queue.cut ≡ true)

-- what holds besides where it ended whole
pub record HasEndedWhole (all : Option Bytes) (c : Connection) (world : World) (read written : Bytes) : Type 0 where
  pub over : IsOver all read c world
  -- the connection is there, and its node is up
  pub there : is_client world c ≡ true
  pub up : (node_at c.node world).down ≡ false
  -- all that was read was fed, and every job that it asked for was executed
  pub fed : read ≡ fed_to c world.fed
  pub executed : own_jobs c (jobs_executed world) ≡ asked_jobs world c
  -- all that one sequential Redis emits was written, unless the queue was cut
  pub sent : (client_of c world).queue.cut ≡ false → written ≡ emitted_for c (sequence_of world)

-- What was read is what the reader gave, and what was written stands behind what the writer held, where that is known of them. Events of a server of one
-- connection led to this world, and what was taken in it, in order, explains them. However it ended, a beginning of what was read was fed, at the moments
-- behind the readings of the clock, and a beginning of what one sequential Redis emits along that sequence was written.
pub record HasRunOn {R W M : Type 0} (remaining : R → Option Bytes) (contents : W → Option Bytes) (gives : M → M → Option ℕ → Type 0) (clock : M)
    (reader : R) (writer : W) (ran : Ran R W) : Type 0 where
  pub c : Connection
  pub events : List Event
  pub world : World
  pub reads : Consumes (remaining reader) (remaining ran.reader) ran.read.bytes
  pub writes : Appends (contents writer) (contents ran.writer) ran.written.bytes
  pub past : IsPast alone events world
  pub explained : Explains (sequence_of world) alone events world
  pub unclosed : world.closed ≡ []
  pub in_time : AreFedFrom gives clock world.fed []
  pub fed : IsBeginningOf (fed_to c world.fed) ran.read.bytes
  pub sent : IsBeginningOf ran.written.bytes (emitted_for c (sequence_of world))
  pub told : IsTold ran.done
  pub whole : ran.done ≡ Ok tt → HasEndedWhole (remaining reader) c world ran.read.bytes ran.written.bytes
