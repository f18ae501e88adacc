-- What a turn does, whatever led to it.
use Rattle.std.specs.Prelude.{◌≡◌, ℕ, ◌≤◌, Bool, true, false, List, length, map, Option}
use Rattle.std.specs.List.{IsDistinct}
use Rattle.nr_model.specs.Bytes.{Bytes}
use Rattle.nr_model.specs.Items.{Connection, same_connection}
use Rattle.nr_service.specs.Arriving.{Arrives}
use Rattle.nr_service.specs.Leaving.{LetsGo}
use Rattle.nr_service.specs.Readings.{ReadsClock}
use Rattle.nr_service.specs.Serving.{connection}
use Rattle.nr_service.specs.Silence.{AreHeard, OpensAt}
use Rattle.nr_service.specs.Steps.{Accepts, Exchanges}
use Rattle.nr_service.specs.Sweeps.{AreSent, LooksSoon}
use Rattle.nr_service.specs.declared.client.Client.{Client}
use Rattle.nr_service.specs.declared.leaving.LeavingBounds.{LeavingBounds}
use Rattle.nr_service.specs.declared.service.Service.{Service}
use Rattle.nr_service.specs.Pollers.{Parting}
use Rattle.nr_service.specs.Stories.{Past, Kept}
use Rattle.nr_service.specs.declared.backend.ConnectionState.{ConnectionState}
use Rattle.nr_service.specs.Streams.{Course}

-- which worker of which node it is, how many bytes may wait for a client, and how long one may be silent, are as before
pub record IsSameWorker {A S D M : Type 0} (old new : Service A S D M) : Type 0 where
  pub node_is : new.node ≡ old.node
  pub worker_is : new.worker ≡ old.worker
  pub limit_is : new.limit ≡ old.limit
  pub timeout_is : new.timeout ≡ old.timeout

-- by what a service judges its clients, at its moment
abbrev pub bounds_of : {A S D M : Type 0} → Service A S D M → LeavingBounds
bounds_of service = record { limit = service.limit; timeout = service.timeout; now = service.moment }

-- how many connections are accepted at most in a turn
abbrev pub most_accepted : ℕ
most_accepted = 64

-- Some were accepted behind the clients, or turned away, bytes were exchanged with these clients alone, and some of them that were over behind that were
-- let go: nobody else is gone, and nobody else was served. At last the device waited, and this was its answer.
pub record Turns {A S D M : Type 0} (was_received was_sent : S → Option Bytes) (course : S → Option Course) (is_past is_settled : A → Past) (keeps : A → Kept)
    (stands : A → Connection → ConnectionState → Type 0) (busy : A → Bool) (is_full : A → Type 0) (is_placed : A → A → ℕ → Connection → Type 0)
    (is_gone : A → Connection → Type 0) (parted : D → Option (List (Parting S))) (waits : D → D → Bool → Bool → Type 0)
    (gives : M → M → Option ℕ → Type 0) (answer : Bool) (old new : Service A S D M) : Type 0 where
  -- what answers, the device and the clients behind what was accepted, behind the exchange, and behind what was let go
  pub opened : A
  pub worked : A
  pub device : D
  pub left_device : D
  pub taken : List (Client S)
  pub served : List (Client S)
  pub accepts : Accepts was_received was_sent course is_past keeps old.answers opened old.clients.items taken
  pub arrives : Arrives is_full is_placed parted old.answers opened old.accepted new.accepted old.device device old.clients.items taken
  pub few : length arrives.came ≤ most_accepted
  -- those count as heard at the last moment before this turn
  pub opens : OpensAt old.moment old.clients.items taken
  -- the clock was read once, and at the moment behind that bytes were fed
  pub reads : ReadsClock gives old.clock new.clock old.moment new.moment
  pub exchanges : Exchanges was_received was_sent course is_past is_settled keeps busy new.moment opened worked taken served
  pub same : map connection served ≡ map connection taken
  -- and behind the exchange each as heard at the moment of this turn, or as before
  pub heard : AreHeard new.moment taken served
  pub lets_go : LetsGo was_received was_sent course is_past keeps stands busy is_gone parted (bounds_of new) worked new.answers device left_device served
      new.clients.items
  pub worker : IsSameWorker old new
  pub parts_none : parted new.device ≡ parted left_device
  -- not at all where work is at hand
  pub is_busy : Bool
  pub waited : waits left_device new.device is_busy answer
  pub at_once : busy new.answers ≡ true → is_busy ≡ true
  -- all clients were looked at, or there are fewer turns until they are: where nothing more can be done at once behind that, each goes on, and what is
  -- kept for it is sent as far as its stream takes it
  pub looked : LooksSoon old.until new.until (is_busy ≡ false → IsDistinct same_connection (map connection served)
      → AreSent (keeps new.answers) (stands new.answers) (busy new.answers) (bounds_of new) new.clients.items)
