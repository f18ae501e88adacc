-- What serving by TCP comes to: the theorem of `serve_by_tcp`.
use Rattle.std.specs.Prelude.{◌≡◌, ◌⊎◌, ◌*◌, ℕ, Bool, List, Option, Result, Ok, Err}
use Rattle.nr_model.specs.Bytes.{Bytes, IsBeginningOf}
use Rattle.nr_replica.specs.Replicas.{ReplicaState}
use Rattle.nr_service.specs.Pollers.{Parting}
use Rattle.nr_crew.specs.Ended.{HasEnded}
use Rattle.nr_crew.specs.Left.{AreServedWithin}
use Rattle.nr_crew.specs.Places.{places_from, places_left}
use Rattle.nr_crew.specs.Together.{AreServedTogether}
use Rattle.nr_crew.specs.declared.lane.WorkerEnd.{WorkerEnd}
use Rattle.nr_crew.specs.declared.running.ServeError.{ServeError}
use Rattle.nr_crew.specs.declared.serving.ClientLimits.{ClientLimits}
use Rattle.nr_server.specs.Serving.{ended_by}
use Rattle.nr_server.specs.declared.fault.Fault.{Fault}
use Rattle.nr_server.specs.declared.fault.Fault.TheVariants as faults

-- So many workers of each of so many nodes served together within these limits, and ended so, in the order of their numbers: all of them where no thread was wanting. One sequence
-- answers all their connections, as `AreServedTogether` says. This is told of that. All is well only where each of them was stopped, and it could be said where the server listens.
pub record HasServedByTcp {S D M : Type 0} (was_received was_sent : S → Option Bytes) (gives : M → M → Option ℕ → Type 0) (parted : D → Option (List (Parting S)))
    (nodes workers : ℕ) (limits : ClientLimits) (told : Result (Unit {0}) Fault) : Type 0 where
  pub lefts : List (WorkerEnd S D M)
  pub replicas : List ReplicaState
  pub together : AreServedTogether was_received was_sent gives parted lefts replicas
  pub within : AreServedWithin limits lefts
  pub ended : Result (Unit {0}) ServeError
  pub have_ended : HasEnded (nodes * workers) ended lefts
  pub in_place : IsBeginningOf (places_left lefts) (places_from 0 nodes workers)
  pub is_mute : Bool
  pub says : told ≡ ended_by ended is_mute

-- no worker began, for this: there was no memory, or the system has no descriptors for them
abbrev pub IsBefore : Fault → Type 0
IsBefore fault = (fault ≡ faults.Memory) ⊎ (fault ≡ faults.Listener)

abbrev pub HasNotBegun : Result (Unit {0}) Fault → Type 0
HasNotBegun (Ok tt) = ⊥
HasNotBegun (Err fault) = IsBefore fault
