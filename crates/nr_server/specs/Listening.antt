-- Why nobody listens where the settings say.
use Rattle.std.specs.Prelude.{◌≡◌, ◌≢◌, ◌⊎◌, ℕ, ℤ, List, Option, Some, slice_get, string_bytes}
use Rattle.std.specs.IoError.{error_kind, raw_os_error}
use Rattle.std.specs.declared.io.ErrorKind.{ErrorKind}
use Rattle.std.specs.declared.io.ErrorKind.TheVariants.{OutOfMemory}
use Rattle.std.specs.declared.string.String.{String}
use Rattle.std.specs.declared.alloc.Global.{Global}
use Rattle.nr_sockets.specs.Unheard.{IsUnheardAt}
use Rattle.nr_sockets.specs.declared.listening.ListenError.{ListenError}
use Rattle.nr_sockets.specs.declared.listening.ListenError.TheVariants as errors
use Rattle.nr_server.specs.Refusals.{refusal_of}
use Rattle.nr_server.specs.declared.fault.Fault.{Fault}
use Rattle.nr_server.specs.declared.fault.Fault.TheVariants as faults

-- By an error of this kind and this number nobody can listen at this address: memory was refused, or else the system refuses the address for that.
abbrev pub IsRefused : List ℕ → ErrorKind → Option ℤ → Fault → Type 0
IsRefused text kind number (faults.CannotListen address why) =
    (kind ≢ OutOfMemory) × (string_bytes address ≡ text) × (why ≡ refusal_of kind number)
IsRefused text kind number faults.Memory = kind ≡ OutOfMemory
IsRefused text kind number faults.Read = ⊥
IsRefused text kind number faults.Write = ⊥
IsRefused text kind number (faults.BadStep line) = ⊥
IsRefused text kind number (faults.Script file why) = ⊥
IsRefused text kind number (faults.Settings file why) = ⊥
IsRefused text kind number (faults.NotToml place) = ⊥
IsRefused text kind number (faults.UnknownKey key) = ⊥
IsRefused text kind number (faults.BadValue key of_kind) = ⊥
IsRefused text kind number faults.Listener = ⊥
IsRefused text kind number faults.NoThread = ⊥

-- so it is of the one of these addresses that stands at this place
pub record IsRefusedAt (addresses : List (String Global)) (place : ℕ) (kind : ErrorKind) (number : Option ℤ) (fault : Fault) : Type 0 where
  pub one : String Global
  pub there : slice_get addresses place ≡ Some one
  pub refused : IsRefused (string_bytes one) kind number fault

-- By an error of this kind there is nothing by which the system tells of connections: memory was refused, or else it has no descriptors for that.
abbrev pub IsUnopened : ErrorKind → Fault → Type 0
IsUnopened kind fault = ((kind ≡ OutOfMemory) × (fault ≡ faults.Memory)) ⊎ ((kind ≢ OutOfMemory) × (fault ≡ faults.Listener))

-- This fault tells why nobody listens at these addresses.
abbrev pub TellsOf : List (String Global) → ListenError → Fault → Type 0
TellsOf addresses (errors.Poll error) fault = IsUnopened (error_kind error) fault
TellsOf addresses (errors.Address unheard) fault = IsRefusedAt addresses unheard.place (error_kind unheard.error) (raw_os_error unheard.error) fault

-- by an error that comes of these addresses, it tells why nobody listens at them
pub record IsToldUnheard (addresses : List (String Global)) (fault : Fault) : Type 0 where
  pub error : ListenError
  pub at : IsUnheardAt addresses error
  pub tells : TellsOf addresses error fault

-- that is told where nobody listens at these addresses, or memory ran out
abbrev pub IsUnheardOf : List (String Global) → Fault → Type 0
IsUnheardOf addresses fault = IsToldUnheard addresses fault ⊎ (fault ≡ faults.Memory)
