-- Where a server listens, and how that is said.
use Rattle.std.specs.Prelude.{◌≡◌, ◌-◌, ℕ, String, List, [], ◌∷◌, ◌++◌, Option, Some, None, nat_eq, length, take, drop, codes, slice_get, string_bytes, if◌then◌else◌}
use Rattle.std.specs.List.{starts_with, ends_with}
use Rattle.std.specs.Fmt.{decimal}
use Rattle.std.specs.declared.alloc.Global.{Global}

-- how an address at which Unix sockets come begins
abbrev pub unix_mark : List ℕ
unix_mark = codes "unix:"

-- its path, where it is one
abbrev pub unix_path : List ℕ → Option (List ℕ)
unix_path address = if starts_with nat_eq address unix_mark then Some (drop 5 address) else None

-- a port of the system's choice
abbrev pub any_port : List ℕ
any_port = codes ":0"

-- an address with this port, where the system was to choose one
abbrev pub with_port : List ℕ → ℕ → List ℕ
with_port address port = if ends_with nat_eq address any_port then take (length address - 2) address ++ 58 ∷ decimal port else address

-- how it is said that a server listens there, at this port if at any
abbrev pub said_of : List ℕ → ℕ → List ℕ
said_of address port = if starts_with nat_eq address unix_mark then address else with_port address port

-- so it may be said, at some port
abbrev pub IsSaid : List ℕ → List ℕ → Type 0
IsSaid address said = (port : ℕ) × (said ≡ said_of address port)

-- so many are said as there are addresses, each as its own may be
pub record AreSaid (addresses texts : List (String Global)) : Type 0 where
  pub count : length texts ≡ length addresses
  pub each : (place : ℕ) (address text : String Global) → slice_get addresses place ≡ Some address → slice_get texts place ≡ Some text
      → IsSaid (string_bytes address) (string_bytes text)

-- one more is said, as this address may be
pub record IsNamed (address : List ℕ) (old new : List (String Global)) : Type 0 where
  pub text : String Global
  pub behind : new ≡ old ++ text ∷ []
  pub said : IsSaid address (string_bytes text)
