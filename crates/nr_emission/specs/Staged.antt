-- Emissions that are held back, as ranges of the bytes written.
use Rattle.std.specs.Prelude.{◌≡◌, ℕ, ◌≤◌, ◌+◌, List, [], ◌∷◌, length, take, drop}
use Rattle.std.specs.Arc.{arc_value}
use Rattle.nr_model.specs.Bytes.{Bytes}
use Rattle.nr_entry.specs.Jobs.{connection_of}
use Rattle.nr_emission.specs.Emitted.{Written}
use Rattle.nr_emission.specs.declared.staging.Staged.{Staged}
use Rattle.nr_emission.specs.declared.staging.Staged.TheVariants as staged

-- what one of them is
abbrev pub written_in : Bytes → Staged → Written
written_in bytes (staged.Reply conn from len) = record { connection = connection_of conn; bytes = take len (drop from bytes) }
written_in bytes (staged.Message conn message) = record { connection = connection_of conn; bytes = (arc_value message).items }

-- each range lies within the bytes
abbrev pub IsWithin : Bytes → Staged → Type 0
IsWithin bytes (staged.Reply conn from len) = from + len ≤ length bytes
IsWithin bytes (staged.Message conn message) = Unit {0}

abbrev pub AreWithin : Bytes → List Staged → Type 0
AreWithin bytes [] = Unit {0}
AreWithin bytes (one ∷ more) = IsWithin bytes one × AreWithin bytes more

-- how many bytes the ranges have in all
abbrev pub bytes_named : List Staged → ℕ
bytes_named [] = 0
bytes_named (staged.Reply conn from len ∷ more) = len + bytes_named more
bytes_named (staged.Message conn message ∷ more) = bytes_named more

-- the ranges lie within the bytes, and no bytes are kept but those of the ranges
pub record AreHeld (bytes : Bytes) (all : List Staged) : Type 0 where
  pub within : AreWithin bytes all
  pub exact : length bytes ≡ bytes_named all
