-- Why the system refused something, and how that is told.
use Rattle.std.specs.Prelude.{◌++◌, ℤ, Option, Some, None, codes}
use Rattle.std.specs.Fmt.{signed_decimal}
use Rattle.std.specs.declared.io.ErrorKind.{ErrorKind}
use Rattle.std.specs.declared.io.ErrorKind.TheVariants.{AddrInUse, AddrNotAvailable, InvalidInput, NotFound, PermissionDenied, IsADirectory, Uncategorized}
use Rattle.nr_model.specs.Bytes.{Bytes}
use Rattle.nr_server.specs.declared.refusal.SystemRefusal.{SystemRefusal}
use Rattle.nr_server.specs.declared.refusal.SystemRefusal.TheVariants as refusals

-- by the system's number, where it gives one
abbrev pub by_number : Option ℤ → SystemRefusal → SystemRefusal
by_number (Some number) otherwise = refusals.Number number
by_number None otherwise = otherwise

-- by the kind of the error, and its number where the system gave one
abbrev pub refusal_of : ErrorKind → Option ℤ → SystemRefusal
refusal_of AddrInUse number = refusals.AddressInUse
refusal_of AddrNotAvailable number = refusals.NoSuchAddress
refusal_of NotFound number = refusals.NoSuchFile
refusal_of PermissionDenied number = refusals.PermissionDenied
refusal_of IsADirectory number = refusals.Directory
refusal_of InvalidInput number = by_number number refusals.NoAddress
refusal_of Uncategorized number = by_number number refusals.NoSuchName
refusal_of _ number = by_number number refusals.Unknown

abbrev pub refusal_text : SystemRefusal → Bytes
refusal_text refusals.AddressInUse = codes "address in use"
refusal_text refusals.NoSuchAddress = codes "no such address"
refusal_text refusals.NoAddress = codes "not an address and a port"
refusal_text refusals.NoSuchName = codes "no such name"
refusal_text refusals.NoSuchFile = codes "no such file"
refusal_text refusals.PermissionDenied = codes "permission denied"
refusal_text refusals.Directory = codes "is a directory"
refusal_text (refusals.Number number) = codes "error " ++ (signed_decimal number ++ codes " of the system")
refusal_text refusals.Unknown = codes "the system doesn't say why"
