-- Why nobody listens at several addresses.
use Rattle.std.specs.Prelude.{◌<◌, String, List, length}
use Rattle.std.specs.declared.alloc.Global.{Global}
use Rattle.nr_sockets.specs.declared.listening.ListenError.{ListenError}
use Rattle.nr_sockets.specs.declared.listening.ListenError.TheVariants as errors

-- it can't be listened at the one at that place, or none was tried
abbrev pub IsUnheardAt : List (String Global) → ListenError → Type 0
IsUnheardAt addresses (errors.Poll error) = Unit {0}
IsUnheardAt addresses (errors.Address unheard) = unheard.place < length addresses
