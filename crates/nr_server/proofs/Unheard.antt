-- One of several addresses is refused.
use Rattle.std.specs.Prelude.{List}
use Rattle.std.specs.declared.string.String.{String}
use Rattle.std.specs.declared.alloc.Global.{Global}
use Rattle.std.proofs.Common.{inl}
use Rattle.nr_sockets.specs.Unheard.{IsUnheardAt}
use Rattle.nr_sockets.specs.declared.listening.ListenError.{ListenError}
use Rattle.nr_server.specs.declared.fault.Fault.{Fault}
use Rattle.nr_server.specs.Listening.{IsUnheardOf, TellsOf}

-- so it is told of
pub one_refused : (addresses : List (String Global)) (error : ListenError) (fault : Fault) → IsUnheardAt addresses error → TellsOf addresses error fault
    → IsUnheardOf addresses fault
one_refused addresses error fault at tells = inl (record { error = error; at = at; tells = tells })
