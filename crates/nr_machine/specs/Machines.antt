-- What contracts see of a machine.
use Rattle.std.specs.Prelude.{Bool, refl}
use Rattle.std.specs.Coded.{Coded, code_by, coded×, coded_bool}
use Rattle.nr_model.specs.Servers.{Server}
use Rattle.nr_machine.specs.Codes.{coded_server}

-- the state, and whether memory ran out: then the state is open
pub record MachineState : Type 0 where
  pub state : Server
  pub failed : Bool

abbrev pub coded_machine : Coded MachineState
coded_machine = code_by (Server × Bool) (coded× coded_server coded_bool) (λ m. (m.state, m.failed)) (λ p. record { state = p.0; failed = p.1 }) (λ _. refl)
