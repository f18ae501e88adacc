-- What contracts see of the server as what answers.
use Rattle.std.specs.Prelude.{◌≡◌, Bool, false, List, None, refl}
use Rattle.std.specs.Coded.{Coded, code_by, coded×, coded_bool, coded_list}
use Rattle.nr_model.specs.Keyspace.{coded_bytes}
use Rattle.nr_model.specs.Items.{Connection}
use Rattle.nr_model.specs.Nodes.{World}
use Rattle.nr_model.specs.Nodes.Steps.{is_client}
use Rattle.nr_model.specs.Nodes.Pasts.{Event, IsPast}
use Rattle.nr_entry.specs.contracts.conn.ConnId as of_conn
use Rattle.nr_world.specs.WorldState.{WorldState, coded_world, Shows}
use Rattle.nr_world_service.specs.Kept.{Taps, kept_at}

-- its nodes, the bytes that it keeps, and whether memory ran out: then it answers nothing any more
pub record WorldBackendState : Type 0 where
  pub world : WorldState
  pub taps : Taps
  pub failed : Bool

abbrev pub coded_answering : Coded WorldBackendState
coded_answering =
    code_by (WorldState × (Taps × Bool)) (coded× coded_world (coded× (coded_list (coded× of_conn.the_row.coded coded_bytes)) coded_bool))
    (λ a. (a.world, (a.taps, a.failed))) (λ p. record { world = p.0; taps = p.1.0; failed = p.1.1 }) (λ _. refl)

-- Events led to a world that it shows, and it keeps bytes for connections of that world alone.
pub record IsSound (world : WorldState) (taps : Taps) : Type 0 where
  pub events : List Event
  pub shown : World
  pub past : IsPast world.setup events shown
  pub shows : Shows world shown
  pub absent : (c : Connection) → is_client shown c ≡ false → kept_at c taps ≡ None
