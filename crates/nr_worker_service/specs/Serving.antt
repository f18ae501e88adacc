-- What contracts see of a worker as what answers its service.
use Rattle.std.specs.Prelude.{Bool, not, ◌&&◌, ◌||◌, ◌==◌, cond, length, refl}
use Rattle.std.specs.Coded.{Coded, code_by, coded×, coded_bool}
use Rattle.nr_model.specs.Items.{Connection}
use Rattle.nr_service.specs.Stories.{Kept}
use Rattle.nr_service.specs.declared.backend.ConnectionState.{ConnectionState}
use Rattle.nr_service.specs.declared.backend.ConnectionState.TheVariants as standings
use Rattle.nr_worker.specs.Placed.{are_written}
use Rattle.nr_worker.specs.Portions.{waiting_of}
use Rattle.nr_worker.specs.Working.{WorkState, coded_work, takes_from}

-- the worker, and whether something was left to be done when it worked last
pub record WorkerBackendState : Type 0 where
  pub desk : WorkState
  pub busy : Bool

abbrev pub coded_serving : Coded WorkerBackendState
coded_serving =
    code_by (WorkState × Bool) (coded× coded_work coded_bool) (λ d. (d.desk, d.busy)) (λ p. record { desk = p.0; busy = p.1 }) (λ _. refl)

-- the bytes that wait for a connection that is open here
abbrev pub kept_at : WorkerBackendState → Kept
kept_at d c = waiting_of d.desk.worker.node d.desk.seats c

-- nothing was left to be done when it worked last, no job waits and no answer does, and nothing waits to be written
abbrev pub has_nothing_to_do : WorkerBackendState → Bool
has_nothing_to_do d = not d.busy && not (d.desk.waiting || not (length d.desk.jobs == 0)) && are_written d.desk.seats

-- how a connection stands
abbrev pub standing_of : WorkerBackendState → Connection → ConnectionState
standing_of d c = cond d.desk.down standings.Down (cond (takes_from c d.desk) standings.Open standings.Over)
