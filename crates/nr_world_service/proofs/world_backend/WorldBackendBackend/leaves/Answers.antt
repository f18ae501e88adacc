use Rattle.nr_world_service.proofs.Told.{once_led}
use Rattle.nr_world_service.proofs.world_backend.WorldBackendBackend.leaves.Goals as goal

pub returns : goal.returns
returns c = once_led _
