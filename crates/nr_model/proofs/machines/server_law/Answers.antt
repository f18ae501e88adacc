use Rattle.nr_model.proofs.Serving.{server_is_redis}
use Rattle.nr_model.proofs.machines.server_law.Goals as goal

pub returns : goal.returns
returns c = server_is_redis
