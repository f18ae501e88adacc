use Rattle.nr_sockets.proofs.Told.{told}
use Rattle.nr_sockets.proofs.farewells.tell.Goals as goal

pub returns : goal.returns
returns g c = told _ _ c.write.result c.write.ensures.bytes
