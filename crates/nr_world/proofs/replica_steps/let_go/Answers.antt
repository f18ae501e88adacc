use Rattle.std.proofs.Common.{arith}
use Rattle.nr_world.proofs.Replayed.{least_low}
use Rattle.nr_world.proofs.replica_steps.let_go.Goals as goal

pub pass-requires : goal.pass-requires
pass-requires c =
    let low = least_low c.args.log.now.base c.tail-tail.result c.args.nodes.now (omega (arith, c.tail-tail.ensures)) c.requires.passed in
    omega (arith, c.least_passed.ensures)
