use Rattle.std.proofs.Common.{arith}
use Rattle.nr_combiner.proofs.combiner.lift_own.Goals as goal

pub lift-lifted-requires : goal.lift-lifted-requires
lift-lifted-requires g c = omega (arith, c.requires)
