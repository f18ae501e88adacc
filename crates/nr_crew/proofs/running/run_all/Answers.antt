use Rattle.std.proofs.Common.{rules}
use Rattle.nr_crew.proofs.running.run_all.Goals as goal

-- the closure asks for nothing beyond what holds of what it takes
pub scoped-requires : goal.scoped-requires
scoped-requires g c = record { at = λ _. search rules depth 40 fits 100000 }
