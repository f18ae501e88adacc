use Rattle.nr_taps.proofs.Explains.{one_sequence}
use Rattle.nr_taps.proofs.law.sequence_law.Goals as goal

pub returns : goal.returns
returns c = one_sequence
