use Rattle.nr_model.proofs.Conversing.{conversation_is}
use Rattle.nr_model.proofs.machines.conversation_law.Goals as goal

pub returns : goal.returns
returns c = conversation_is
