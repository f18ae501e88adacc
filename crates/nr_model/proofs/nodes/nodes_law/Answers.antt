use Rattle.nr_model.proofs.NodesExplained.{nodes_are_explained}
use Rattle.nr_model.proofs.nodes.nodes_law.Goals as goal

pub returns : goal.returns
returns c = nodes_are_explained
