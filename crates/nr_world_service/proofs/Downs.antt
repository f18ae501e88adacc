-- What holds of every node, node by node.
use Rattle.std.proofs.Common.{◌≡◌, ℕ, suc, ◌<◌, Bool, true, List, [], ◌∷◌, length, get_or, refl, ◌∙◌, arith}
use Rattle.std.specs.Prelude.{◌&&◌}
use Rattle.std.specs.List.{list_all}
use Rattle.nr_model.specs.Nodes.{Node, no_node}

pub all_by : (holds : Node → Bool) (nodes : List Node) → ((i : ℕ) → i < length nodes → holds (get_or nodes i no_node) ≡ true)
    → list_all holds nodes ≡ true
all_by holds [] each = refl
all_by holds (node ∷ nodes) each =
    (λ i. each 0 (omega arith) i && list_all holds nodes) ∙ all_by holds nodes (λ i below. each (suc i) (omega arith))
