-- The first of a node's new workers has handed in nothing.
use Rattle.std.proofs.Common.{◌≡◌, ℕ, zero, suc, List, [], ◌∷◌, get_or, ap, sym, ◌∙◌}
use Rattle.nr_combiner.specs.Shared.{NodeView}
use Rattle.nr_combiner.specs.Workers.{IsNode, NodeHandleState, fresh_workers}

fresh_first : (shared : NodeView) (n : ℕ) (all rest : List NodeHandleState) (w : NodeHandleState) → all ≡ fresh_workers shared 0 n → all ≡ w ∷ rest
    → w.seat.lane.posted ≡ []
fresh_first shared zero all rest w is first = absurd (cc (sym is ∙ first))
fresh_first shared (suc n) all rest w is first = ap (λ (l : List NodeHandleState). (get_or l 0 w).seat.lane.posted) (sym first ∙ is)

pub posted_none : {workers connections limit node : ℕ} (list all rest : List NodeHandleState) (w : NodeHandleState)
    → IsNode workers connections limit node list → all ≡ list → all ≡ w ∷ rest → w.seat.lane.posted ≡ []
posted_none {workers = workers} list all rest w n is first = fresh_first n.shared workers all rest w (is ∙ n.all) first
