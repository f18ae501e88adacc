-- Where the workers of a server stand: at which node, and which of its workers each is.
use Rattle.std.specs.Prelude.{ℕ, zero, suc, List, [], ◌∷◌, ◌++◌, map}
use Rattle.nr_combiner.specs.Workers.{NodeHandleState}
use Rattle.nr_crew.specs.declared.lane.WorkerEnd.{WorkerEnd}

-- the node of a worker, and its number there
abbrev pub place_of : NodeHandleState → ℕ × ℕ
place_of worker = (worker.node, worker.seat.worker)

-- where those stood that left this
abbrev pub places_left : {S D M : Type 0} → List (WorkerEnd S D M) → List (ℕ × ℕ)
places_left {S} {D} {M} lefts = map (λ (left : WorkerEnd S D M). (left.node, left.worker)) lefts

-- so many workers of a node, numbered from one on
abbrev pub places_at : ℕ → ℕ → ℕ → List (ℕ × ℕ)
places_at node first zero = []
places_at node first (suc more) = (node, first) ∷ places_at node (suc first) more

-- all workers of so many nodes from one on: worker w of node n is number n * workers + w
abbrev pub places_from : ℕ → ℕ → ℕ → List (ℕ × ℕ)
places_from node zero workers = []
places_from node (suc more) workers = places_at node 0 workers ++ places_from (suc node) more workers
