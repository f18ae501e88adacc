use Rattle.std.proofs.Common.{◌≡◌, length, map, []}
use Rattle.std.specs.Vec.Iter.{drain_items, drain_kept}
use Rattle.nr_worker.specs.Portions.{portion_of}
use Rattle.nr_worker.proofs.Growing.{IsAccepting}
use Rattle.nr_worker.proofs.open_connections.OpenConnections.put_each.Given as goal

abbrev pub invariant-loop-piece : goal.invariant-loop-piece
invariant-loop-piece l =
    (drain_kept l.piece-iterator ≡ []) × IsAccepting l.limit (map portion_of l.fn.pieces.items) (map portion_of (drain_items l.piece-iterator)) l.fn.self l.self × (length l.self ≡ length l.fn.self)
