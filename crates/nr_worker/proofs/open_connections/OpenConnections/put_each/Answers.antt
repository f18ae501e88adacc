use Rattle.std.proofs.Common.{◌≡◌, ◌-◌, map, refl, ap, ◌∙◌, take, drop, length, arith}
use Rattle.std.proofs.Math.Seq.{drop-length, take-length}
use Rattle.std.specs.Vec.Iter.{drain_items, drain_kept}
use Rattle.nr_worker.specs.Portions.{portion_of}
use Rattle.nr_worker.proofs.Growing.{accepting_none}
use Rattle.nr_worker.proofs.open_connections.OpenConnections.put_each.Goals as goal

pub loop-piece-init : goal.loop-piece-init
loop-piece-init c =
    let pieces = c.args.pieces.now in
    let count : pieces.len - 0 ≡ length pieces.items = omega (arith, pieces.ok.0) in
    let into = c.into_iter-piece-iterator.ensures.into_iter_gives in (
      (λ i. drain_kept (into i)) ∙ c.drain-piece-items.ensures.kept ∙ ap (λ n. drop n pieces.items) pieces.ok.0 ∙ drop-length pieces.items,
      accepting_none c.args.limit _ _ c.args.self.now _
          (ap (map portion_of)
          ((λ i. drain_items (into i)) ∙ c.drain-piece-items.ensures.rest ∙ ap (λ n. take n pieces.items) count ∙ take-length pieces.items))
          refl,
      refl,
    )
