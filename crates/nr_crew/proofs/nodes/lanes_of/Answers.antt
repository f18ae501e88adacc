use Rattle.std.proofs.Common.{ap, length, map, subst, rules, ◌∙◌, ◌+◌, ◌≡◌}
use Rattle.std.specs.List.{AllByRecursion}
use Rattle.std.specs.Vec.{vec_len}
use Rattle.nr_crew.specs.Nodes.{AreFresh}
use Rattle.nr_crew.specs.Places.{place_of}
use Rattle.nr_crew.proofs.InPlace.{next_count, next_placed}
use Rattle.nr_crew.proofs.nodes.lanes_of.Goals as goal

pub loop-workers-preserved : goal.loop-workers-preserved
loop-workers-preserved g c =
    let was = c.loop-workers.invariant in
    let steps = c.in-Some.ensures.steps.0 in
    let fresh = subst (AllByRecursion (λ workers. AreFresh c.args.setup.workers workers.items)) steps was.2 in
    let wide : vec_len c.in-Some.workers ≡ c.args.setup.workers = search (rules, fresh.0.1) in (
      tt,
      tt,
      fresh.1,
      next_count _ _ _ _ c.args.setup.workers _ (c.in_ok-add_lanes.ensures.len ∙ ap (λ n. vec_len c.loop-workers.lanes + n) wide) (ap length steps) was.3,
      next_placed (λ workers. map place_of workers.items) _ _ _ _ _ c.in-Some.workers c.in_ok-add_lanes.ensures.placed steps was.4,
    )
