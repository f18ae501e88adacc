use Rattle.std.proofs.Common.{ap, arith, length, rules}
use Rattle.std.specs.Prelude.{IsTrue}
use Rattle.nr_crew.specs.Places.{place_of}
use Rattle.nr_crew.proofs.InPlace.{one_placed}
use Rattle.nr_crew.proofs.running.start_all.Goals as goal

pub loop-lane-preserved : goal.loop-lane-preserved
loop-lane-preserved g c =
    let was = c.loop-lane.invariant in
    let all = was.2 in
    let wide = was.4 in
    let steps = c.in-Some.ensures.steps.0 in
    let count = ap length steps in
    let started : IsTrue c.start_one.result = search (rules, c.if-not-start_one.false) in
    let kept = c.start_one.ensures.kept started in
    let room = c.start_one.ensures.room in (
      tt,
      tt,
      omega (arith, count, kept, all),
      c.start_one.ensures.promised was.3,
      omega (arith, room, wide),
      one_placed (λ lane. place_of lane.worker) _ _ _ _ _ c.in-Some.lane (c.start_one.ensures.placed started) steps was.5,
    )
