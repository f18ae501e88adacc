use Rattle.std.proofs.Common.{refl, rules}
use Rattle.nr_lists.proofs.Listed.{looks_first, looks_on}
use Rattle.nr_lists.proofs.matches.pivot.Goals as goal

pub loop-place-init : goal.loop-place-init
loop-place-init c = looks_first c.args.pivot.now c.args.walk c.args.walk refl

pub loop-place-preserved : goal.loop-place-preserved
loop-place-preserved c =
    looks_on c.args.pivot.now c.loop-place.place c.args.walk c.loop-place.walk c.take.new.self c.in-Some.item.now c.in-Some.ensures.item
    (search rules) c.loop-place.invariant
