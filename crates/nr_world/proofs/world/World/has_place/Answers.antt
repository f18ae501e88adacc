use Rattle.std.proofs.Common.{◌∙◌}
use Rattle.nr_world.proofs.Logged.{opened, place_by}
use Rattle.nr_world.proofs.world.World.has_place.Goals as goal

pub returns : goal.returns
returns c = λ world s.
    let o = opened _ c.args.self.now c.self.view_is c.requires.still c.self.invariant in
    c.all_leave_place.ensures
    ∙ place_by _ _ o world c.deref.result.now c.tail.result c.places.result
    c.deref.ensures.value c.tail.ensures c.places.ensures.value s
