use Rattle.nr_combiner.proofs.Turns.{tried_by}
use Rattle.nr_combiner.proofs.combiner.try_to_reserve.Goals as goal

pub returns : goal.returns
returns g c =
    record {
      comes = tried_by g.B.LogName.places c.reserve.result c.args.core.now c.reserve.new.self c.reserve.ensures.done c.reserve.ensures.full c.reserve.ensures.again c.reserve.ensures.met_full
          c.reserve.ensures.met_lost c.reserve.ensures.not_yet c.reserve.ensures.down c.reserve.ensures.memory;
      down = c.reserve.ensures.is_down;
      looks = c.reserve.ensures.looks;
    }
