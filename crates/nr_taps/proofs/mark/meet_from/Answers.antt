use Rattle.std.proofs.Common.{◌∙◌}
use Rattle.nr_taps.proofs.Marks.{one_more_met, set_same}
use Rattle.nr_taps.proofs.mark.meet_from.Goals as goal

pub loop-other-preserved : goal.loop-other-preserved
loop-other-preserved g c =
    let k = c.loop-other.invariant in
    let near = c.loop-other-test.true in record {
      one = c.meet.ensures.same ∙ k.one;
      same = set_same c.loop-other.marks c.loop-other.other c.index-marks-other.result c.meet.new.other c.meet.ensures.other ∙ k.same;
      met = one_more_met c.args.from c.loop-other.other c.args.one.now c.loop-other.one c.index-marks-other.result c.args.marks.now c.loop-other.marks k.one k.same near k.met
          c.meet.ensures.met;
    }
