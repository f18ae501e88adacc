use Rattle.std.proofs.Common.{refl, ◌∙◌, arith}
use Rattle.nr_taps.proofs.Marks.{one_log_all, one_more_place, sound_all}
use Rattle.nr_taps.proofs.mark.meet_marks.Goals as goal

pub loop-place-init : goal.loop-place-init
loop-place-init g c = record { same = refl; met = λ place below. absurd (omega (arith, below)) }

pub loop-place-preserved : goal.loop-place-preserved
loop-place-preserved g c = record {
  same = c.meet_others.ensures.same ∙ c.loop-place.invariant.same;
  met = one_more_place c.args.marks.now c.loop-place.marks c.loop-place.place c.loop-place.invariant.same c.loop-place.invariant.met c.meet_others.ensures.met;
}

pub returns-clause-same : goal.returns-clause-same
returns-clause-same g c = c.loop-place.invariant.same

pub returns-clause-sound : goal.returns-clause-sound
returns-clause-sound g c =
    let end = c.loop-place-test.false in
    sound_all c.args.marks.now (λ place below. c.loop-place.invariant.met place (omega (arith, below, end)))

pub returns-clause-one_log : goal.returns-clause-one_log
returns-clause-one_log g c =
    let end = c.loop-place-test.false in
    one_log_all c.args.marks.now (λ place below. c.loop-place.invariant.met place (omega (arith, below, end)))
