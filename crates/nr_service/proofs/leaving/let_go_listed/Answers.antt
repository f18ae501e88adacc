-- One fewer is to be looked at.
use Rattle.std.proofs.Common.{arith, refl, ◌∙◌}
use Rattle.nr_service.proofs.Closing.{lets_none, lets_then}
use Rattle.nr_service.proofs.Left.{loses_then, on_err}
use Rattle.nr_service.proofs.Sending.{go_on_more}
use Rattle.nr_service.proofs.leaving.let_go_listed.Goals as goal

pub loop-left-init : goal.loop-left-init
loop-left-init g c = record {
  gone = lets_none _ _ _ _ _ _ _ _ _ _ _ _ _;
  all = refl;
  calm = λ rests. rests;
  clients = λ rests. refl;
  answers = λ rests. refl;
  within = λ all. omega (arith, c.count-left.ensures all, c.len.ensures);
  each = λ all rests k client low high. absurd (omega (arith, c.count-left.ensures all, c.len.ensures, low, high));
}

pub loop-left-preserved : goal.loop-left-preserved
loop-left-preserved g c =
    let calm = c.in_ok-let_go_at.ensures.calm in
    let goes = c.in_ok-let_go_at.ensures.goes_on in record {
      gone = lets_then _ _ _ _ _ _ _ _ _ _ _ _ _ _ _ _ _ _ _ c.loop-left.invariant.gone c.in_ok-let_go_at.ensures.gone;
      all = c.let_go_at.ensures.all ∙ c.loop-left.invariant.all;
      calm = λ rests. c.loop-left.invariant.calm (calm rests);
      clients = λ rests. (goes rests).clients ∙ c.loop-left.invariant.clients (calm rests);
      answers = λ rests. (goes rests).answers ∙ c.loop-left.invariant.answers (calm rests);
      within = λ all. omega (arith, c.loop-left.invariant.within all);
      each = λ all rests.
          go_on_more _ _ _ _ _ _ c.loop-left.left _ _ _ _ _ _ (c.place-place.ensures (c.loop-left.invariant.all ∙ all)) (omega (arith, c.loop-left-test.true))
          (omega (arith, c.loop-left-test.true, c.loop-left.invariant.within all)) (c.loop-left.invariant.clients (calm rests))
          (c.loop-left.invariant.answers (calm rests)) (goes rests) (c.loop-left.invariant.each all (calm rests));
    }

pub returns-in_err-let_go_at-clause-left : goal.returns-in_err-let_go_at-clause-left
returns-in_err-let_go_at-clause-left g c =
    on_err c.from_residual.result _ (loses_then _ _ _ _ _ _ _ _ _ _ _ _ _ _ _ _ _ _ _ _ c.loop-left.invariant.gone c.in_err-let_go_at.ensures.left)

pub returns-clause-go_on : goal.returns-clause-go_on
returns-clause-go_on g c = λ rests. record {
  clients = c.loop-left.invariant.clients rests;
  answers = c.loop-left.invariant.answers rests;
  each = λ all k client high. c.loop-left.invariant.each all rests k client (omega (arith, c.loop-left-test.false)) high;
}
