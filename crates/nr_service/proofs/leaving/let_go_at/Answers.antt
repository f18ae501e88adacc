-- There was none, or it goes on, or it went.
use Rattle.std.proofs.Common.{arith, refl, ◌∙◌, subst}
use Rattle.std.specs.Prelude.{None}
use Rattle.nr_service.specs.Leaving.{IsEnding}
use Rattle.nr_service.proofs.Closing.{lets_none, lets_one}
use Rattle.nr_service.proofs.Working.{get_or_within}
use Rattle.nr_service.proofs.leaving.let_go_at.Goals as goal

pub returns-then-place-len-clause-gone : goal.returns-then-place-len-clause-gone
returns-then-place-len-clause-gone g c = lets_none _ _ _ _ _ _ _ _ _ _ _ _ _

pub returns-in_default-clause-gone : goal.returns-in_default-clause-gone
returns-in_default-clause-gone g c = lets_none _ _ _ _ _ _ _ _ _ _ _ _ _

pub returns-clause-gone : goal.returns-clause-gone
returns-clause-gone g c =
    lets_one _ _ _ _ _ _ _ _ _ _ c.in-Some.ending c.args.place _ _ _ _ _ _ _ (omega arith) c.index.ensures (rw c.in-Some.is at c.ending_of.ensures)
    c.in_ok-let_go.ensures.gone

pub returns-in_default-clause-goes_on : goal.returns-in_default-clause-goes_on
returns-in_default-clause-goes_on g c = λ rests. record {
  clients = refl;
  answers = refl;
  here = λ client low.
      subst (λ (x : _). IsEnding (g.A.Backend.kept c.args.answers.now) (g.A.Backend.stands c.args.answers.now) (g.A.Backend.busy c.args.answers.now)
      c.args.bounds x None)
      (c.index.ensures ∙ get_or_within _ c.args.place _ client low) (rw c.in_default.is at c.ending_of.ensures);
}

pub returns-then-puts_off-clause-gone : goal.returns-then-puts_off-clause-gone
returns-then-puts_off-clause-gone g c = lets_none _ _ _ _ _ _ _ _ _ _ _ _ _
