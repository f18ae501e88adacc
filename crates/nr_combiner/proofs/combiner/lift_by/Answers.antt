use Rattle.std.proofs.Common.{ℕ, sym, subst}
use Rattle.nr_combiner.specs.Steps.{HasLiftedAll, HasLiftedBy}
use Rattle.nr_combiner.specs.declared.answering.Lifts.{Lifts}
use Rattle.nr_combiner.proofs.combiner.lift_by.Goals as goal

pub returns-in-All : goal.returns-in-All
returns-in-All g c =
    subst (λ (which : Lifts). HasLiftedBy which c.args.worker c.args.combiner.now c.lift_all.new.combiner) (sym c.in-All.is)
    (subst (λ (k : ℕ). HasLiftedAll k c.args.combiner.now c.lift_all.new.combiner) c.requires c.lift_all.ensures)

pub returns-in-Own : goal.returns-in-Own
returns-in-Own g c =
    subst (λ (which : Lifts). HasLiftedBy which c.args.worker c.args.combiner.now c.lift_own.new.combiner) (sym c.in-Own.is) c.lift_own.ensures
