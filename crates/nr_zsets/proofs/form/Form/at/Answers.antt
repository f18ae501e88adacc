use Rattle.std.proofs.Common.{ap, sym, length}
use Rattle.nr_ordered.proofs.Heights.{few_ticks}
use Rattle.nr_zsets.specs.Forms.{items_of}
use Rattle.nr_zsets.proofs.form.Form.at.Goals as goal

pub returns-in-Large-clause-cost : goal.returns-in-Large-clause-cost
returns-in-Large-clause-cost g c = λ d. few_ticks _ _ _ d _ _ c.at.ensures.full (ap (λ form. length (items_of form)) (sym c.in-Large.is)) c.at.ensures.cost
