use Rattle.std.proofs.Common.{ap, sym, ◌∙◌}
use Rattle.nr_job_numbers.specs.Book.{Book}
use Rattle.nr_combiner.proofs.Moves.{kept_still}
use Rattle.nr_combiner.proofs.combiner.Combiner.offer.Goals as goal

pub invariant_of-self : goal.invariant_of-self
invariant_of-self g c =
    let inside = c.self.inside in
    let still = c.offer.ensures.same in
    let node = ap (λ (b : Book). b.node) (sym still.book) in (
      kept_still inside.core c.offer.new.self inside.seat inside.numbers.items still c.self.invariant.0,
      c.self.invariant.1,
      c.self.invariant.2 ∙ node,
      c.self.invariant.3 ∙ ap g.B.ServerName.slots node,
    )
