use Rattle.std.proofs.Common.{ap, sym, ◌∙◌, subst}
use Rattle.nr_job_numbers.specs.Book.{Book}
use Rattle.nr_slots.specs.Seats.{CombinerView}
use Rattle.nr_combiner.specs.Served.{IsServed}
use Rattle.nr_combiner.proofs.Moves.{kept_still}
use Rattle.nr_combiner.proofs.combiner.Combiner.keep.Goals as goal

pub invariant_of-self : goal.invariant_of-self
invariant_of-self g c =
    let keeps = c.self.invariant in
    let inside = c.self.inside in
    let same = c.note-note.ensures.same in
    let node = ap (λ (b : Book). b.node) c.token-token.ensures.same.book in (
      subst (λ (v : CombinerView). IsServed c.token-token.new.self v inside.numbers.items) (sym same)
          (kept_still inside.core c.token-token.new.self inside.seat inside.numbers.items c.token-token.ensures.same keeps.0),
      ap (λ (v : CombinerView). v.slots) same ∙ keeps.1,
      keeps.2 ∙ sym node,
      ap (λ (v : CombinerView). v.slots) same ∙ keeps.3 ∙ ap g.B.ServerName.slots (sym node),
    )

pub returns-clause-served : goal.returns-clause-served
returns-clause-served g c = (c.self.inside.numbers.items, (invariant_of-self g c).0)
