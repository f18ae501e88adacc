use Rattle.std.proofs.Common.{List, length, refl, sym, ap, ◌∙◌, arith}
use Rattle.nr_entry.specs.declared.run.Run.{Run}
use Rattle.nr_entry.specs.Runs.{jobs_in, lent_in, gaps_in}
use Rattle.nr_entry.specs.Waiting.{Held, filled}
use Rattle.nr_entry.proofs.Fronts.{whole_slice, filled_where}
use Rattle.nr_entry.proofs.Lending.{seen_settled}
use Rattle.nr_entry.proofs.waiting.Waiting.give_back.Goals as goal

pub invariant_of-self : goal.invariant_of-self
invariant_of-self c =
    let whole = whole_slice c.take_back.new.runs c.self.inside.runs.items c.self.inside.runs.len (c.take_back.auto.runs ∙ ap length c.deref_mut.ensures.value) (sym c.deref_mut.ensures.len ∙ ap length c.deref_mut.ensures.value) in (
      omega (arith, ap (λ (t : List Run). length (jobs_in t)) whole, c.take_back.ensures.count, ap (λ (t : List Run). length (jobs_in t)) c.deref_mut.ensures.value, ap lent_in c.deref_mut.ensures.value, c.self.invariant.0, c.self.invariant.1),
      ap lent_in whole ∙ c.take_back.ensures.lent,
    )

pub returns : goal.returns
returns c =
    let whole = whole_slice c.take_back.new.runs c.self.inside.runs.items c.self.inside.runs.len (c.take_back.auto.runs ∙ ap length c.deref_mut.ensures.value) (sym c.deref_mut.ensures.len ∙ ap length c.deref_mut.ensures.value) in
    seen_settled 0 _ _ refl (ap lent_in whole ∙ c.take_back.ensures.lent)
    (ap jobs_in whole
    ∙ c.take_back.ensures.jobs
    ∙ ap (λ (t : List Run). filled (gaps_in t) c.args.jobs.items (jobs_in t)) c.deref_mut.ensures.value
    ∙ filled_where c.self.inside.lent c.self.inside.runs.items c.args.jobs.items c.self.invariant.1
    ∙ ap (λ (h : Held). filled h.gaps c.args.jobs.items h.jobs) c.self.view_is)
