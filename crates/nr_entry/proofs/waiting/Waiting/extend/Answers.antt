use Rattle.std.proofs.Common.{◌++◌, ap, ◌∙◌, arith, length, length-append}
use Rattle.nr_entry.specs.Runs.{jobs_in}
use Rattle.nr_entry.specs.Waiting.{Held}
use Rattle.nr_entry.proofs.Lending.{seen_settled, nothing_lent}
use Rattle.nr_entry.proofs.waiting.Waiting.extend.Goals as goal

pub add_all-requires : goal.add_all-requires
add_all-requires c = c.self.invariant.1 ∙ nothing_lent c.self.inside.lent c.self.inside.runs.items c.self.invariant.1 (ap (λ (h : Held). h.gaps) c.self.view_is ∙ c.requires)

pub invariant_of-self : goal.invariant_of-self
invariant_of-self c =
    let none = nothing_lent c.self.inside.lent c.self.inside.runs.items c.self.invariant.1 (ap (λ (h : Held). h.gaps) c.self.view_is ∙ c.requires) in (
      omega (arith, c.self.invariant.0, ap length c.in-Ok.ensures.ok, length-append (jobs_in c.self.inside.runs.items) c.args.jobs.items),
      omega (arith, c.add_all.ensures.lent, none),
    )

pub returns-in-Ok-clause-ok : goal.returns-in-Ok-clause-ok
returns-in-Ok-clause-ok c =
    let none = nothing_lent c.self.inside.lent c.self.inside.runs.items c.self.invariant.1 (ap (λ (h : Held). h.gaps) c.self.view_is ∙ c.requires) in
    seen_settled c.self.inside.lent c.add_all.new.runs.items _ none c.add_all.ensures.lent (c.in-Ok.ensures.ok ∙ ap (λ (h : Held). h.jobs ++ c.args.jobs.items) c.self.view_is)
