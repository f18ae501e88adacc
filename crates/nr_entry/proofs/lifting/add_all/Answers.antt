use Rattle.std.proofs.Common.{◌++◌, List, sym, ap, ◌∙◌, arith}
use Rattle.nr_entry.specs.declared.job.Job.{Job}
use Rattle.nr_entry.specs.Runs.{jobs_in, lent_in}
use Rattle.std.proofs.lemmas.List.{append-nil}
use Rattle.nr_entry.proofs.Fronts.{jobs_in-append, lent_in-append}
use Rattle.nr_entry.proofs.lifting.add_all.Goals as goal

pub returns-in-Ok-clause-ok : goal.returns-in-Ok-clause-ok
returns-in-Ok-clause-ok c =
    ap jobs_in c.in-Ok.ensures.items
    ∙ jobs_in-append c.args.runs.now.items c.split.new.added.items
    ∙ ap (λ (t : List Job). jobs_in c.args.runs.now.items ++ t) (sym (append-nil (jobs_in c.split.new.added.items)) ∙ ap (λ (t : List Job). jobs_in c.split.new.added.items ++ t) (sym c.in_default.ensures.done) ∙ c.split.ensures.all ∙ c.from_vec-left.ensures.items)

pub returns-in-Ok-clause-lent : goal.returns-in-Ok-clause-lent
returns-in-Ok-clause-lent c = omega (arith, ap lent_in c.in-Ok.ensures.items, lent_in-append c.args.runs.now.items c.split.new.added.items, c.split.ensures.lent, c.requires)
