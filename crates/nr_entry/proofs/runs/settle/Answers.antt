use Rattle.std.proofs.Common.{◌≡◌, ◌++◌, length, take, drop, sym, ap, ◌∙◌}
use Rattle.nr_entry.specs.Runs.{jobs_in, lent_in}
use Rattle.nr_entry.proofs.Fronts.{jobs_in-filter, lent_in-filter, whole_slice}
use Rattle.nr_entry.proofs.runs.settle.Goals as goal
use Rattle.nr_entry.proofs.runs.settle.Goals.{After-drop_empty}

whole : (c : After-drop_empty) → take c.args.runs.now.len (c.forget.new.runs ++ drop (length c.forget.new.runs) c.args.runs.now.items) ≡ c.forget.new.runs
whole c = whole_slice c.forget.new.runs c.args.runs.now.items c.args.runs.now.len (c.forget.auto.runs ∙ ap length c.deref_mut.ensures.value) (sym c.deref_mut.ensures.len ∙ ap length c.deref_mut.ensures.value)

pub returns-clause-jobs : goal.returns-clause-jobs
returns-clause-jobs c =
    ap jobs_in c.drop_empty.ensures
    ∙ jobs_in-filter (take c.args.runs.now.len (c.forget.new.runs ++ drop (length c.forget.new.runs) c.args.runs.now.items))
    ∙ ap jobs_in (whole c)
    ∙ c.forget.ensures.jobs
    ∙ ap jobs_in c.deref_mut.ensures.value

pub returns-clause-lent : goal.returns-clause-lent
returns-clause-lent c =
    ap lent_in c.drop_empty.ensures
    ∙ lent_in-filter (take c.args.runs.now.len (c.forget.new.runs ++ drop (length c.forget.new.runs) c.args.runs.now.items)) (ap lent_in (whole c) ∙ c.forget.ensures.lent)
