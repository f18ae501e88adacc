use Rattle.std.proofs.Common.{◌∙◌, slice_set}
use Rattle.nr_taps.proofs.Marks.{meets_others, put_back}
use Rattle.nr_taps.proofs.mark.meet_others.Goals as goal

pub returns-clause-same : goal.returns-clause-same
returns-clause-same g c =
    (λ i. slice_set (c.meet_from.ensures.same i) c.args.place (c.meet_from.ensures.one i))
    ∙ put_back c.args.marks.now c.args.place _ c.replace-one.result c.replace-one.new.dest c.replace-one.ensures.value

pub returns-clause-met : goal.returns-clause-met
returns-clause-met g c =
    meets_others c.args.place c.args.marks.now c.replace-one.result _ c.replace-one.new.dest c.requires c.replace-one.ensures.value c.meet_from.ensures.marked
    c.meet_from.ensures.met
