use Rattle.std.proofs.Common.{◌∙◌, [], ap, sym, refl}
use Rattle.std.specs.FinMap as finmap
use Rattle.nr_model.specs.SortedSets.{gathered}
use Rattle.nr_ranked.specs.Storing.{scores_in}
use Rattle.nr_ranked.specs.Sums.{sums_of}
use Rattle.nr_ranked.proofs.StoringListings.{gathered_listing}
use Rattle.nr_ranked.proofs.storing.joining.gather.Goals as goal

pub returns-in-Missing : goal.returns-in-Missing
returns-in-Missing c =
    gathered_listing c.args.aggregate c.args.weight [] (sums_of c.args.sums.now) finmap.empty (record { all = refl; once = tt })
    ∙ sym (ap (λ held. gathered c.args.aggregate (sums_of c.args.sums.now) (record { scores = scores_in held; weight = c.args.weight })) c.in-Missing.is)
