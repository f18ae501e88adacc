use Rattle.std.proofs.Common.{◌∙◌, ap, sym, map}
use Rattle.std.specs.FinMap as finmap
use Rattle.nr_ranked.specs.Storing.{scores_in}
use Rattle.nr_ranked.specs.Sums.{kept_by}
use Rattle.nr_ranked.proofs.StoringSums.{all_mapped}
use Rattle.nr_ranked.proofs.storing.joining.stays.Goals as goal

pub returns-in-Intersection : goal.returns-in-Intersection
returns-in-Intersection c =
    c.all_have.ensures
    ∙ sym (ap (λ joining. kept_by joining (map scores_in c.args.held.now) c.args.member.now) c.in-Intersection.is
    ∙ all_mapped (λ scores. finmap.contains_key scores c.args.member.now) scores_in c.args.held.now)
