use Rattle.std.proofs.Common.{◌∙◌, ap, sym}
use Rattle.std.specs.FinMap as finmap
use Rattle.nr_ranked.specs.Storing.{scores_in}
use Rattle.nr_ranked.proofs.StoringListings.{none_contains, set_contains}
use Rattle.nr_ranked.proofs.storing.sources.has.Goals as goal

pub returns-in-Missing : goal.returns-in-Missing
returns-in-Missing c = sym (ap (λ held. finmap.contains_key (scores_in held) c.args.member.now) c.in-Missing.is ∙ none_contains c.args.member.now)

pub returns-in-Set : goal.returns-in-Set
returns-in-Set c =
    c.contains.ensures ∙ sym (ap (λ held. finmap.contains_key (scores_in held) c.args.member.now) c.in-Set.is ∙ set_contains c.in-Set.set.now c.args.member.now)
