use Rattle.std.proofs.Common.{rules, ap, sym, ◌∙◌, None, length}
use Rattle.nr_model.specs.SortedSets.{told_range}
use Rattle.nr_model.specs.declared.command.Direction.TheVariants.{Ascending}
use Rattle.nr_ranked.specs.Reading.{ends_of}
use Rattle.nr_ranked.proofs.Told.{count_places, end_within}
use Rattle.nr_ranked.proofs.ranges.telling.count_in.Goals as goal

pub returns-in-Places-clause-count : goal.returns-in-Places-clause-count
returns-in-Places-clause-count c =
    let len = c.len.result in
    let from = c.places-from.result.0 in
    let to = c.places-from.result.1 in
    c.saturating_sub.ensures
    ∙ count_places c.args.zset.now len from to c.in-Places.first c.in-Places.last c.len.ensures.len (search rules) (search rules) (end_within len to c.in-Places.last (search rules))
    ∙ ap (λ ends. length (told_range (ends_of ends) Ascending None c.args.zset.now)) (sym c.in-Places.is)
