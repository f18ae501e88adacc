use Rattle.std.proofs.Common.{rules, ap, sym, ◌∙◌, None}
use Rattle.nr_model.specs.SortedSets.{told_range, without}
use Rattle.nr_model.specs.declared.command.Direction.TheVariants.{Ascending}
use Rattle.nr_ranked.specs.Reading.{ends_of}
use Rattle.nr_ranked.proofs.Told.{told_places}
use Rattle.nr_ranked.proofs.ranges.telling.take_out.Goals as goal

pub returns-in_ok-remove_by_place-in-Places-clause-removed : goal.returns-in_ok-remove_by_place-in-Places-clause-removed
returns-in_ok-remove_by_place-in-Places-clause-removed c =
    let old = c.args.zset.now in
    c.in_ok-remove_by_place-in-Places.ensures.removed
    ∙ ap (λ gone. without gone old)
    (told_places Ascending old c.len.result c.places-from.result.0 c.places-from.result.1 c.in-Places.first c.in-Places.last c.len.ensures.len (search rules) (search rules))
    ∙ ap (λ ends. without (told_range (ends_of ends) Ascending None old) old) (sym c.in-Places.is)
