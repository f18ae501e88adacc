use Rattle.std.proofs.Common.{rules, ◌≡◌, List, map, subst, ap, sym, ◌∙◌, IfOk}
use Rattle.std.specs.Option.{option_map}
use Rattle.nr_model.specs.SortedSets.{Scored, told_range}
use Rattle.nr_zsets.specs.Lists.{shown}
use Rattle.nr_ranked.specs.Options.{limit_of}
use Rattle.nr_ranked.specs.Reading.{ends_of}
use Rattle.nr_ranked.proofs.Told.{told_places}
use Rattle.nr_ranked.proofs.ranges.telling.told_in.Goals as goal

pub returns-in-Places : goal.returns-in-Places
returns-in-Places c =
    let zset = c.args.zset.now in
    subst (λ (told : List Scored). IfOk c.by_place.result (λ lent. map shown lent.items ≡ told))
    (told_places c.args.direction zset c.len.result c.places-from.result.0 c.places-from.result.1 c.in-Places.first c.in-Places.last c.len.ensures.len (search rules) (search rules)
    ∙ ap (λ ends. told_range (ends_of ends) c.args.direction (option_map limit_of c.args.limit) zset) (sym c.in-Places.is))
    c.by_place.ensures
