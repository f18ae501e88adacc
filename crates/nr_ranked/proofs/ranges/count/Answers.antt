use Rattle.std.proofs.Common.{ap, ◌∙◌}
use Rattle.std.specs.Prelude.{Ok}
use Rattle.std.specs.Option.{option_map}
use Rattle.nr_model.specs.Keyspace.{live}
use Rattle.nr_model.specs.Commands.SortedSets.{or_none}
use Rattle.nr_ranked.specs.Reading.{ends_of}
use Rattle.nr_ranked.proofs.Told.{none_counted}
use Rattle.nr_ranked.proofs.ranges.count.Goals as goal

pub returns-in_default : goal.returns-in_default
returns-in_default c =
    none_counted c.args.by (live c.args.keyspace.now c.args.now) c.args.database c.args.words.now c.in_ok-request.request.name.now (ends_of c.in_ok-request.request.ends)
    c.in_ok-request.ensures.request (c.in_ok-zset.ensures.zset ∙ ap (λ held. Ok (or_none (option_map (λ zset. zset.now) held))) c.in_default.is)
