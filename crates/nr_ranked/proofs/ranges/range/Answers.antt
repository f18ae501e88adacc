use Rattle.std.proofs.Common.{map, ap, ◌∙◌}
use Rattle.std.specs.Prelude.{Ok}
use Rattle.std.specs.Option.{option_map}
use Rattle.nr_model.specs.Replies.{array}
use Rattle.nr_model.specs.Keyspace.{live}
use Rattle.nr_model.specs.Commands.SortedSets.{or_none}
use Rattle.nr_resp.specs.Shown.{item_reply}
use Rattle.nr_ranked.specs.Options.{options_of}
use Rattle.nr_ranked.specs.Reading.{ends_of}
use Rattle.nr_ranked.proofs.Told.{none_ranged}
use Rattle.nr_ranked.proofs.ranges.range.Goals as goal

pub returns-in_default : goal.returns-in_default
returns-in_default c =
    ap (λ items. array (map item_reply items)) c.new.ensures.items
    ∙ none_ranged c.args.form (live c.args.keyspace.now c.args.now) c.args.database c.args.words.now c.in_ok-request.request.name.now (ends_of c.in_ok-request.request.ends)
    (options_of c.in_ok-request.request.options) c.in_ok-request.ensures.request
    (c.in_ok-zset.ensures.zset ∙ ap (λ held. Ok (or_none (option_map (λ zset. zset.now) held))) c.in_default.is)
