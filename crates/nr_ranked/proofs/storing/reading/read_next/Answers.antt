use Rattle.std.proofs.Common.{◌≡◌, ◌∙◌, ◌-◌, ◌++◌, ◌∷◌, [], ap, sym, refl, rules}
use Rattle.nr_model.specs.Commands.SortedSets.{store_options}
use Rattle.nr_ranked.specs.Storing.{options_of}
use Rattle.nr_ranked.proofs.StoringOptions.{weight_read}
use Rattle.nr_ranked.proofs.storing.reading.read_next.Goals as goal

pub returns-clause-read : goal.returns-clause-read
returns-clause-read c =
    let pushed : c.push.new.weights.items ≡ c.args.options.now.weights.items ++ c.in_ok-weight.weight ∷ [] = search rules in
    weight_read c.args.keys (options_of c.args.options.now) c.args.missing.now (c.args.missing.now - 1) c.args.word.now c.args.behind.now c.in_ok-weight.weight
    c.if-missing-eq0.false refl c.in_ok-weight.ensures.score
    ∙ ap (λ weights. store_options c.args.keys (record { weights = weights; aggregate = c.args.options.now.aggregate }) (c.args.missing.now - 1) c.args.behind.now) (sym pushed)
