use Rattle.std.proofs.Common.{◌∙◌, ap, sym, rules}
use Rattle.nr_model.specs.Commands.SortedSets.{store_options}
use Rattle.nr_ranked.specs.Storing.{options_of}
use Rattle.nr_ranked.proofs.StoringOptions.{weights_read, aggregate_read}
use Rattle.nr_ranked.proofs.storing.reading.read_option.Goals as goal

pub returns-then-is_word-clause-read : goal.returns-then-is_word-clause-read
returns-then-is_word-clause-read c =
    weights_read c.args.keys (options_of c.args.options.now) c.args.word.now c.in-Some.value.now c.args.behind.now c.in-Some.left.now c.in-Some.ensures.cases.0 (search rules)
    ∙ ap (λ weights. store_options c.args.keys (record { weights = weights; aggregate = c.args.options.now.aggregate }) c.args.keys c.args.behind.now) (sym c.clear.ensures.items)

pub returns-clause-read : goal.returns-clause-read
returns-clause-read c =
    aggregate_read c.args.keys (options_of c.args.options.now) c.args.word.now c.in-Some.value.now c.args.behind.now c.in-Some.left.now c.in_ok-options.field-0
    c.in-Some.ensures.cases.0 (search rules) (search rules) c.in_ok-options.ensures.aggregate
    ∙ ap (λ missing. store_options c.args.keys (record { weights = c.args.options.now.weights.items; aggregate = c.in_ok-options.field-0 }) missing c.in-Some.left.now)
    (sym c.requires)
