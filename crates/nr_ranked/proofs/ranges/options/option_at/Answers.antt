use Rattle.std.proofs.Common.{sym, ap, ◌∙◌}
use Rattle.std.proofs.lemmas.Result.{err_from_is_err_and}
use Rattle.nr_ranked.specs.Options.{options_of}
use Rattle.nr_ranked.proofs.RangeOptions.{alone, limiting, limited}
use Rattle.nr_ranked.proofs.ranges.options.option_at.Goals as goal

pub returns-in_err-limit-in-Limiting-clause-refused : goal.returns-in_err-limit-in-Limiting-clause-refused
returns-in_err-limit-in-Limiting-clause-refused c =
    let options = options_of c.args.options in
    let p = err_from_is_err_and c.from_residual.result c.from_residual.ensures.1 in
    rw (p.1, p.2)
    (limiting c.args.form options c.args.word.now c.args.behind.now (sym c.in-Limiting.ensures) ∙ ap (limited c.args.form options) c.in_err-limit-in-Limiting.ensures.refused)

pub returns-in-Alone-clause-read : goal.returns-in-Alone-clause-read
returns-in-Alone-clause-read c =
    alone c.args.form (options_of c.args.options) c.args.word.now c.args.behind.now (options_of c.in-Alone.more) (sym c.in-Alone.ensures)

pub returns-in_ok-limit-in-Limiting-clause-read : goal.returns-in_ok-limit-in-Limiting-clause-read
returns-in_ok-limit-in-Limiting-clause-read c =
    let options = options_of c.args.options in
    limiting c.args.form options c.args.word.now c.args.behind.now (sym c.in-Limiting.ensures) ∙ ap (limited c.args.form options) c.in_ok-limit-in-Limiting.ensures.read
