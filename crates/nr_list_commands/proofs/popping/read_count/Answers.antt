use Rattle.std.proofs.Common.{rules, ◌≡◌, ◌∷◌, ap, ◌∙◌}
use Rattle.std.specs.Prelude.{Ok}
use Rattle.nr_model.specs.Commands.Reading.{read_options}
use Rattle.nr_model.specs.Commands.Lists.{count_option}
use Rattle.nr_list_commands.proofs.Options.{value_read, count_has_value}
use Rattle.nr_list_commands.proofs.popping.read_count.Goals as goal

pub returns-clause-read : goal.returns-clause-read
returns-clause-read c =
    let behind : c.args.behind.now ≡ c.in-Some.value.now ∷ c.in-Some.left.now = search rules in
    ap (λ words. read_options count_option c.args.count.now (c.args.word.now ∷ words)) behind
    ∙ value_read count_option c.args.count.now c.args.word.now c.in-Some.value.now c.in-Some.left.now (Ok c.in_ok-count.field-0)
    (count_has_value c.args.count.now c.args.word.now) c.in_ok-count.ensures.count
