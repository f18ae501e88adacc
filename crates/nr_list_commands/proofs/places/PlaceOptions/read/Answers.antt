use Rattle.std.proofs.Common.{rules, ◌≡◌, ◌∷◌, ap, ◌∙◌}
use Rattle.std.specs.Prelude.{Ok}
use Rattle.nr_model.specs.Commands.Reading.{read_options}
use Rattle.nr_model.specs.Commands.Lists.{place_option}
use Rattle.nr_list_commands.proofs.Options.{value_read, place_has_value}
use Rattle.nr_list_commands.proofs.places.PlaceOptions.read.Goals as goal

pub returns-clause-read : goal.returns-clause-read
returns-clause-read c =
    let behind : c.args.behind.now ≡ c.in-Some.value.now ∷ c.in-Some.left.now = search rules in
    ap (λ words. read_options place_option c.args.self.now (c.args.word.now ∷ words)) behind
    ∙ value_read place_option c.args.self.now c.args.word.now c.in-Some.value.now c.in-Some.left.now (Ok c.in_ok-self.field-0)
    (place_has_value c.args.self.now c.args.word.now) c.in_ok-self.ensures.options
