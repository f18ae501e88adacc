use Rattle.std.proofs.Common.{◌≡◌, ◌∙◌, ap₂, codes, rules, subst, IfOk}
use Rattle.clap.specs.Words.{app_of, new_app, with_rule}
use Rattle.nr_config.specs.CommandLines.{Describes}
use Rattle.nr_config.proofs.command_line.placing.Goals as goal

pub returns : goal.returns
returns c =
    let bare : app_of c.about-bare.result ≡ new_app (codes "serve") = search rules in
    let named = c.in_ok-named.ensures.0 ∙ ap₂ with_rule bare c.config.ensures.rule in
    let placed = c.in_ok-placed.ensures.0 ∙ ap₂ with_rule named c.word.ensures.rule in
    let sized = c.in_ok-sized.ensures.0 ∙ ap₂ with_rule placed c.word-2.ensures.rule in
    let staffed = c.in_ok-staffed.ensures.0 ∙ ap₂ with_rule sized c.word-3.ensures.rule in
    subst (λ app. IfOk c.taking-5.result (Describes app)) (ap₂ with_rule staffed c.word-4.ensures.rule) c.taking-5.ensures
