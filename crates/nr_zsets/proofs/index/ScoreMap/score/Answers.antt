use Rattle.std.proofs.Common.{ap, sym, ◌∙◌}
use Rattle.std.specs.Option.{option_map}
use Rattle.nr_zsets.specs.Forms.{items_of}
use Rattle.nr_zsets.specs.Scores.{scores_of}
use Rattle.nr_zsets.proofs.Mapped.{found}
use Rattle.nr_zsets.proofs.Indexed.{own_map}
use Rattle.nr_zsets.proofs.index.ScoreMap.score.Goals as goal

pub returns-in-Some : goal.returns-in-Some
returns-in-Some c =
    let own = own_map c.args.self.now (scores_of c.in-Some.scores.value.entries) (items_of c.args.form.now)
    (sym c.self.view_is ∙ ap (option_map (λ held. scores_of held.value.entries)) c.in-Some.is) c.requires.indexed in
    found c.deref.result.now.entries (scores_of (items_of c.args.form.now)) c.args.member.now c.copied.result
    (ap (λ h. scores_of h.entries) c.deref.ensures ∙ own) (c.copied.ensures ∙ c.get.ensures.value)
