use Rattle.std.proofs.Common.{ap, sym, ◌∙◌}
use Rattle.std.specs.FinMap as finmap
use Rattle.std.specs.Option.{option_map}
use Rattle.nr_zsets.specs.Forms.{items_of}
use Rattle.nr_zsets.specs.Scores.{scores_of}
use Rattle.nr_zsets.proofs.Mapped.{len_mapped}
use Rattle.nr_zsets.proofs.Indexed.{own_map, length-seen}
use Rattle.nr_zsets.proofs.index.ScoreMap.len.Goals as goal

pub returns-in-Some-clause-len : goal.returns-in-Some-clause-len
returns-in-Some-clause-len c =
    let own = own_map c.args.self.now (scores_of c.in-Some.scores.value.entries) (items_of c.args.form.now)
    (sym c.self.view_is ∙ ap (option_map (λ held. scores_of held.value.entries)) c.in-Some.is) c.requires.indexed in
    c.len.ensures.len ∙ sym (len_mapped c.deref.result.now.entries c.len.ensures.unique)
    ∙ ap (λ h. finmap.len (scores_of h.entries)) c.deref.ensures ∙ ap (λ m. finmap.len m) own

pub returns-in-None-clause-len : goal.returns-in-None-clause-len
returns-in-None-clause-len c = c.len-in-None.ensures ∙ length-seen (items_of c.args.form.now) c.requires.ordered
