use Rattle.std.proofs.Common.{◌≡◌, Some, rules, ap, ◌∙◌}
use Rattle.std.specs.FinMap as finmap
use Rattle.std.specs.Option.{option_map}
use Rattle.nr_model.specs.Bytes.{Bytes}
use Rattle.nr_model.specs.SortedSets.{Scored}
use Rattle.nr_zsets.specs.Forms.{items_of}
use Rattle.nr_zsets.specs.Scores.{scores_of}
use Rattle.nr_zsets.proofs.Indexed.{score_found}
use Rattle.nr_zsets.proofs.index.score_in.Goals as goal

pub returns-in_default : goal.returns-in_default
returns-in_default c =
    let xs = (items_of c.args.form.now) in
    ap (option_map (λ (x : Scored). x.1)) c.in_default.ensures ∙ score_found c.bytes-member.result.now xs
    ∙ ap (λ (m : Bytes). finmap.get (scores_of xs) m) c.bytes-member.ensures

pub returns : goal.returns
returns c =
    let xs = (items_of c.args.form.now) in
    let is : Some c.in-Some.score ≡ finmap.get (scores_of xs) c.args.member.now =
    ap (option_map (λ (x : Scored). x.1)) c.in-Some.ensures ∙ score_found c.bytes-member.result.now xs
    ∙ ap (λ (m : Bytes). finmap.get (scores_of xs) m) c.bytes-member.ensures in
    search (rules, is)
