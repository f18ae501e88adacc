use Rattle.std.proofs.Common.{◌≡◌, Some, None, rules, w64, to_z, of_z, refl, ap, sym, ◌∙◌, is_some, true≢false}
use Rattle.std.specs.Str.{bytes_eq}
use Rattle.std.specs.Map.{lookup}
use Rattle.nr_zsets.specs.Scores.{scores_of}
use Rattle.nr_zsets.proofs.Mapped.{inserted, found}
use Rattle.nr_zsets.proofs.index.write_to.Goals as goal

pub returns-in-Some : goal.returns-in-Some
returns-in-Some c =
    let written = to_z w64 (of_z w64 c.args.score) in
    let new = (c.get_mut.follows.lender written).entries in
    let changes = (c.get_mut.follows.holds written).3 (search rules) in
    let at : lookup (bytes_eq c.args.member.now) new ≡ Some c.args.score = search (rules, changes.1) in
    inserted c.args.scores.now.entries new c.args.member.now c.args.score at changes.3

pub returns-in_default : goal.returns-in_default
returns-in_default c =
    let scores = scores_of c.args.scores.now.entries in
    let none = found c.args.scores.now.entries scores c.args.member.now None refl c.in_default.ensures.value in
    absurd (true≢false (sym c.requires ∙ ap is_some (sym none)))
