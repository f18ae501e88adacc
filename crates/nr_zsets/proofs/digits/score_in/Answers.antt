use Rattle.std.proofs.Common.{◌≡◌, ap, ◌∙◌, rules, w64, to_z, of_z}
use Rattle.std.specs.Int.{cast_signed}
use Rattle.nr_zsets.specs.Forms.{score_in}
use Rattle.nr_zsets.proofs.digits.score_in.Goals as goal

pub returns : goal.returns
unfolding score_in
returns c =
    let is : to_z w64 (of_z w64 c.cast_signed.result) ≡ cast_signed w64 c.number_in.result = search (rules, c.cast_signed.ensures) in
    is ∙ ap (cast_signed w64) c.number_in.ensures
