use Rattle.std.proofs.Common.{ap, ◌∙◌, w64}
use Rattle.std.specs.Int.{cast_signed, cast_unsigned}
use Rattle.std.proofs.lemmas.Int.{to_z-of_z}
use Rattle.nr_zsets.specs.Forms.{score_in}
use Rattle.nr_zsets.proofs.digits.spell.Goals as goal

pub returns-clause-spelled : goal.returns-clause-spelled
unfolding score_in
returns-clause-spelled c =
    let back = to_z-of_z w64 c.args.score c.ranges.score in
    ap (cast_signed w64) (c.write_number.ensures.spelled ∙ c.cast_unsigned.ensures) ∙ ap (λ z. cast_signed w64 (cast_unsigned w64 z)) back ∙ back
