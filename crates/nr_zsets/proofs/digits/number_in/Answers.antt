use Rattle.std.proofs.Common.{ap, sym, ◌∙◌, arith}
use Rattle.std.specs.Prelude.{fold}
use Rattle.std.proofs.lemmas.List.{drop_all}
use Rattle.nr_zsets.specs.Forms.{next_number, number_in}
use Rattle.nr_zsets.proofs.digits.number_in.Goals as goal

pub returns : goal.returns
unfolding number_in
returns c =
    sym (ap (fold next_number c.loop-byte.number) (drop_all c.loop-byte.byte-index c.args.bytes.now (omega (arith, c.loop-byte-test.false)))) ∙ c.loop-byte.invariant
