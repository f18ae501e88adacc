use Rattle.std.proofs.Common.{◌≡◌, drop, ap, ◌∙◌, arith}
use Rattle.std.specs.Prelude.{fold}
use Rattle.nr_zsets.specs.Forms.{next_number, number_in}
use Rattle.nr_zsets.proofs.digits.write_number.Goals as goal

pub returns-clause-spelled : goal.returns-clause-spelled
unfolding number_in
returns-clause-spelled c =
    let none : 0 ≡ c.loop-left.left = omega (arith, c.loop-left-test.false) in
    ap (λ n. fold next_number n (drop c.loop-left.start c.loop-left.bytes)) none ∙ c.loop-left.invariant.spelled
