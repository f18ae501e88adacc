use Rattle.std.proofs.Common.{arith, rules, ◌≡◌, ◌∙◌, ◌<◌, ◌^◌, ap, take, Some, pos}
use Rattle.std.specs.Int.{w64}
use Rattle.nr_model.specs.Numbers.{digits_value}
use Rattle.nr_blob.proofs.Integers.{first_digits, short_is}
use Rattle.nr_blob.proofs.integer.short.Goals as goal
use mir.Val.{to_z}

pub overflow_mul-value : goal.overflow_mul-value
overflow_mul-value c =
    let small : digits_value (take c.loop-digit.digit-index c.args.digits.now) < 10 ^ 17 = first_digits c.args.digits.now c.loop-digit.digit-index 17 c.loop-digit.invariant.0 (omega arith) in
    search (rules, arith)

pub overflow_add-value : goal.overflow_add-value
overflow_add-value c =
    let small : digits_value (take c.loop-digit.digit-index c.args.digits.now) < 10 ^ 17 = first_digits c.args.digits.now c.loop-digit.digit-index 17 c.loop-digit.invariant.0 (omega arith) in
    search (rules, arith)

pub overflow_cast-result : goal.overflow_cast-result
overflow_cast-result c =
    let small : digits_value (take c.loop-digit.digit-index c.args.digits.now) < 10 ^ 18 = first_digits c.args.digits.now c.loop-digit.digit-index 18 c.loop-digit.invariant.0 (omega arith) in
    search (rules, arith)

pub returns : goal.returns
returns c =
    let small : digits_value (take c.loop-digit.digit-index c.args.digits.now) < 10 ^ 18 = first_digits c.args.digits.now c.loop-digit.digit-index 18 c.loop-digit.invariant.0 (omega arith) in
    let fits : c.loop-digit.value < 2 ^ 63 = omega arith in
    let cast : to_z w64 c.loop-digit.value ≡ pos c.loop-digit.value = search (rules, arith) in
    ap Some (cast ∙ ap pos c.loop-digit.invariant.1) ∙ short_is c.args.digits.now c.loop-digit.digit-index c.loop-digit.invariant.0 c.loop-digit-test.false
