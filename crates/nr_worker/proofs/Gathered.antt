-- The first of the jobs, and of the late ones behind them.
use Rattle.std.proofs.Common.{◌≡◌, ℕ, ◌+◌, ◌-◌, ◌≤◌, List, ◌++◌, take, drop, length, ap, ◌∙◌, arith}
use Rattle.std.proofs.Math.Seq.{drop-append-add, take-append-add}

-- where the first list isn't longer
pub take_over : {A : Type 0} (most len : ℕ) (xs ys : List A) → len ≡ length xs → len ≤ most → take most (xs ++ ys) ≡ xs ++ take (most - len) ys
take_over most len xs ys is few =
    let parts : most ≡ length xs + (most - len) = omega (arith, is, few) in
    ap (λ n. take n (xs ++ ys)) parts ∙ take-append-add xs ys (most - len)

pub drop_over : {A : Type 0} (most len : ℕ) (xs ys : List A) → len ≡ length xs → len ≤ most → drop most (xs ++ ys) ≡ drop (most - len) ys
drop_over most len xs ys is few =
    let parts : most ≡ length xs + (most - len) = omega (arith, is, few) in
    ap (λ n. drop n (xs ++ ys)) parts ∙ drop-append-add xs ys (most - len)
