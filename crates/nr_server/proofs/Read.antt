-- What a reader gave, where all that it would give was read before.
use Rattle.std.proofs.Common.{◌≡◌, [], ◌∷◌, ◌++◌, refl, ap, ◌∙◌, append-nil, length, arith, length-append}
use Rattle.std.specs.Prelude.{Option, Some, None, IfSome}
use Rattle.std.specs.Io.KnownBytes.{Consumes}
use Rattle.nr_model.specs.Bytes.{Bytes}

empty : (bytes : Bytes) → length bytes ≡ 0 → bytes ≡ []
empty [] e = refl
empty (x ∷ xs) e = absurd (omega (arith, e))

-- nothing more came
pub still_all : (all left next : Option Bytes) (read bytes : Bytes) → Consumes all left read → Consumes left next bytes → IfSome all (λ known. read ≡ known)
    → IfSome all (λ known. read ++ bytes ≡ known)
still_all None left next read bytes gave gives is = tt
still_all (Some all) None next read bytes gave gives is = absurd gave
still_all (Some all) (Some left) None read bytes gave gives is = absurd gives
still_all (Some all) (Some left) (Some next) read bytes gave gives is =
    let whole = ap length gave ∙ length-append read left in
    let front = ap length gives ∙ length-append bytes next in
    let none : length bytes ≡ 0 = omega (arith, whole, front, ap length is) in
    ap (λ (b : Bytes). read ++ b) (empty bytes none) ∙ append-nil read ∙ is
