-- Texts that have a byte.
use Rattle.std.proofs.Common.{◌≡◌, ◌<◌, ℕ, false, [], ◌∷◌, length, refl, ap, ◌∙◌, arith}
use Rattle.std.specs.Prelude.{◌==◌, bytes_eq, codes}
use Rattle.std.specs.List.{list_all}
use Rattle.nr_model.specs.Bytes.{Bytes}
use Rattle.nr_model.specs.SortedSets.{are_zeros, byte_bound}
use Rattle.nr_zbounds.specs.Marks.{marked}

-- at least one zero, and no other byte
pub some_zeros : (text : Bytes) → 0 < length text → are_zeros text ≡ list_all (λ c. c == 48) text
some_zeros [] some = absurd (omega arith)
some_zeros (c ∷ cs) some = refl

-- a bound of members that is neither `-` nor `+`
behind_mark : (mark : ℕ) (bytes : Bytes) → bytes_eq (mark ∷ bytes) (codes "-") ≡ false → bytes_eq (mark ∷ bytes) (codes "+") ≡ false
    → byte_bound (mark ∷ bytes) ≡ marked mark bytes
behind_mark mark bytes minus plus = rw (minus, plus) refl

pub marked_bound : (text bytes : Bytes) (mark : ℕ) → text ≡ mark ∷ bytes → bytes_eq text (codes "-") ≡ false → bytes_eq text (codes "+") ≡ false
    → byte_bound text ≡ marked mark bytes
marked_bound text bytes mark is minus plus = ap byte_bound is ∙ behind_mark mark bytes (rw is at minus) (rw is at plus)
