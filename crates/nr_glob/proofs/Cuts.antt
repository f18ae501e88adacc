-- Lists cut behind their first element.
use Rattle.std.proofs.Common.{◌≡◌, ℕ, ◌-◌, ◌<◌, ◌≤◌, List, [], ◌∷◌, length, get_or, take, drop, refl, sym, ap, arith}
use Rattle.std.proofs.lemmas.List.{take_all, length-drop}

pub behind_is : (b : ℕ) (bs : List ℕ) → take (length (b ∷ bs) - 1) (drop 1 (b ∷ bs)) ≡ bs
behind_is b bs = take_all (length (b ∷ bs) - 1) (drop 1 (b ∷ bs)) (omega (arith, length-drop 1 (b ∷ bs)))

pub first_and_behind : (bytes : List ℕ) → 1 ≤ length bytes → bytes ≡ get_or bytes 0 0 ∷ take (length bytes - 1) (drop 1 bytes)
first_and_behind [] h = absurd (omega arith)
first_and_behind (b ∷ bs) h = ap (λ (t : List ℕ). b ∷ t) (sym (behind_is b bs))

pub none_is : (bytes : List ℕ) → length bytes < 1 → bytes ≡ []
none_is [] h = refl
none_is (b ∷ bs) h = absurd (omega arith)
