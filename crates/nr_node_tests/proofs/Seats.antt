-- The ends of a log of two, by its seats.
use Rattle.std.proofs.Common.{◌≡◌, ℕ, ◌+◌, ◌<◌, List, ◌∷◌, length, slice_get, Some, refl, ap, ◌∙◌, subst, arith}
use Rattle.nr_combiner.proofs.Seated.{first_is, others_are}

-- what holds of each of a list holds of what is left to go over
from_first : {A : Type 0} (xs all : List A) (n : ℕ) (f : ℕ → A) → xs ≡ all → length all ≡ n → ((k : ℕ) → k < n → slice_get all k ≡ Some (f k))
    → (k : ℕ) → k < length xs → slice_get xs k ≡ Some (f (0 + k))
from_first xs all n f is long each k near =
    let within : k < n = subst (λ m. k < m) (ap length is ∙ long) near in
    let plain : k ≡ 0 + k = omega arith in
    ap (λ l. slice_get l k) is ∙ each k within ∙ ap (λ j. Some (f j)) plain

-- the first of them, and the second
pub one_and_two : {A : Type 0} (xs ys zs all : List A) (x y : A) (n : ℕ) (f : ℕ → A) → xs ≡ all → length all ≡ n → ((k : ℕ) → k < n → slice_get all k ≡ Some (f k))
    → xs ≡ x ∷ ys → ys ≡ y ∷ zs → (x ≡ f 0) × (y ≡ f 1)
one_and_two xs ys zs all x y n f is long each first second =
    let here = from_first xs all n f is long each in (
      first_is xs ys x f 0 first here,
      first_is ys zs y f 1 second (others_are xs ys x f 0 1 first refl here),
    )
