-- Numbers that rise, and some of them left out.
use Rattle.std.proofs.Common.{ℕ, zero, suc, ◌+◌, ◌<◌, List, [], ◌∷◌, ◌++◌, sym, subst, append-nil, arith}
use Rattle.std.specs.List.{AllByRecursion, range_with_len}
use Rattle.nr_log_end.specs.Numbers.{IsRising}

left_of_all : (P : ℕ → Type 0) (xs ys zs : List ℕ) → AllByRecursion P (xs ++ (ys ++ zs)) → AllByRecursion P (xs ++ zs)
left_of_all P [] [] zs all = all
left_of_all P [] (y ∷ ys) zs all = left_of_all P [] ys zs all.1
left_of_all P (x ∷ xs) ys zs all = (all.0, left_of_all P xs ys zs all.1)

-- without those in the middle
pub rising_left_out : (xs ys zs : List ℕ) → IsRising (xs ++ (ys ++ zs)) → IsRising (xs ++ zs)
rising_left_out [] [] zs h = h
rising_left_out [] (y ∷ ys) zs h = rising_left_out [] ys zs h.1
rising_left_out (x ∷ xs) ys zs h = (left_of_all (λ (m : ℕ). x < m) xs ys zs h.0, rising_left_out xs ys zs h.1)

-- the first of them
pub rising_front : (xs ys : List ℕ) → IsRising (xs ++ ys) → IsRising xs
rising_front xs ys h =
    subst IsRising (append-nil xs) (rising_left_out xs ys [] (subst (λ (zs : List ℕ). IsRising (xs ++ zs)) (sym (append-nil ys)) h))

-- the numbers n, n + 1, n + 2 and so on
all_above : (k n count : ℕ) → k < n → AllByRecursion (λ (m : ℕ). k < m) (range_with_len n count)
all_above k n zero h = tt
all_above k n (suc count) h = (h, all_above k (n + 1) count (omega (arith, h)))

pub range_rises : (n count : ℕ) → IsRising (range_with_len n count)
range_rises n zero = tt
range_rises n (suc count) = (all_above n (n + 1) count (omega arith), range_rises (n + 1) count)
