-- Sums of lengths, in front of a place and behind it.
use Rattle.std.proofs.Common.{◌≡◌, ℕ, ◌+◌, ◌-◌, ◌<◌, ◌≤◌, List, [], ◌∷◌, ◌++◌, length, take, drop, get_or, sym, ap, ◌∙◌, arith, zero-add, add_assoc}
use Rattle.std.proofs.lemmas.List.{take-append-drop, take-take, take_more}
use Rattle.nr_ordered.specs.Blocks.{total}

pub total-append : (a b : List ℕ) → total (a ++ b) ≡ total a + total b
total-append [] b = sym (zero-add (total b))
total-append (n ∷ a) b = ap (λ m. n + m) (total-append a b) ∙ sym (add_assoc n (total a) (total b))

pub total_split : (i : ℕ) (lens : List ℕ) → total lens ≡ total (take i lens) + total (drop i lens)
total_split i lens = ap total (sym (take-append-drop i lens)) ∙ total-append (take i lens) (drop i lens)

pub total_front : (i : ℕ) (lens : List ℕ) (n : ℕ) → total lens ≡ n → total (take i lens) ≤ n
total_front i lens n is = omega (arith, is, total_split i lens)

pub total_back : (i : ℕ) (lens : List ℕ) (n : ℕ) → total lens ≡ n → total (drop i lens) ≤ n
total_back i lens n is = omega (arith, is, total_split i lens)

pub total_rest : (i : ℕ) (lens : List ℕ) (n back : ℕ) → total lens ≡ n → back ≡ total (drop i lens) → n - back ≡ total (take i lens)
total_rest i lens n back is are = omega (arith, is, are, total_split i lens)

pub total_grows : (lens : List ℕ) (i j from to : ℕ) → i ≤ j → from ≡ total (take i lens) → to ≡ total (take j lens) → from ≤ to
total_grows lens i j from to order at till = omega (arith, at, till, total_split i (take j lens), ap total (take-take i j lens order))

-- one more
pub total_next : (lens : List ℕ) (i n : ℕ) → i < length lens → n ≡ get_or lens i 0 → total (take (i + 1) lens) ≡ total (take i lens) + n
total_next lens i n within is =
    ap total (take_more lens i 0 within) ∙ total-append (take i lens) (get_or lens i 0 ∷ []) ∙ ap (λ m. total (take i lens) + m) (omega (arith, is))

-- the bytes of an item are there
pub one_within : (lens : List ℕ) (i n start len rest : ℕ) → total lens ≡ len → i < length lens → n ≡ get_or lens i 0 → start ≡ total (take i lens)
    → rest ≡ len - start → n ≤ rest
one_within lens i n start len rest whole within is at left =
    omega (arith, whole, at, left, total_next lens i n within is, total_split (i + 1) lens)
