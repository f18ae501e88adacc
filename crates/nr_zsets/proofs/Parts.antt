-- The items from one place to another, of a list and of what it is joined from.
use Rattle.std.proofs.Common.{◌≡◌, ℕ, zero, suc, ◌+◌, ◌-◌, ◌<◌, ◌≤◌, min, inl, inr, Option, Some, None, List, [], ◌∷◌, ◌++◌, length, take, drop, refl, sym, ap, ◌∙◌, arith, append-nil, length-take, length-drop}
use Rattle.std.specs.Prelude.{reverse}
use Rattle.std.specs.List.{remove, slice_get}
use Rattle.std.proofs.lemmas.List.{drop_all, take_min, drop-drop, take-append-drop, length-reverse, reverse-append}
use Rattle.std.proofs.lemmas.Bool.{cases_lt}
use Rattle.std.proofs.Math.Seq.{take-append_seam, drop-append_seam}
use Rattle.nr_model.specs.SortedSets.{told_in}
use Rattle.nr_model.specs.declared.command.Direction.{Direction}
use Rattle.nr_model.specs.declared.command.Direction.TheVariants.{Ascending, Descending}
use Rattle.std.proofs.lemmas.Option.{slice_get_within}
use Rattle.nr_ordered.specs.Lists.{part, told_place}
use Rattle.nr_ordered.proofs.Places.{same_Some}
use Rattle.nr_zsets.specs.Lists.{told_ends, at_most, fewest}

pub take_none : {A : Type 0} (n : ℕ) → take {A = A} n [] ≡ []
take_none zero = refl
take_none (suc n) = refl

module _ {A : Type 0} where
  pub part_is : (from to : ℕ) (xs : List A) → part from to xs ≡ take (to - from) (drop from xs)
  part_is zero to xs = let all : to - 0 ≡ to = omega arith in sym (ap (λ n. take n xs) all)
  part_is (suc from) zero xs = let none : 0 - suc from ≡ 0 = omega arith in sym (ap (λ n. take n (drop (suc from) xs)) none)
  part_is (suc from) (suc to) [] = sym (take_none (suc to - suc from))
  part_is (suc from) (suc to) (x ∷ xs) =
      let less : suc to - suc from ≡ to - from = omega arith in
      part_is from to xs ∙ sym (ap (λ n. take n (drop from xs)) less)

  -- as many as there are from one place to another
  pub part_counted : (from to gone : ℕ) (xs : List A) → gone ≡ min to (length xs) - from → part from (from + gone) xs ≡ part from to xs
  part_counted from to gone xs is =
      let rest : from + gone - from ≡ min (to - from) (length (drop from xs)) = omega (arith, is, length-drop from xs) in
      part_is from (from + gone) xs ∙ ap (λ n. take n (drop from xs)) rest ∙ take_min (to - from) (drop from xs) ∙ sym (part_is from to xs)

  pub split_at : (xs : List A) (k : ℕ) (x : A) → slice_get xs k ≡ Some x → xs ≡ take k xs ++ x ∷ drop (suc k) xs
  split_at [] k x at = absurd (cc)
  split_at (y ∷ xs) zero x at = ap (λ z. z ∷ xs) (same_Some y x at)
  split_at (y ∷ xs) (suc k) x at = ap (λ ys. y ∷ ys) (split_at xs k x at)

  pub drop_at : (xs : List A) (k : ℕ) (x : A) → slice_get xs k ≡ Some x → drop k xs ≡ x ∷ drop (suc k) xs
  drop_at [] k x at = absurd (cc)
  drop_at (y ∷ xs) zero x at = ap (λ z. z ∷ xs) (same_Some y x at)
  drop_at (y ∷ xs) (suc k) x at = drop_at xs k x at

  pub drop_removed : (xs : List A) (k : ℕ) → k < length xs → drop k (remove xs k) ≡ drop (suc k) xs
  drop_removed [] k low = absurd (omega (arith, low))
  drop_removed (y ∷ xs) zero low = refl
  drop_removed (y ∷ xs) (suc k) low = drop_removed xs k (omega (arith, low))

  -- the first of a part, and what is the part without it
  pub part_first : (xs : List A) (from n : ℕ) (x : A) → slice_get xs from ≡ Some x
      → part from (from + suc n) xs ≡ x ∷ part from (from + n) (remove xs from)
  part_first xs from n x at =
      let one : from + suc n - from ≡ suc n = omega arith in
      let rest : from + n - from ≡ n = omega arith in
      part_is from (from + suc n) xs
      ∙ ap (λ m. take m (drop from xs)) one
      ∙ ap (take (suc n)) (drop_at xs from x at)
      ∙ ap (λ ys. x ∷ take n ys) (sym (drop_removed xs from (slice_get_within xs from x at)))
      ∙ ap (λ m. x ∷ take m (drop from (remove xs from))) (sym rest)
      ∙ ap (λ ys. x ∷ ys) (sym (part_is from (from + n) (remove xs from)))

  -- what is told first, and then the others
  pub told_first : (direction : Direction) (xs : List A) (x : A) (len place : ℕ) → len ≡ length xs → 0 < len → place ≡ told_place direction 0 len
      → slice_get xs place ≡ Some x → told_in direction xs ≡ x ∷ told_in direction (remove xs place)
  told_first Ascending [] x len place size some is at = absurd (omega (arith, size, some))
  told_first Ascending (y ∷ xs) x len place size some is at =
      let same = same_Some y x (ap (slice_get (y ∷ xs)) (sym is) ∙ at) in
      ap (λ z. z ∷ xs) same ∙ ap (λ k. x ∷ remove (y ∷ xs) k) (sym is)
  told_first Descending xs x len place size some is at =
      let none = drop_all (suc place) xs (omega (arith, size, some, is)) in
      let whole = split_at xs place x at ∙ ap (λ ys. take place xs ++ x ∷ ys) none in
      ap reverse whole ∙ reverse-append (take place xs) (x ∷ [])
      ∙ ap (λ ys. x ∷ reverse ys) (sym (append-nil (take place xs)) ∙ ap (λ ys. take place xs ++ ys) (sym none))

  take_both : (n m : ℕ) (xs : List A) → take n (take m xs) ≡ take (min n m) xs
  take_both zero m xs = let none : min 0 m ≡ 0 = omega arith in sym (ap (λ k. take k xs) none)
  take_both (suc n) zero xs = let none : min (suc n) 0 ≡ 0 = omega arith in sym (ap (λ k. take k xs) none)
  take_both (suc n) (suc m) [] = sym (take_none (min (suc n) (suc m)))
  take_both (suc n) (suc m) (x ∷ xs) =
      let one : min (suc n) (suc m) ≡ suc (min n m) = omega arith in
      ap (λ ys. x ∷ ys) (take_both n m xs) ∙ sym (ap (λ k. take k (x ∷ xs)) one)

  pub fewest_is : (count : Option ℕ) (most : ℕ) (xs : List A) → at_most count (take most xs) ≡ take (fewest count most) xs
  fewest_is None most xs = refl
  fewest_is (Some n) most xs = take_both n most xs

  -- at most so many of a part, the first being passed over
  pub window : (first last offset from most : ℕ) (count : Option ℕ) (xs : List A) → from ≡ first + min offset (last - first) → most ≡ fewest count (last - from)
      → part from (from + most) xs ≡ at_most count (drop offset (part first last xs))
  window first last offset from most count xs start few =
      let some : from + most - from ≡ fewest count (last - from) = omega (arith, few) in
      part_is from (from + most) xs
      ∙ ap (λ n. take n (drop from xs)) some
      ∙ sym (fewest_is count (last - from) (drop from xs))
      ∙ ap (at_most count) (
      elim (cases_lt offset (last - first)) [
        | inl within ↦
            let here : from ≡ first + offset = omega (arith, start, within) in
            let rest : last - from ≡ last - first - offset = omega (arith, here) in
            (λ i. take (rest i) (drop (here i) xs))
            ∙ sym (ap (take (last - first - offset)) (drop-drop offset first xs))
            ∙ sym (part_is offset (last - first) (drop first xs))
            ∙ sym (ap (drop offset) (part_is first last xs))
        | inr past ↦
            let none : last - from ≡ 0 = omega (arith, start, past) in
            let no_more : last - first - offset ≡ 0 = omega (arith, past) in
            ap (λ n. take n (drop from xs)) none
            ∙ sym (ap (drop offset) (part_is first last xs)
            ∙ part_is offset (last - first) (drop first xs)
            ∙ ap (λ n. take n (drop offset (drop first xs))) no_more)
      ])

  reverse_parts : (n : ℕ) (xs : List A) → reverse xs ≡ reverse (drop n xs) ++ reverse (take n xs)
  reverse_parts n xs = ap reverse (sym (take-append-drop n xs)) ∙ reverse-append (take n xs) (drop n xs)

  reverse_size : (n : ℕ) (xs : List A) → length (reverse (drop n xs)) ≡ length xs - n
  reverse_size n xs = length-reverse (drop n xs) ∙ length-drop n xs

  reverse_drop : (n : ℕ) (xs : List A) → take (length xs - n) (reverse xs) ≡ reverse (drop n xs)
  reverse_drop n xs =
      (λ i. take (sym (reverse_size n xs) i) (reverse_parts n xs i)) ∙ take-append_seam (reverse (drop n xs)) (reverse (take n xs))

  reverse_take : (n : ℕ) (xs : List A) → drop (length xs - n) (reverse xs) ≡ reverse (take n xs)
  reverse_take n xs =
      (λ i. drop (sym (reverse_size n xs) i) (reverse_parts n xs i)) ∙ drop-append_seam (reverse (drop n xs)) (reverse (take n xs))

  -- a part, as it is told
  pub told_part : (direction : Direction) (low high len : ℕ) (xs : List A) → len ≡ length xs → high ≤ len
      → part (told_ends direction low high len).0 (told_ends direction low high len).1 (told_in direction xs) ≡ told_in direction (part low high xs)
  told_part Ascending low high len xs size within = refl
  told_part Descending low high len xs size within =
      let some : len - low - (len - high) ≡ length (take high xs) - low = omega (arith, length-take high xs, size, within) in
      part_is (len - high) (len - low) (reverse xs)
      ∙ (λ i. take (some i) (drop (size i - high) (reverse xs)))
      ∙ ap (take (length (take high xs) - low)) (reverse_take high xs)
      ∙ reverse_drop low (take high xs)
