-- The items from one place to another, of a list and of the three parts that it is joined from.
use Rattle.std.proofs.Common.{◌≡◌, inl, inr, ℕ, zero, suc, ◌+◌, ◌-◌, ◌<◌, ◌≤◌, min, Some, List, [], ◌∷◌, ◌++◌, length, take, drop, refl, sym, ap, ◌∙◌, arith, append-nil, append_assoc, length-append, length-take, length-drop}
use Rattle.std.specs.Prelude.{reverse}
use Rattle.std.specs.List.{slice_get}
use Rattle.std.proofs.lemmas.List.{drop_all, take_min, length-reverse, reverse-append}
use Rattle.std.proofs.lemmas.Bool.{cases_lt}
use Rattle.nr_model.specs.SortedSets.{told_in}
use Rattle.nr_model.specs.declared.command.Direction.{Direction}
use Rattle.nr_model.specs.declared.command.Direction.TheVariants.{Ascending, Descending}
use Rattle.nr_ordered.specs.Lists.{part, told_place}
use Rattle.nr_ordered.proofs.Places.{same_Some, seam_at}

module _ {A : Type 0} where
  pub length-told : (direction : Direction) (xs : List A) → length (told_in direction xs) ≡ length xs
  length-told Ascending xs = refl
  length-told Descending xs = length-reverse xs

  pub told-descending : (l : List A) (x : A) (r : List A) → told_in Descending (l ++ x ∷ r) ≡ told_in Descending r ++ x ∷ told_in Descending l
  told-descending l x r =
      reverse-append l (x ∷ r) ∙ ap (λ xs. xs ++ reverse l) (reverse-append (x ∷ []) r) ∙ append_assoc (reverse r) (x ∷ []) (reverse l)

  part_none : (from to : ℕ) → part {A = A} from to [] ≡ []
  part_none from to = let none : List A = [] in drop_all from (take to none) (omega (arith, length-take to none))

  part-append : (from to : ℕ) (a b : List A) → part from to (a ++ b) ≡ part from to a ++ part (from - length a) (to - length a) b
  part-append from to [] b =
      let same : from - 0 ≡ from = omega arith in
      let still : to - 0 ≡ to = omega arith in
      ap (λ n. part n to b) (sym same) ∙ ap (λ n. part (from - 0) n b) (sym still) ∙ ap (λ xs. xs ++ part (from - 0) (to - 0) b) (sym (part_none from to))
  part-append from zero (x ∷ a) b =
      let none : 0 - suc (length a) ≡ 0 = omega arith in
      let at : (n : ℕ) → drop {A = A} n [] ≡ [] = λ n. drop_all n [] (omega arith) in
      at from ∙ sym (ap (λ n. drop from [] ++ drop (from - suc (length a)) (take n b)) none
      ∙ ap (λ xs. xs ++ drop (from - suc (length a)) []) (at from) ∙ at (from - suc (length a)))
  part-append zero (suc to) (x ∷ a) b =
      let none : 0 - suc (length a) ≡ 0 - length a = omega arith in
      let one : suc to - suc (length a) ≡ to - length a = omega arith in
      ap (λ xs. x ∷ xs) (part-append zero to a b
      ∙ ap (λ n. part zero to a ++ part n (to - length a) b) (sym none)
      ∙ ap (λ n. part zero to a ++ part (0 - suc (length a)) n b) (sym one))
  part-append (suc from) (suc to) (x ∷ a) b =
      let less : suc from - suc (length a) ≡ from - length a = omega arith in
      let one : suc to - suc (length a) ≡ to - length a = omega arith in
      part-append from to a b
      ∙ ap (λ n. part from to a ++ part n (to - length a) b) (sym less)
      ∙ ap (λ n. part from to a ++ part (suc from - suc (length a)) n b) (sym one)

  -- of three parts
  part_joined : (whole l m r : List A) (from to before behind : ℕ) → whole ≡ l ++ (m ++ r) → before ≡ length l → behind ≡ before + length m
      → part from to whole ≡ (part from to l ++ part (from - before) (to - before) m) ++ part (from - behind) (to - behind) r
  part_joined whole l m r from to before behind is size long =
      let less : from - before - length m ≡ from - behind = omega (arith, long) in
      let one : to - before - length m ≡ to - behind = omega (arith, long) in
      ap (part from to) is
      ∙ part-append from to l (m ++ r)
      ∙ ap (λ n. part from to l ++ part (from - n) (to - n) (m ++ r)) (sym size)
      ∙ ap (λ xs. part from to l ++ xs) (part-append (from - before) (to - before) m r
      ∙ ap (λ n. part (from - before) (to - before) m ++ part n (to - before - length m) r) less
      ∙ ap (λ n. part (from - before) (to - before) m ++ part (from - behind) n r) one)
      ∙ sym (append_assoc (part from to l) (part (from - before) (to - before) m) (part (from - behind) (to - behind) r))

  pub length-part_joined : (whole l m r : List A) (from to before behind : ℕ) → whole ≡ l ++ (m ++ r) → before ≡ length l → behind ≡ before + length m
      → length (part from to whole) ≡ length (part from to l) + length (part (from - before) (to - before) m) + length (part (from - behind) (to - behind) r)
  length-part_joined whole l m r from to before behind is size long =
      ap length (part_joined whole l m r from to before behind is size long)
      ∙ length-append (part from to l ++ part (from - before) (to - before) m) (part (from - behind) (to - behind) r)
      ∙ ap (λ n. n + length (part (from - behind) (to - behind) r)) (length-append (part from to l) (part (from - before) (to - before) m))

  pub none_from : (from to : ℕ) (xs : List A) → to ≤ from → part from to xs ≡ []
  none_from from to xs late = drop_all from (take to xs) (omega (arith, length-take to xs))

  pub none_past : (from to : ℕ) (xs : List A) → length xs ≤ from → part from to xs ≡ []
  none_past from to xs short = drop_all from (take to xs) (omega (arith, length-take to xs))

  pub nothing_more : (old more : List A) → more ≡ [] → old ≡ old ++ more
  nothing_more old more none = sym (ap (λ xs. old ++ xs) none ∙ append-nil old)

  -- what is lent of a node: first of the side that is told first, then of its own block, and then of the other side
  pub lent_all : (old first own new whole l m r : List A) (from to before behind : ℕ) → whole ≡ l ++ (m ++ r) → before ≡ length l → behind ≡ before + length m
      → first ≡ old ++ part from to l → own ≡ first ++ part (from - before) (to - before) m
      → new ≡ own ++ part (from - behind) (to - behind) r → new ≡ old ++ part from to whole
  lent_all old first own new whole l m r from to before behind is size long is_first is_own is_new =
      is_new
      ∙ ap (λ xs. xs ++ part (from - behind) (to - behind) r) (is_own ∙ ap (λ xs. xs ++ part (from - before) (to - before) m) is_first
      ∙ append_assoc old (part from to l) (part (from - before) (to - before) m))
      ∙ append_assoc old (part from to l ++ part (from - before) (to - before) m) (part (from - behind) (to - behind) r)
      ∙ ap (λ xs. old ++ xs) (sym (part_joined whole l m r from to before behind is size long))

  split_at : (xs : List A) (k : ℕ) (x : A) → slice_get xs k ≡ Some x → xs ≡ take k xs ++ x ∷ drop (suc k) xs
  split_at [] k x at = absurd (cc)
  split_at (y ∷ xs) zero x at = ap (λ z. z ∷ xs) (same_Some y x at)
  split_at (y ∷ xs) (suc k) x at = ap (λ ys. y ∷ ys) (split_at xs k x at)

  pub got : (xs : List A) (k : ℕ) → k < length xs → (x : A) × (slice_get xs k ≡ Some x)
  got [] k low = absurd (omega (arith, low))
  got (x ∷ xs) zero low = (x, refl)
  got (x ∷ xs) (suc k) low = got xs k (omega (arith, low))

  -- what stands at a place, as it is told
  pub told_at : (direction : Direction) (place len : ℕ) (xs : List A) → len ≡ length xs → place < len
      → slice_get xs (told_place direction place len) ≡ slice_get (told_in direction xs) place
  told_at Ascending place len xs size within = refl
  told_at Descending place len xs size within =
      let k = len - suc place in
      let one = got xs k (omega (arith, size, within)) in
      let behind : length (reverse (drop (suc k) xs)) ≡ place = omega (arith, length-reverse (drop (suc k) xs), length-drop (suc k) xs, size, within) in
      one.1
      ∙ sym (ap (λ ys. slice_get (reverse ys) place) (split_at xs k one.0 one.1)
      ∙ ap (λ ys. slice_get ys place) (told-descending (take k xs) one.0 (drop (suc k) xs))
      ∙ ap (slice_get (reverse (drop (suc k) xs) ++ one.0 ∷ reverse (take k xs))) (sym behind)
      ∙ seam_at (reverse (drop (suc k) xs)) one.0 (reverse (take k xs)))

  -- one more of a part
  pub part_more : (from place : ℕ) (xs : List A) (x : A) → from ≤ place → slice_get xs place ≡ Some x → part from (place + 1) xs ≡ part from place xs ++ x ∷ []
  part_more from place [] x order at = absurd (cc)
  part_more zero zero (y ∷ xs) x order at = ap (λ z. z ∷ []) (same_Some y x at)
  part_more (suc from) zero (y ∷ xs) x order at = absurd (omega (arith, order))
  part_more zero (suc place) (y ∷ xs) x order at =
      let next : suc place + 1 ≡ suc (place + 1) = omega arith in
      ap (λ n. part zero n (y ∷ xs)) next ∙ ap (λ ys. y ∷ ys) (part_more zero place xs x (omega arith) at)
  part_more (suc from) (suc place) (y ∷ xs) x order at =
      let next : suc place + 1 ≡ suc (place + 1) = omega arith in
      ap (λ n. part (suc from) n (y ∷ xs)) next ∙ part_more from place xs x (omega (arith, order)) at

  -- no part goes behind the end
  pub part_least : (from to : ℕ) (xs : List A) → part from (min to (length xs)) xs ≡ part from to xs
  part_least from to xs = ap (drop from) (take_min to xs)

  pub part_end : (from to place end : ℕ) (xs : List A) → end ≡ min to (length xs) → end ≤ place → (from ≤ end → place ≤ end) → (end < from → place ≡ from)
      → part from place xs ≡ part from to xs
  part_end from to place end xs is done within late =
      elim (cases_lt end from) [
        | inl before ↦ none_from from place xs (omega (arith, late before)) ∙ sym (drop_all from (take to xs) (omega (arith, length-take to xs, is, before)))
        | inr behind ↦
            let here : place ≡ min to (length xs) = omega (arith, is, done, within behind) in
            ap (λ n. part from n xs) here ∙ part_least from to xs
      ]

  -- one more is lent
  pub lent_more : (old mid new : List A) (from place : ℕ) (xs : List A) (x : A) → from ≤ place → slice_get xs place ≡ Some x
      → mid ≡ old ++ part from place xs → new ≡ mid ++ x ∷ [] → new ≡ old ++ part from (place + 1) xs
  lent_more old mid new from place xs x order at is more =
      more ∙ ap (λ ys. ys ++ x ∷ []) is ∙ append_assoc old (part from place xs) (x ∷ []) ∙ ap (λ ys. old ++ ys) (sym (part_more from place xs x order at))

  pub one_longer : (from place : ℕ) (xs : List A) (x : A) → from ≤ place → slice_get xs place ≡ Some x
      → length (part from (place + 1) xs) ≡ length (part from place xs) + 1
  one_longer from place xs x order at = ap length (part_more from place xs x order at) ∙ length-append (part from place xs) (x ∷ [])

pub length-part : {A : Type 0} (from to : ℕ) (xs : List A) → length (part from to xs) ≡ min to (length xs) - from
length-part from to xs = omega (arith, length-drop from (take to xs), length-take to xs)
