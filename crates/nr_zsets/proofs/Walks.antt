-- Items of a block one after another: what is told of all by the first and those behind it.
use Rattle.std.proofs.Common.{◌≡◌, ℕ, suc, ◌-◌, ◌<◌, ◌≤◌, Bool, true, false, cond, Option, Some, None, List, [], ◌∷◌, ◌++◌, length, map, take, drop, min, inl, inr, refl, sym, ap, ◌∙◌, arith, append_assoc, length-take}
use Rattle.std.specs.Prelude.{filter, find, reverse}
use Rattle.std.specs.List.{insert, remove}
use Rattle.std.proofs.lemmas.Bool.{cases_lt}
use Rattle.std.proofs.lemmas.List.{drop_all, take_min, map-append, take-map, drop-map, reverse-append}
use Rattle.nr_model.specs.SortedSets.{told_in}
use Rattle.nr_model.specs.declared.command.Direction.{Direction}
use Rattle.nr_model.specs.declared.command.Direction.TheVariants.{Ascending, Descending}
use Rattle.nr_ordered.specs.Lists.{part}
use Rattle.nr_ordered.proofs.Parts.{length-told}
use Rattle.nr_zsets.specs.Lists.{told_ends}
use Rattle.nr_zsets.proofs.Parts.{told_part}

module _ {A : Type 0} (ys : List A) where
  -- a part
  pub part_passes : (x : A) (rest : List A) (passed left : ℕ) (old all : List A) → ys ≡ x ∷ rest → 0 < left → 0 < passed → old ++ part passed left ys ≡ all
      → old ++ part (passed - 1) (left - 1) rest ≡ all
  part_passes x rest passed left old all is more some so_far =
      let one : left ≡ suc (left - 1) = omega (arith, more) in
      let next : passed ≡ suc (passed - 1) = omega (arith, some) in
      sym ((λ i. old ++ part (next i) (one i) (is i))) ∙ so_far

  pub part_lends : (x : A) (rest : List A) (passed left : ℕ) (old new all : List A) → ys ≡ x ∷ rest → 0 < left → passed ≤ 0 → new ≡ old ++ x ∷ []
      → old ++ part passed left ys ≡ all → new ++ part passed (left - 1) rest ≡ all
  part_lends x rest passed left old new all is more none put so_far =
      let one : left ≡ suc (left - 1) = omega (arith, more) in
      let here : passed ≡ 0 = omega (arith, none) in
      (λ i. put i ++ part (here i) (left - 1) rest)
      ∙ append_assoc old (x ∷ []) (part 0 (left - 1) rest)
      ∙ sym ((λ i. old ++ part (here i) (one i) (is i))) ∙ so_far

-- places past the end are those at the end
pub part_clipped : {A : Type 0} (from to len : ℕ) (xs : List A) → len ≡ length xs → part (min from len) (min to len) xs ≡ part from to xs
part_clipped from to len xs size =
    (λ i. drop (min from (size i)) (take (min to (size i)) xs))
    ∙ ap (drop (min from (length xs))) (take_min to xs)
    ∙ elim (cases_lt (length xs) from) [
      | inl past ↦
          let at : min from (length xs) ≡ length xs = omega (arith, past) in
          ap (λ n. drop n (take to xs)) at
          ∙ drop_all (length xs) (take to xs) (omega (arith, length-take to xs))
          ∙ sym (drop_all from (take to xs) (omega (arith, length-take to xs, past)))
      | inr within ↦ let at : min from (length xs) ≡ from = omega (arith, within) in ap (λ n. drop n (take to xs)) at
    ]

-- where it is told what stands from one place to another, and where that stands
told_twice : (direction : Direction) (from to len : ℕ) → from ≤ len → to ≤ len
    → told_ends direction (told_ends direction from to len).0 (told_ends direction from to len).1 len ≡ (from, to)
told_twice Ascending from to len low high = refl
told_twice Descending from to len low high =
    let one : len - (len - from) ≡ from = omega (arith, low) in
    let other : len - (len - to) ≡ to = omega (arith, high) in
    λ i. (one i, other i)

told_within : (direction : Direction) (from to len : ℕ) → from ≤ len → to ≤ len → (told_ends direction from to len).1 ≤ len
told_within Ascending from to len low high = high
told_within Descending from to len low high = omega arith

-- a part is told as the part between other places, turned
pub turned : {A : Type 0} (direction : Direction) (from to len : ℕ) (ends : ℕ × ℕ) (xs lent new : List A) → len ≡ length xs
    → ends ≡ told_ends direction (min from len) (min to len) len → lent ≡ part ends.0 ends.1 xs → new ≡ told_in direction lent → new ≡ part from to (told_in direction xs)
turned direction from to len ends xs lent new size is lent_is new_is =
    let low : min from len ≤ len = omega arith in
    let high : min to len ≤ len = omega arith in
    let other = told_ends direction (min from len) (min to len) len in
    new_is ∙ ap (told_in direction) (lent_is ∙ ap (λ (e : ℕ × ℕ). part e.0 e.1 xs) is)
    ∙ sym (told_part direction other.0 other.1 len xs size (told_within direction (min from len) (min to len) len low high))
    ∙ ap (λ (e : ℕ × ℕ). part e.0 e.1 (told_in direction xs)) (told_twice direction (min from len) (min to len) len low high)
    ∙ part_clipped from to len (told_in direction xs) (size ∙ sym (length-told direction xs))

-- put in and taken out, of what is seen through a function
pub map-insert : {A B : Type 0} (f : A → B) (xs : List A) (k : ℕ) (x : A) → map f (insert xs k x) ≡ insert (map f xs) k (f x)
map-insert f xs k x =
    map-append f (take k xs) (x ∷ drop k xs) ∙ (λ i. sym (take-map f k xs) i ++ f x ∷ sym (drop-map f k xs) i)

pub map-remove : {A B : Type 0} (f : A → B) (xs : List A) (k : ℕ) → map f (remove xs k) ≡ remove (map f xs) k
map-remove f xs k = map-append f (take k xs) (drop (suc k) xs) ∙ (λ i. sym (take-map f k xs) i ++ sym (drop-map f (suc k) xs) i)

map-reverse : {A B : Type 0} (f : A → B) (xs : List A) → map f (reverse xs) ≡ reverse (map f xs)
map-reverse f [] = refl
map-reverse f (x ∷ xs) =
    ap (map f) (reverse-append (x ∷ []) xs) ∙ map-append f (reverse xs) (x ∷ []) ∙ ap (λ ys. ys ++ f x ∷ []) (map-reverse f xs)
    ∙ sym (reverse-append (f x ∷ []) (map f xs))

pub seen_reversed : {A B : Type 0} (f : A → B) (xs ys : List A) → ys ≡ reverse xs → map f ys ≡ reverse (map f xs)
seen_reversed f xs ys is = ap (map f) is ∙ map-reverse f xs

pub fewer_pass : {A : Type 0} (test : A → Bool) (xs : List A) → length (filter test xs) ≤ length xs
fewer_pass test [] = omega arith
fewer_pass test (x ∷ xs) =
    let others = fewer_pass test xs in
    elim (test x) as (λ t. length (cond t (x ∷ filter test xs) (filter test xs)) ≤ suc (length xs)) [ true ↦ omega (arith, others) | false ↦ omega (arith, others) ]

-- the first that passes
module _ {A : Type 0} (test : A → Bool) (ys : List A) where
  pub finds : (x : A) (rest : List A) (found : Option A) → ys ≡ x ∷ rest → test x ≡ true → find test ys ≡ found → Some x ≡ found
  finds x rest found is passes all = sym (ap (find test) is ∙ ap (λ t. cond t (Some x) (find test rest)) passes) ∙ all

  pub finds_later : (x : A) (rest : List A) (found : Option A) → ys ≡ x ∷ rest → test x ≡ false → find test ys ≡ found → find test rest ≡ found
  finds_later x rest found is fails all = sym (ap (find test) is ∙ ap (λ t. cond t (Some x) (find test rest)) fails) ∙ all

  pub finds_none : (found : Option A) → ys ≡ [] → find test ys ≡ found → None ≡ found
  finds_none found is all = sym (ap (find test) is) ∙ all
