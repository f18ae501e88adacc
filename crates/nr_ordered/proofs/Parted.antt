-- Lists of which a front passes a test.
use Rattle.std.proofs.Common.{◌≡◌, ℕ, zero, suc, ◌+◌, ◌<◌, ◌≤◌, ◌⊎◌, inl, inr, Bool, true, false, cond, Option, Some, None, List, [], ◌∷◌, ◌++◌, length, drop, refl, sym, ap, subst, ◌∙◌, arith, length-append}
use Rattle.std.specs.Prelude.{filter, find}
use Rattle.std.specs.Option.{option_or}
use Rattle.std.specs.List.{slice_get}
use Rattle.std.proofs.lemmas.List.{drop_all}
use Rattle.std.proofs.lemmas.List.Elements.{filter-append}
use Rattle.std.proofs.lemmas.Option.{slice_get_within}
use Rattle.nr_ordered.specs.Lists.{IsParted, front}
use Rattle.nr_ordered.proofs.Places.{same_Some}

front_none : {A : Type 0} (a b : List A) → a ++ b ≡ [] → a ≡ []
front_none [] b is = refl
front_none (x ∷ a) b is = absurd (cc)

back_none : {A : Type 0} (a b : List A) → a ++ b ≡ [] → b ≡ []
back_none [] b is = is
back_none (x ∷ a) b is = absurd (cc)

module _ {A : Type 0} (test : A → Bool) where
  -- how many pass
  abbrev pub many : List A → ℕ
  many xs = length (filter test xs)

  pub parted_front : (a b : List A) → IsParted test (a ++ b) → IsParted test a
  parted_front [] b parted = tt
  parted_front (x ∷ a) b parted =
      (λ fails. front_none (filter test a) (filter test b) (sym (filter-append test a b) ∙ parted.0 fails), parted_front a b parted.1)

  pub parted_back : (a b : List A) → IsParted test (a ++ b) → IsParted test b
  parted_back [] b parted = parted
  parted_back (x ∷ a) b parted = parted_back a b parted.1

  -- all of the first pass, or none of the others
  parted_either : (a b : List A) → IsParted test (a ++ b) → (many a ≡ length a) ⊎ (many b ≡ 0)
  parted_either [] b parted = inl refl
  parted_either (x ∷ a) b parted =
      elim (test x) as (λ t. test x ≡ t → (length (cond t (x ∷ filter test a) (filter test a)) ≡ length (x ∷ a)) ⊎ (many b ≡ 0)) [
        | true ↦ λ _. elim (parted_either a b parted.1) [ inl all ↦ inl (ap suc all) | inr none ↦ inr none ]
        | false ↦ λ fails. inr (ap length (back_none (filter test a) (filter test b) (sym (filter-append test a b) ∙ parted.0 fails)))
      ] refl

  many-append : (a b : List A) → many (a ++ b) ≡ many a + many b
  many-append a b = ap length (filter-append test a b) ∙ length-append (filter test a) (filter test b)

  drop_at : (ys : List A) (i : ℕ) (y : A) → slice_get ys i ≡ Some y → drop i ys ≡ y ∷ drop (suc i) ys
  drop_at [] i y at = absurd (cc)
  drop_at (z ∷ ys) zero y at = ap (λ w. w ∷ ys) (same_Some z y at)
  drop_at (z ∷ ys) (suc i) y at = drop_at ys i y at

  -- how many pass of what is left
  pub many_more : (xs : List A) (k n count : ℕ) (x : A) (own : Bool) → slice_get xs k ≡ Some x → own ≡ test x → count + many (drop k xs) ≡ n
      → count + cond own 1 0 + many (drop (k + 1) xs) ≡ n
  many_more xs k n count x own at own_is is =
      let one : many (drop k xs) ≡ cond own 1 0 + many (drop (suc k) xs) =
      ap many (drop_at xs k x at) ∙ ap (λ t. length (cond t (x ∷ filter test (drop (suc k) xs)) (filter test (drop (suc k) xs)))) (sym own_is)
      ∙ chosen own (filter test (drop (suc k) xs)) x in
      let next : suc k ≡ k + 1 = omega arith in
      omega (arith, is, one, ap (λ i. many (drop i xs)) next)
    where
      chosen : (b : Bool) (ys : List A) (y : A) → length (cond b (y ∷ ys) ys) ≡ cond b 1 0 + length ys
      chosen true ys y = omega arith
      chosen false ys y = omega arith

  pub many_none : (xs : List A) (k n count : ℕ) → length xs ≤ k → count + many (drop k xs) ≡ n → count ≡ n
  many_none xs k n count ended is = omega (arith, is, ap many (drop_all k xs ended))

  first_passes : (xs : List A) (x : A) → slice_get xs 0 ≡ Some x → test x ≡ true → 0 < many xs
  first_passes [] x at passes = absurd (cc)
  first_passes (y ∷ xs) x at passes =
      let own : test y ≡ true = ap test (same_Some y x at) ∙ passes in
      omega (arith, ap (λ t. length (cond t (y ∷ filter test xs) (filter test xs))) own)

  -- how many pass of three parts
  module _ (all l m r : List A) (is : all ≡ l ++ (m ++ r)) where
    pub many_parts : many all ≡ many l + many m + many r
    many_parts = omega (arith, ap many is, many-append l (m ++ r), many-append m r)

    whole : IsParted test all → IsParted test (l ++ (m ++ r))
    whole parted = subst (IsParted test) is parted

    pub counted_left : (own left : ℕ) → (IsParted test m → own ≡ many m) → own ≡ 0 → 0 < length m → (IsParted test l → left ≡ many l) → IsParted test all → left ≡ many all
    counted_left own left own_is none some left_is parted =
        let t = whole parted in
        let inner = parted_back l (m ++ r) t in
        let here = own_is (parted_front m r inner) in
        let front_is = left_is (parted_front l (m ++ r) t) in
        elim (parted_either m r inner) [
          | inl every ↦ absurd (omega (arith, every, here, none, some))
          | inr nothing ↦ omega (arith, many_parts, nothing, here, none, front_is)
        ]

    all_left : (own : ℕ) → own ≡ many m → 0 < own → IsParted test (l ++ (m ++ r)) → many l ≡ length l
    all_left own own_is some t =
        elim (parted_either l (m ++ r) t) [
          | inl every ↦ every
          | inr nothing ↦ absurd (omega (arith, nothing, many-append m r, own_is, some))
        ]

    pub counted_here : (own before right : ℕ) (x : A) → slice_get m 0 ≡ Some x → test x ≡ true → (IsParted test m → own ≡ many m) → before ≡ length l
        → (IsParted test r → right ≡ many r) → right ≤ 0 → IsParted test all → before + own ≡ many all
    counted_here own before right x at passes own_is size right_is none parted =
        let t = whole parted in
        let inner = parted_back l (m ++ r) t in
        let own_many = own_is (parted_front m r inner) in
        let every_left = all_left (many m) refl (first_passes m x at passes) t in
        omega (arith, many_parts, own_many, every_left, size, right_is (parted_back m r inner), none)

    pub counted_right : (before here right : ℕ) → before ≡ length l → here ≡ length m → 0 < right → (IsParted test r → right ≡ many r) → IsParted test all
        → before + here + right ≡ many all
    counted_right before here right size long some right_is parted =
        let t = whole parted in
        let inner = parted_back l (m ++ r) t in
        let right_many = right_is (parted_back m r inner) in
        elim (parted_either m r inner) [
          | inl every ↦ elim (parted_either l (m ++ r) t) [
            | inl every_left ↦ omega (arith, many_parts, right_many, every, every_left, size, long)
            | inr nothing ↦ absurd (omega (arith, nothing, many-append m r, right_many, some))
          ]
          | inr nothing ↦ absurd (omega (arith, nothing, right_many, some))
        ]

  -- the first fails, and so none pass
  pub first_fails : (xs : List A) (x : A) → slice_get xs 0 ≡ Some x → test x ≡ false → IsParted test xs → 0 ≡ many xs
  first_fails [] x at fails parted = refl
  first_fails (y ∷ xs) x at fails parted =
      let none : test y ≡ false = ap test (same_Some y x at) ∙ fails in
      sym (ap (λ t. length (cond t (y ∷ filter test xs) (filter test xs))) none ∙ ap length (parted.0 none))

  -- the last passes, and so all do
  pub last_passes : (xs : List A) (k : ℕ) (x : A) → slice_get xs k ≡ Some x → suc k ≡ length xs → test x ≡ true → IsParted test xs → many xs ≡ length xs
  last_passes [] k x at last passes parted = refl
  last_passes (y ∷ []) zero x at last passes parted =
      let own : test y ≡ true = ap test (same_Some y x at) ∙ passes in
      ap (λ t. length (cond t (y ∷ []) [])) own
  last_passes (y ∷ (z ∷ xs)) zero x at last passes parted = absurd (omega (arith, last))
  last_passes (y ∷ xs) (suc k) x at last passes parted =
      let others = last_passes xs k x at (omega (arith, last)) passes parted.1 in
      let some = slice_get_within xs k x at in
      elim (test y) as (λ t. test y ≡ t → length (cond t (y ∷ filter test xs) (filter test xs)) ≡ suc (length xs)) [
        | true ↦ λ _. ap suc others
        | false ↦ λ fails. absurd (omega (arith, others, some, ap length (parted.0 fails)))
      ] refl

  pub front_is : (xs : List A) → IsParted test xs → front test xs ≡ many xs
  front_is [] parted = refl
  front_is (x ∷ xs) parted =
      elim (test x) as (λ t. test x ≡ t → cond t (suc (front test xs)) 0 ≡ length (cond t (x ∷ filter test xs) (filter test xs))) [
        | true ↦ λ _. ap suc (front_is xs parted.1)
        | false ↦ λ fails. sym (ap length (parted.0 fails))
      ] refl

  pub front_within : (xs : List A) → front test xs ≤ length xs
  front_within [] = omega arith
  front_within (x ∷ xs) =
      let others = front_within xs in
      elim (test x) as (λ t. cond t (suc (front test xs)) 0 ≤ suc (length xs)) [ true ↦ omega (arith, others) | false ↦ omega arith ]

  -- one that passes, one that doesn't, and none left
  pub front_more : (xs : List A) (k n : ℕ) (x : A) → slice_get xs k ≡ Some x → test x ≡ true → k + front test (drop k xs) ≡ n → k + 1 + front test (drop (k + 1) xs) ≡ n
  front_more xs k n x at passes is =
      let one = ap (front test) (drop_at xs k x at) ∙ ap (λ t. cond t (suc (front test (drop (suc k) xs))) 0) passes in
      let next : suc k ≡ k + 1 = omega arith in
      omega (arith, is, one, ap (λ i. front test (drop i xs)) next)

  pub front_ends : (xs : List A) (k n : ℕ) (x : A) → slice_get xs k ≡ Some x → test x ≡ false → k + front test (drop k xs) ≡ n → k ≡ n
  front_ends xs k n x at fails is =
      let none = ap (front test) (drop_at xs k x at) ∙ ap (λ t. cond t (suc (front test (drop (suc k) xs))) 0) fails in
      omega (arith, is, none)

  pub front_all : (xs : List A) (k n len : ℕ) → length xs ≡ len → len ≤ k → k ≤ len → k + front test (drop k xs) ≡ n → len ≡ n
  front_all xs k n len size low high is =
      let none = ap (front test) (drop_all k xs (omega (arith, size, low))) in
      omega (arith, is, none, low, high)

  -- the first that passes, among those that are left
  pub found_first : (xs : List A) (k : ℕ) (x : A) (found : Option A) → slice_get xs k ≡ Some x → test x ≡ true → find test (drop k xs) ≡ found → Some x ≡ found
  found_first xs k x found at passes is =
      sym (ap (find test) (drop_at xs k x at) ∙ ap (λ t. cond t (Some x) (find test (drop (suc k) xs))) passes) ∙ is

  pub found_later : (xs : List A) (k : ℕ) (x : A) (found : Option A) → slice_get xs k ≡ Some x → test x ≡ false → find test (drop k xs) ≡ found
      → find test (drop (k + 1) xs) ≡ found
  found_later xs k x found at fails is =
      let next : k + 1 ≡ suc k = omega arith in
      ap (λ i. find test (drop i xs)) next
      ∙ sym (ap (find test) (drop_at xs k x at) ∙ ap (λ t. cond t (Some x) (find test (drop (suc k) xs))) fails) ∙ is

  pub found_none : (xs : List A) (k : ℕ) (found : Option A) → length xs ≤ k → find test (drop k xs) ≡ found → None ≡ found
  found_none xs k found ended is = sym (ap (find test) (drop_all k xs ended)) ∙ is

  find-append : (a b : List A) → find test (a ++ b) ≡ option_or (find test a) (find test b)
  find-append [] b = refl
  find-append (x ∷ a) b =
      elim (test x) as (λ t. cond t (Some x) (find test (a ++ b)) ≡ option_or (cond t (Some x) (find test a)) (find test b)) [
        | true ↦ refl
        | false ↦ find-append a b
      ]

  -- of three parts
  module _ (all l m r : List A) (is : all ≡ l ++ (m ++ r)) where
    three_parts : find test all ≡ option_or (find test l) (option_or (find test m) (find test r))
    three_parts = ap (find test) is ∙ find-append l (m ++ r) ∙ ap (option_or (find test l)) (find-append m r)

    pub first_in_left : (x : A) → Some x ≡ find test l → Some x ≡ find test all
    first_in_left x own = sym (three_parts ∙ ap (λ (o : Option A). option_or o (option_or (find test m) (find test r))) (sym own))

    pub first_in_middle : (x : A) → None ≡ find test l → Some x ≡ find test m → Some x ≡ find test all
    first_in_middle x none own =
        sym (three_parts ∙ ap (λ (o : Option A). option_or o (option_or (find test m) (find test r))) (sym none)
        ∙ ap (λ (o : Option A). option_or o (find test r)) (sym own))

    pub first_in_right : (found : Option A) → None ≡ find test l → None ≡ find test m → found ≡ find test r → found ≡ find test all
    first_in_right found none none_here own =
        own ∙ sym (three_parts ∙ ap (λ (o : Option A). option_or o (option_or (find test m) (find test r))) (sym none)
        ∙ ap (λ (o : Option A). option_or o (find test r)) (sym none_here))
