-- The first number of a range, from one on, that passes a test.
use Rattle.std.proofs.Common.{◌≡◌, ℕ, zero, suc, ◌+◌, ◌<◌, ◌≤◌, Bool, true, false, cond, inl, inr, ◌∷◌, refl, ap, sym, ◌∙◌, arith}
use Rattle.std.specs.Prelude.{Option, Some, None, nat_le, filter, unwrap_or}
use Rattle.std.specs.List.{find, range_with_len}
use Rattle.std.proofs.lemmas.Bool.{cases_Bool, leb-true, leb-false, le-leb, cases_lt, cases_eq}

module _ (p : ℕ → Bool) where
  -- it passes, and none of those before it does
  pub record IsFirst (from k : ℕ) : Type 0 where
    pub passes : p k ≡ true
    pub behind : from ≤ k
    pub least : (q : ℕ) → from ≤ q → q < k → p q ≡ false

  abbrev pub first_in : ℕ → ℕ → ℕ → Option ℕ
  first_in from a n = find (nat_le from) (filter p (range_with_len a n))

  -- one number more, at the front
  passed : (from a n : ℕ) → p a ≡ true → nat_le from a ≡ true → first_in from a (suc n) ≡ Some a
  passed from a n h k =
      let rest = filter p (range_with_len (a + 1) n) in
      ap (λ b. find (nat_le from) (cond b (a ∷ rest) rest)) h ∙ ap (λ b. cond b (Some a) (find (nat_le from) rest)) k

  before : (from a n : ℕ) → nat_le from a ≡ false → first_in from a (suc n) ≡ first_in from (a + 1) n
  before from a n k =
      let rest = filter p (range_with_len (a + 1) n) in
      elim (p a) as (λ b. find (nat_le from) (cond b (a ∷ rest) rest) ≡ find (nat_le from) rest) [
        | true ↦ ap (λ b. cond b (Some a) (find (nat_le from) rest)) k
        | false ↦ refl
      ]

  passed_over : (from a n : ℕ) → p a ≡ false → first_in from a (suc n) ≡ first_in from (a + 1) n
  passed_over from a n h =
      let rest = filter p (range_with_len (a + 1) n) in
      ap (λ b. find (nat_le from) (cond b (a ∷ rest) rest)) h

  pub first_is : (from a n k : ℕ) → IsFirst from k → a ≤ k → k < a + n → first_in from a n ≡ Some k
  first_is from a zero k first above below = absurd (omega arith)
  first_is from a (suc n) k first above below = elim (cases_lt a k) [
    | inl earlier ↦
        let on = first_is from (a + 1) n k first (omega arith) (omega arith) in
        elim (cases_Bool (nat_le from a)) [
          | inl h ↦ passed_over from a n (first.least a (leb-true from a h) earlier) ∙ on
          | inr h ↦ before from a n h ∙ on
        ]
    | inr later ↦
        let same : a ≡ k = omega arith in
        passed from a n (ap p same ∙ first.passes) (le-leb from a (omega (arith, first.behind))) ∙ ap (λ (q : ℕ). Some q) same
  ]

  pub none_is : (from a n : ℕ) → ((q : ℕ) → from ≤ q → p q ≡ false) → first_in from a n ≡ None
  none_is from a zero none = refl
  none_is from a (suc n) none = elim (cases_Bool (nat_le from a)) [
    | inl h ↦ passed_over from a n (none a (leb-true from a h)) ∙ none_is from (a + 1) n none
    | inr h ↦ before from a n h ∙ none_is from (a + 1) n none
  ]

  -- what was found is in the range, and is the first there
  pub record IsFound (from a n k : ℕ) : Type 0 where
    pub passes : p k ≡ true
    pub behind : from ≤ k
    pub above : a ≤ k
    pub below : k < a + n
    pub least : (q : ℕ) → a ≤ q → from ≤ q → q < k → p q ≡ false

  further : (from a n k : ℕ) → (from ≤ a → p a ≡ false) → IsFound from (a + 1) n k → IsFound from a (suc n) k
  further from a n k front found = record {
    passes = found.passes;
    behind = found.behind;
    above = omega (arith, found.above);
    below = omega (arith, found.below);
    least = λ q above behind below. elim (cases_eq a q) [
      | inl same ↦ ap p (sym same) ∙ front (omega (arith, same, behind))
      | inr apart ↦ found.least q (omega (arith, apart, above)) behind below
    ];
  }

  pub found_is : (from a n k : ℕ) → first_in from a n ≡ Some k → IsFound from a n k
  found_is from a zero k is = absurd (cc is)
  found_is from a (suc n) k is = elim (cases_Bool (nat_le from a)) [
    | inr h ↦ further from a n k (λ behind. absurd (omega (arith, leb-false from a h, behind))) (found_is from (a + 1) n k (sym (before from a n h) ∙ is))
    | inl h ↦ elim (cases_Bool (p a)) [
      | inr g ↦ further from a n k (λ behind. g) (found_is from (a + 1) n k (sym (passed_over from a n g) ∙ is))
      | inl g ↦
          let same : a ≡ k = ap (λ (o : Option ℕ). unwrap_or o 0) (sym (passed from a n g h) ∙ is) in
          record {
            passes = ap p (sym same) ∙ g;
            behind = omega (arith, same, leb-true from a h);
            above = omega (arith, same);
            below = omega (arith, same);
            least = λ q above behind below. absurd (omega (arith, same, above, below));
          }
    ]
  ]

  none_behind : (from a n : ℕ) → first_in from a (suc n) ≡ None → first_in from (a + 1) n ≡ None
  none_behind from a n is = elim (cases_Bool (nat_le from a)) [
    | inr h ↦ sym (before from a n h) ∙ is
    | inl h ↦ elim (cases_Bool (p a)) [
      | inr g ↦ sym (passed_over from a n g) ∙ is
      | inl g ↦ absurd (cc (sym is ∙ passed from a n g h))
    ]
  ]

  pub none_found : (from a n : ℕ) → first_in from a n ≡ None → (q : ℕ) → a ≤ q → q < a + n → from ≤ q → p q ≡ false
  none_found from a zero is q above below behind = absurd (omega (arith, above, below))
  none_found from a (suc n) is q above below behind = elim (cases_eq a q) [
    | inr apart ↦ none_found from (a + 1) n (none_behind from a n is) q (omega (arith, apart, above)) (omega (arith, below)) behind
    | inl same ↦ elim (cases_Bool (p a)) [
      | inr g ↦ ap p (sym same) ∙ g
      | inl g ↦ absurd (cc (sym is ∙ passed from a n g (le-leb from a (omega (arith, same, behind)))))
    ]
  ]
