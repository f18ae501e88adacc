-- A list made from a function of the index, where the function changes at one index, and where the list is one longer.
use Rattle.std.proofs.Common.{◌≡◌, ℕ, zero, suc, ◌+◌, ◌<◌, ◌≤◌, List, [], ◌∷◌, ◌++◌, map, length, get_or, set, refl, ap, ◌∙◌, arith}
use Rattle.std.specs.List.{range_with_len}
use Rattle.std.proofs.lemmas.List.FromFn.{length-map-range_with_len, get_or-map-range_with_len, map-range_with_len_more}

module _ {X : Type 0} where
  abbrev pub listed : (ℕ → X) → ℕ → List X
  listed f n = map f (range_with_len 0 n)

  pub listed_length : (f : ℕ → X) (n : ℕ) → length (listed f n) ≡ n
  listed_length f n = length-map-range_with_len f 0 n

  pub listed_at : (f : ℕ → X) (n s : ℕ) (d : X) → s < n → get_or (listed f n) s d ≡ f s
  listed_at f n s d within = get_or-map-range_with_len f 0 n s s d within (omega arith)

  same_from : (f g : ℕ → X) (a n : ℕ) → ((k : ℕ) → a ≤ k → k < a + n → g k ≡ f k) → map g (range_with_len a n) ≡ map f (range_with_len a n)
  same_from f g a zero same = refl
  same_from f g a (suc n) same =
      let head = same a (omega arith) (omega arith) in
      let rest = same_from f g (a + 1) n (λ k from below. same k (omega arith) (omega arith)) in
      λ i. head i ∷ rest i

  set_from : (f g : ℕ → X) (a n i s : ℕ) → a + i ≡ s → ((k : ℕ) → (k ≡ s → ⊥) → g k ≡ f k)
      → map g (range_with_len a n) ≡ set (map f (range_with_len a n)) i (g s)
  set_from f g a zero i s is same = refl
  set_from f g a (suc n) zero s is same =
      let here : a ≡ s = omega arith in
      let head = ap g here in
      let rest = same_from f g (a + 1) n (λ k from below. same k (λ e. absurd (omega arith))) in
      λ i. head i ∷ rest i
  set_from f g a (suc n) (suc i) s is same =
      let head = same a (λ e. absurd (omega arith)) in
      let rest = set_from f g (a + 1) n i s (omega arith) same in
      λ j. head j ∷ rest j

  -- the function changes at one index, which may be past the list
  pub listed_set : (f g : ℕ → X) (n s : ℕ) → ((k : ℕ) → (k ≡ s → ⊥) → g k ≡ f k) → listed g n ≡ set (listed f n) s (g s)
  listed_set f g n s same = set_from f g 0 n s s (omega arith) same

  -- it changes past the list
  pub listed_same : (f g : ℕ → X) (n : ℕ) → ((k : ℕ) → k < n → g k ≡ f k) → listed g n ≡ listed f n
  listed_same f g n same = same_from f g 0 n (λ k from below. same k (omega arith))

  -- the list is one longer
  pub listed_more : (f g : ℕ → X) (n : ℕ) → ((k : ℕ) → k < n → g k ≡ f k) → listed g (n + 1) ≡ listed f n ++ g n ∷ []
  listed_more f g n same = map-range_with_len_more g 0 n n (omega arith) ∙ ap (λ (xs : List X). xs ++ g n ∷ []) (listed_same f g n same)
