-- Functions that were changed in one place.
use Rattle.std.proofs.Common.{◌≡◌, ◌≢◌, ℕ, refl, sym, subst}
use native.Mathlib.Decide.{ℕ_discrete}

module _ {A : Type 0} where
  abbrev pick : {P : Type 0} → Dec P → A → A → A
  pick (yes _) a b = a
  pick (no _) a b = b

  pub change : (ℕ → A) → ℕ → A → ℕ → A
  change f i c j = pick (ℕ_discrete j i) c (f j)

  -- what holds of the new value in its place, and of each other value, holds after
  pub at_change : (f : ℕ → A) (i : ℕ) (c : A) (F : ℕ → A → Type 0) (j : ℕ) → F i c → (j ≢ i → F j (f j)) → F j (change f i c j)
  unfolding change
  at_change f i c F j here other = go (ℕ_discrete j i)
    where
      go : (d : Dec (j ≡ i)) → F j (pick d c (f j))
      go (yes e) = subst (λ (k : ℕ). F k c) (sym e) here
      go (no n) = other n

  pub change_here : (f : ℕ → A) (i : ℕ) (c : A) → change f i c i ≡ c
  change_here f i c = at_change f i c (λ j x. j ≡ i → x ≡ c) i (λ _. refl) (λ n. absurd (n refl)) refl

  pub change_else : (f : ℕ → A) (i : ℕ) (c : A) (j : ℕ) → j ≢ i → change f i c j ≡ f j
  change_else f i c j n = at_change f i c (λ k x. k ≢ i → x ≡ f k) j (λ m. absurd (m refl)) (λ _ _. refl) n
