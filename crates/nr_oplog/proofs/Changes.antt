-- Functions of two numbers that were changed in one place.
use Rattle.std.proofs.Common.{◌≡◌, ℕ, refl, ap, ◌∙◌}
use Rattle.nr_entry.proofs.Changes.{change, at_change, change_here, change_else}

module _ {A : Type 0} where
  abbrev pub change₂ : (ℕ → ℕ → A) → ℕ → ℕ → A → ℕ → ℕ → A
  change₂ f t a c = change f t (change (f t) a c)

  pub change₂_here : (f : ℕ → ℕ → A) (t a : ℕ) (c : A) → change₂ f t a c t a ≡ c
  change₂_here f t a c = ap (λ (g : ℕ → A). g a) (change_here f t (change (f t) a c)) ∙ change_here (f t) a c

  pub change₂_else : (f : ℕ → ℕ → A) (t a : ℕ) (c : A) (r x : ℕ) → (r ≡ t → x ≡ a → ⊥) → change₂ f t a c r x ≡ f r x
  change₂_else f t a c r x other = at_change f t (change (f t) a c) (λ k g. (k ≡ t → x ≡ a → ⊥) → g x ≡ f k x) r (λ o. change_else (f t) a c x (o refl)) (λ _ _. refl) other

  -- what holds of the new value in its place, and of each other value, holds after
  pub at_change₂ : (f : ℕ → ℕ → A) (t a : ℕ) (c : A) (F : ℕ → ℕ → A → Type 0) (r x : ℕ) → F t a c → ((r ≡ t → x ≡ a → ⊥) → F r x (f r x)) → F r x (change₂ f t a c r x)
  at_change₂ f t a c F r x here other = at_change f t (change (f t) a c) (λ k g. ((k ≡ t → x ≡ a → ⊥) → F k x (f k x)) → F k x (g x)) r
      (λ o. at_change (f t) a c (F t) x here (λ n. o (λ _ e. n e))) (λ n o. o (λ e _. n e)) other
