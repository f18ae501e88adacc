-- Lists of which each member knows its place.
use Rattle.std.proofs.Common.{◌≡◌, inl, inr, ◌⊎◌, ℕ, zero, suc, List, [], ◌∷◌, ◌++◌, length, slice_get, Some, refl, ap, sym, ◌∙◌, ◌+◌, arith, length-append, subst}

-- a list with one more at its end
at_end : {A : Type 0} (xs : List A) (x : A) (k : ℕ) (a : A) → slice_get (xs ++ x ∷ []) k ≡ Some a → (slice_get xs k ≡ Some a) ⊎ ((k ≡ length xs) × (x ≡ a))
at_end [] x zero a e = inr (refl, cc e)
at_end [] x (suc k) a e = absurd (cc e)
at_end (y ∷ ys) x zero a e = inl e
at_end (y ∷ ys) x (suc k) a e = elim (at_end ys x k a e) [ inl h ↦ inl h | inr h ↦ inr (ap suc h.0, h.1) ]

-- what holds of each at its place holds so with one more, of which it holds at the end
pub one_added : {A : Type 0} (xs ys : List A) (x : A) (P : ℕ → A → Type 0) → ys ≡ xs ++ x ∷ [] → P (length xs) x → ((k : ℕ) (a : A) → slice_get xs k ≡ Some a → P k a)
    → (k : ℕ) (a : A) → slice_get ys k ≡ Some a → P k a
one_added xs ys x P is last all k a e = elim (at_end xs x k a (ap (λ l. slice_get l k) (sym is) ∙ e)) [
  | inl h ↦ all k a h
  | inr h ↦ subst (λ b. P k b) h.1 (subst (λ j. P j x) (sym h.0) last)
]

-- and it is longer by one
pub one_longer : {A : Type 0} (xs ys : List A) (x : A) (n m : ℕ) → ys ≡ xs ++ x ∷ [] → m ≡ n + 1 → length xs ≡ n → length ys ≡ m
one_longer xs ys x n m is next long = omega (arith, ap length is, length-append xs (x ∷ []), next, long)
