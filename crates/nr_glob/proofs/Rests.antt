-- What passes at some rest of a text.
use Rattle.std.proofs.Common.{◌≡◌, ℕ, Bool, true, false, List, [], ◌∷◌, refl, sym, ◌∙◌, inl, inr}
use Rattle.std.proofs.lemmas.Bool.{false≢true, or_cases, or_left, or_right}
use Rattle.nr_model.specs.Patterns.{some_rest}

-- what passes at the whole text does at a rest
pub some_here : (test : List ℕ → Bool) (text : List ℕ) → test text ≡ true → some_rest test text ≡ true
some_here test [] h = h
some_here test (c ∷ cs) h = or_left (test (c ∷ cs)) (some_rest test cs) h

-- a rest of a rest is a rest
pub some_twice : (test : List ℕ → Bool) (text : List ℕ) → some_rest (some_rest test) text ≡ true → some_rest test text ≡ true
some_twice test [] h = h
some_twice test (c ∷ cs) h =
    elim (or_cases (some_rest test (c ∷ cs)) (some_rest (some_rest test) cs) h) [
      | inl here ↦ here
      | inr later ↦ or_right (test (c ∷ cs)) (some_rest test cs) (some_twice test cs later)
    ]

-- Where a test passes a text only if another passes it without its first byte, so it is with their rests.
one_less : (test other : List ℕ → Bool) → test [] ≡ false → ((c : ℕ) (cs : List ℕ) → test (c ∷ cs) ≡ true → other cs ≡ true)
    → (text : List ℕ) → some_rest test text ≡ true → some_rest other text ≡ true
one_less test other none step [] h = absurd (false≢true (sym none ∙ h))
one_less test other none step (d ∷ ds) h =
    elim (or_cases (test (d ∷ ds)) (some_rest test ds) h) [
      | inl here ↦ or_right (other (d ∷ ds)) (some_rest other ds) (some_here other ds (step d ds here))
      | inr later ↦ or_right (other (d ∷ ds)) (some_rest other ds) (one_less test other none step ds later)
    ]

pub some_behind : (test other : List ℕ → Bool) → test [] ≡ false → ((c : ℕ) (cs : List ℕ) → test (c ∷ cs) ≡ true → other cs ≡ true)
    → (c : ℕ) (cs : List ℕ) → some_rest test (c ∷ cs) ≡ true → some_rest other cs ≡ true
some_behind test other none step c cs h =
    elim (or_cases (test (c ∷ cs)) (some_rest test cs) h) [
      | inl here ↦ some_here other cs (step c cs here)
      | inr later ↦ one_less test other none step cs later
    ]

-- two tests that are true together are one
pub true_together : (a b : Bool) → (a ≡ true → b ≡ true) → (b ≡ true → a ≡ true) → a ≡ b
true_together true b to from = sym (to refl)
true_together false true to from = from refl
true_together false false to from = refl
