-- Addresses that are said one after the other.
use Rattle.std.proofs.Common.{◌≡◌, ℕ, String, Global, zero, suc, List, [], ◌∷◌, ◌+◌, length, slice_get, get_or, string_bytes, Some, ap, refl, subst, sym, ◌∙◌}
use Rattle.nr_sockets.specs.Addresses.{IsNamed, IsSaid}
use Rattle.nr_sockets.proofs.Numbered.{one_added, one_longer}

-- what stands at a place is read there
got_there : {A : Type 0} (xs : List A) (place : ℕ) (x d : A) → slice_get xs place ≡ Some x → get_or xs place d ≡ x
got_there [] place x d e = absurd (cc e)
got_there (y ∷ ys) zero x d e = cc e
got_there (y ∷ ys) (suc place) x d e = got_there ys place x d e

-- each of these is said as the address at its place may be
abbrev pub AreNamed : List (String Global) → List (String Global) → Type 0
AreNamed addresses texts = (k : ℕ) (text : _) → slice_get texts k ≡ Some text → (address : _) → slice_get addresses k ≡ Some address → IsSaid (string_bytes address) (string_bytes text)

module _ (addresses texts new : List (String Global)) (item : String Global) (said : List ℕ) (place : ℕ) (is : IsNamed said texts new) (many : length texts ≡ place) where
  -- one more is said: they are one more
  pub more_said : length new ≡ place + 1
  more_said = one_longer texts new is.text place _ is.behind refl many

  -- and each is said as it may be
  pub each_said : said ≡ string_bytes item → item ≡ get_or addresses place item → AreNamed addresses texts → AreNamed addresses new
  each_said bytes there all =
      let P : ℕ → String Global → Type 0 = λ k text. (address : String Global) → slice_get addresses k ≡ Some address → IsSaid (string_bytes address) (string_bytes text) in
      let last : P (length texts) is.text = λ address e.
      subst (λ (a : String Global). IsSaid (string_bytes a) (string_bytes is.text))
      (there ∙ got_there addresses place address item (ap (λ k. slice_get addresses k) (sym many) ∙ e))
      (subst (λ (b : List ℕ). IsSaid b (string_bytes is.text)) bytes is.said) in
      one_added texts new is.text P is.behind last all
