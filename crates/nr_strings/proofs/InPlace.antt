-- Bytes that are computed in place, from the first on.
use Rattle.std.proofs.Common.{◌≡◌, ℕ, zero, suc, ◌+◌, ◌<◌, ◌≤◌, List, [], ◌∷◌, ◌++◌, length, take, drop, get_or, set, map, zip, refl, ap, sym, ◌∙◌, arith, add-one, append-nil, take_all}
use Rattle.std.proofs.lemmas.List.{drop_all}
use Rattle.std.proofs.lemmas.Slice.Zip.{get_or-zip, length-zip}
use Rattle.nr_model.specs.Bytes.{Bytes}

-- the first bytes are computed, and the others are still there
abbrev pub computed : {Z : Type 0} → (Z → ℕ) → List Z → Bytes → ℕ → Bytes
computed g from text n = map g (take n from) ++ drop n text

computed_suc : {Z : Type 0} (g : Z → ℕ) (from : List Z) (text : Bytes) (n byte : ℕ) (d : Z) → length from ≡ length text → n < length text → byte ≡ g (get_or from n d)
    → set (computed g from text n) n byte ≡ computed g from text (suc n)
computed_suc g [] [] n byte d same within is = absurd (omega (arith, within))
computed_suc g [] (x ∷ text) n byte d same within is = absurd (omega (arith, same))
computed_suc g (z ∷ from) [] n byte d same within is = absurd (omega (arith, same))
computed_suc g (z ∷ from) (x ∷ text) zero byte d same within is = ap (λ b. b ∷ text) is
computed_suc g (z ∷ from) (x ∷ text) (suc n) byte d same within is =
    ap (λ bytes. g z ∷ bytes) (computed_suc g from text n byte d (omega (arith, same)) (omega (arith, within)) is)

computed_more : {Z : Type 0} (g : Z → ℕ) (from : List Z) (text : Bytes) (n byte : ℕ) (d : Z) → length from ≡ length text → n < length text → byte ≡ g (get_or from n d)
    → set (computed g from text n) n byte ≡ computed g from text (n + 1)
computed_more g from text n byte d same within is = computed_suc g from text n byte d same within is ∙ ap (computed g from text) (sym (add-one n))

-- what is read next is still there
computed_next : {Z : Type 0} (g : Z → ℕ) (from : List Z) (text : Bytes) (n d : ℕ) → length from ≡ length text → n < length text → get_or (computed g from text n) n d ≡ get_or text n d
computed_next g [] [] n d same within = absurd (omega (arith, within))
computed_next g [] (x ∷ text) n d same within = absurd (omega (arith, same))
computed_next g (z ∷ from) [] n d same within = absurd (omega (arith, same))
computed_next g (z ∷ from) (x ∷ text) zero d same within = refl
computed_next g (z ∷ from) (x ∷ text) (suc n) d same within = computed_next g from text n d (omega (arith, same)) (omega (arith, within))

-- the same of bytes that are so far
pub next_of : {Z : Type 0} (g : Z → ℕ) (from : List Z) (text bytes : Bytes) (n d : ℕ) → bytes ≡ computed g from text n → length from ≡ length text → n < length text
    → get_or bytes n d ≡ get_or text n d
next_of g from text bytes n d so_far same within = ap (λ (b : Bytes). get_or b n d) so_far ∙ computed_next g from text n d same within

pub more_of : {Z : Type 0} (g : Z → ℕ) (from : List Z) (text bytes : Bytes) (n byte : ℕ) (d : Z) → bytes ≡ computed g from text n → length from ≡ length text → n < length text
    → byte ≡ g (get_or from n d) → set bytes n byte ≡ computed g from text (n + 1)
more_of g from text bytes n byte d so_far same within is = ap (λ (b : Bytes). set b n byte) so_far ∙ computed_more g from text n byte d same within is

pub computed_all : {Z : Type 0} (g : Z → ℕ) (from : List Z) (text : Bytes) (n : ℕ) → length from ≡ length text → length text ≤ n → computed g from text n ≡ map g from
computed_all g from text n same past =
    (λ i. map g (take_all n from (omega (arith, same, past)) i) ++ drop_all n text past i) ∙ append-nil (map g from)

abbrev pub of_both : (ℕ → ℕ → ℕ) → ℕ × ℕ → ℕ
of_both f bytes = f bytes.0 bytes.1

-- two strings of one length side by side
pub length-both : (text others : Bytes) → length others ≡ length text → length (zip text others) ≡ length text
length-both text others same = length-zip text others ∙ omega (arith, same)

pub both_at : (text others : Bytes) (index : ℕ) → length others ≡ length text → index < length text → get_or (zip text others) index (0, 0) ≡ (get_or text index 0, get_or others index 0)
both_at text others index same within = get_or-zip text others index (0, 0) within (omega (arith, within, same))
