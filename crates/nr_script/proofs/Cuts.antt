-- What stands before and behind the first byte of a kind.
use Rattle.std.proofs.Common.{◌≡◌, ℕ, ◌+◌, ◌-◌, suc, Bool, true, false, ltb, cond, [], ◌∷◌, length, take, drop, Option, Some, None, refl, sym, ap, ◌∙◌, arith, inl, inr}
use Rattle.std.specs.Prelude.{◌==◌, not, option_map}
use Rattle.std.specs.List.{position, position_or_len}
use Rattle.std.proofs.lemmas.Bool.{cases_lt, lt-ltb, le-ltb}
use Rattle.std.proofs.lemmas.List.{take_all, length-drop}
use Rattle.nr_model.specs.Bytes.{Bytes}
use Rattle.nr_script.specs.Lines.{parted}

-- the two parts at an index
abbrev parts_at : Bytes → Option ℕ → Option (Bytes × Bytes)
parts_at text index = option_map (λ i. (take i text, drop (suc i) text)) index

abbrev behind : ℕ → Option (Bytes × Bytes) → Option (Bytes × Bytes)
behind c parts = option_map (λ (x : Bytes × Bytes). (c ∷ x.0, x.1)) parts

-- the first index, where it is one
abbrev within : ℕ → ℕ → Option ℕ
within n len = cond (ltb n len) (Some n) None

chosen : ℕ → Bool → Option ℕ
chosen n b = cond b (Some n) None

one_further : (c : ℕ) (rest : Bytes) (n : ℕ) (b : Bool) → behind c (parts_at rest (cond b (Some n) None)) ≡ parts_at (c ∷ rest) (cond b (Some (suc n)) None)
one_further c rest n true = refl
one_further c rest n false = refl

same_test : (n len : ℕ) → ltb (1 + n) (suc len) ≡ ltb n len
same_test n len =
    elim (cases_lt n len) [
      | inl lt ↦ lt-ltb (1 + n) (suc len) (omega arith) ∙ sym (lt-ltb n len lt)
      | inr ge ↦ le-ltb (1 + n) (suc len) (omega arith) ∙ sym (le-ltb n len ge)
    ]

further : (c : ℕ) (rest : Bytes) (n : ℕ) → behind c (parts_at rest (within n (length rest))) ≡ parts_at (c ∷ rest) (within (1 + n) (suc (length rest)))
further c rest n =
    let next : suc n ≡ 1 + n = omega arith in
    one_further c rest n (ltb n (length rest))
    ∙ ap (λ b. parts_at (c ∷ rest) (cond b (Some (suc n)) None)) (sym (same_test n (length rest)))
    ∙ ap (λ m. parts_at (c ∷ rest) (cond (ltb (1 + n) (suc (length rest))) (Some m) None)) next

here : (c : ℕ) (rest : Bytes) → Some ([], rest) ≡ parts_at (c ∷ rest) (within 0 (suc (length rest)))
here c rest = ap (λ b. parts_at (c ∷ rest) (cond b (Some 0) None)) (sym (lt-ltb 0 (suc (length rest)) (omega arith)))

parted-position : (mark : ℕ) (text : Bytes) → parted mark text ≡ parts_at text (position (λ c. c == mark) text)
parted-position mark [] = refl
parted-position mark (c ∷ rest) =
    let n : ℕ = position_or_len (λ c. c == mark) rest in
    let more : parted mark rest ≡ parts_at rest (within n (length rest)) = parted-position mark rest in
    let at = λ (b : Bool). cond b (Some ([], rest)) (behind c (parted mark rest)) ≡ parts_at (c ∷ rest) (within (cond (not b) (1 + n) 0) (suc (length rest))) in
    elim (c == mark) as at [ true ↦ here c rest | false ↦ ap (behind c) more ∙ further c rest n ]

pub no_parts : (mark : ℕ) (text : Bytes) → None ≡ position (λ c. c == mark) text → parted mark text ≡ None
no_parts mark text none = parted-position mark text ∙ ap (parts_at text) (sym none)

pub two_parts : (mark : ℕ) (text : Bytes) (i : ℕ) → Some i ≡ position (λ c. c == mark) text
    → parted mark text ≡ Some (take i text, take (length text - (i + 1)) (drop (i + 1) text))
two_parts mark text i is =
    let whole : take (length text - (i + 1)) (drop (i + 1) text) ≡ drop (i + 1) text = take_all _ _ (omega (arith, length-drop (i + 1) text)) in
    let next : suc i ≡ i + 1 = omega arith in
    parted-position mark text
    ∙ ap (parts_at text) (sym is)
    ∙ ap (λ rest. Some (take i text, rest)) (ap (λ n. drop n text) next ∙ sym whole)
