-- Members that pass a test, chosen one after another.
use Rattle.std.proofs.Common.{◌≡◌, ℕ, zero, suc, ◌-◌, ◌<◌, ◌≤◌, Bool, true, false, cond, List, [], ◌∷◌, ◌++◌, length, take, refl, ap, sym, ◌∙◌, subst, arith, append-nil, append_assoc}
use Rattle.std.specs.Prelude.{filter}
use Rattle.std.proofs.lemmas.List.{length_push, take_all}
use Rattle.nr_model.specs.Bytes.{Bytes}
use Rattle.nr_model.specs.Lists.{limited}

-- what was chosen and what is chosen of the rest is all
pub record Chooses (p : Bytes → Bool) (limit : ℕ) (chosen left whole : List Bytes) : Type 0 where
  pub so_far : chosen ++ take (limit - length chosen) (filter p left) ≡ whole
  pub few : length chosen ≤ limit

take_nil : {A : Type 0} (n : ℕ) → take {A = A} n [] ≡ []
take_nil zero = refl
take_nil (suc n) = refl

pub none_chosen : (p : Bytes → Bool) (limit : ℕ) (all : List Bytes) → Chooses p limit [] all (take limit (filter p all))
none_chosen p limit all =
    let whole : limit - 0 ≡ limit = omega arith in
    record { so_far = ap (λ n. take n (filter p all)) whole; few = omega arith }

pub enough_chosen : (p : Bytes → Bool) (limit : ℕ) (chosen left whole : List Bytes) → length chosen ≡ limit → Chooses p limit chosen left whole → chosen ≡ whole
enough_chosen p limit chosen left whole enough chooses =
    let none : limit - length chosen ≡ 0 = omega (arith, enough) in
    sym (append-nil chosen) ∙ ap (λ n. chosen ++ take n (filter p left)) (sym none) ∙ chooses.so_far

pub all_chosen : (p : Bytes → Bool) (limit : ℕ) (chosen left whole : List Bytes) → left ≡ [] → Chooses p limit chosen left whole → chosen ≡ whole
all_chosen p limit chosen left whole none chooses =
    sym (append-nil chosen) ∙ ap (λ xs. chosen ++ xs) (sym (ap (λ xs. take (limit - length chosen) (filter p xs)) none ∙ take_nil (limit - length chosen)))
    ∙ chooses.so_far

pub one_chosen : (p : Bytes → Bool) (limit : ℕ) (chosen new items : List Bytes) (x : Bytes) (left whole : List Bytes) → items ≡ x ∷ left → p x ≡ true → length chosen < limit
    → new ≡ chosen ++ x ∷ [] → Chooses p limit chosen items whole → Chooses p limit new left whole
one_chosen p limit chosen new items x left whole is passes fewer pushed chooses =
    let one : limit - length chosen ≡ suc (limit - length (chosen ++ x ∷ [])) = omega (arith, fewer, length_push chosen x) in
    subst (λ (new : List Bytes). Chooses p limit new left whole) (sym pushed) (record {
      so_far = append_assoc chosen (x ∷ []) (take (limit - length (chosen ++ x ∷ [])) (filter p left))
          ∙ ap (λ xs. chosen ++ xs) (sym (ap (λ n. take n (x ∷ filter p left)) one))
          ∙ ap (λ b. chosen ++ take (limit - length chosen) (cond b (x ∷ filter p left) (filter p left))) (sym passes)
          ∙ ap (λ xs. chosen ++ take (limit - length chosen) (filter p xs)) (sym is)
          ∙ chooses.so_far;
      few = omega (arith, fewer, length_push chosen x);
    })

fewer_pass : (p : Bytes → Bool) (xs : List Bytes) → length (filter p xs) ≤ length xs
fewer_pass p [] = omega arith
fewer_pass p (x ∷ xs) =
    let more = fewer_pass p xs in
    elim (p x) as (λ b. length (cond b (x ∷ filter p xs) (filter p xs)) ≤ length (x ∷ xs)) [ true ↦ omega (arith, more) | false ↦ omega (arith, more) ]

pub within_limit : (p : Bytes → Bool) (xs : List Bytes) (n : ℕ) → length xs ≤ n → length (filter p xs) ≤ n
within_limit p xs n long = omega (arith, long, fewer_pass p xs)

-- a limit of 0 is none
pub no_limit : (most n : ℕ) (xs : List Bytes) → most ≡ 0 → length xs ≤ n → limited most xs ≡ take n xs
no_limit zero n xs none few = sym (take_all n xs few)
no_limit (suc most) n xs none few = absurd (omega (arith, none))

pub some_limit : (most : ℕ) (xs : List Bytes) → (most ≡ 0 → ⊥) → limited most xs ≡ take most xs
some_limit zero xs some = absurd (some refl)
some_limit (suc most) xs some = refl
