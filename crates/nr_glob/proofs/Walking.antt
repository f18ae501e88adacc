-- A walk along the parts of a pattern.
use Rattle.std.proofs.Common.{◌≡◌, ℕ, ◌-◌, ◌<◌, ◌≤◌, true, false, List, [], ◌∷◌, length, get_or, take, drop, refl, ap, subst, ◌∙◌, arith}
use Rattle.nr_model.specs.Patterns.{Part, Star, Outside, parts_from, parts_match, some_rest}
use Rattle.nr_glob.specs.Singles.{IsPartFront, IsNoStep, IsStep}
use Rattle.nr_glob.specs.Walks.{is_match, is_match_later, IsToStar}
use Rattle.nr_glob.proofs.Cuts.{first_and_behind}
use Rattle.nr_glob.proofs.Reading.{outside-star}
use Rattle.nr_glob.proofs.Rests.{some_here, some_twice, true_together}

-- Some parts of the pattern have taken a byte each: what is left of it has to match what is left of the text.
pub record IsWalked (pattern_text text rest left : List ℕ) : Type 0 where
  pub here : is_match pattern_text text ≡ is_match rest left
  pub later : is_match_later pattern_text text ≡ true → is_match_later rest left ≡ true

pub walked_none : (pattern_text text : List ℕ) → IsWalked pattern_text text pattern_text text
walked_none pattern_text text = record { here = refl; later = λ h. h }

-- the first part of what is left, and the others
parted : (rest after : List ℕ) (part : Part) → 1 ≤ length rest → IsPartFront Outside (get_or rest 0 0 ∷ take (length rest - 1) (drop 1 rest)) part after
    → parts_from Outside rest ≡ part ∷ parts_from Outside after
parted rest after part h front = ap (parts_from Outside) (first_and_behind rest h) ∙ front

pub walked_on : (pattern_text text rest left after later : List ℕ) (part : Part)
    → IsWalked pattern_text text rest left
    → 1 ≤ length rest
    → IsPartFront Outside (get_or rest 0 0 ∷ take (length rest - 1) (drop 1 rest)) part after
    → IsStep part left later
    → IsWalked pattern_text text after later
walked_on pattern_text text rest left after later part walked h front step =
    let e = parted rest after part h front in
    record {
      here = walked.here ∙ ap (λ (ps : List Part). parts_match ps left) e ∙ step.here (parts_from Outside after);
      later = λ m. step.later (parts_from Outside after) (subst (λ (ps : List Part). some_rest (parts_match ps) left ≡ true) e (walked.later m));
    }

pub walked_no_further : (pattern_text text rest left after : List ℕ) (part : Part)
    → IsWalked pattern_text text rest left
    → 1 ≤ length rest
    → IsPartFront Outside (get_or rest 0 0 ∷ take (length rest - 1) (drop 1 rest)) part after
    → IsNoStep part left
    → is_match pattern_text text ≡ false
walked_no_further pattern_text text rest left after part walked h front none =
    walked.here ∙ ap (λ (ps : List Part). parts_match ps left) (parted rest after part h front) ∙ none (parts_from Outside after)

pub walked_to_star : (pattern_text text rest left : List ℕ)
    → IsWalked pattern_text text rest left
    → 1 ≤ length rest
    → get_or rest 0 0 ≡ 42
    → IsToStar pattern_text text (take (length rest - 1) (drop 1 rest)) left
walked_to_star pattern_text text rest left walked h is =
    let behind = take (length rest - 1) (drop 1 rest) in
    let e : parts_from Outside rest ≡ Star ∷ parts_from Outside behind =
    ap (parts_from Outside) (first_and_behind rest h ∙ ap (λ (b : ℕ). b ∷ behind) is) ∙ outside-star behind
    in
    let here : is_match pattern_text text ≡ is_match_later behind left = walked.here ∙ ap (λ (ps : List Part). parts_match ps left) e in
    record {
      here = here;
      later =
          true_together (is_match_later pattern_text text) (is_match_later behind left)
          (λ m. some_twice (is_match behind) left (subst (λ (ps : List Part). some_rest (parts_match ps) left ≡ true) e (walked.later m)))
          (λ m. some_here (is_match pattern_text) text (here ∙ m));
    }

pub walked_whole : (pattern_text text rest left : List ℕ) → IsWalked pattern_text text rest left → length rest < 1 → length left < 1
    → is_match pattern_text text ≡ true
unfolding parts_from
walked_whole pattern_text text [] [] walked h none = walked.here
walked_whole pattern_text text [] (c ∷ cs) walked h none = absurd (omega arith)
walked_whole pattern_text text (b ∷ bs) left walked h none = absurd (omega arith)

pub walked_less : (pattern_text text rest left : List ℕ) → IsWalked pattern_text text rest left → length rest < 1 → 1 ≤ length left
    → is_match pattern_text text ≡ false
unfolding parts_from
walked_less pattern_text text [] [] walked h some = absurd (omega arith)
walked_less pattern_text text [] (c ∷ cs) walked h some = walked.here
walked_less pattern_text text (b ∷ bs) left walked h some = absurd (omega arith)
