-- Words two by two.
use Rattle.std.proofs.Common.{arith, ◌+◌, ◌≡◌, ℕ, ◌%◌, ◌==◌, cond, Bool, true, false, List, [], ◌∷◌, length, refl, ap, sym, ◌∙◌, suc}
use Rattle.std.proofs.Math.Nat.{add-mod_left}
use Rattle.std.specs.Prelude.{Option, Some, None, option_map}
use Rattle.nr_model.specs.Bytes.{Bytes}
use Rattle.nr_model.specs.Commands.Strings.{pairs}
use Rattle.nr_key_commands.specs.Pairs.{couples}

abbrev pub with_pair : Bytes → Bytes → Option (List (Bytes × Bytes)) → Option (List (Bytes × Bytes))
with_pair name text others = option_map (λ others. (name, text) ∷ others) others

mapped : (b : Bool) (name text : Bytes) (others : List (Bytes × Bytes)) → with_pair name text (cond b (Some others) None) ≡ cond b (Some ((name, text) ∷ others)) None
mapped true name text others = refl
mapped false name text others = refl

two_more : (n : ℕ) → suc (suc n) % 2 ≡ n % 2
two_more n = let sum : suc (suc n) ≡ 2 + n = omega arith in ap (λ k. k % 2) sum ∙ add-mod_left 2 n

-- an even number of words is so many pairs, and an odd number is none
pub pairs_couples : (words : List Bytes) → pairs words ≡ cond (length words % 2 == 0) (Some (couples words)) None
pairs_couples [] = refl
pairs_couples (name ∷ []) = refl
pairs_couples (name ∷ text ∷ words) =
    ap (with_pair name text) (pairs_couples words)
    ∙ mapped (length words % 2 == 0) name text (couples words)
    ∙ ap (λ n. cond (n == 0) (Some ((name, text) ∷ couples words)) None) (sym (two_more (length words)))
