-- Pairs written over behind their count.
use Rattle.std.proofs.Common.{◌≡◌, ◌+◌, ◌≤◌, ℕ, suc, [], ◌∷◌, ◌++◌, length, take, drop, ◌∙◌, arith}
use Rattle.nr_model.specs.Bytes.{Bytes}
use Rattle.nr_packs.specs.Packed.{count_in}

abbrev Over : ℕ → Bytes → Bytes → Bytes → Type 0
Over start all text new =
    ◌≡◌ {A = ℕ × Bytes} (count_in new, drop 2 new) (count_in all, take start (drop 2 all) ++ (text ++ drop (start + length text) (drop 2 all)))

pub counted_over : (start place : ℕ) (all text new : Bytes) → 2 ≤ length all → place ≡ start + 2
    → new ≡ take place all ++ (text ++ drop (place + length text) all) → Over start all text new
counted_over start place [] text new long at is = absurd (omega (arith, long))
counted_over start place (a ∷ []) text new long at is = absurd (omega (arith, long))
counted_over start place (a ∷ b ∷ rest) text new long at is =
    let here : place ≡ suc (suc start) = omega (arith, at) in
    let behind : place + length text ≡ suc (suc (start + length text)) = omega (arith, at) in
    let whole : new ≡ a ∷ b ∷ (take start rest ++ (text ++ drop (start + length text) rest)) =
    is ∙ (λ i. take (here i) (a ∷ b ∷ rest) ++ (text ++ drop (behind i) (a ∷ b ∷ rest))) in
    λ i. (count_in (whole i), drop 2 (whole i))
