-- A range of a list, cut out of it.
use Rattle.std.proofs.Common.{◌≡◌, ℕ, ◌+◌, ◌-◌, ◌≤◌, List, take, drop, ap, ◌∙◌, arith}
use Rattle.std.proofs.lemmas.List.{drop-take}

-- those behind the range are gone, and then those before it
pub kept : {A : Type 0} (xs : List A) (start end : ℕ) → start ≤ end → drop start (take end xs) ≡ take (end - start) (drop start xs)
kept xs start end order =
    let whole : end ≡ start + (end - start) = omega (arith, order) in
    ap (λ n. drop start (take n xs)) whole ∙ drop-take start (end - start) xs
