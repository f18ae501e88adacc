use Rattle.std.proofs.Common.{◌≡◌, ◌∙◌, ◌++◌, ◌∷◌, [], ap, sym, ℕ, List, map}
use Rattle.std.proofs.lemmas.List.{map-append, append_assoc}

-- One more of the ones that were made stands for the next of those that are left.
pub moved : {X Y : Type 0} (f : X → ℕ) (g : Y → ℕ) (made more : List X) (left rest whole : List Y) (x : X) (y : Y)
    → left ≡ y ∷ rest → more ≡ made ++ x ∷ [] → f x ≡ g y → map f made ++ map g left ≡ map g whole → map f more ++ map g rest ≡ map g whole
moved f g made more left rest whole x y is_left is_more same before =
    ap (λ xs. map f xs ++ map g rest) is_more
    ∙ ap (λ xs. xs ++ map g rest) (map-append f made (x ∷ []))
    ∙ append_assoc (map f made) (f x ∷ []) (map g rest)
    ∙ ap (λ n. map f made ++ n ∷ map g rest) same
    ∙ sym (ap (λ ys. map f made ++ map g ys) is_left)
    ∙ before
