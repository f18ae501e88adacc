-- Items in one piece of bytes.
use Rattle.std.specs.Prelude.{◌≡◌, ◌&&◌, ℕ, ◌+◌, Bool, nat_le, nat_lt, List, [], ◌∷◌, ◌++◌, length, take, drop, if◌then◌else◌}
use Rattle.nr_model.specs.Bytes.{Bytes}

-- lists one after another
abbrev pub joined : {A : Type 0} → List (List A) → List A
joined [] = []
joined (xs ∷ xss) = xs ++ joined xss

-- the sum of lengths
abbrev pub total : List ℕ → ℕ
total [] = 0
total (n ∷ lens) = n + total lens

-- bytes cut into pieces of these lengths
abbrev pub cut : List ℕ → Bytes → List Bytes
cut [] bytes = []
cut (n ∷ lens) bytes = take n bytes ∷ cut lens (drop n bytes)

-- the lengths of the items in so many bytes: the one of a lone item stands nowhere
abbrev pub lens_of : List ℕ → ℕ → List ℕ
lens_of [] n = n ∷ []
lens_of (m ∷ lens) n = m ∷ lens

-- the items that bytes hold
abbrev pub items_in : List ℕ → Bytes → List Bytes
items_in lens bytes = cut (lens_of lens (length bytes)) bytes

-- the items take all bytes
pub record IsWhole (lens : List ℕ) (bytes : Bytes) : Type 0 where
  pub whole : total (lens_of lens (length bytes)) ≡ length bytes

-- whether an item is short enough, and the items of a block few and short enough, for it to be put in with them
abbrev pub has_room : ℕ → ℕ → ℕ → Bool
has_room items bytes item =
    nat_le item 1024 && (nat_lt items 256 && nat_le bytes (if nat_le items 1 then 1024 else 4096))
