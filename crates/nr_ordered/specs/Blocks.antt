-- Items in pieces of memory: their lengths, their bytes one behind the other, and their numbers.
use Rattle.std.specs.Prelude.{◌≡◌, ◌≤◌, ◌<◌, ◌+◌, ◌^◌, ℕ, ℤ, List, [], ◌∷◌, length, take, drop, vec_len, vec_capacity}
use Rattle.nr_model.specs.Bytes.{Bytes}
use Rattle.nr_ordered.specs.declared.lens.Lens.{Lens}
use Rattle.nr_ordered.specs.declared.lens.Lens.TheVariants.{Short, Long}
use Rattle.nr_ordered.specs.Lists.{Item}

-- lengths, in whichever form they are held
abbrev pub lens_in : Lens → List ℕ
lens_in (Short lens) = lens.items
lens_in (Long lens) = lens.items

-- there is room for one more of this size
abbrev pub HasRoom : Lens → ℕ → Type 0
HasRoom (Short lens) n = (n < 2 ^ 16) × (vec_len lens < vec_capacity lens)
HasRoom (Long lens) n = vec_len lens < vec_capacity lens

-- the sum of lengths
abbrev pub total : List ℕ → ℕ
total [] = 0
total (n ∷ lens) = n + total lens

-- the items that these hold
abbrev pub items_in : List ℕ → Bytes → List ℤ → List Item
items_in [] bytes numbers = []
items_in (n ∷ lens) bytes [] = []
items_in (n ∷ lens) bytes (number ∷ numbers) = (take n bytes, number) ∷ items_in lens (drop n bytes) numbers

-- as many lengths as numbers, which take all bytes
pub record IsWhole (lens : List ℕ) (bytes : Bytes) (numbers : List ℤ) : Type 0 where
  pub whole : total lens ≡ length bytes
  pub paired : length lens ≡ length numbers

-- one item at least, and at most 32
pub record IsBlock (lens : List ℕ) (bytes : Bytes) (numbers : List ℤ) : Type 0 where
  pub whole : IsWhole lens bytes numbers
  pub some : 0 < length numbers
  pub few : length numbers ≤ 32
