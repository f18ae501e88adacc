-- A few short items in one block: how many they are, then their lengths, then their bytes.
use Rattle.std.specs.Prelude.{◌≡◌, ◌&&◌, ℕ, Bool, nat_le, nat_lt, List, [], ◌∷◌, length, take, drop}
use Rattle.nr_model.specs.Bytes.{Bytes}
use Rattle.nr_lists.specs.Packed.{total, cut}

-- how many
abbrev pub count_in : Bytes → ℕ
count_in [] = 0
count_in (n ∷ bytes) = n

-- the lengths
abbrev pub lens_in : Bytes → List ℕ
lens_in [] = []
lens_in (n ∷ bytes) = take n bytes

-- the bytes behind them
abbrev pub rest_in : Bytes → Bytes
rest_in [] = []
rest_in (n ∷ bytes) = drop n bytes

-- the items
abbrev pub held_in : Bytes → List Bytes
held_in block = cut (lens_in block) (rest_in block)

-- as many lengths stand there as are counted, and the items take all bytes behind them
pub record IsLaid (block : Bytes) : Type 0 where
  pub counted : count_in block ≡ length (lens_in block)
  pub whole : total (lens_in block) ≡ length (rest_in block)

-- whether an item is short enough, and the others few enough, for it to stand in one block with them
abbrev pub is_small : ℕ → ℕ → Bool
is_small others item = nat_le item 64 && nat_lt others 128
