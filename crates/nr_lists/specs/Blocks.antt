-- Places among blocks: a block, and a place in it.
use Rattle.std.specs.Prelude.{◌≡◌, ℕ, ◌+◌, ◌<◌, ◌^◌, List, [], ◌++◌, length, take, drop, slice_index_or}
use Rattle.nr_model.specs.Bytes.{Bytes}
use Rattle.nr_lists.specs.Packed.{joined}

-- the items of a block
abbrev pub block_at : List (List Bytes) → ℕ → List Bytes
block_at blocks block = slice_index_or blocks block []

-- the items in front of a place
abbrev pub before : List (List Bytes) → ℕ → ℕ → List Bytes
before blocks block place = joined (take block blocks) ++ take place (block_at blocks block)

-- those from it on
abbrev pub behind : List (List Bytes) → ℕ → ℕ → List Bytes
behind blocks block place = drop place (block_at blocks block) ++ joined (drop (block + 1) blocks)

-- so many items, and few enough to be counted
pub record IsCounted (len : ℕ) (blocks : List (List Bytes)) : Type 0 where
  pub counted : len ≡ length (joined blocks)
  pub few : len < 2 ^ 63
