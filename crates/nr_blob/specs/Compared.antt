-- Numbers that are read from bytes, and lie as the bytes do.
use Rattle.std.specs.Prelude.{◌≡◌, ◌≢◌, ℕ, List, take}
use Rattle.std.specs.Ordering.{nat_cmp}
use Rattle.std.specs.Cmp.Lexicographic.{slice_cmp}

-- one number was read from each, so that two that differ lie as all the bytes do, and equal ones say that the first n bytes are the same
pub record Settles (left right : List ℕ) (n first second : ℕ) : Type 0 where
  pub apart : (first ≢ second) → slice_cmp nat_cmp left right ≡ nat_cmp first second
  pub alike : first ≡ second → take n left ≡ take n right
