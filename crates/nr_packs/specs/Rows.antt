-- Pairs that are lent, each behind a number that lies as its field does.
use Rattle.std.specs.Prelude.{◌≡◌, ◌+◌, ◌*◌, ◌^◌, ◌<◌, ◌++◌, ℕ, List, map, length, slice_index}
use Rattle.std.specs.List.{All, IsDistinct}
use Rattle.std.specs.Map.{keys_of}
use Rattle.std.specs.declared.cmp.Ordering.{Ordering}
use Rattle.std.specs.Ordering.{eq_by_cmp, nat_cmp, ordering_then}
use Rattle.std.specs.Cmp.Lexicographic.{slice_cmp}
use Rattle.nr_model.specs.Bytes.{Bytes}
use Rattle.nr_model.specs.Keyspace.{byte_cmp}
use Rattle.nr_packs.specs.Packed.{Entries}
use denote.Ref.{Bor}

abbrev pub Row : Type 0
Row = ℕ × Bor Bytes × Bor Bytes

-- the pair of a row
abbrev pub pair_of : Row → Bytes × Bytes
pair_of row = (row.1.now, row.2.now)

abbrev pub pairs_in : List Row → Entries
pairs_in rows = map pair_of rows

-- by their numbers, and where these are the same by their fields
abbrev pub row_cmp : Row → Row → Ordering
row_cmp x y = ordering_then (ordering_then (nat_cmp x.0 y.0) (slice_cmp nat_cmp x.1.now y.1.now)) (slice_cmp nat_cmp x.2.now y.2.now)

-- no field stands twice
abbrev pub AreApart : Entries → Type 0
AreApart es = IsDistinct (eq_by_cmp byte_cmp) (keys_of es)

-- the number that eight bytes spell from a place on, the first one the highest; 0 stands where there are fewer
abbrev pub head : ℕ → Bytes → ℕ
head place xs =
    (((slice_index xs place * 256 + slice_index xs (place + 1)) * 256 + slice_index xs (place + 2)) * 256 + slice_index xs (place + 3)) * 2 ^ 32
    + (((slice_index xs (place + 4) * 256 + slice_index xs (place + 5)) * 256 + slice_index xs (place + 6)) * 256 + slice_index xs (place + 7))

abbrev pub AreBytes : Bytes → Type 0
AreBytes xs = (k : ℕ) → slice_index xs k < 256

-- the number of a row is that of its field behind so many bytes
pub record IsHeaded (skip : ℕ) (row : Row) : Type 0 where
  pub bytes : AreBytes row.1.now
  pub number : row.0 ≡ head skip row.1.now

-- a field begins with these bytes
pub record Begins (front : Bytes) (pair : Bytes × Bytes) : Type 0 where
  pub rest : Bytes
  pub is : pair.0 ≡ front ++ rest

-- all fields begin with the same bytes, which are so many
pub record HaveFront (count : ℕ) (es : Entries) : Type 0 where
  pub front : Bytes
  pub long : length front ≡ count
  pub begin : All (Begins front) es

-- what all fields begin with is passed over, and then come the numbers
pub record AreNumbered (rows : List Row) : Type 0 where
  pub skip : ℕ
  pub fronts : HaveFront skip (pairs_in rows)
  pub heads : All (IsHeaded skip) rows
