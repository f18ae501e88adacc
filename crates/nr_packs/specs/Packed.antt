-- Pairs in packed bytes: each field, then its value, each with its length in the byte in front of it.
use Rattle.std.specs.Prelude.{◌≡◌, ◌≤◌, ◌&&◌, ◌+◌, ◌*◌, slice_index, Bool, nat_le, ℕ, zero, suc, List, [], ◌∷◌, ◌++◌, length, take, drop, cond, leb, Option, Some, None}
use Rattle.nr_model.specs.Bytes.{Bytes}

-- fields, each with its value
abbrev pub Entries : Type 0
Entries = List (Bytes × Bytes)

-- a word as it is stored
abbrev pub word : Bytes → Bytes
word bytes = length bytes ∷ bytes

-- pairs as they are stored
abbrev pub packed : Entries → Bytes
packed [] = []
packed (e ∷ es) = word e.0 ++ (word e.1 ++ packed es)

-- the word that stands first, and what is behind it
abbrev pub first_word : Bytes → Option (Bytes × Bytes)
first_word [] = None
first_word (n ∷ bytes) = cond (leb n (length bytes)) (Some (take n bytes, drop n bytes)) None

abbrev pub with_value : Bytes → Option (Bytes × Bytes) → Option (Bytes × Bytes × Bytes)
with_value field None = None
with_value field (Some found) = Some (field, found.0, found.1)

abbrev pub pair_from : Option (Bytes × Bytes) → Option (Bytes × Bytes × Bytes)
pair_from None = None
pair_from (Some found) = with_value found.0 (first_word found.1)

-- the pair that stands first, and what is behind it
abbrev pub first_pair : Bytes → Option (Bytes × Bytes × Bytes)
first_pair bytes = pair_from (first_word bytes)

-- the count that stands in front of pairs, in two bytes, the lower one first
abbrev pub count_in : Bytes → ℕ
count_in bytes = slice_index bytes 0 + 256 * slice_index bytes 1

-- at most so many pairs
unfoldable pub most_entries : ℕ → Bytes → Entries
most_entries zero bytes = []
most_entries (suc n) bytes = elim (first_pair bytes) [ None ↦ [] | Some pair ↦ (pair.0, pair.1) ∷ most_entries n pair.2 ]

-- the pairs that bytes hold
unfoldable pub entries_in : Bytes → Entries
entries_in bytes = most_entries (length bytes) bytes

-- no field and no value has more than 255 bytes, so that its length is one byte
abbrev pub AreShort : Entries → Type 0
AreShort [] = Unit {0}
AreShort (e ∷ es) = (length e.0 ≤ 255) × (length e.1 ≤ 255) × AreShort es

-- so many pairs, few and short, and nothing else
pub record IsPacked (pairs : ℕ) (bytes : Bytes) : Type 0 where
  pub stored : packed (entries_in bytes) ≡ bytes
  pub counted : pairs ≡ length (entries_in bytes)
  pub few : pairs ≤ 512
  pub short : AreShort (entries_in bytes)

-- whether so many pairs are few, and a field and a value have at most so many bytes
abbrev pub fits : ℕ → ℕ → Bytes → Bytes → Bool
fits most pairs field value = nat_le (length field) most && (nat_le (length value) most && nat_le pairs 512)
