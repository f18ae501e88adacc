-- What the commands on strings read and write: ranges of bytes, and bits (Redis command reference, string; ranges own where they differ).
use Rattle.std.specs.Prelude.{ℕ, ◌==◌, not, bit_and, bit_or, ◌+◌, ◌-◌, ◌*◌, ◌/◌, ◌%◌, ◌^◌, suc, Bool, true, false, min, ℤ, pos, negsuc, List, [], ◌∷◌, ◌++◌, length, take, drop, replicate, slice_index_or, map, filter, fold, zip}
use Rattle.nr_model.specs.Bytes.{Bytes}

-- where a range begins: an index below 0 counts from the end, and what is before the first is the first
abbrev pub range_start : ℕ → ℤ → ℕ
range_start n (pos i) = min i n
range_start n (negsuc i) = n - suc i

-- where it ends, the last item counted: what is behind the last is the last
abbrev pub range_end : ℕ → ℤ → ℕ
range_end n (pos j) = min (suc j) n
range_end n (negsuc j) = n - j

-- the items of a range, both ends counted
abbrev pub range : {A : Type 0} → ℤ → ℤ → List A → List A
range i j xs = let start = range_start (length xs) i in take (range_end (length xs) j - start) (drop start xs)

-- the same with zero bytes behind it, up to a length
abbrev pub padded : ℕ → Bytes → Bytes
padded n text = text ++ replicate (n - length text) 0

-- the same with other bytes from an offset on, padded with zero bytes up to there
abbrev pub overwritten : ℕ → Bytes → Bytes → Bytes
overwritten offset written text = take offset (padded offset text) ++ written ++ drop (offset + length written) text

-- the weight of a byte's bit, the highest first, as the bits of a string are counted
abbrev pub bit_weight : ℕ → ℕ
bit_weight k = 128 / (2 ^ k)

-- whether a byte's bit is set, and the byte with that bit set or cleared
abbrev pub is_set : ℕ → ℕ → Bool
is_set byte k = not (bit_and byte (bit_weight k) == 0)

abbrev pub with_bit : ℕ → ℕ → Bool → ℕ
with_bit byte k true = bit_or byte (bit_weight k)
with_bit byte k false = bit_and byte (255 - bit_weight k)

-- the byte at an index, zero behind the end
abbrev pub byte_at : Bytes → ℕ → ℕ
byte_at text index = slice_index_or text index 0

-- the bit of a string at an offset, and the string with that bit set or cleared, padded up to its byte
abbrev pub bit_at : Bytes → ℕ → Bool
bit_at text offset = is_set (byte_at text (offset / 8)) (offset % 8)

abbrev pub with_bit_at : Bytes → ℕ → Bool → Bytes
with_bit_at text offset value = overwritten (offset / 8) (with_bit (byte_at text (offset / 8)) (offset % 8) value ∷ []) text

-- the bits of a byte and those of a string, in the order in which they are counted
abbrev pub bits_of_byte : ℕ → List Bool
bits_of_byte byte = map (is_set byte) (0 ∷ 1 ∷ 2 ∷ 3 ∷ 4 ∷ 5 ∷ 6 ∷ 7 ∷ [])

abbrev pub bits_of : Bytes → List Bool
bits_of [] = []
bits_of (byte ∷ text) = bits_of_byte byte ++ bits_of text

-- how many bits of a row are set, and how many of a string
abbrev pub set_bits : List Bool → ℕ
set_bits bits = length (filter (λ bit. bit) bits)

abbrev pub ones : Bytes → ℕ
ones text = set_bits (bits_of text)

-- two strings joined byte by byte, the shorter padded with zero bytes
abbrev pub joined_two : (ℕ → ℕ → ℕ) → Bytes → Bytes → Bytes
joined_two f a b = map (λ bytes. f bytes.0 bytes.1) (zip (padded (length b) a) (padded (length a) b))

-- any number of strings joined, from the first on: none give the empty string
abbrev pub joined_bits : (ℕ → ℕ → ℕ) → List Bytes → Bytes
joined_bits f [] = []
joined_bits f (text ∷ texts) = fold (joined_two f) text texts

-- a string with each bit turned
abbrev pub inverted : Bytes → Bytes
inverted text = map (λ byte. 255 - byte) text

-- the most bytes that a string may have: 512 MiB
abbrev pub max_len : ℕ
max_len = 512 * (2 ^ 20)
