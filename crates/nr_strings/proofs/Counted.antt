-- Set bits, counted byte by byte.
use Rattle.std.proofs.Common.{◌≡◌, ℕ, zero, suc, ◌+◌, ◌-◌, ◌*◌, ◌/◌, ◌%◌, ◌^◌, ◌<◌, ◌≤◌, ℤ, Bool, true, false, eqb, ◌&&◌, inl, inr, List, [], ◌∷◌, ◌++◌, length, take, drop, filter, get_or, bit_and, refl, ap, sym, ◌∙◌, subst, arith, eqb-true, length-append, take-suc, append_assoc, append-nil, add-one, add_assoc, zero-add, drop-drop, take_all, length-drop}
use Rattle.std.specs.Int.Count.{ones as ones_of_number, ones_in}
use Rattle.std.proofs.lemmas.List.Elements.{filter-append}
use Rattle.std.proofs.lemmas.List.{take-append-le}
use Rattle.std.proofs.Math.Seq.{take-append-add, drop-append-add, take-add}
use Rattle.std.proofs.lemmas.Nat.{ones-le}
use Rattle.std.proofs.lemmas.Bool.{and_parts, cases_eq}
use Rattle.nr_model.specs.Bytes.{Bytes}
use Rattle.nr_model.specs.Strings.{bits_of_byte, bits_of, set_bits, ones, byte_at, range, range_start, range_end}

-- a test that holds at each number below another
all_below : (ℕ → Bool) → ℕ → Bool
all_below test zero = true
all_below test (suc n) = test n && all_below test n

at_each : (test : ℕ → Bool) (n k : ℕ) → all_below test n ≡ true → k < n → test k ≡ true
unfolding all_below
at_each test zero k all within = absurd (omega (arith, within))
at_each test (suc n) k all within =
    let parts = and_parts (test n) (all_below test n) all in
    elim (cases_eq k n) [
      | inl same ↦ subst (λ m. test m ≡ true) (sym same) parts.0
      | inr other ↦ at_each test n k parts.1 (omega (arith, within, other))
    ]

counts_byte : ℕ → Bool
unfolding ones_of_number ones_in
counts_byte byte = eqb (ones_of_number byte) (set_bits (bits_of_byte byte))

counts_front : ℕ → ℕ → Bool
unfolding ones_of_number ones_in
counts_front byte n = eqb (ones_of_number (bit_and byte (255 - 255 / 2 ^ n))) (set_bits (take n (bits_of_byte byte)))

all_bytes : all_below counts_byte 256 ≡ true
unfolding ones_of_number ones_in counts_byte all_below
all_bytes = refl

all_fronts : all_below (λ byte. all_below (counts_front byte) 8) 256 ≡ true
unfolding ones_of_number ones_in counts_front all_below
all_fronts = refl

byte_count : (byte : ℕ) → byte < 256 → ones_of_number byte ≡ set_bits (bits_of_byte byte)
unfolding counts_byte
byte_count byte within = eqb-true _ _ (at_each counts_byte 256 byte all_bytes within)

pub front_count : (byte n : ℕ) → byte < 256 → n < 8 → ones_of_number (bit_and byte (255 - 255 / 2 ^ n)) ≡ set_bits (take n (bits_of_byte byte))
unfolding counts_front
front_count byte n within front =
    eqb-true _ _ (at_each (counts_front byte) 8 n (at_each (λ b. all_below (counts_front b) 8) 256 byte all_fronts within) front)

-- rows of bits behind one another
set_bits-append : (first second : List Bool) → set_bits (first ++ second) ≡ set_bits first + set_bits second
set_bits-append first second = ap length (filter-append (λ bit. bit) first second) ∙ length-append (filter (λ bit. bit) first) (filter (λ bit. bit) second)

bits-append : (first second : Bytes) → bits_of (first ++ second) ≡ bits_of first ++ bits_of second
bits-append [] second = refl
bits-append (byte ∷ first) second = ap (λ bits. bits_of_byte byte ++ bits) (bits-append first second) ∙ sym (append_assoc (bits_of_byte byte) (bits_of first) (bits_of second))

length-bits : (text : Bytes) → length (bits_of text) ≡ length text * 8
length-bits [] = refl
length-bits (byte ∷ text) = omega (arith, length-bits text)

ones-append : (first second : Bytes) → ones (first ++ second) ≡ ones first + ones second
ones-append first second = ap set_bits (bits-append first second) ∙ set_bits-append (bits_of first) (bits_of second)

ones_single : (byte : ℕ) → byte < 256 → ones (byte ∷ []) ≡ ones_of_number byte
ones_single byte within = ap set_bits (append-nil (bits_of_byte byte)) ∙ sym (byte_count byte within)

-- one byte further
pub ones_more : (text : Bytes) (n d : ℕ) → n < length text → get_or text n d < 256 → ones (take (n + 1) text) ≡ ones (take n text) + ones_of_number (get_or text n d)
ones_more text n d within fits =
    ap (λ k. ones (take k text)) (add-one n)
    ∙ ap ones (take-suc text n d within)
    ∙ ones-append (take n text) (get_or text n d ∷ [])
    ∙ ap (λ k. ones (take n text) + k) (ones_single (get_or text n d) fits)

pub ones_of_byte : (byte : ℕ) → byte < 256 → ones_of_number byte ≤ 8
ones_of_byte byte within = ones-le 8 byte within

-- the first bits: those of whole bytes, and the first of one more
whole_and_ragged : (text : Bytes) (w k : ℕ) → k < 8 → w * 8 + k ≤ length text * 8
    → ones (take w text) + set_bits (take k (bits_of_byte (get_or text w 0))) ≡ set_bits (take (w * 8 + k) (bits_of text))
whole_and_ragged [] zero zero ragged within = refl
whole_and_ragged [] zero (suc k) ragged within = absurd (omega (arith, within))
whole_and_ragged [] (suc w) k ragged within = absurd (omega (arith, within))
whole_and_ragged (byte ∷ text) zero k ragged within =
    let short : k ≤ 8 = omega (arith, ragged) in
    zero-add (set_bits (take k (bits_of_byte byte)))
    ∙ sym (ap set_bits (take-append-le k (bits_of_byte byte) (bits_of text) short))
    ∙ ap (λ n. set_bits (take n (bits_of (byte ∷ text)))) (omega arith)
whole_and_ragged (byte ∷ text) (suc w) k ragged within =
    let front : Bytes = take w text in
    let first = bits_of_byte byte in
    let last = take k (bits_of_byte (get_or text w 0)) in
    let more = whole_and_ragged text w k ragged (omega (arith, within)) in
    ap (λ n. n + set_bits last) (set_bits-append first (bits_of front))
    ∙ add_assoc (set_bits first) (ones front) (set_bits last)
    ∙ ap (λ n. set_bits first + n) more
    ∙ sym (set_bits-append first (take (w * 8 + k) (bits_of text)))
    ∙ ap set_bits (sym (take-append-add first (bits_of text) (w * 8 + k)))
    ∙ ap (λ n. set_bits (take n (bits_of (byte ∷ text)))) (omega arith)

before : (text : Bytes) (n : ℕ) → n ≤ length text * 8
    → ones (take (n / 8) text) + set_bits (take (n % 8) (bits_of_byte (byte_at text (n / 8)))) ≡ set_bits (take n (bits_of text))
before text n within =
    let whole : n / 8 * 8 + n % 8 ≡ n = omega arith in
    whole_and_ragged text (n / 8) (n % 8) (omega arith) (omega (arith, within)) ∙ ap (λ m. set_bits (take m (bits_of text))) whole

pub counted_before : (text : Bytes) (n whole byte ragged : ℕ) → n ≤ length text * 8 → whole ≡ ones (take (n / 8) text) → byte ≡ byte_at text (n / 8)
    → ragged ≡ set_bits (take (n % 8) (bits_of_byte byte)) → whole + ragged ≡ set_bits (take n (bits_of text))
counted_before text n whole byte ragged within whole_is byte_is ragged_is =
    (λ i. whole_is i + (ragged_is ∙ ap (λ (b : ℕ). set_bits (take (n % 8) (bits_of_byte b))) byte_is) i) ∙ before text n within

-- bits behind whole bytes
drop_none : (n : ℕ) → drop n (bits_of []) ≡ []
drop_none zero = refl
drop_none (suc n) = refl

drop_bits : (text : Bytes) (w : ℕ) → drop (w * 8) (bits_of text) ≡ bits_of (drop w text)
drop_bits text zero = refl
drop_bits [] (suc w) = drop_none (suc w * 8)
drop_bits (byte ∷ text) (suc w) =
    ap (λ n. drop n (bits_of (byte ∷ text))) (omega arith)
    ∙ drop-append-add (bits_of_byte byte) (bits_of text) (w * 8)
    ∙ drop_bits text w

split : (start end whole k : ℕ) → whole + k ≡ start → start ≤ end → end - whole ≡ k + (end - start)
split start end whole k is order = omega (arith, is, order)

-- the bits of a range: those up to its end without those before its start, both behind whole bytes
between_parts : (text : Bytes) (start end w k : ℕ) → w * 8 + k ≡ start → start ≤ end
    → set_bits (take (end - w * 8) (bits_of (drop w text))) ≡ set_bits (take k (bits_of (drop w text))) + set_bits (take (end - start) (drop start (bits_of text)))
between_parts text start end w k is order =
    let bits = bits_of (drop w text) in
    ap (λ n. set_bits (take n bits)) (split start end (w * 8) k is order)
    ∙ ap set_bits (take-add k (end - start) bits)
    ∙ set_bits-append (take k bits) (take (end - start) (drop k bits))
    ∙ ap (λ (rest : List Bool). set_bits (take k bits) + set_bits (take (end - start) rest))
    (ap (drop k) (sym (drop_bits text w)) ∙ drop-drop k (w * 8) (bits_of text) ∙ ap (λ n. drop n (bits_of text)) is)

between : (text : Bytes) (start end : ℕ) → start ≤ end
    → set_bits (take (end - start / 8 * 8) (bits_of (drop (start / 8) text)))
    ≡ set_bits (take (start % 8) (bits_of (drop (start / 8) text))) + set_bits (take (end - start) (drop start (bits_of text)))
between text start end order = between_parts text start end (start / 8) (start % 8) (omega arith) order

rest_of : (text : Bytes) (n : ℕ) → take (length text - n) (drop n text) ≡ drop n text
rest_of text n = take_all (length text - n) (drop n text) (omega (arith, length-drop n text))

-- the same where both were counted in the bytes from one on
pub counted_between : (text : Bytes) (start end whole ragged : ℕ) → start ≤ end
    → whole ≡ set_bits (take (end - start / 8 * 8) (bits_of (take (length text - start / 8) (drop (start / 8) text))))
    → ragged ≡ set_bits (take (start % 8) (bits_of (take (length text - start / 8) (drop (start / 8) text))))
    → whole ≡ ragged + set_bits (take (end - start) (drop start (bits_of text)))
counted_between text start end whole ragged order whole_is ragged_is =
    whole_is
    ∙ ap (λ (part : Bytes). set_bits (take (end - start / 8 * 8) (bits_of part))) (rest_of text (start / 8))
    ∙ between text start end order
    ∙ ap (λ n. n + set_bits (take (end - start) (drop start (bits_of text))))
    (sym (ragged_is ∙ ap (λ (part : Bytes). set_bits (take (start % 8) (bits_of part))) (rest_of text (start / 8))))

less : (n k m : ℕ) → n ≡ k + m → n - k ≡ m
less n k m is = omega (arith, is)

pub difference : (text : Bytes) (start end whole ragged : ℕ) → start ≤ end
    → whole ≡ set_bits (take (end - start / 8 * 8) (bits_of (take (length text - start / 8) (drop (start / 8) text))))
    → ragged ≡ set_bits (take (start % 8) (bits_of (take (length text - start / 8) (drop (start / 8) text))))
    → whole - ragged ≡ set_bits (take (end - start) (drop start (bits_of text)))
difference text start end whole ragged order whole_is ragged_is = less _ _ _ (counted_between text start end whole ragged order whole_is ragged_is)

-- no more bits are set than there are
pub set_bits_bound : (bits : List Bool) (n : ℕ) → set_bits (take n bits) ≤ n
set_bits_bound bits zero = omega arith
set_bits_bound [] (suc n) = omega arith
set_bits_bound (true ∷ bits) (suc n) = omega (arith, set_bits_bound bits n)
set_bits_bound (false ∷ bits) (suc n) = omega (arith, set_bits_bound bits n)

-- ranges
range_of_bits : (text : Bytes) (first last : ℤ) (start end : ℕ) → start ≡ range_start (length text * 8) first → end ≡ range_end (length text * 8) last
    → set_bits (take (end - start) (drop start (bits_of text))) ≡ set_bits (range first last (bits_of text))
range_of_bits text first last start end start_is end_is =
    let starts : start ≡ range_start (length (bits_of text)) first = start_is ∙ ap (λ n. range_start n first) (sym (length-bits text)) in
    let ends : end ≡ range_end (length (bits_of text)) last = end_is ∙ ap (λ n. range_end n last) (sym (length-bits text)) in
    λ i. set_bits (take (ends i - starts i) (drop (starts i) (bits_of text)))

nothing : (end start : ℕ) → end < start → 0 ≡ end - start
nothing end start before = omega (arith, before)

pub counted_none : (text : Bytes) (first last : ℤ) (len start end : ℕ) → len ≡ length text → start ≡ range_start (len * 8) first → end ≡ range_end (len * 8) last → end < start
    → 0 ≡ set_bits (range first last (bits_of text))
counted_none text first last len start end len_is start_is end_is before =
    ap (λ n. set_bits (take n (drop start (bits_of text)))) (nothing end start before)
    ∙ range_of_bits text first last start end (start_is ∙ ap (λ n. range_start (n * 8) first) len_is) (end_is ∙ ap (λ n. range_end (n * 8) last) len_is)

pub counted_range : (text : Bytes) (first last : ℤ) (len start end counted : ℕ) → len ≡ length text → start ≡ range_start (len * 8) first → end ≡ range_end (len * 8) last
    → counted ≡ set_bits (take (end - start) (drop start (bits_of text))) → counted ≡ set_bits (range first last (bits_of text))
counted_range text first last len start end counted len_is start_is end_is counted_is =
    counted_is ∙ range_of_bits text first last start end (start_is ∙ ap (λ n. range_start (n * 8) first) len_is) (end_is ∙ ap (λ n. range_end (n * 8) last) len_is)
