-- Strings joined by parts: the bytes that both have, and those behind the shorter.
use Rattle.std.proofs.Common.{◌≡◌, ℕ, zero, suc, ◌+◌, ◌-◌, ◌≤◌, [], ◌∷◌, ◌++◌, length, take, drop, map, zip, replicate, refl, ap, sym, ◌∙◌, arith, ◌⊎◌, inl, inr, append-nil, take_all}
use Rattle.std.proofs.lemmas.List.{length-append, length-take, drop_at, drop_all, take_at, length-map}
use Rattle.std.proofs.lemmas.Slice.Zip.{length-zip}
use borrow.Rule.Slice.PartMut.{put_mid}
use Rattle.std.specs.Prelude.{bit_and, bit_or, bit_xor}
use Rattle.std.specs.Int.Bits.{and_zero_r, or_zero_r, xor_zero_r}
use Rattle.nr_model.specs.Bytes.{Bytes}
use Rattle.nr_model.specs.Strings.{padded, joined_two}
use Rattle.nr_strings.specs.declared.joins.BitOperation.{BitOperation}
use Rattle.nr_strings.specs.declared.joins.BitOperation.TheVariants.{And, Or, Xor}
use Rattle.nr_strings.specs.Joins.{function_of}

none_left : (bytes : Bytes) → replicate (length bytes) 0 ≡ map (λ byte. bit_and byte 0) bytes
none_left [] = refl
none_left (byte ∷ bytes) = λ i. sym (and_zero_r byte) i ∷ none_left bytes i

all_left : (bytes : Bytes) → bytes ≡ map (λ byte. bit_or byte 0) bytes
all_left [] = refl
all_left (byte ∷ bytes) = λ i. sym (or_zero_r byte) i ∷ all_left bytes i

all_stand : (bytes : Bytes) → bytes ≡ map (λ byte. bit_xor byte 0) bytes
all_stand [] = refl
all_stand (byte ∷ bytes) = λ i. sym (xor_zero_r byte) i ∷ all_stand bytes i

-- what each operation makes of bytes with zero bytes
pub cleared : (operation : BitOperation) (new bytes : Bytes) → operation ≡ And → new ≡ replicate (length bytes) 0 → new ≡ map (λ byte. function_of operation byte 0) bytes
cleared operation new bytes is set = set ∙ none_left bytes ∙ ap (λ it. map (λ byte. function_of it byte 0) bytes) (sym is)

pub kept : (operation : BitOperation) (bytes : Bytes) → (operation ≡ Or) ⊎ (operation ≡ Xor) → bytes ≡ map (λ byte. function_of operation byte 0) bytes
kept operation bytes (inl is) = all_left bytes ∙ ap (λ it. map (λ byte. function_of it byte 0) bytes) (sym is)
kept operation bytes (inr is) = all_stand bytes ∙ ap (λ it. map (λ byte. function_of it byte 0) bytes) (sym is)

none : (m n : ℕ) → m ≤ n → m - n ≡ 0
none m n h = omega (arith, h)

nothing_more : (n : ℕ) (text : Bytes) → n ≤ length text → padded n text ≡ text
nothing_more n text enough = ap (λ k. text ++ replicate k 0) (none n (length text) enough) ∙ append-nil text

with_zeros : (f : ℕ → ℕ → ℕ) (text : Bytes) (k : ℕ) → length text ≡ k → map (λ both. f both.0 both.1) (zip text (replicate k 0)) ≡ map (λ byte. f byte 0) text
with_zeros f [] k is = refl
with_zeros f (byte ∷ text) zero is = absurd (omega (arith, is))
with_zeros f (byte ∷ text) (suc k) is = ap (λ bytes. f byte 0 ∷ bytes) (with_zeros f text k (omega (arith, is)))

by_parts : (f : ℕ → ℕ → ℕ) (text other : Bytes) (k : ℕ) → length text ≡ length other + k
    → map (λ both. f both.0 both.1) (zip text (other ++ replicate k 0)) ≡ map (λ both. f both.0 both.1) (zip (take (length other) text) other) ++ map (λ byte. f byte 0) (drop (length other) text)
by_parts f text [] k is = with_zeros f text k (omega (arith, is))
by_parts f [] (o ∷ other) k is = absurd (omega (arith, is))
by_parts f (byte ∷ text) (o ∷ other) k is = ap (λ bytes. f byte o ∷ bytes) (by_parts f text other k (omega (arith, is)))

pub joined_parts : (f : ℕ → ℕ → ℕ) (text other : Bytes) → length other ≤ length text
    → map (λ both. f both.0 both.1) (zip (take (length other) text) other) ++ map (λ byte. f byte 0) (drop (length other) text) ≡ joined_two f text other
joined_parts f text other shorter =
    sym (by_parts f text other (length text - length other) (omega (arith, shorter)))
    ∙ ap (λ bytes. map (λ both. f both.0 both.1) (zip bytes (other ++ replicate (length text - length other) 0))) (sym (nothing_more (length other) text shorter))

-- what is written behind a front
put_behind : (front back new : Bytes) (n k : ℕ) → length front ≡ n → length back ≡ k → put_mid n k (front ++ back) new ≡ front ++ new
put_behind front back new n k is rest =
    (λ i. take_at front back n is i ++ (new ++ drop k (drop_at front back n is i)))
    ∙ (λ i. front ++ (new ++ drop_all k back (omega (arith, rest)) i))
    ∙ ap (λ bytes. front ++ bytes) (append-nil new)

long_as : (f : ℕ → ℕ → ℕ) (text other : Bytes) → length other ≤ length text → length (map (λ both. f both.0 both.1) (zip (take (length other) text) other)) ≡ length other
long_as f text other shorter =
    length-map (zip (take (length other) text) other) (λ both. f both.0 both.1)
    ∙ length-zip (take (length other) text) other
    ∙ omega (arith, shorter, length-take (length other) text)

pub joined_behind : (f : ℕ → ℕ → ℕ) (text other front new : Bytes) (k : ℕ) → length other ≤ length text
    → front ≡ map (λ both. f both.0 both.1) (zip (take (length other) text) other)
    → k ≡ length (front ++ drop (length other) text) - length other
    → new ≡ map (λ byte. f byte 0) (take k (drop (length other) (front ++ drop (length other) text)))
    → put_mid (length other) k (front ++ drop (length other) text) new ≡ joined_two f text other
joined_behind f text other front new k shorter joined_is k_is left_is =
    let n = length other in
    let back = drop n text in
    let is : length front ≡ n = ap length joined_is ∙ long_as f text other shorter in
    let rest : length back ≡ k = omega (arith, length-append front back, is, k_is) in
    put_behind front back new n k is rest
    ∙ (λ i. joined_is i ++ (left_is ∙ ap (λ bytes. map (λ byte. f byte 0) (take k bytes)) (drop_at front back n is) ∙ ap (map (λ byte. f byte 0)) (take_all k back (omega (arith, rest)))) i)
    ∙ joined_parts f text other shorter
