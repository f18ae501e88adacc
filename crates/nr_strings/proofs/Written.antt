-- Bytes written over others that were padded far enough.
use Rattle.std.proofs.Common.{◌≡◌, ℕ, ◌+◌, ◌-◌, ◌<◌, ◌≤◌, inl, inr, List, [], ◌∷◌, ◌++◌, length, take, drop, replicate, refl, ap, sym, ◌∙◌, arith, subst, append_assoc}
use Rattle.std.specs.Prelude.{slice_set}
use Rattle.std.proofs.lemmas.Bool.{cases_lt}
use Rattle.std.proofs.lemmas.List.{take-append-le, drop-append-le, take-replicate, length-append, length-replicate, length-take, length-drop, take-append-drop, take-set, drop-set}
use Rattle.std.proofs.Math.Seq.{take-append-add, take-append_seam}
use Rattle.std.proofs.Math.ListN.{drop_of_length-le}
use Rattle.std.proofs.Math.Nat.{min-eq_left}
use Rattle.nr_model.specs.Bytes.{Bytes}
use Rattle.nr_model.specs.Strings.{padded, overwritten}

none : (m n : ℕ) → m < n → m - n ≡ 0
none m n h = omega (arith, h)

append-nil : {A : Type 0} (xs : List A) → xs ++ [] ≡ xs
append-nil [] = refl
append-nil (x ∷ xs) = ap (λ ys. x ∷ ys) (append-nil xs)

take_padded : (offset end : ℕ) (text : Bytes) → offset ≤ end → take offset (padded end text) ≡ take offset (padded offset text)
take_padded offset end text h =
    elim (cases_lt offset (length text)) [
      | inl below ↦
          take-append-le offset text (replicate (end - length text) 0) (omega (arith, below)) ∙ sym (take-append-le offset text (replicate (offset - length text) 0) (omega (arith, below)))
      | inr above ↦
          let k = offset - length text in
          let is : offset ≡ length text + k = omega (arith, above) in
          ap (λ n. take n (padded end text)) is
          ∙ take-append-add text (replicate (end - length text) 0) k
          ∙ ap (λ xs. text ++ xs) (take-replicate k (end - length text) 0 (omega (arith, above, h)) ∙ sym (take-replicate k k 0 (omega arith)))
          ∙ sym (take-append-add text (replicate k 0) k)
          ∙ ap (λ n. take n (padded offset text)) (sym is)
    ]

drop_padded : (end : ℕ) (text : Bytes) → drop end (padded end text) ≡ drop end text
drop_padded end text =
    elim (cases_lt end (length text)) [
      | inl below ↦ drop-append-le end text (replicate (end - length text) 0) (omega (arith, below)) ∙ ap (λ n. drop end text ++ replicate n 0) (none end (length text) below) ∙ append-nil (drop end text)
      | inr above ↦
          drop_of_length-le (padded end text) (subst (λ n. n ≤ end) (sym (length-append text (replicate (end - length text) 0) ∙ ap (λ n. length text + n) (length-replicate (end - length text) 0))) (omega (arith, above)))
          ∙ sym (drop_of_length-le text above)
    ]

pub over_padded : (offset : ℕ) (written text : Bytes)
    → take offset (padded (offset + length written) text) ++ written ++ drop (offset + length written) (padded (offset + length written) text) ≡ overwritten offset written text
over_padded offset written text =
    let end = offset + length written in
    λ i. take_padded offset end text (omega arith) i ++ written ++ drop_padded end text i

-- a part that is the whole
pub all_of : (n : ℕ) (over old : Bytes) → n ≡ length old → length over ≡ length old → take n (over ++ drop (length over) old) ≡ over
all_of n over old is same =
    ap (λ m. take m (over ++ drop (length over) old)) (is ∙ sym same) ∙ take-append_seam over (drop (length over) old)

sum_is : (o w m n : ℕ) → o + w ≤ n → m ≡ o → (m + w) + (n - (o + w)) ≡ n
sum_is o w m n h is = omega (arith, h, is)

pub same_length : (offset : ℕ) (written old : Bytes) → offset + length written ≤ length old → length (take offset old ++ written ++ drop (offset + length written) old) ≡ length old
same_length offset written old h =
    length-append (take offset old ++ written) (drop (offset + length written) old)
    ∙ ap (λ n. n + length (drop (offset + length written) old)) (length-append (take offset old) written)
    ∙ ap (λ n. (length (take offset old) + length written) + n) (length-drop (offset + length written) old)
    ∙ sum_is offset (length written) (length (take offset old)) (length old) h (length-take offset old ∙ min-eq_left (omega (arith, h)))

pub length_padded : (n : ℕ) (text : Bytes) → n ≤ length (padded n text)
length_padded n text =
    subst (λ m. n ≤ m) (sym (length-append text (replicate (n - length text) 0) ∙ ap (λ m. length text + m) (length-replicate (n - length text) 0))) (omega arith)

-- one byte in its place
pub set_padded : (index byte : ℕ) (text : Bytes) → slice_set (padded (index + 1) text) index byte ≡ overwritten index (byte ∷ []) text
set_padded index byte text =
    let grown = padded (index + 1) text in
    sym (take-append-drop index (slice_set grown index byte))
    ∙ (λ i. take-set grown index byte i ++ drop-set grown index byte (omega (arith, length_padded (index + 1) text)) i)
    ∙ sym (append_assoc (take index grown) (byte ∷ []) (drop (index + 1) grown))
    ∙ over_padded index (byte ∷ []) text
