-- Pairs read out of packed bytes.
use Rattle.std.proofs.Common.{◌≡◌, ◌<◌, ◌≤◌, ℕ, zero, suc, Bool, true, false, cond, leb, Option, Some, None, [], ◌∷◌, ◌++◌, length, take, drop, ◌⊎◌, inl, inr, refl, ap, sym, ◌∙◌, arith, length-drop, length-append}
use Rattle.std.proofs.lemmas.Bool.{le-leb}
use Rattle.std.proofs.lemmas.List.{nil_from_length}
use Rattle.std.proofs.Math.Seq.{take-append_seam, drop-append_seam}
use Rattle.nr_model.specs.Bytes.{Bytes}
use Rattle.nr_packs.specs.Packed.{Entries, word, packed, first_word, with_value, pair_from, first_pair, most_entries, entries_in}

behind : (b : Bool) (n : ℕ) (bytes : Bytes) (found : Bytes × Bytes) → cond b (Some (take n bytes, drop n bytes)) None ≡ Some found → found.1 ≡ drop n bytes
behind true n bytes found is = cc
behind false n bytes found is = cc

shorter_word : (bytes : Bytes) (found : Bytes × Bytes) → first_word bytes ≡ Some found → length found.1 < length bytes
shorter_word [] found is = cc
shorter_word (n ∷ bytes) found is = rw (behind (leb n (length bytes)) n bytes found is) (omega (arith, length-drop n bytes))

shorter_value : (field others : Bytes) (value : Option (Bytes × Bytes)) (pair : Bytes × Bytes × Bytes)
    → first_word others ≡ value → with_value field value ≡ Some pair → length pair.2 < length others
shorter_value field others None pair read is = cc
shorter_value field others (Some found) pair read is =
    let same : found.1 ≡ pair.2 = cc in
    let less : length found.1 < length others = shorter_word others found read in
    rw (← same) less

shorter_from : (bytes : Bytes) (found : Option (Bytes × Bytes)) (pair : Bytes × Bytes × Bytes) → first_word bytes ≡ found → pair_from found ≡ Some pair → length pair.2 < length bytes
shorter_from bytes None pair read is = cc
shorter_from bytes (Some found) pair read is =
    let one = shorter_word bytes found read in
    let other = shorter_value found.0 found.1 (first_word found.1) pair refl is in
    omega arith

-- what is behind a pair is shorter
pub shorter : (bytes : Bytes) (pair : Bytes × Bytes × Bytes) → first_pair bytes ≡ Some pair → length pair.2 < length bytes
shorter bytes pair is = shorter_from bytes (first_word bytes) pair refl is

known : {A : Type 0} (o : Option A) → (o ≡ None) ⊎ ((x : A) × (o ≡ Some x))
known None = inl refl
known (Some x) = inr (x, refl)

step : ℕ → Option (Bytes × Bytes × Bytes) → Entries
step n o = elim o [ None ↦ [] | Some pair ↦ (pair.0, pair.1) ∷ most_entries n pair.2 ]

most_of_none : (n : ℕ) (bytes : Bytes) → length bytes ≤ 0 → most_entries n bytes ≡ []
unfolding most_entries
most_of_none zero bytes none = refl
most_of_none (suc n) bytes none = let empty : bytes ≡ [] = nil_from_length bytes (omega arith) in ap (λ bytes. most_entries (suc n) bytes) empty

enough : (n m : ℕ) (bytes : Bytes) → length bytes ≤ n → length bytes ≤ m → most_entries n bytes ≡ most_entries m bytes
unfolding most_entries step
enough zero m bytes one other = sym (most_of_none m bytes one)
enough (suc n) zero bytes one other = most_of_none (suc n) bytes other
enough (suc n) (suc m) bytes one other = elim (known (first_pair bytes)) [
  | inl none ↦ ap (step n) none ∙ sym (ap (step m) none)
  | inr some ↦ let less = shorter bytes some.0 some.1 in
      ap (step n) some.1 ∙ ap (λ (es : Entries). (some.0.0, some.0.1) ∷ es) (enough n m some.0.2 (omega arith) (omega arith)) ∙ sym (ap (step m) some.1)
]

-- where no pair stands first there is none
pub none_in : (bytes : Bytes) → first_pair bytes ≡ None → entries_in bytes ≡ []
unfolding most_entries entries_in step
none_in [] none = refl
none_in (n ∷ bytes) none = ap (step (length bytes)) none

-- the first pair, and those behind it
pub first_in : (bytes : Bytes) (pair : Bytes × Bytes × Bytes) → first_pair bytes ≡ Some pair → entries_in bytes ≡ (pair.0, pair.1) ∷ entries_in pair.2
unfolding most_entries entries_in step
first_in [] pair is = cc
first_in (n ∷ bytes) pair is =
    let less : length pair.2 < length (n ∷ bytes) = shorter (n ∷ bytes) pair is in
    ap (step (length bytes)) is ∙ ap (λ (es : Entries). (pair.0, pair.1) ∷ es) (enough (length bytes) (length pair.2) pair.2 (omega arith) (omega arith))

pub word_read : (field others : Bytes) → first_word (word field ++ others) ≡ Some (field, others)
word_read field others =
    let fits : leb (length field) (length (field ++ others)) ≡ true = le-leb _ _ (omega (arith, length-append field others)) in
    ap (λ b. cond b (Some (take (length field) (field ++ others), drop (length field) (field ++ others))) None) fits
    ∙ (λ i. Some (take-append_seam field others i, drop-append_seam field others i))

pub pair_read : (field value others : Bytes) → first_pair (word field ++ (word value ++ others)) ≡ Some (field, value, others)
pair_read field value others = ap pair_from (word_read field (word value ++ others)) ∙ ap (with_value field) (word_read value others)

-- what was packed is read
pub entries_packed : (es : Entries) → entries_in (packed es) ≡ es
unfolding most_entries entries_in
entries_packed [] = refl
entries_packed (e ∷ es) = first_in (packed (e ∷ es)) (e.0, e.1, packed es) (pair_read e.0 e.1 (packed es)) ∙ ap (λ (es : Entries). e ∷ es) (entries_packed es)

third : Option (Bytes × Bytes × Bytes) → Bytes
third None = []
third (Some pair) = pair.2

-- what is behind a pair is packed too
pub behind_packed : (bytes : Bytes) (pair : Bytes × Bytes × Bytes) → packed (entries_in bytes) ≡ bytes → first_pair bytes ≡ Some pair → packed (entries_in pair.2) ≡ pair.2
unfolding third
behind_packed bytes pair stored is =
    let whole : packed ((pair.0, pair.1) ∷ entries_in pair.2) ≡ bytes = ap packed (sym (first_in bytes pair is)) ∙ stored in
    ap third (sym (pair_read pair.0 pair.1 (packed (entries_in pair.2))) ∙ ap first_pair whole ∙ is)
