-- Pairs put in and taken out by their places.
use Rattle.std.proofs.Common.{◌≡◌, ◌+◌, ◌-◌, ◌≤◌, ◌<◌, ℕ, zero, suc, Some, None, List, [], ◌∷◌, ◌++◌, length, take, drop, refl, ap, sym, ◌∙◌, subst, arith, length-append}
use Rattle.std.specs.List.{insert, remove}
use Rattle.std.proofs.lemmas.List.{take-append-drop, drop_all}
use Rattle.std.proofs.lemmas.List.Edits.{length-insert, length-remove}
use Rattle.std.proofs.Math.Seq.{take-append_seam, drop-append_seam}
use Rattle.nr_model.specs.Bytes.{Bytes}
use Rattle.nr_packs.specs.Packed.{Entries, word, packed, first_pair, entries_in, AreShort, IsPacked}
use Rattle.nr_packs.proofs.Reading.{none_in, first_in}
use Rattle.nr_packs.proofs.Placed.{packed-append}
use Rattle.nr_packs.proofs.Kept.{made, read_back}

one_passed : {A : Type 0} (n : ℕ) (x : A) (xs : List A) → 0 < n → drop n (x ∷ xs) ≡ drop (n - 1) xs
one_passed zero x xs some = absurd (omega (arith, some))
one_passed (suc n) x xs some = let same : n ≡ suc n - 1 = omega arith in ap (λ k. drop k xs) same

-- a pair is passed
pub passed : (n : ℕ) (rest : Bytes) (pair : Bytes × Bytes × Bytes) (all : Entries) → first_pair rest ≡ Some pair → 0 < n → drop n (entries_in rest) ≡ all
    → drop (n - 1) (entries_in pair.2) ≡ all
passed n rest pair all is some left = sym (one_passed n (pair.0, pair.1) (entries_in pair.2) some) ∙ ap (drop n) (sym (first_in rest pair is)) ∙ left

-- all that were to be passed are
pub passed_all : (n : ℕ) (rest : Bytes) (all : Entries) → packed (entries_in rest) ≡ rest → n ≤ 0 → drop n (entries_in rest) ≡ all → rest ≡ packed all
passed_all n rest all stored none left =
    let same : 0 ≡ n = omega (arith, none) in
    sym stored ∙ ap packed (ap (λ k. drop k (entries_in rest)) same ∙ left)

-- there are no more
pub passed_none : (n : ℕ) (rest : Bytes) (all : Entries) → packed (entries_in rest) ≡ rest → first_pair rest ≡ None → drop n (entries_in rest) ≡ all → rest ≡ packed all
passed_none n rest all stored is left =
    let none = none_in rest is in
    let empty : Entries = [] in
    sym stored ∙ ap packed (none ∙ sym (drop_all n empty (omega arith)) ∙ ap (drop n) (sym none) ∙ left)

module _ (bytes after : Bytes) (place : ℕ) (stored : packed (entries_in bytes) ≡ bytes) (is : after ≡ packed (drop place (entries_in bytes))) where
  whole : bytes ≡ packed (take place (entries_in bytes)) ++ packed (drop place (entries_in bytes))
  whole =
      sym stored ∙ ap packed (sym (take-append-drop place (entries_in bytes))) ∙ packed-append (take place (entries_in bytes)) (drop place (entries_in bytes))

  sum : length bytes ≡ length (packed (take place (entries_in bytes))) + length after
  sum = omega (arith, ap length whole, length-append (packed (take place (entries_in bytes))) (packed (drop place (entries_in bytes))), ap length is)

  pub within : length after ≤ length bytes
  within = omega (arith, sum)

  start : length bytes - length after ≡ length (packed (take place (entries_in bytes)))
  start = omega (arith, sum)

  pub front_is : take (length bytes - length after) bytes ≡ packed (take place (entries_in bytes))
  front_is = (λ i. take (start i) (whole i)) ∙ take-append_seam (packed (take place (entries_in bytes))) (packed (drop place (entries_in bytes)))

  pub back_is : drop (length bytes - length after) bytes ≡ packed (drop place (entries_in bytes))
  back_is = (λ i. drop (start i) (whole i)) ∙ drop-append_seam (packed (take place (entries_in bytes))) (packed (drop place (entries_in bytes)))

short_front : (a b : Entries) → AreShort (a ++ b) → AreShort a
short_front [] b short = tt
short_front (e ∷ a) b short = (short.0, short.1, short_front a b short.2)

short_back : (a b : Entries) → AreShort (a ++ b) → AreShort b
short_back [] b short = short
short_back (e ∷ a) b short = short_back a b short.2

short_both : (a b : Entries) → AreShort a → AreShort b → AreShort (a ++ b)
short_both [] b one other = other
short_both (e ∷ a) b one other = (one.0, one.1, short_both a b one.2 other)

short_take : (n : ℕ) (es : Entries) → AreShort es → AreShort (take n es)
short_take n es short = short_front (take n es) (drop n es) (subst AreShort (sym (take-append-drop n es)) short)

short_drop : (n : ℕ) (es : Entries) → AreShort es → AreShort (drop n es)
short_drop n es short = short_back (take n es) (drop n es) (subst AreShort (sym (take-append-drop n es)) short)

-- a pair put in at a place
pub put_at : (bytes new before after k v : Bytes) (place : ℕ) → new ≡ before ++ (word k ++ (word v ++ after)) → before ≡ packed (take place (entries_in bytes))
    → after ≡ packed (drop place (entries_in bytes)) → new ≡ packed (insert (entries_in bytes) place (k, v))
put_at bytes new before after k v place is front back =
    is ∙ (λ i. front i ++ (word k ++ (word v ++ back i)))
    ∙ sym (packed-append (take place (entries_in bytes)) ((k, v) ∷ drop place (entries_in bytes)))

pub put_at_kept : (pairs more : ℕ) (bytes new k v : Bytes) (place : ℕ) → IsPacked pairs bytes → new ≡ packed (insert (entries_in bytes) place (k, v)) → more ≡ pairs + 1
    → pairs < 512 → place ≤ length (entries_in bytes) → length k ≤ 255 → length v ≤ 255 → IsPacked more new
put_at_kept pairs more bytes new k v place kept is counted few within field value =
    let es = entries_in bytes in
    made more new (insert es place (k, v)) is (omega (arith, counted, kept.counted, length-insert es place (k, v) within)) (omega (arith, counted, few))
    (short_both (take place es) ((k, v) ∷ drop place es) (short_take place es kept.short) (field, value, short_drop place es kept.short))

more_dropped : {A : Type 0} (n : ℕ) (xs : List A) → drop 1 (drop n xs) ≡ drop (n + 1) xs
more_dropped zero xs = refl
more_dropped {A} (suc n) [] = let none : List A = [] in drop_all 1 none (omega arith) ∙ sym (drop_all (suc n + 1) none (omega arith))
more_dropped (suc n) (x ∷ xs) = let next : suc (n + 1) ≡ suc n + 1 = omega arith in more_dropped n xs ∙ ap (λ k. drop k (x ∷ xs)) next

-- what is behind the first of those behind a place
pub behind_it : (bytes after : Bytes) (place : ℕ) → after ≡ packed (drop place (entries_in bytes))
    → packed (drop 1 (entries_in after)) ≡ packed (drop (place + 1) (entries_in bytes))
behind_it bytes after place is = ap packed (ap (drop 1) (read_back after (drop place (entries_in bytes)) is) ∙ more_dropped place (entries_in bytes))

pub stored_behind : (bytes after : Bytes) (place : ℕ) → after ≡ packed (drop place (entries_in bytes)) → packed (entries_in after) ≡ after
stored_behind bytes after place is = ap packed (read_back after (drop place (entries_in bytes)) is) ∙ sym is

-- a pair cut out at a place
pub cut_at : (bytes new : Bytes) (place start end : ℕ) → packed (entries_in bytes) ≡ bytes → start ≡ length (packed (take place (entries_in bytes)))
    → end + length (packed (drop (place + 1) (entries_in bytes))) ≡ length bytes → new ≡ take start bytes ++ drop end bytes
    → new ≡ packed (remove (entries_in bytes) place)
cut_at bytes new place start end stored begins ends is =
    let es = entries_in bytes in
    let next : suc place ≡ place + 1 = omega arith in
    let back = packed (drop (suc place) es) in
    let front_start : start ≡ length bytes - length (packed (drop place es)) =
    omega (arith, begins, sum bytes (packed (drop place es)) place stored refl) in
    let back_start : end ≡ length bytes - length back = omega (arith, ends, ap (λ k. length (packed (drop k es))) next) in
    is ∙ (λ i. take (front_start i) bytes ++ drop (back_start i) bytes)
    ∙ (λ i. front_is bytes (packed (drop place es)) place stored refl i ++ back_is bytes back (suc place) stored refl i)
    ∙ sym (packed-append (take place es) (drop (suc place) es))

pub cut_at_kept : (pairs : ℕ) (bytes new : Bytes) (place : ℕ) → IsPacked pairs bytes → new ≡ packed (remove (entries_in bytes) place) → place < length (entries_in bytes)
    → IsPacked (pairs - 1) new
cut_at_kept pairs bytes new place kept is within =
    let es = entries_in bytes in
    let one = length-remove es place within in
    made (pairs - 1) new (remove es place) is (omega (arith, kept.counted, one)) (omega (arith, kept.few))
    (short_both (take place es) (drop (suc place) es) (short_take place es kept.short) (short_drop (suc place) es kept.short))
