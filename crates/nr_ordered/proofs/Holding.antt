-- Lengths, bytes and numbers that hold items, and what they hold once items are put in, taken out or copied.
use Rattle.std.proofs.Common.{◌≡◌, ℕ, ℤ, zero, suc, ◌+◌, ◌-◌, ◌<◌, ◌≤◌, Some, List, [], ◌∷◌, ◌++◌, length, take, drop, get_or, set, map, refl, sym, ap, subst, ◌∙◌, arith, append_assoc, length-append, length-take, length-drop}
use Rattle.std.specs.Prelude.{slice_range}
use Rattle.std.specs.List.{insert, slice_get, take-map, drop-map}
use Rattle.std.proofs.lemmas.List.{map-append, length-map, take-append-drop, take_at, drop_at, drop-drop, drop-take, take-take}
use Rattle.nr_model.specs.Bytes.{Bytes}
use Rattle.nr_ordered.specs.Lists.{Item, renumbered}
use Rattle.nr_ordered.specs.Blocks.{total, items_in, IsWhole, IsBlock}
use Rattle.nr_ordered.proofs.Totals.{total_split, total_next}
use Rattle.nr_ordered.proofs.Places.{same_Some}

abbrev len_of : Item → ℕ
len_of item = length item.0

abbrev number_of : Item → ℤ
number_of item = item.1

-- the bytes of all items
abbrev text : List Item → Bytes
text [] = []
text (x ∷ xs) = x.0 ++ text xs

text-append : (xs ys : List Item) → text (xs ++ ys) ≡ text xs ++ text ys
text-append [] ys = refl
text-append (x ∷ xs) ys = ap (λ bytes. x.0 ++ bytes) (text-append xs ys) ∙ sym (append_assoc x.0 (text xs) (text ys))

text_split : (i : ℕ) (xs : List Item) → text xs ≡ text (take i xs) ++ text (drop i xs)
text_split i xs = ap text (sym (take-append-drop i xs)) ∙ text-append (take i xs) (drop i xs)

total_text : (xs : List Item) → total (map len_of xs) ≡ length (text xs)
total_text [] = refl
total_text (x ∷ xs) = ap (λ n. length x.0 + n) (total_text xs) ∙ sym (length-append x.0 (text xs))

-- these hold the items
pub record Holds (lens : List ℕ) (bytes : Bytes) (numbers : List ℤ) (xs : List Item) : Type 0 where
  pub lengths : lens ≡ map len_of xs
  pub stored : bytes ≡ text xs
  pub numbered : numbers ≡ map number_of xs

-- what is whole holds what is read of it
pub holds_in : (lens : List ℕ) (bytes : Bytes) (numbers : List ℤ) → IsWhole lens bytes numbers → Holds lens bytes numbers (items_in lens bytes numbers)
holds_in [] [] [] whole = record { lengths = refl; stored = refl; numbered = refl }
holds_in [] (b ∷ bytes) numbers whole = absurd (omega (arith, whole.whole))
holds_in [] [] (x ∷ numbers) whole = absurd (omega (arith, whole.paired))
holds_in (n ∷ lens) bytes [] whole = absurd (omega (arith, whole.paired))
holds_in (n ∷ lens) bytes (x ∷ numbers) whole =
    let cut_long : length (take n bytes) ≡ n = omega (arith, whole.whole, length-take n bytes) in
    let left : total lens ≡ length (drop n bytes) = omega (arith, whole.whole, length-drop n bytes) in
    let others = holds_in lens (drop n bytes) numbers (record { whole = left; paired = omega (arith, whole.paired) }) in
    record {
      lengths = λ i. sym cut_long i ∷ others.lengths i;
      stored = sym (take-append-drop n bytes) ∙ ap (λ ys. take n bytes ++ ys) others.stored;
      numbered = λ i. x ∷ others.numbered i;
    }

read_back : (xs : List Item) → items_in (map len_of xs) (text xs) (map number_of xs) ≡ xs
read_back [] = refl
read_back (x ∷ xs) =
    (λ i. (take_at x.0 (text xs) (length x.0) refl i, x.1) ∷ items_in (map len_of xs) (drop_at x.0 (text xs) (length x.0) refl i) (map number_of xs))
    ∙ ap (λ ys. x ∷ ys) (read_back xs)

-- what is held is what is read
pub read_in : (lens : List ℕ) (bytes : Bytes) (numbers : List ℤ) (xs : List Item) → Holds lens bytes numbers xs → items_in lens bytes numbers ≡ xs
read_in lens bytes numbers xs holds = (λ i. items_in (holds.lengths i) (holds.stored i) (holds.numbered i)) ∙ read_back xs

whole_in : (lens : List ℕ) (bytes : Bytes) (numbers : List ℤ) (xs : List Item) → Holds lens bytes numbers xs → IsWhole lens bytes numbers
whole_in lens bytes numbers xs holds = record {
  whole = ap total holds.lengths ∙ total_text xs ∙ ap length (sym holds.stored);
  paired = ap length holds.lengths ∙ length-map xs len_of ∙ sym (length-map xs number_of) ∙ ap length (sym holds.numbered);
}

pub block_in : (lens : List ℕ) (bytes : Bytes) (numbers : List ℤ) (xs : List Item) → Holds lens bytes numbers xs → 0 < length xs → length xs ≤ 32
    → IsBlock lens bytes numbers
block_in lens bytes numbers xs holds some few =
    let many : length numbers ≡ length xs = ap length holds.numbered ∙ length-map xs number_of in
    record { whole = whole_in lens bytes numbers xs holds; some = omega (arith, some, many); few = omega (arith, few, many) }

-- two behind one another
both : (l m : List ℕ) (b c : Bytes) (n o : List ℤ) (xs ys : List Item) → Holds l b n xs → Holds m c o ys → Holds (l ++ m) (b ++ c) (n ++ o) (xs ++ ys)
both l m b c n o xs ys first second = record {
  lengths = (λ i. first.lengths i ++ second.lengths i) ∙ sym (map-append len_of xs ys);
  stored = (λ i. first.stored i ++ second.stored i) ∙ sym (text-append xs ys);
  numbered = (λ i. first.numbered i ++ second.numbered i) ∙ sym (map-append number_of xs ys);
}

one_more : (l : List ℕ) (b : Bytes) (n : List ℤ) (xs : List Item) (x : Item) → Holds l b n xs → Holds (length x.0 ∷ l) (x.0 ++ b) (x.1 ∷ n) (x ∷ xs)
one_more l b n xs x holds = record {
  lengths = λ i. length x.0 ∷ holds.lengths i;
  stored = λ i. x.0 ++ holds.stored i;
  numbered = λ i. x.1 ∷ holds.numbered i;
}

-- those in front of a place, and those behind it
module _ (lens : List ℕ) (bytes : Bytes) (numbers : List ℤ) (xs : List Item) (holds : Holds lens bytes numbers xs) where
  offset_is : (i : ℕ) → total (take i lens) ≡ length (text (take i xs))
  offset_is i = ap (λ ls. total (take i ls)) holds.lengths ∙ ap total (take-map len_of i xs) ∙ total_text (take i xs)

  halves : (i : ℕ) → bytes ≡ text (take i xs) ++ text (drop i xs)
  halves i = holds.stored ∙ text_split i xs

  pub in_front : (i : ℕ) → Holds (take i lens) (take (total (take i lens)) bytes) (take i numbers) (take i xs)
  in_front i = record {
    lengths = ap (take i) holds.lengths ∙ take-map len_of i xs;
    stored = ap (take (total (take i lens))) (halves i) ∙ take_at (text (take i xs)) (text (drop i xs)) (total (take i lens)) (sym (offset_is i));
    numbered = ap (take i) holds.numbered ∙ take-map number_of i xs;
  }

  pub behind : (i : ℕ) → Holds (drop i lens) (drop (total (take i lens)) bytes) (drop i numbers) (drop i xs)
  behind i = record {
    lengths = ap (drop i) holds.lengths ∙ drop-map len_of i xs;
    stored = ap (drop (total (take i lens))) (halves i) ∙ drop_at (text (take i xs)) (text (drop i xs)) (total (take i lens)) (sym (offset_is i));
    numbered = ap (drop i) holds.numbered ∙ drop-map number_of i xs;
  }

pub many_items : (lens : List ℕ) (bytes : Bytes) (numbers : List ℤ) → length lens ≡ length numbers → length (items_in lens bytes numbers) ≡ length numbers
many_items [] bytes [] paired = refl
many_items [] bytes (x ∷ numbers) paired = absurd (omega (arith, paired))
many_items (n ∷ lens) bytes [] paired = absurd (omega (arith, paired))
many_items (n ∷ lens) bytes (x ∷ numbers) paired = ap suc (many_items lens (drop n bytes) numbers (omega (arith, paired)))

-- the item at a place
one_at : (lens : List ℕ) (bytes : Bytes) (numbers : List ℤ) (place : ℕ) (number : ℤ) → length lens ≡ length numbers → slice_get numbers place ≡ Some number
    → slice_get (items_in lens bytes numbers) place ≡ Some (take (get_or lens place 0) (drop (total (take place lens)) bytes), number)
one_at lens bytes [] place number paired at = absurd (cc)
one_at [] bytes (x ∷ numbers) place number paired at = absurd (omega (arith, paired))
one_at (n ∷ lens) bytes (x ∷ numbers) zero number paired at = ap (λ z. Some (take n bytes, z)) (same_Some x number at)
one_at (n ∷ lens) bytes (x ∷ numbers) (suc place) number paired at =
    one_at lens (drop n bytes) numbers place number (omega (arith, paired)) at
    ∙ ap (λ ys. Some (take (get_or lens place 0) ys, number)) (drop-drop (total (take place lens)) n bytes)

module _ (lens : List ℕ) (bytes : Bytes) (numbers : List ℤ) (place n : ℕ) (rest : Bytes) (is : n ≡ get_or lens place 0)
    (left : rest ≡ drop (total (take place lens)) bytes) where
  pub read_at : (item : Bytes) (number : ℤ) → length lens ≡ length numbers → slice_get numbers place ≡ Some number → item ≡ take n rest
      → slice_get (items_in lens bytes numbers) place ≡ Some (item, number)
  read_at item number paired at read =
      one_at lens bytes numbers place number paired at
      ∙ (λ i. Some (take (sym is i) (sym left i), number)) ∙ ap (λ ys. Some (ys, number)) (sym read)

  pub left_behind : (behind : Bytes) → place < length lens → behind ≡ drop n rest → behind ≡ drop (total (take (place + 1) lens)) bytes
  left_behind behind within read =
      read ∙ ap (drop n) left ∙ drop-drop n (total (take place lens)) bytes ∙ ap (λ k. drop k bytes) (sym (total_next lens place n within is))

-- an item put in
pub put_into : (lens more : List ℕ) (bytes all : Bytes) (numbers others : List ℤ) (item : Item) (place start : ℕ) → IsBlock lens bytes numbers
    → place ≤ length (items_in lens bytes numbers) → length (items_in lens bytes numbers) < 32 → start ≡ total (take place lens)
    → more ≡ insert lens place (length item.0) → all ≡ take start bytes ++ (item.0 ++ drop start bytes) → others ≡ insert numbers place item.1
    → IsBlock more all others × (items_in more all others ≡ insert (items_in lens bytes numbers) place item)
put_into lens more bytes all numbers others item place start block within room at lens_are bytes_are numbers_are =
    let xs = items_in lens bytes numbers in
    let held = holds_in lens bytes numbers block.whole in
    let ys = insert xs place item in
    let made = both _ _ _ _ _ _ _ _ (in_front lens bytes numbers xs held place)
    (one_more _ _ _ _ item (behind lens bytes numbers xs held place)) in
    let holds : Holds more all others ys = subst (λ (t : List ℕ × Bytes × List ℤ). Holds t.0 t.1 t.2 ys)
    (λ i. (sym lens_are i, sym (bytes_are ∙ (λ j. take (at j) bytes ++ (item.0 ++ drop (at j) bytes))) i, sym numbers_are i)) made in
    let long : length ys ≡ length xs + 1 = omega (arith, within, length-append (take place xs) (item ∷ drop place xs), length-take place xs, length-drop place xs) in
    (block_in more all others ys holds (omega (arith, long)) (omega (arith, long, room)), read_in more all others ys holds)

-- items taken out
pub cut_out : (lens left : List ℕ) (bytes rest : Bytes) (numbers others : List ℤ) (from to start end : ℕ) → IsBlock lens bytes numbers → from ≤ to
    → to ≤ length (items_in lens bytes numbers) → to < length (items_in lens bytes numbers) + from → start ≡ total (take from lens) → end ≡ total (take to lens)
    → left ≡ take from lens ++ drop to lens → rest ≡ take start bytes ++ drop end bytes → others ≡ take from numbers ++ drop to numbers
    → IsBlock left rest others × (items_in left rest others ≡ take from (items_in lens bytes numbers) ++ drop to (items_in lens bytes numbers))
cut_out lens left bytes rest numbers others from to start end block order within some at till lens_are bytes_are numbers_are =
    let xs = items_in lens bytes numbers in
    let held = holds_in lens bytes numbers block.whole in
    let ys = take from xs ++ drop to xs in
    let made = both _ _ _ _ _ _ _ _ (in_front lens bytes numbers xs held from) (behind lens bytes numbers xs held to) in
    let holds : Holds left rest others ys = subst (λ (t : List ℕ × Bytes × List ℤ). Holds t.0 t.1 t.2 ys)
    (λ i. (sym lens_are i, sym (bytes_are ∙ (λ j. take (at j) bytes ++ drop (till j) bytes)) i, sym numbers_are i)) made in
    let many = many_items lens bytes numbers block.whole.paired in
    let long : length ys + to ≡ length xs + from = omega (arith, order, within, length-append (take from xs) (drop to xs), length-take from xs, length-drop to xs) in
    (block_in left rest others ys holds (omega (arith, long, some)) (omega (arith, long, order, many, block.few)), read_in left rest others ys holds)

-- items copied
pub part_of : (lens left : List ℕ) (bytes rest : Bytes) (numbers others : List ℤ) (from to start end : ℕ) → IsBlock lens bytes numbers → from < to
    → to ≤ length (items_in lens bytes numbers) → start ≡ total (take from lens) → end ≡ total (take to lens)
    → left ≡ slice_range lens from to → rest ≡ slice_range bytes start end → others ≡ slice_range numbers from to
    → IsBlock left rest others × (items_in left rest others ≡ slice_range (items_in lens bytes numbers) from to)
part_of lens left bytes rest numbers others from to start end block order within at till lens_are bytes_are numbers_are =
    let xs = items_in lens bytes numbers in
    let held = behind lens bytes numbers xs (holds_in lens bytes numbers block.whole) from in
    let ys = slice_range xs from to in
    let made = in_front _ _ _ _ held (to - from) in
    let sum : from + (to - from) ≡ to = omega (arith, order) in
    let count : end - start ≡ total (take (to - from) (drop from lens)) =
    omega (arith, at, till ∙ ap (λ n. total (take n lens)) (sym sum), total_split from (take (from + (to - from)) lens), ap total (drop-take from (to - from) lens), ap total (take-take from (from + (to - from)) lens (omega arith))) in
    let holds : Holds left rest others ys = subst (λ (t : List ℕ × Bytes × List ℤ). Holds t.0 t.1 t.2 ys)
    (λ i. (sym lens_are i, sym (bytes_are ∙ (λ j. take (count j) (drop (at j) bytes))) i, sym numbers_are i)) made in
    let many = many_items lens bytes numbers block.whole.paired in
    let long : length ys ≡ to - from = omega (arith, order, within, length-take (to - from) (drop from xs), length-drop from xs) in
    (block_in left rest others ys holds (omega (arith, long, order)) (omega (arith, long, order, within, many, block.few)), read_in left rest others ys holds)

-- another number at a place
pub numbered_anew : (lens : List ℕ) (bytes : Bytes) (numbers : List ℤ) (place : ℕ) (number : ℤ) → length lens ≡ length numbers
    → items_in lens bytes (set numbers place number) ≡ renumbered (items_in lens bytes numbers) place number
numbered_anew [] bytes [] place number paired = refl
numbered_anew [] bytes (x ∷ numbers) place number paired = absurd (omega (arith, paired))
numbered_anew (n ∷ lens) bytes [] place number paired = absurd (omega (arith, paired))
numbered_anew (n ∷ lens) bytes (x ∷ numbers) zero number paired = refl
numbered_anew (n ∷ lens) bytes (x ∷ numbers) (suc place) number paired =
    ap (λ ys. (take n bytes, x) ∷ ys) (numbered_anew lens (drop n bytes) numbers place number (omega (arith, paired)))
