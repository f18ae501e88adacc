-- What the one block of a small list is read as once items are put in and taken out.
use Rattle.std.proofs.Common.{◌≡◌, ℕ, suc, ◌+◌, ◌-◌, ◌<◌, ◌≤◌, List, [], ◌∷◌, ◌++◌, length, take, drop, get_or, set, map, refl, ap, sym, ◌∙◌, subst, arith, append-nil, append_assoc, length-append}
use Rattle.std.proofs.Math.Seq.{take-append-add, drop-append-add}
use Rattle.std.proofs.lemmas.List.{set_split, set-get_or, get_or-map, take_more, map-append, take-map, take_at, drop_at, drop_all, take-append-drop, take-append-le, drop-append-le, length-take, length-drop}
use Rattle.nr_model.specs.Bytes.{Bytes}
use Rattle.nr_lists.specs.Packed.{joined, total, cut}
use Rattle.nr_lists.specs.Small.{count_in, lens_in, rest_in, held_in, IsLaid}
use Rattle.nr_lists.proofs.Packed.{joined-append, total_split, total_grows, Holds, holds_cut, total_of, read_cut, length_cut, before_is, left_from, taken_out, put_over, total-append}

pub offset_few : (lens front : List ℕ) (n place : ℕ) → front ≡ take place lens → total lens ≡ n → total front ≤ n
offset_few lens front n place is whole = omega (arith, ap total is, total_split place lens, whole)

-- the items in front of a place, and those behind it
module _ (lens : List ℕ) (bytes : Bytes) (place : ℕ) (whole : total lens ≡ length bytes) where
  front_held : Holds (take place lens) (take (total (take place lens)) bytes) (take place (cut lens bytes))
  front_held =
      let holds = holds_cut lens bytes whole in
      record {
        lengths = ap (take place) holds.lengths ∙ take-map length place (cut lens bytes);
        stored = before_is lens bytes (cut lens bytes) holds place;
      }

  pub front_read : (front : List ℕ) (first : Bytes) (start : ℕ) → front ≡ take place lens → start ≡ total (take place lens) → first ≡ take start bytes
      → cut front first ≡ take place (cut lens bytes)
  front_read front first start is at are =
      (λ i. cut (is i) ((are ∙ ap (λ n. take n bytes) at) i))
      ∙ read_cut (take place lens) (take (total (take place lens)) bytes) (take place (cut lens bytes)) front_held

  back_held : Holds (drop place lens) (drop (total (take place lens)) bytes) (drop place (cut lens bytes))
  back_held = left_from lens bytes (cut lens bytes) (holds_cut lens bytes whole) place

  pub back_read : (back : List ℕ) (last : Bytes) (start : ℕ) → back ≡ drop place lens → start ≡ total (take place lens) → last ≡ drop start bytes
      → cut back last ≡ drop place (cut lens bytes)
  back_read back last start is at are =
      (λ i. cut (is i) ((are ∙ ap (λ n. drop n bytes) at) i))
      ∙ read_cut (drop place lens) (drop (total (take place lens)) bytes) (drop place (cut lens bytes)) back_held

  pub back_whole : (back : List ℕ) (last : Bytes) (start : ℕ) → back ≡ drop place lens → start ≡ total (take place lens) → last ≡ drop start bytes
      → total back ≡ length last
  back_whole back last start is at are =
      ap total is ∙ total_of (drop place lens) (drop (total (take place lens)) bytes) (drop place (cut lens bytes)) back_held
      ∙ ap length (sym (are ∙ ap (λ n. drop n bytes) at))

-- a count, as many lengths, and bytes
pub lens_laid : (block lens bytes : List ℕ) → block ≡ length lens ∷ (lens ++ bytes) → lens_in block ≡ lens
lens_laid block lens bytes is = ap lens_in is ∙ take_at lens bytes (length lens) refl

pub rest_laid : (block lens bytes : List ℕ) → block ≡ length lens ∷ (lens ++ bytes) → rest_in block ≡ bytes
rest_laid block lens bytes is = ap rest_in is ∙ drop_at lens bytes (length lens) refl

-- what was laid out is read back
pub laid_whole : (block lens bytes : List ℕ) (xs : List Bytes) → block ≡ length lens ∷ (lens ++ bytes) → Holds lens bytes xs → IsLaid block
laid_whole block lens bytes xs is holds = record {
  counted = ap count_in is ∙ ap length (sym (lens_laid block lens bytes is));
  whole = ap total (lens_laid block lens bytes is) ∙ total_of lens bytes xs holds ∙ ap length (sym (rest_laid block lens bytes is));
}

pub laid_read : (block lens bytes : List ℕ) (xs : List Bytes) → block ≡ length lens ∷ (lens ++ bytes) → Holds lens bytes xs → held_in block ≡ xs
laid_read block lens bytes xs is holds =
    (λ i. cut (lens_laid block lens bytes is i) (rest_laid block lens bytes is i)) ∙ read_cut lens bytes xs holds

-- an item between others
module _ (lens_before lens_behind : List ℕ) (before item behind : Bytes) (first last : List Bytes) (block : Bytes)
    (whole_before : total lens_before ≡ length before) (whole_behind : total lens_behind ≡ length behind)
    (first_is : cut lens_before before ≡ first) (last_is : cut lens_behind behind ≡ last)
    (is : block ≡ (length lens_before + 1 + length lens_behind) ∷ (lens_before ++ (length item ∷ (lens_behind ++ (before ++ (item ++ behind)))))) where
  abbrev lens : List ℕ
  lens = lens_before ++ length item ∷ lens_behind

  abbrev bytes : Bytes
  bytes = before ++ (item ++ behind)

  laid_so : block ≡ length lens ∷ (lens ++ bytes)
  laid_so =
      let count : length lens_before + 1 + length lens_behind ≡ length lens = omega (arith, length-append lens_before (length item ∷ lens_behind)) in
      is ∙ (λ i. count i ∷ sym (append_assoc lens_before (length item ∷ lens_behind) bytes) i)

  holds_both : Holds lens bytes (first ++ item ∷ last)
  holds_both =
      let one = holds_cut lens_before before whole_before in
      let other = holds_cut lens_behind behind whole_behind in
      record {
        lengths = (λ i. (one.lengths ∙ ap (map length) first_is) i ++ length item ∷ (other.lengths ∙ ap (map length) last_is) i)
            ∙ sym (map-append length first (item ∷ last));
        stored = (λ i. (one.stored ∙ ap joined first_is) i ++ (item ++ (other.stored ∙ ap joined last_is) i)) ∙ sym (joined-append first (item ∷ last));
      }

  pub between_whole : IsLaid block
  between_whole = laid_whole block lens bytes (first ++ item ∷ last) laid_so holds_both

  pub between_read : held_in block ≡ first ++ item ∷ last
  between_read = laid_read block lens bytes (first ++ item ∷ last) laid_so holds_both

pub few_lens : (lens_before lens_behind : List ℕ) (before behind : Bytes) (first last : List Bytes) (most : ℕ) → cut lens_before before ≡ first
    → cut lens_behind behind ≡ last → length first + length last < most → length lens_before + length lens_behind < most
few_lens lens_before lens_behind before behind first last most first_is last_is few =
    omega (arith, few, length_cut lens_before before, length_cut lens_behind behind, ap length first_is, ap length last_is)

-- an item in the place of another
pub replaced : (xs new : List Bytes) (place : ℕ) (x : Bytes) → place < length xs → new ≡ take place xs ++ x ∷ drop (place + 1) xs → new ≡ set xs place x
replaced xs new place x within is =
    let next : place + 1 ≡ suc place = omega arith in
    is ∙ ap (λ n. take place xs ++ x ∷ drop n xs) next ∙ sym (set_split xs place x within)

-- items out of a block
as_laid : (block : Bytes) → IsLaid block → 0 < length (lens_in block) → block ≡ length (lens_in block) ∷ (lens_in block ++ rest_in block)
as_laid [] laid some = absurd (omega (arith, some))
as_laid (n ∷ bytes) laid some = λ i. laid.counted i ∷ sym (take-append-drop n bytes) i

module _ (block : Bytes) (start end from to n : ℕ) (laid : IsLaid block) (order : start < end) (within : end ≤ length (lens_in block))
    (at : from ≡ total (take start (lens_in block))) (till : to ≡ total (take end (lens_in block))) (count : n ≡ length (lens_in block)) where
  abbrev stand : List ℕ
  stand = lens_in block

  abbrev rest : Bytes
  rest = rest_in block

  as_now : block ≡ n ∷ (stand ++ rest)
  as_now = as_laid block laid (omega (arith, order, within)) ∙ ap (λ m. m ∷ (stand ++ rest)) (sym count)

  pub till_within : to ≤ length rest
  till_within = omega (arith, till, total_split end stand, laid.whole)

  pub at_till : from ≤ to
  at_till = total_grows stand start end from to (omega (arith, order)) at till

  pub block_long : length block ≡ 1 + n + length rest
  block_long = omega (arith, ap length as_now, length-append stand rest, count)

  counted_now : set block 0 (n - (end - start)) ≡ (n - (end - start)) ∷ (stand ++ rest)
  counted_now = ap (λ b. set b 0 (n - (end - start))) as_now

  pub counted_long : length (set block 0 (n - (end - start))) ≡ 1 + n + length rest
  counted_long = omega (arith, ap length counted_now, length-append stand rest, count)

  module _ (once twice : Bytes)
      (first : once ≡ take (1 + n + from) (set block 0 (n - (end - start))) ++ drop (1 + n + to) (set block 0 (n - (end - start))))
      (then : twice ≡ take (1 + start) once ++ drop (1 + end) once) where
    abbrev m : ℕ
    m = n - (end - start)

    once_is : once ≡ m ∷ (stand ++ (take from rest ++ drop to rest))
    once_is =
        let more : 1 + n + from ≡ suc (length stand + from) = omega (arith, count) in
        let most : 1 + n + to ≡ suc (length stand + to) = omega (arith, count) in
        first ∙ (λ i. take (more i) (counted_now i) ++ drop (most i) (counted_now i))
        ∙ (λ i. m ∷ (take-append-add stand rest from i ++ drop-append-add stand rest to i))
        ∙ ap (λ ys. m ∷ ys) (append_assoc stand (take from rest) (drop to rest))

    twice_is : twice ≡ m ∷ ((take start stand ++ drop end stand) ++ (take from rest ++ drop to rest))
    twice_is =
        let left = take from rest ++ drop to rest in
        let one : 1 + start ≡ suc start = omega arith in
        let other : 1 + end ≡ suc end = omega arith in
        then ∙ (λ i. take (one i) (once_is i) ++ drop (other i) (once_is i))
        ∙ (λ i. m ∷ (take_front i ++ drop_front i))
        ∙ ap (λ ys. m ∷ ys) (sym (append_assoc (take start stand) (drop end stand) left))
      where
        take_front : take start (stand ++ (take from rest ++ drop to rest)) ≡ take start stand
        take_front = take-append-le start stand (take from rest ++ drop to rest) (omega (arith, order, within))

        drop_front : drop end (stand ++ (take from rest ++ drop to rest)) ≡ drop end stand ++ (take from rest ++ drop to rest)
        drop_front = drop-append-le end stand (take from rest ++ drop to rest) within

    cut_so : twice ≡ length (take start stand ++ drop end stand) ∷ ((take start stand ++ drop end stand) ++ (take from rest ++ drop to rest))
    cut_so =
        let long : m ≡ length (take start stand ++ drop end stand) =
        omega (arith, order, within, count, length-append (take start stand) (drop end stand), length-take start stand, length-drop end stand) in
        twice_is ∙ ap (λ k. k ∷ ((take start stand ++ drop end stand) ++ (take from rest ++ drop to rest))) long

    cut_held : Holds (take start stand ++ drop end stand) (take from rest ++ drop to rest) (take start (held_in block) ++ drop end (held_in block))
    cut_held = subst (λ (bytes : Bytes). Holds (take start stand ++ drop end stand) bytes (take start (held_in block) ++ drop end (held_in block)))
        (λ i. take (sym at i) rest ++ drop (sym till i) rest)
        (taken_out stand rest (held_in block) (holds_cut stand rest laid.whole) start end)

    pub cut_whole : IsLaid twice
    cut_whole =
        laid_whole twice (take start stand ++ drop end stand) (take from rest ++ drop to rest) (take start (held_in block) ++ drop end (held_in block)) cut_so cut_held

    pub cut_read : held_in twice ≡ take start (held_in block) ++ drop end (held_in block)
    cut_read =
        laid_read twice (take start stand ++ drop end stand) (take from rest ++ drop to rest) (take start (held_in block) ++ drop end (held_in block)) cut_so cut_held

pub end_within : (block : Bytes) (items : List Bytes) (end : ℕ) → held_in block ≡ items → end ≤ length items → end ≤ length (lens_in block)
end_within block items end is within = omega (arith, within, ap length is, length_cut (lens_in block) (rest_in block))

-- a range kept in two cuts
pub cut_twice : (items once twice : List Bytes) (len start end : ℕ) → len ≡ length items → once ≡ take end items ++ drop len items → twice ≡ take 0 once ++ drop start once
    → (once ≡ take end items) × (twice ≡ drop start once)
cut_twice items once twice len start end count first then =
    (first ∙ ap (λ ys. take end items ++ ys) (drop_all len items (omega (arith, count))) ∙ append-nil (take end items), then)

pub place_within : (block : Bytes) (place : ℕ) → place < length (held_in block) → place < length (lens_in block)
place_within block place within = omega (arith, within, length_cut (lens_in block) (rest_in block))

-- an item written over another of as many bytes
length_there : (lens : List ℕ) (xs : List Bytes) (place : ℕ) → lens ≡ map length xs → place < length xs → get_or lens place 0 ≡ length (get_or xs place [])
length_there lens xs place are within = ap (λ ls. get_or ls place 0) are ∙ get_or-map length xs place [] 0 within

module _ (block item : Bytes) (place start : ℕ) (laid : IsLaid block) (within : place < length (held_in block))
    (same : length (get_or (held_in block) place []) ≡ length item) (at : start ≡ total (take place (lens_in block))) where
  abbrev written_lens : List ℕ
  written_lens = lens_in block

  abbrev written_rest : Bytes
  written_rest = rest_in block

  written_holds : Holds written_lens written_rest (held_in block)
  written_holds = holds_cut written_lens written_rest laid.whole

  some_lens : place < length written_lens
  some_lens = omega (arith, within, length_cut written_lens written_rest)

  one_long : get_or written_lens place 0 ≡ length item
  one_long = length_there written_lens (held_in block) place written_holds.lengths within ∙ same

  -- where the item ends
  ends_there : start + length item ≡ total (take (place + 1) written_lens)
  ends_there =
      let more = ap total (take_more written_lens place 0 some_lens) ∙ total-append (take place written_lens) (get_or written_lens place 0 ∷ []) in
      omega (arith, more, at, one_long)

  pub write_within : 1 + length written_lens + start + length item ≤ length block
  write_within =
      let now = as_laid block laid (omega (arith, some_lens)) in
      omega (arith, ap length now, length-append written_lens written_rest, ends_there, total_split (place + 1) written_lens, laid.whole)

  module _ (new : Bytes)
      (are : new ≡ take (1 + length written_lens + start) block ++ (item ++ drop (1 + length written_lens + start + length item) block)) where
    written_now : new ≡ length written_lens ∷ (written_lens ++ (take start written_rest ++ (item ++ drop (start + length item) written_rest)))
    written_now =
        let now = as_laid block laid (omega (arith, some_lens)) in
        let one : 1 + length written_lens + start ≡ suc (length written_lens + start) = omega arith in
        let other : 1 + length written_lens + start + length item ≡ suc (length written_lens + (start + length item)) = omega arith in
        are ∙ (λ i. take (one i) (now i) ++ (item ++ drop (other i) (now i)))
        ∙ (λ i. length written_lens ∷ (take-append-add written_lens written_rest start i ++ (item ++ drop-append-add written_lens written_rest (start + length item) i)))
        ∙ ap (λ ys. length written_lens ∷ ys) (append_assoc written_lens (take start written_rest) (item ++ drop (start + length item) written_rest))

    now_holds : Holds written_lens (take start written_rest ++ (item ++ drop (start + length item) written_rest)) (set (held_in block) place item)
    now_holds =
        let lens_same : set written_lens place (length item) ≡ written_lens = ap (set written_lens place) (sym one_long) ∙ set-get_or written_lens place 0 in
        subst (λ (pair : List ℕ × Bytes). Holds pair.0 pair.1 (set (held_in block) place item))
        (λ i. (lens_same i, take (sym at i) written_rest ++ (item ++ drop (sym ends_there i) written_rest)))
        (put_over written_lens written_rest (held_in block) written_holds place item within)

    pub written_whole : IsLaid new
    written_whole =
        laid_whole new written_lens (take start written_rest ++ (item ++ drop (start + length item) written_rest)) (set (held_in block) place item) written_now now_holds

    pub written_read : held_in new ≡ set (held_in block) place item
    written_read =
        laid_read new written_lens (take start written_rest ++ (item ++ drop (start + length item) written_rest)) (set (held_in block) place item) written_now now_holds
