-- What bytes are read as once items are put in and taken out.
use Rattle.std.proofs.Common.{◌≡◌, ℕ, ◌+◌, ◌<◌, ◌≤◌, subst, zero, suc, ◌-◌, Some, None, List, [], ◌∷◌, ◌++◌, length, take, drop, get_or, set, map, refl, ap, sym, ◌∙◌, arith, append-nil, append_assoc, length-append, zero-add, add_assoc}
use Rattle.std.specs.List.{insert, slice_get}
use Rattle.std.proofs.lemmas.List.{map-append, set_split, take_all, drop-take, drop-drop, take-take, take-append-drop, take-map, drop-map, take_at, drop_at, length-map, length-take, length-drop, drop_more, take_more, get_or_default, get_or-map, length-set}
use Rattle.nr_model.specs.Bytes.{Bytes}
use Rattle.nr_lists.specs.Packed.{joined, total, cut, lens_of, items_in, IsWhole}

pub joined-append : {A : Type 0} (xss yss : List (List A)) → joined (xss ++ yss) ≡ joined xss ++ joined yss
joined-append [] yss = refl
joined-append (xs ∷ xss) yss = ap (λ ys. xs ++ ys) (joined-append xss yss) ∙ sym (append_assoc xs (joined xss) (joined yss))

pub joined_split : {A : Type 0} (i : ℕ) (xss : List (List A)) → joined xss ≡ joined (take i xss) ++ joined (drop i xss)
joined_split i xss = ap joined (sym (take-append-drop i xss)) ∙ joined-append (take i xss) (drop i xss)

pub total_is : (xs : List Bytes) → total (map length xs) ≡ length (joined xs)
total_is [] = refl
total_is (x ∷ xs) = ap (λ n. length x + n) (total_is xs) ∙ sym (length-append x (joined xs))

pub total-append : (a b : List ℕ) → total (a ++ b) ≡ total a + total b
total-append [] b = sym (zero-add (total b))
total-append (n ∷ a) b = ap (λ m. n + m) (total-append a b) ∙ sym (add_assoc n (total a) (total b))

pub total_split : (i : ℕ) (lens : List ℕ) → total lens ≡ total (take i lens) + total (drop i lens)
total_split i lens = ap total (sym (take-append-drop i lens)) ∙ total-append (take i lens) (drop i lens)

-- what was stored is read back
cut_joined : (xs : List Bytes) → cut (map length xs) (joined xs) ≡ xs
cut_joined [] = refl
cut_joined (x ∷ xs) =
    (λ i. take_at x (joined xs) (length x) refl i ∷ cut (map length xs) (drop_at x (joined xs) (length x) refl i)) ∙ ap (λ ys. x ∷ ys) (cut_joined xs)

-- bytes and lengths that hold items
pub record Holds (lens : List ℕ) (bytes : Bytes) (xs : List Bytes) : Type 0 where
  pub lengths : lens ≡ map length xs
  pub stored : bytes ≡ joined xs

-- whole bytes hold what is read
pub holds_cut : (lens : List ℕ) (bytes : Bytes) → total lens ≡ length bytes → Holds lens bytes (cut lens bytes)
holds_cut [] [] whole = record { lengths = refl; stored = refl }
holds_cut [] (b ∷ bytes) whole = absurd (omega (arith, whole))
holds_cut (n ∷ lens) bytes whole =
    let cut_long : length (take n bytes) ≡ n = omega (arith, whole, length-take n bytes) in
    let left : total lens ≡ length (drop n bytes) = omega (arith, whole, length-drop n bytes) in
    let others = holds_cut lens (drop n bytes) left in
    record {
      lengths = λ i. sym cut_long i ∷ others.lengths i;
      stored = sym (take-append-drop n bytes) ∙ ap (λ ys. take n bytes ++ ys) others.stored;
    }

pub total_of : (lens : List ℕ) (bytes : Bytes) (xs : List Bytes) → Holds lens bytes xs → total lens ≡ length bytes
total_of lens bytes xs holds = ap total holds.lengths ∙ total_is xs ∙ ap length (sym holds.stored)

pub read_cut : (lens : List ℕ) (bytes : Bytes) (xs : List Bytes) → Holds lens bytes xs → cut lens bytes ≡ xs
read_cut lens bytes xs holds = (λ i. cut (holds.lengths i) (holds.stored i)) ∙ cut_joined xs

lens_given : (lens : List ℕ) (n : ℕ) → 0 < length lens → lens_of lens n ≡ lens
lens_given [] n some = absurd (omega (arith, some))
lens_given (m ∷ lens) n some = refl

-- what a block holds is what is read of it
pub holds_items : (lens : List ℕ) (bytes : Bytes) → IsWhole lens bytes → Holds (lens_of lens (length bytes)) bytes (items_in lens bytes)
holds_items lens bytes whole = holds_cut (lens_of lens (length bytes)) bytes whole.whole

-- what is written is read back
pub read_items : (lens : List ℕ) (bytes : Bytes) (xs : List Bytes) → 0 < length xs → Holds lens bytes xs → items_in lens bytes ≡ xs
read_items lens bytes xs some holds =
    let many : length lens ≡ length xs = ap length holds.lengths ∙ length-map xs length in
    ap (λ ls. cut ls bytes) (lens_given lens (length bytes) (omega (arith, some, many))) ∙ read_cut lens bytes xs holds

pub whole_items : (lens : List ℕ) (bytes : Bytes) (xs : List Bytes) → 0 < length xs → Holds lens bytes xs → IsWhole lens bytes
whole_items lens bytes xs some holds =
    let many : length lens ≡ length xs = ap length holds.lengths ∙ length-map xs length in
    record { whole = ap total (lens_given lens (length bytes) (omega (arith, some, many))) ∙ total_of lens bytes xs holds }

-- the bytes in front of a place and behind it
module _ (lens : List ℕ) (bytes : Bytes) (xs : List Bytes) (holds : Holds lens bytes xs) where
  pub offset_is : (i : ℕ) → total (take i lens) ≡ length (joined (take i xs))
  offset_is i = ap (λ ls. total (take i ls)) holds.lengths ∙ ap total (take-map length i xs) ∙ total_is (take i xs)

  halves : (i : ℕ) → bytes ≡ joined (take i xs) ++ joined (drop i xs)
  halves i = holds.stored ∙ joined_split i xs

  pub before_is : (i : ℕ) → take (total (take i lens)) bytes ≡ joined (take i xs)
  before_is i = ap (take (total (take i lens))) (halves i) ∙ take_at (joined (take i xs)) (joined (drop i xs)) (total (take i lens)) (sym (offset_is i))

  pub behind_is : (i : ℕ) → drop (total (take i lens)) bytes ≡ joined (drop i xs)
  behind_is i = ap (drop (total (take i lens))) (halves i) ∙ drop_at (joined (take i xs)) (joined (drop i xs)) (total (take i lens)) (sym (offset_is i))

  -- an item put in
  pub put_in : (i : ℕ) (x : Bytes)
      → Holds (insert lens i (length x)) (take (total (take i lens)) bytes ++ (x ++ drop (total (take i lens)) bytes)) (insert xs i x)
  put_in i x = record {
    lengths = ap (λ ls. insert ls i (length x)) holds.lengths
        ∙ (λ j. take-map length i xs j ++ length x ∷ drop-map length i xs j)
        ∙ sym (map-append length (take i xs) (x ∷ drop i xs));
    stored = (λ j. before_is i j ++ (x ++ behind_is i j)) ∙ sym (joined-append (take i xs) (x ∷ drop i xs));
  }

  -- an item in the place of another
  pub put_over : (i : ℕ) (x : Bytes) → i < length xs
      → Holds (set lens i (length x)) (take (total (take i lens)) bytes ++ (x ++ drop (total (take (i + 1) lens)) bytes)) (set xs i x)
  put_over i x within =
      let next : suc i ≡ i + 1 = omega arith in
      let parts : set xs i x ≡ take i xs ++ x ∷ drop (i + 1) xs = set_split xs i x within ∙ ap (λ n. take i xs ++ x ∷ drop n xs) next in
      let many : length lens ≡ length xs = ap length holds.lengths ∙ length-map xs length in
      let lens_parts : set lens i (length x) ≡ take i lens ++ length x ∷ drop (i + 1) lens =
      set_split lens i (length x) (omega (arith, within, many)) ∙ ap (λ n. take i lens ++ length x ∷ drop n lens) next in
      record {
        lengths = lens_parts ∙ ap (λ ls. take i ls ++ length x ∷ drop (i + 1) ls) holds.lengths
            ∙ (λ j. take-map length i xs j ++ length x ∷ drop-map length (i + 1) xs j)
            ∙ sym (map-append length (take i xs) (x ∷ drop (i + 1) xs)) ∙ ap (map length) (sym parts);
        stored = (λ j. before_is i j ++ (x ++ behind_is (i + 1) j)) ∙ sym (joined-append (take i xs) (x ∷ drop (i + 1) xs)) ∙ ap joined (sym parts);
      }

  -- items taken out
  pub taken_out : (i j : ℕ) → Holds (take i lens ++ drop j lens) (take (total (take i lens)) bytes ++ drop (total (take j lens)) bytes) (take i xs ++ drop j xs)
  taken_out i j = record {
    lengths = ap (λ ls. take i ls ++ drop j ls) holds.lengths
        ∙ (λ k. take-map length i xs k ++ drop-map length j xs k)
        ∙ sym (map-append length (take i xs) (drop j xs));
    stored = (λ k. before_is i k ++ behind_is j k) ∙ sym (joined-append (take i xs) (drop j xs));
  }

  -- those behind a place
  pub left_from : (i : ℕ) → Holds (drop i lens) (drop (total (take i lens)) bytes) (drop i xs)
  left_from i = record {
    lengths = ap (drop i) holds.lengths ∙ drop-map length i xs;
    stored = behind_is i;
  }

  -- one of them
  pub one_is : (i : ℕ) (n : ℕ) (d : Bytes) → i < length xs → n ≡ get_or lens i n → take n (drop (total (take i lens)) bytes) ≡ get_or xs i d
  one_is i n d within is =
      let more = drop_more xs i d within in
      let long : n ≡ length (get_or xs i d) = is ∙ ap (λ ls. get_or ls i n) holds.lengths ∙ get_or-map length xs i d n within in
      ap (take n) (behind_is i ∙ ap joined more) ∙ take_at (get_or xs i d) (joined (drop (i + 1) xs)) n (sym long)

-- a block of one item
pub lone_is : (lens : List ℕ) (bytes : Bytes) (items : List Bytes) → items_in lens bytes ≡ items → IsWhole lens bytes → length items ≡ 1 → items ≡ bytes ∷ []
lone_is lens bytes items is whole one = from items one (subst (λ xs. Holds (lens_of lens (length bytes)) bytes xs) is (holds_items lens bytes whole))
  where
    from : (xs : List Bytes) → length xs ≡ 1 → Holds (lens_of lens (length bytes)) bytes xs → xs ≡ bytes ∷ []
    from [] one holds = absurd (omega (arith, one))
    from (x ∷ []) one holds = ap (λ y. y ∷ []) (sym (append-nil x) ∙ sym holds.stored)
    from (x ∷ (y ∷ ys)) one holds = absurd (omega (arith, one))

-- the lengths in front of a place and behind it, of so many bytes
front_none : (i : ℕ) → total (take i []) ≡ 0
front_none zero = refl
front_none (suc i) = refl

back_none : (i : ℕ) → total (drop i []) ≡ 0
back_none zero = refl
back_none (suc i) = refl

front_long : (i : ℕ) → let none : List ℕ = [] in length (take i none) ≡ 0
front_long zero = refl
front_long (suc i) = refl

pub front_few : (lens : List ℕ) (n i : ℕ) (front : List ℕ) → front ≡ take i lens → total (lens_of lens n) ≡ n → total front ≤ n
front_few [] n i front is whole = omega (arith, ap total is ∙ front_none i)
front_few (m ∷ lens) n i front is whole = omega (arith, ap total is, total_split i (m ∷ lens), whole)

pub back_few : (lens : List ℕ) (n i : ℕ) (back : List ℕ) → back ≡ drop i lens → total (lens_of lens n) ≡ n → total back ≤ n
back_few [] n i back is whole = omega (arith, ap total is ∙ back_none i)
back_few (m ∷ lens) n i back is whole = omega (arith, ap total is, total_split i (m ∷ lens), whole)

pub front_left : (lens : List ℕ) (n i : ℕ) (front back : List ℕ) → front ≡ take i lens → back ≡ drop i lens → length back < length front
    → total (lens_of lens n) ≡ n → n - total back ≡ total (take i lens)
front_left [] n i front back is are fewer whole =
    let none : length front ≡ 0 = ap length is ∙ front_long i in
    absurd (omega (arith, none, fewer))
front_left (m ∷ lens) n i front back is are fewer whole = omega (arith, ap total are, total_split i (m ∷ lens), whole)

pub length_cut : (lens : List ℕ) (bytes : Bytes) → length (cut lens bytes) ≡ length lens
length_cut [] bytes = refl
length_cut (n ∷ lens) bytes = ap suc (length_cut lens (drop n bytes))

pub many_items : (lens : List ℕ) (bytes : Bytes) → length (items_in lens bytes) ≡ length (lens_of lens (length bytes))
many_items lens bytes = length_cut (lens_of lens (length bytes)) bytes

pub some_items : (lens : List ℕ) (bytes : Bytes) → 0 < length (items_in lens bytes)
some_items [] bytes = omega arith
some_items (m ∷ lens) bytes = omega arith

-- the place of an item among the lengths that stand
pub within_lens : (lens : List ℕ) (bytes : Bytes) (place : ℕ) → place < length (items_in lens bytes) → place ≤ length lens
within_lens [] bytes place within = omega (arith, within)
within_lens (m ∷ lens) bytes place within = omega (arith, within, many_items (m ∷ lens) bytes)

-- the lengths stand where there is more than one
pub lens_stand : (lens : List ℕ) (bytes : Bytes) → 1 < length (items_in lens bytes) → lens_of lens (length bytes) ≡ lens
lens_stand [] bytes more = absurd (omega (arith, more))
lens_stand (m ∷ lens) bytes more = refl

-- one item
pub no_more : (lens : List ℕ) (bytes : Bytes) (place : ℕ) → length lens ≤ place → None ≡ slice_get (cut lens bytes) place
no_more [] bytes place ended = refl
no_more (n ∷ lens) bytes zero ended = absurd (omega (arith, ended))
no_more (n ∷ lens) bytes (suc place) ended = no_more lens (drop n bytes) place (omega (arith, ended))

pub item_within : (lens : List ℕ) (bytes behind : Bytes) (place start n : ℕ) → total lens ≡ length bytes → place < length lens → start ≡ total (take place lens)
    → behind ≡ drop start bytes → n ≡ get_or lens place 0 → n ≤ length behind
item_within lens bytes behind place start n whole within at are is =
    let one = take_more lens place 0 within in
    let more : total (take (place + 1) lens) ≡ total (take place lens) + n =
    ap total one ∙ total-append (take place lens) (get_or lens place 0 ∷ []) ∙ ap (λ m. total (take place lens) + m) (omega (arith, is)) in
    omega (arith, total_split (place + 1) lens, whole, at, more, ap length are, length-drop start bytes)

some_at : {A : Type 0} (xs : List A) (place : ℕ) (d : A) → place < length xs → slice_get xs place ≡ Some (get_or xs place d)
some_at [] place d within = absurd (omega (arith, within))
some_at (x ∷ xs) zero d within = refl
some_at (x ∷ xs) (suc place) d within = some_at xs place d (omega (arith, within))

pub item_is : (lens : List ℕ) (bytes behind item : Bytes) (place start n : ℕ) → total lens ≡ length bytes → place < length lens → start ≡ total (take place lens)
    → behind ≡ drop start bytes → n ≡ get_or lens place 0 → item ≡ take n behind → Some item ≡ slice_get (cut lens bytes) place
item_is lens bytes behind item place start n whole within at are is read =
    let items = cut lens bytes in
    let long : place < length items = omega (arith, within, length_cut lens bytes) in
    sym (some_at items place item long
    ∙ ap (λ x. Some x) (sym (one_is lens bytes items (holds_cut lens bytes whole) place n item long (is ∙ get_or_default lens place 0 n within)))
    ∙ ap (λ x. Some x) (sym (read ∙ ap (take n) (are ∙ ap (λ m. drop m bytes) at))))

-- the items behind a place
pub behind_place : (lens others : List ℕ) (bytes behind : Bytes) (place start : ℕ) → IsWhole lens bytes → place < length (items_in lens bytes)
    → start ≡ total (take place lens) → others ≡ drop place lens → behind ≡ drop start bytes
    → IsWhole others behind × (items_in others behind ≡ drop place (items_in lens bytes))
behind_place [] others bytes behind zero start whole within at are left =
    let same : behind ≡ bytes = left ∙ ap (λ n. drop n bytes) at in
    (subst (λ (pair : List ℕ × Bytes). IsWhole pair.0 pair.1) (λ i. (sym are i, sym same i)) whole, λ i. items_in (are i) (same i))
behind_place [] others bytes behind (suc place) start whole within at are left = absurd (omega (arith, within))
behind_place (m ∷ lens) others bytes behind place start whole within at are left =
    let xs = items_in (m ∷ lens) bytes in
    let held = left_from (m ∷ lens) bytes xs (holds_items (m ∷ lens) bytes whole) place in
    let holds : Holds others behind (drop place xs) = subst (λ (pair : List ℕ × Bytes). Holds pair.0 pair.1 (drop place xs))
    (λ i. (sym are i, sym (left ∙ ap (λ n. drop n bytes) at) i)) held in
    let some : 0 < length (drop place xs) = omega (arith, within, length-drop place xs) in
    (whole_items others behind (drop place xs) some holds, read_items others behind (drop place xs) some holds)

-- items out of a block
pub cut_out : (lens left : List ℕ) (bytes rest : Bytes) (start end from to : ℕ) → IsWhole lens bytes → start < end → end ≤ length (items_in lens bytes)
    → end - start < length (items_in lens bytes) → from ≡ total (take start lens) → to ≡ total (take end lens) → left ≡ take start lens ++ drop end lens
    → rest ≡ take from bytes ++ drop to bytes → IsWhole left rest × (items_in left rest ≡ take start (items_in lens bytes) ++ drop end (items_in lens bytes))
cut_out lens left bytes rest start end from to whole order within others at till lens_are bytes_are =
    let xs = items_in lens bytes in
    let stand = lens_stand lens bytes (omega (arith, order, within, others)) in
    let held = taken_out lens bytes xs (subst (λ (ls : List ℕ). Holds ls bytes xs) stand (holds_items lens bytes whole)) start end in
    let ys = take start xs ++ drop end xs in
    let holds : Holds left rest ys = subst (λ (pair : List ℕ × Bytes). Holds pair.0 pair.1 ys)
    (λ i. (sym lens_are i, sym (bytes_are ∙ (λ j. take (at j) bytes ++ drop (till j) bytes)) i)) held in
    let some : 0 < length ys = omega (arith, order, within, others, length-append (take start xs) (drop end xs), length-take start xs, length-drop end xs) in
    (whole_items left rest ys some holds, read_items left rest ys some holds)

-- the length of a lone item written out
pub written_whole : (lens stand : List ℕ) (bytes : Bytes) → IsWhole lens bytes → stand ≡ lens_of lens (length bytes)
    → IsWhole stand bytes × (items_in stand bytes ≡ items_in lens bytes)
written_whole [] stand bytes whole are =
    (subst (λ (ls : List ℕ). IsWhole ls bytes) (sym are) (record { whole = whole.whole }), ap (λ ls. items_in ls bytes) are)
written_whole (m ∷ lens) stand bytes whole are =
    (subst (λ (ls : List ℕ). IsWhole ls bytes) (sym are) (record { whole = whole.whole }), ap (λ ls. items_in ls bytes) are)

-- an item into a block
pub put_into : (lens stand more : List ℕ) (bytes whole_bytes item : Bytes) (place start : ℕ) → IsWhole lens bytes → place ≤ length (items_in lens bytes)
    → stand ≡ lens_of lens (length bytes) → start ≡ total (take place stand) → more ≡ insert stand place (length item)
    → whole_bytes ≡ take start bytes ++ (item ++ drop start bytes)
    → IsWhole more whole_bytes × (items_in more whole_bytes ≡ insert (items_in lens bytes) place item)
put_into lens stand more bytes all item place start whole within are at lens_are bytes_are =
    let xs = items_in lens bytes in
    let held = put_in stand bytes xs (subst (λ (ls : List ℕ). Holds ls bytes xs) (sym are) (holds_items lens bytes whole)) place item in
    let ys = insert xs place item in
    let holds : Holds more all ys = subst (λ (pair : List ℕ × Bytes). Holds pair.0 pair.1 ys)
    (λ i. (sym lens_are i, sym (bytes_are ∙ (λ j. take (at j) bytes ++ (item ++ drop (at j) bytes))) i)) held in
    let some : 0 < length ys = omega (arith, length-append (take place xs) (item ∷ drop place xs)) in
    (whole_items more all ys some holds, read_items more all ys some holds)

-- an item in the place of another
pub put_over_at : (lens stand more : List ℕ) (bytes whole_bytes item : Bytes) (place start end : ℕ) → IsWhole lens bytes → place < length (items_in lens bytes)
    → stand ≡ lens_of lens (length bytes) → start ≡ total (take place stand) → end ≡ total (take (place + 1) stand) → more ≡ set stand place (length item)
    → whole_bytes ≡ take start bytes ++ (item ++ drop end bytes)
    → IsWhole more whole_bytes × (items_in more whole_bytes ≡ set (items_in lens bytes) place item)
put_over_at lens stand more bytes all item place start end whole within are at till lens_are bytes_are =
    let xs = items_in lens bytes in
    let held = put_over stand bytes xs (subst (λ (ls : List ℕ). Holds ls bytes xs) (sym are) (holds_items lens bytes whole)) place item within in
    let ys = set xs place item in
    let holds : Holds more all ys = subst (λ (pair : List ℕ × Bytes). Holds pair.0 pair.1 ys)
    (λ i. (sym lens_are i, sym (bytes_are ∙ (λ j. take (at j) bytes ++ (item ++ drop (till j) bytes))) i)) held in
    let some : 0 < length ys = omega (arith, within, length-set xs place item) in
    (whole_items more all ys some holds, read_items more all ys some holds)

pub stand_within : (lens stand : List ℕ) (bytes : Bytes) (place : ℕ) → place ≤ length (items_in lens bytes) → stand ≡ lens_of lens (length bytes) → place ≤ length stand
stand_within lens stand bytes place within are = omega (arith, within, many_items lens bytes, ap length are)

pub stand_below : (lens stand : List ℕ) (bytes : Bytes) (place : ℕ) → place < length (items_in lens bytes) → stand ≡ lens_of lens (length bytes) → place < length stand
stand_below lens stand bytes place within are = omega (arith, within, many_items lens bytes, ap length are)

pub total_grows : (lens : List ℕ) (i j from to : ℕ) → i ≤ j → from ≡ total (take i lens) → to ≡ total (take j lens) → from ≤ to
total_grows lens i j from to order at till = omega (arith, at, till, total_split i (take j lens), ap total (take-take i j lens order))

-- the range of a block whose lengths stand
pub range_within : (lens stand : List ℕ) (bytes : Bytes) (start end : ℕ) → start < end → end ≤ length (items_in lens bytes) → end - start < length (items_in lens bytes)
    → stand ≡ lens → end ≤ length stand
range_within lens stand bytes start end order within others are =
    let long = lens_stand lens bytes (omega (arith, order, within, others)) in
    omega (arith, within, many_items lens bytes, ap length long, ap length are)

-- cut in two steps
cut-append : (a b : List ℕ) (bytes : Bytes) → cut (a ++ b) bytes ≡ cut a (take (total a) bytes) ++ cut b (drop (total a) bytes)
cut-append [] b bytes = refl
cut-append (n ∷ a) b bytes =
    ap (λ ys. take n bytes ∷ ys) (cut-append a b (drop n bytes))
    ∙ (λ i. sym (take-take n (n + total a) bytes (omega arith)) i
    ∷ (cut a (sym (drop-take n (total a) bytes) i) ++ cut b (drop-drop (total a) n bytes i)))

-- the last item
pub last_within : (lens others : List ℕ) (bytes : Bytes) (n : ℕ) → lens ≡ others ++ n ∷ [] → total lens ≡ length bytes → n ≤ length bytes
last_within lens others bytes n are whole = omega (arith, whole, ap total are ∙ total-append others (n ∷ []))

pub last_left : (lens others : List ℕ) (bytes before : Bytes) (n : ℕ) → lens ≡ others ++ n ∷ [] → total lens ≡ length bytes → before ≡ take (length bytes - n) bytes
    → total others ≡ length before
last_left lens others bytes before n are whole is =
    omega (arith, whole, ap total are ∙ total-append others (n ∷ []), ap length is, length-take (length bytes - n) bytes)

pub last_cut : (lens others : List ℕ) (bytes before item : Bytes) (n : ℕ) → lens ≡ others ++ n ∷ [] → total lens ≡ length bytes → before ≡ take (length bytes - n) bytes
    → item ≡ drop (length bytes - n) bytes → cut lens bytes ≡ cut others before ++ item ∷ []
last_cut lens others bytes before item n are whole is left =
    let start : total others ≡ length bytes - n = omega (arith, whole, ap total are ∙ total-append others (n ∷ [])) in
    let few : length (drop (total others) bytes) ≤ n = omega (arith, whole, ap total are ∙ total-append others (n ∷ []), length-drop (total others) bytes) in
    ap (λ ls. cut ls bytes) are ∙ cut-append others (n ∷ []) bytes
    ∙ ap (λ ys. cut others (take (total others) bytes) ++ ys ∷ []) (take_all n (drop (total others) bytes) few)
    ∙ (λ i. cut others (take (start i) bytes) ++ drop (start i) bytes ∷ [])
    ∙ (λ i. cut others (sym is i) ++ sym left i ∷ [])

-- the last item of the last block
pub last_of_all : (first last block rest left : List Bytes) (blocks others : List (List Bytes)) → last ≡ [] → blocks ≡ others ++ block ∷ [] → block ≡ rest ++ left
    → first ++ (joined blocks ++ last) ≡ first ++ (joined others ++ rest) ++ left
last_of_all first last block rest left blocks others none are is =
    ap (λ ys. first ++ (joined blocks ++ ys)) none ∙ ap (λ ys. first ++ ys) (append-nil (joined blocks) ∙ ap joined are ∙ joined-append others (block ∷ [])
    ∙ ap (λ ys. joined others ++ ys) (append-nil block ∙ is) ∙ sym (append_assoc (joined others) rest left))
    ∙ sym (append_assoc first (joined others ++ rest) left)

-- how many bytes items have
pub bytes_are : (lens : List ℕ) (bytes : Bytes) (items : List Bytes) → IsWhole lens bytes → items_in lens bytes ≡ items → length bytes ≡ length (joined items)
bytes_are lens bytes items whole is = ap length ((holds_items lens bytes whole).stored ∙ ap joined is)
