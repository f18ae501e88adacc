-- What the calls of a list say, of the items of its blocks.
use Rattle.std.proofs.Common.{◌≡◌, ℕ, suc, ℤ, pos, negsuc, ◌+◌, ◌-◌, ◌<◌, ◌≤◌, ◌^◌, List, [], ◌∷◌, ◌++◌, length, take, drop, get_or, set, reverse, refl, ap, sym, ◌∙◌, arith, length-append}
use Rattle.std.specs.Prelude.{slice_get, Option, Some, None, bytes_eq, cond, if◌then◌else◌, option_and_then, true, false}
use Rattle.std.specs.List.{insert, position_from}
use Rattle.std.specs.Option.{option_map, unwrap_or}
use Rattle.std.proofs.lemmas.Bool.{lt-ltb}
use Rattle.std.proofs.lemmas.List.{set_split, take-append-drop, drop-drop, length-set, length-drop, get_or_read, reverse-reverse, reverse-append, drop_all, take_at, get_or_at}
use Rattle.std.proofs.lemmas.Iterator.Adapters.{position_from-zero}
use Rattle.nr_model.specs.Bytes.{Bytes}
use Rattle.nr_model.specs.Strings.{range, range_start, range_end}
use Rattle.nr_model.specs.Lists.{popped, item_at, index_of, place_of, with_item_at, pivot_of, beside, inserted, seen_from}
use Rattle.nr_model.specs.declared.command.End.{End}
use Rattle.nr_model.specs.declared.command.End.TheVariants.{Left, Right}
use Rattle.nr_model.specs.declared.command.Side.{Side}
use Rattle.nr_model.specs.declared.command.Side.TheVariants.{Before, After}
use Rattle.nr_lists.specs.Packed.{joined}
use Rattle.nr_lists.specs.Blocks.{block_at, before, behind, IsCounted}
use Rattle.nr_lists.proofs.Around.{item_there, before_is, behind_is, put_there, first_item}
use Rattle.nr_lists.proofs.Kept.{kept}

-- the item at an index
pub got : (blocks : List (List Bytes)) (items : List Bytes) (len : ℕ) (index : ℤ) (place k i : ℕ) (b : List Bytes) → len ≡ length (joined blocks) → joined blocks ≡ items
    → Some place ≡ place_of len index → k < length blocks → i < length (block_at blocks k) → place ≡ length (joined (take k blocks)) + i
    → b ≡ get_or blocks k b → slice_get b i ≡ item_at index items
got blocks items len index place k i b counted view found within inside at read =
    ap (λ ys. slice_get ys i) (get_or_read blocks k b within read []) ∙ item_there blocks k i place within inside at
    ∙ ap (λ xs. slice_get xs place) view ∙ ap (option_and_then (slice_get items)) (found ∙ ap (λ n. place_of n index) (counted ∙ ap length view))

-- an item in the place of another
module _ (blocks new : List (List Bytes)) (len place k i : ℕ) (x : Bytes) (counted : IsCounted len blocks) (within : k < length blocks)
    (inside : i < length (block_at blocks k)) (at : place ≡ length (joined (take k blocks)) + i)
    (put : joined new ≡ before blocks k i ++ x ∷ drop 1 (behind blocks k i)) where
  written : place < length (joined blocks) → joined new ≡ set (joined blocks) place x
  written some =
      let next : place + 1 ≡ suc place = omega arith in
      put
      ∙ (λ j. before_is blocks k i place within (omega (arith, inside)) at j ++ x ∷ drop 1 (behind_is blocks k i place within (omega (arith, inside)) at j))
      ∙ ap (λ ys. take place (joined blocks) ++ x ∷ ys) (drop-drop 1 place (joined blocks) ∙ ap (λ n. drop n (joined blocks)) next)
      ∙ sym (set_split (joined blocks) place x some)

  pub written_counted : place < len → IsCounted len new
  written_counted some = record {
    counted = counted.counted ∙ sym (ap length (written (omega (arith, some, counted.counted))) ∙ length-set (joined blocks) place x);
    few = counted.few;
  }

  pub written_items : (index : ℤ) (items : List Bytes) → place < len → joined blocks ≡ items → Some place ≡ place_of len index → joined new ≡ with_item_at index x items
  written_items index items some view found =
      written (omega (arith, some, counted.counted)) ∙ ap (λ xs. set xs place x) view
      ∙ ap (λ (p : Option ℕ). unwrap_or (option_map (λ at. set items at x) p) items) (found ∙ ap (λ n. place_of n index) (counted.counted ∙ ap length view))

-- a range
pub ranged : (blocks : List (List Bytes)) (items shown : List Bytes) (len k i start end : ℕ) (first last : ℤ) → len ≡ length (joined blocks) → joined blocks ≡ items
    → start ≡ range_start len first → end ≡ range_end len last → k < length blocks → i < length (block_at blocks k) → start ≡ length (joined (take k blocks)) + i
    → shown ≡ take (end - start) (behind blocks k i) → shown ≡ range first last items
ranged blocks items shown len k i start end first last counted view begins ends within inside at are =
    let same : len ≡ length items = counted ∙ ap length view in
    are ∙ ap (take (end - start)) (behind_is blocks k i start within (omega (arith, inside)) at ∙ ap (drop start) view)
    ∙ (λ j. take ((ends ∙ ap (λ n. range_end n last) same) j - (begins ∙ ap (λ n. range_start n first) same) j)
    (drop ((begins ∙ ap (λ n. range_start n first) same) j) items))

-- as many items as a range has are from its first on
pub reached : (blocks : List (List Bytes)) (len k i start end : ℕ) → len ≡ length (joined blocks) → end ≤ len → k < length blocks → i < length (block_at blocks k)
    → start ≡ length (joined (take k blocks)) + i → end - start ≤ length (behind blocks k i)
reached blocks len k i start end counted bound within inside at =
    let all : length (behind blocks k i) ≡ length (joined blocks) - start =
    ap length (behind_is blocks k i start within (omega (arith, inside)) at) ∙ length-drop start (joined blocks) in
    omega (arith, all, counted, bound)

pub trimmed : (old items cut new : List Bytes) (len start end : ℕ) (first last : ℤ) → len ≡ length old → old ≡ items → start ≡ range_start len first
    → end ≡ range_end len last → start ≤ end → cut ≡ take end old → new ≡ drop start cut → new ≡ range first last items
trimmed old items cut new len start end first last counted view begins ends order short are =
    let same : len ≡ length items = counted ∙ ap length view in
    are ∙ ap (drop start) (short ∙ ap (take end) view) ∙ kept items start end order
    ∙ (λ j. take ((ends ∙ ap (λ n. range_end n last) same) j - (begins ∙ ap (λ n. range_start n first) same) j)
    (drop ((begins ∙ ap (λ n. range_start n first) same) j) items))

-- the item at an end taken out
reversed : (old new : List Bytes) (x : Bytes) → reverse old ≡ x ∷ reverse new → old ≡ new ++ x ∷ []
reversed old new x is =
    sym (reverse-reverse old) ∙ ap reverse (is) ∙ reverse-append (x ∷ []) (reverse new) ∙ ap (λ ys. ys ++ x ∷ []) (reverse-reverse new)

first_there : (n : ℕ) → place_of (suc n) (pos 0) ≡ Some 0
first_there n = ap (λ b. if b then Some 0 else None) (lt-ltb 0 (suc n) (omega arith))

last_there : (n : ℕ) → 0 < n → place_of n (negsuc 0) ≡ Some (n - 1)
last_there n some = ap (λ b. if b then Some (n - 1) else None) (lt-ltb 0 n some)

pub popped_item : (end : End) (old new : List Bytes) (x : Bytes) → seen_from end old ≡ x ∷ seen_from end new → Some x ≡ item_at (index_of end) old
popped_item Left old new x is =
    sym (ap (item_at (pos 0)) is ∙ ap (option_and_then (slice_get (x ∷ new))) (first_there (length new)))
popped_item Right old new x is =
    let apart = reversed old new x is in
    let long : length (new ++ x ∷ []) ≡ length new + 1 = length-append new (x ∷ []) in
    let place : length (new ++ x ∷ []) - 1 ≡ length new = omega (arith, long) in
    sym (ap (item_at (negsuc 0)) apart ∙ ap (option_and_then (slice_get (new ++ x ∷ []))) (last_there (length (new ++ x ∷ [])) (omega (arith, long)))
    ∙ ap (slice_get (new ++ x ∷ [])) place ∙ first_item (new ++ x ∷ []) (length new) [] (omega (arith, long))
    ∙ ap (λ y. Some y) (get_or_at new x [] [] (length new) refl))

pub popped_left : (end : End) (old new : List Bytes) (x : Bytes) → seen_from end old ≡ x ∷ seen_from end new → new ≡ popped end old
popped_left Left old new x is = sym (ap (drop 1) is)
popped_left Right old new x is =
    let apart = reversed old new x is in
    let less : length new ≡ length old - 1 = omega (arith, ap length apart, length-append new (x ∷ [])) in
    sym (ap (take (length old - 1)) apart ∙ take_at new (x ∷ []) (length old - 1) less)

-- and one item less is counted, below any bound
pub popped_counted : (end : End) (old new : List Bytes) (x : Bytes) → seen_from end old ≡ x ∷ seen_from end new
    → (len : ℕ) → len ≡ length old → len - 1 ≡ length new
popped_counted Left old new x is len counted = omega (arith, counted, ap length is)
popped_counted Right old new x is len counted = omega (arith, counted, ap length (reversed old new x is), length-append new (x ∷ []))

pub one_less : (len bound : ℕ) → len < bound → len - 1 < bound
one_less len bound few = omega (arith, few)

-- where the first pivot stands: what is left to look at tells it
pub record Looks (pivot : Bytes) (place : ℕ) (all left : List Bytes) : Type 0 where
  pub rest : left ≡ drop place all
  pub found : position_from (λ other. bytes_eq other pivot) place left ≡ pivot_of pivot all

pub looks_first : (pivot : Bytes) (all left : List Bytes) → left ≡ all → Looks pivot 0 all left
looks_first pivot all left are = record {
  rest = are;
  found = ap (position_from (λ other. bytes_eq other pivot) 0) are ∙ sym (position_from-zero (λ other. bytes_eq other pivot) all);
}

pub looks_on : (pivot : Bytes) (place : ℕ) (all left more : List Bytes) (x : Bytes) → left ≡ x ∷ more → bytes_eq x pivot ≡ false → Looks pivot place all left
    → Looks pivot (place + 1) all more
looks_on pivot place all left more x is other so_far = record {
  rest = ap (drop 1) (sym is ∙ so_far.rest) ∙ drop-drop 1 place all;
  found = sym (ap (position_from (λ y. bytes_eq y pivot) place) is
      ∙ ap (λ b. cond b (Some place) (position_from (λ y. bytes_eq y pivot) (place + 1) more)) other) ∙ so_far.found;
}

pub looks_found : (pivot : Bytes) (place : ℕ) (all left more : List Bytes) (x : Bytes) → left ≡ x ∷ more → bytes_eq x pivot ≡ true → Looks pivot place all left
    → Some place ≡ pivot_of pivot all
looks_found pivot place all left more x is same so_far =
    sym (ap (position_from (λ y. bytes_eq y pivot) place) is ∙ ap (λ b. cond b (Some place) (position_from (λ y. bytes_eq y pivot) (place + 1) more)) same)
    ∙ so_far.found

pub looks_none : (pivot : Bytes) (place : ℕ) (all left : List Bytes) → left ≡ [] → Looks pivot place all left → None ≡ pivot_of pivot all
looks_none pivot place all left none so_far = sym (ap (position_from (λ y. bytes_eq y pivot) place) none) ∙ so_far.found

pub looks_all : (pivot : Bytes) (place : ℕ) (all left : List Bytes) → length all ≤ place → Looks pivot place all left → None ≡ pivot_of pivot all
looks_all pivot place all left ended so_far = looks_none pivot place all left (so_far.rest ∙ drop_all place all ended) so_far

-- an item put in beside a pivot
module _ (blocks new : List (List Bytes)) (len place k i at : ℕ) (side : Side) (x : Bytes) (counted : IsCounted len blocks) (within : k < length blocks)
    (inside : i < length (block_at blocks k)) (there : place ≡ length (joined (take k blocks)) + i) (is : at ≡ beside side i)
    (put : joined new ≡ before blocks k at ++ x ∷ behind blocks k at) where
  put_beside : joined new ≡ insert (joined blocks) (beside side place) x
  put_beside = from side is
    where
      from : (side : Side) → at ≡ beside side i → joined new ≡ insert (joined blocks) (beside side place) x
      from Before is = put_there blocks k at place within (omega (arith, inside, is)) (omega (arith, there, is)) new x put
      from After is = put_there blocks k at (place + 1) within (omega (arith, inside, is)) (omega (arith, there, is)) new x put

  pub inserted_counted : len + 1 < 2 ^ 63 → IsCounted (len + 1) new
  inserted_counted few =
      let xs = joined blocks in
      let p = beside side place in
      record {
        counted = omega (arith, counted.counted, ap length put_beside, length-append (take p xs) (x ∷ drop p xs), ap length (take-append-drop p xs), length-append (take p xs) (drop p xs));
        few = few;
      }

  pub inserted_items : (pivot : Bytes) (items : List Bytes) → joined blocks ≡ items → Some place ≡ pivot_of pivot (joined blocks) → joined new ≡ inserted side pivot x items
  inserted_items pivot items view found =
      put_beside ∙ ap (λ xs. insert xs (beside side place) x) view
      ∙ ap (λ (p : Option ℕ). unwrap_or (option_map (λ at. insert items (beside side at) x) p) items) (found ∙ ap (pivot_of pivot) view)
