-- Pairs in a block before and after a change.
use Rattle.std.proofs.Common.{◌≡◌, ◌+◌, ◌-◌, ◌≤◌, ◌<◌, ℕ, Bool, true, false, cond, not, Option, Some, None, is_some, is_none, [], ◌∷◌, ◌++◌, length, take, drop, refl, ap, sym, ◌∙◌, subst, append_assoc, arith, length-append, le_trans}
use Rattle.std.specs.Prelude.{◌&&◌, nat_le}
use Rattle.std.specs.Option.{option_map}
use Rattle.std.specs.Map.{lookup, remove_entry}
use Rattle.std.specs.BTreeMap.{insert_entry, is_at}
use Rattle.std.proofs.lemmas.Bool.{leb-true}
use Rattle.std.proofs.Math.Seq.{take-append_seam, drop-append_seam}
use Rattle.nr_model.specs.Bytes.{Bytes}
use Rattle.nr_model.specs.Keyspace.{byte_cmp}
use Rattle.nr_packs.specs.Packed.{Entries, word, packed, entries_in, AreShort, IsPacked, fits}
use Rattle.nr_packs.specs.Placed.{below, from, past, value_first}
use Rattle.nr_packs.specs.Orders.{AreInOrder}
use Rattle.nr_packs.proofs.Reading.{entries_packed}
use Rattle.nr_packs.proofs.Placed.{packed-append, below_from, stands, stands_between, inserted, removed, found, length_insert, length_remove, short_insert, short_remove}

-- what was packed is what is read
pub read_back : (bytes : Bytes) (es : Entries) → bytes ≡ packed es → entries_in bytes ≡ es
read_back bytes es is = ap entries_in is ∙ entries_packed es

pub made : (pairs : ℕ) (bytes : Bytes) (es : Entries) → bytes ≡ packed es → pairs ≡ length es → pairs ≤ 512 → AreShort es → IsPacked pairs bytes
made pairs bytes es is counted few short = record {
  stored = ap packed (read_back bytes es is) ∙ sym is;
  counted = counted ∙ ap length (sym (read_back bytes es is));
  few = few;
  short = subst AreShort (sym (read_back bytes es is)) short;
}

pub none_made : (bytes : Bytes) → bytes ≡ [] → IsPacked 0 bytes
none_made bytes is = made 0 bytes [] is refl (omega arith) tt

past_shorter : (k : Bytes) (es : Entries) → length (packed (past k es)) ≤ length (packed es)
past_shorter k [] = omega arith
past_shorter k (e ∷ es) =
    let len : length (packed (e ∷ es)) ≡ length (word e.0) + (length (word e.1) + length (packed es)) =
    length-append (word e.0) (word e.1 ++ packed es) ∙ ap (λ n. length (word e.0) + n) (length-append (word e.1) (packed es)) in
    let less : length (packed es) ≤ length (packed (e ∷ es)) = omega arith in
    elim (is_at (byte_cmp k) e.0) as (λ b. length (packed (cond b es (e ∷ es))) ≤ length (packed (e ∷ es))) [ true ↦ less | false ↦ omega arith ]

-- the parts around a field are no longer than all
pub room_around : (bytes before after k : Bytes) → packed (entries_in bytes) ≡ bytes → before ≡ packed (below k (entries_in bytes)) → after ≡ packed (past k (from k (entries_in bytes)))
    → length before + length after ≤ length bytes
room_around bytes before after k stored front back =
    let es = entries_in bytes in
    let whole : packed es ≡ packed (below k es) ++ packed (from k es) = ap packed (sym (below_from k es)) ∙ packed-append (below k es) (from k es) in
    let all : length bytes ≡ length (packed (below k es)) + length (packed (from k es)) = ap length (sym stored ∙ whole) ∙ length-append (packed (below k es)) (packed (from k es)) in
    let less = past_shorter k (from k es) in
    let one : length before ≡ length (packed (below k es)) = ap length front in
    let other : length after ≡ length (packed (past k (from k es))) = ap length back in
    omega arith

-- a pair put between them
pub put_in : (bytes new before after k v : Bytes) → new ≡ before ++ (word k ++ (word v ++ after)) → before ≡ packed (below k (entries_in bytes))
    → after ≡ packed (past k (from k (entries_in bytes))) → new ≡ packed (insert_entry byte_cmp (entries_in bytes) k v)
put_in bytes new before after k v is front back = is ∙ (λ i. front i ++ (word k ++ (word v ++ back i))) ∙ inserted k v (entries_in bytes)

-- a value that stands there, and one written over it with as many bytes
module _ (bytes before after k old v : Bytes) (stored : packed (entries_in bytes) ≡ bytes) (front : before ≡ packed (below k (entries_in bytes)))
    (back : after ≡ packed (past k (from k (entries_in bytes)))) (there : value_first k (from k (entries_in bytes)) ≡ Some old) (long : length old ≡ length v) where
  abbrev head : Bytes
  head = before ++ (word k ++ length old ∷ [])

  apart_at : (x : Bytes) → before ++ (word k ++ (length old ∷ x)) ≡ head ++ x
  apart_at x = ap (λ ys. before ++ ys) (sym (append_assoc (word k) (length old ∷ []) x)) ∙ sym (append_assoc before (word k ++ length old ∷ []) x)

  all_is : bytes ≡ head ++ (old ++ after)
  all_is = sym stored ∙ stands k old (entries_in bytes) there ∙ (λ i. sym front i ++ (word k ++ (word old ++ sym back i))) ∙ apart_at (old ++ after)

  head_long : length head ≡ length before + length k + 2
  head_long = omega (arith, length-append before (word k ++ length old ∷ []), length-append (word k) (length old ∷ []))

  pub fits_over : length before + length k + 2 + length v ≤ length bytes
  fits_over = omega (arith, head_long, long, ap length all_is, length-append head (old ++ after), length-append old after)

  pub written_over : (start : ℕ) (new : Bytes) → start ≡ length before + length k + 2 → new ≡ take start bytes ++ (v ++ drop (start + length v) bytes)
      → new ≡ before ++ (word k ++ (word v ++ after))
  written_over start new at is =
      let here : start ≡ length head = omega (arith, at, head_long) in
      let behind : start + length v ≡ length (head ++ old) = omega (arith, here, long, length-append head old) in
      let left : bytes ≡ (head ++ old) ++ after = all_is ∙ sym (append_assoc head old after) in
      is ∙ (λ i. take (here i) (all_is i) ++ (v ++ drop (behind i) (left i)))
      ∙ (λ i. take-append_seam head (old ++ after) i ++ (v ++ drop-append_seam (head ++ old) after i))
      ∙ sym (apart_at (v ++ after)) ∙ ap (λ (n : ℕ). before ++ (word k ++ (n ∷ (v ++ after)))) long

-- where a value stands there are pairs
pub some_stand : (k v : Bytes) (es : Entries) → value_first k (from k es) ≡ Some v → 0 < length es
some_stand k v es there = omega (arith, ap length (stands_between k v es there), length-append (below k es) ((k, v) ∷ past k (from k es)))

none_of : {A B : Type 0} (f : A → B) (o : Option A) → is_none (option_map f o) ≡ is_none o
none_of f None = refl
none_of f (Some x) = refl

told : {A : Type 0} (o : Option A) (b : Bool) → is_some o ≡ not b → b ≡ is_none o
told None true is = refl
told None false is = cc
told (Some x) true is = cc
told (Some x) false is = refl

-- whether a field is new
pub is_new : {A : Type 0} (f : A → Bytes) (value : Option A) (k : Bytes) (es : Entries) (b : Bool) → is_some value ≡ not b → option_map f value ≡ value_first k (from k es)
    → b ≡ is_none (value_first k (from k es))
is_new f value k es b is at = told value b is ∙ sym (none_of f value) ∙ ap is_none at

-- how many pairs there are then
pub counted_with : (pairs more : ℕ) (es : Entries) (k v : Bytes) (b : Bool) → pairs ≡ length es → b ≡ is_none (value_first k (from k es)) → more ≡ pairs + cond b 1 0
    → more ≡ length (insert_entry byte_cmp es k v)
counted_with pairs more es k v b counted new is = is ∙ (λ i. counted i + cond (new i) 1 0) ∙ sym (length_insert k v es)

first_true : (a b : Bool) → (a && b) ≡ true → a ≡ true
first_true true b is = refl
first_true false b is = is

second_true : (a b : Bool) → (a && b) ≡ true → b ≡ true
second_true true b is = is
second_true false b is = cc

-- the pairs with one put
pub put_kept : (most pairs more : ℕ) (bytes new k v : Bytes) → IsPacked pairs bytes → new ≡ packed (insert_entry byte_cmp (entries_in bytes) k v)
    → more ≡ length (insert_entry byte_cmp (entries_in bytes) k v) → most ≤ 255 → fits most more k v ≡ true → IsPacked more new
put_kept most pairs more bytes new k v kept is counted short fit =
    let others = second_true (nat_le (length k) most) (nat_le (length v) most && nat_le more 512) fit in
    made more new (insert_entry byte_cmp (entries_in bytes) k v) is counted
    (leb-true more 512 (second_true (nat_le (length v) most) (nat_le more 512) others))
    (short_insert k v (entries_in bytes) (le_trans (leb-true (length k) most (first_true (nat_le (length k) most) (nat_le (length v) most && nat_le more 512) fit)) short)
    (le_trans (leb-true (length v) most (first_true (nat_le (length v) most) (nat_le more 512) others)) short) kept.short)

nothing : {A : Type 0} (o : Option A) → is_none o ≡ true → o ≡ None
nothing None is = refl
nothing (Some x) is = cc

something : {A : Type 0} (o : Option A) → is_none o ≡ false → (x : A) × (o ≡ Some x)
something None is = cc
something (Some x) is = (x, refl)

-- a field that isn't there
pub lacking : (k : Bytes) (es : Entries) → AreInOrder es → is_none (value_first k (from k es)) ≡ true → lookup (is_at (byte_cmp k)) es ≡ None
lacking k es rises none = sym (found k es rises) ∙ nothing (value_first k (from k es)) none

-- and one that is
pub there : (k : Bytes) (es : Entries) → is_none (value_first k (from k es)) ≡ false → (v : Bytes) × (value_first k (from k es) ≡ Some v)
there k es some = something (value_first k (from k es)) some

apart : (k v : Bytes) (es : Entries) → value_first k es ≡ Some v → (part : Bytes) × (packed es ≡ part ++ packed (past k es))
apart k v [] is = cc
apart k v (e ∷ es) is =
    elim (is_at (byte_cmp k) e.0) as (λ b. cond b (Some e.1) None ≡ Some v → (part : Bytes) × (packed (e ∷ es) ≡ part ++ packed (cond b es (e ∷ es)))) [
      | true ↦ λ is. (word e.0 ++ word e.1, sym (append_assoc (word e.0) (word e.1) (packed es)))
      | false ↦ λ is. cc
    ] is

ends : (front part back bytes : Bytes) → bytes ≡ front ++ (part ++ back) → take (length front) bytes ++ drop (length bytes - length back) bytes ≡ front ++ back
ends front part back bytes is =
    let all : bytes ≡ (front ++ part) ++ back = is ∙ sym (append_assoc front part back) in
    let len : length bytes - length back ≡ length (front ++ part) = omega (arith, ap length all, length-append (front ++ part) back) in
    (λ i. take (length front) (is i) ++ drop (len i) (all i)) ∙ (λ i. take-append_seam front (part ++ back) i ++ drop-append_seam (front ++ part) back i)

-- the bytes of a pair cut out
pub cut_out : (bytes new before after k v : Bytes) → packed (entries_in bytes) ≡ bytes → before ≡ packed (below k (entries_in bytes)) → after ≡ packed (past k (from k (entries_in bytes)))
    → value_first k (from k (entries_in bytes)) ≡ Some v → new ≡ take (length before) bytes ++ drop (length bytes - length after) bytes
    → new ≡ packed (remove_entry (is_at (byte_cmp k)) (entries_in bytes))
cut_out bytes new before after k v stored front back it is =
    let es = entries_in bytes in
    let part = apart k v (from k es) it in
    let whole : bytes ≡ packed (below k es) ++ (part.0 ++ packed (past k (from k es))) =
    sym stored ∙ ap packed (sym (below_from k es)) ∙ packed-append (below k es) (from k es) ∙ ap (λ rest. packed (below k es) ++ rest) part.1 in
    is ∙ (λ i. take (length (front i)) bytes ++ drop (length bytes - length (back i)) bytes) ∙ ends (packed (below k es)) part.0 (packed (past k (from k es))) bytes whole
    ∙ removed k v es it

-- the pairs with one less
pub cut_kept : (pairs : ℕ) (bytes new k v : Bytes) → IsPacked pairs bytes → AreInOrder (entries_in bytes) → value_first k (from k (entries_in bytes)) ≡ Some v
    → new ≡ packed (remove_entry (is_at (byte_cmp k)) (entries_in bytes)) → IsPacked (pairs - 1) new
cut_kept pairs bytes new k v kept rises it is =
    let one = length_remove k v (entries_in bytes) (sym (found k (entries_in bytes) rises) ∙ it) in
    let count = kept.counted in
    let few = kept.few in
    made (pairs - 1) new (remove_entry (is_at (byte_cmp k)) (entries_in bytes)) is (omega arith) (omega arith) (short_remove k (entries_in bytes) kept.short)
