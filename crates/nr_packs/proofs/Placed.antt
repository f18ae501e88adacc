-- Pairs around a field: those in front of it, and those behind it.
use Rattle.std.proofs.Common.{◌≡◌, ◌+◌, ◌-◌, ◌≤◌, Bool, true, false, cond, Option, Some, None, is_none, List, [], ◌∷◌, ◌++◌, length, take, refl, ap, sym, ◌∙◌, append_assoc, arith, length-append}
use Rattle.std.specs.declared.cmp.Ordering.TheVariants.{Less, Equal, Greater}
use Rattle.std.specs.Ordering.{is_gt, is_eq, match_ordering, ordering_reverse}
use Rattle.std.specs.Cmp.Lexicographic.{nat_list_cmp_total}
use Rattle.std.specs.List.{AllByRecursion}
use Rattle.std.specs.List.Sorted.{IsStrictlySortedBy}
use Rattle.std.specs.Map.{keys_of, lookup, remove_entry}
use Rattle.std.specs.BTreeMap.{insert_entry, is_at}
use Rattle.std.proofs.lemmas.Map.Lookups.{exact_bytes}
use Rattle.std.proofs.Math.Seq.{take-append_seam}
use Rattle.nr_model.specs.Bytes.{Bytes}
use Rattle.nr_model.specs.Keyspace.{byte_cmp}
use Rattle.nr_packs.specs.Packed.{Entries, word, packed, AreShort}
use Rattle.nr_packs.specs.Placed.{below, from, past, value_first}

pub packed-append : (es others : Entries) → packed (es ++ others) ≡ packed es ++ packed others
packed-append [] others = refl
packed-append (e ∷ es) others =
    ap (λ bytes. word e.0 ++ (word e.1 ++ bytes)) (packed-append es others)
    ∙ ap (λ bytes. word e.0 ++ bytes) (sym (append_assoc (word e.1) (packed es) (packed others))) ∙ sym (append_assoc (word e.0) (word e.1 ++ packed es) (packed others))

-- the two parts are all
pub below_from : (k : Bytes) (es : Entries) → below k es ++ from k es ≡ es
below_from k [] = refl
below_from k (e ∷ es) =
    elim (is_gt (byte_cmp k e.0)) as (λ b. cond b (e ∷ below k es) [] ++ cond b (from k es) (e ∷ es) ≡ e ∷ es) [ true ↦ ap (λ es. e ∷ es) (below_from k es) | false ↦ refl ]

-- what stands in front of a rest
front_of : (bytes front rest : Bytes) → bytes ≡ front ++ rest → take (length bytes - length rest) bytes ≡ front
front_of bytes front rest is =
    let len : length bytes - length rest ≡ length front = omega (arith, ap length is, length-append front rest) in
    (λ i. take (len i) (is i)) ∙ take-append_seam front rest

pub in_front : (bytes rest k : Bytes) (es : Entries) → packed es ≡ bytes → rest ≡ packed (from k es) → take (length bytes - length rest) bytes ≡ packed (below k es)
in_front bytes rest k es stored left =
    front_of bytes (packed (below k es)) rest
    (sym stored ∙ ap packed (sym (below_from k es)) ∙ packed-append (below k es) (from k es) ∙ ap (λ rest. packed (below k es) ++ rest) (sym left))

-- a pair put at its place
put_between : (k v : Bytes) (es : Entries) → insert_entry byte_cmp es k v ≡ below k es ++ (k, v) ∷ past k (from k es)
put_between k v [] = refl
put_between k v (e ∷ es) =
    elim (byte_cmp k e.0) as (λ r. byte_cmp k e.0 ≡ r → match_ordering r ((k, v) ∷ e ∷ es) ((e.0, v) ∷ es) (e ∷ insert_entry byte_cmp es k v)
    ≡ cond (is_gt r) (e ∷ below k es) [] ++ (k, v) ∷ past k (cond (is_gt r) (from k es) (e ∷ es))) [
      | Less ↦ λ is. ap (λ r. (k, v) ∷ cond (is_eq r) es (e ∷ es)) (sym is)
      | Equal ↦ λ is. ap (λ (q : Bytes). (q, v) ∷ es) (sym (exact_bytes k e.0 is)) ∙ ap (λ r. (k, v) ∷ cond (is_eq r) es (e ∷ es)) (sym is)
      | Greater ↦ λ is. ap (λ es. e ∷ es) (put_between k v es)
    ] refl

pub inserted : (k v : Bytes) (es : Entries) → packed (below k es) ++ (word k ++ (word v ++ packed (past k (from k es)))) ≡ packed (insert_entry byte_cmp es k v)
inserted k v es = sym (packed-append (below k es) ((k, v) ∷ past k (from k es))) ∙ ap packed (sym (put_between k v es))

-- a pair that stands there
pub stands_between : (k v : Bytes) (es : Entries) → value_first k (from k es) ≡ Some v → es ≡ below k es ++ (k, v) ∷ past k (from k es)
stands_between k v [] there = cc
stands_between k v (e ∷ es) there =
    elim (byte_cmp k e.0) as (λ r. byte_cmp k e.0 ≡ r → value_first k (cond (is_gt r) (from k es) (e ∷ es)) ≡ Some v
    → e ∷ es ≡ cond (is_gt r) (e ∷ below k es) [] ++ (k, v) ∷ past k (cond (is_gt r) (from k es) (e ∷ es))) [
      | Less ↦ λ is there. let none : None ≡ Some v = ap (λ r. cond (is_eq r) (Some e.1) None) (sym is) ∙ there in cc
      | Equal ↦ λ is there.
          let it : Some e.1 ≡ Some v = ap (λ r. cond (is_eq r) (Some e.1) None) (sym is) ∙ there in
          let value : e.1 ≡ v = ap (λ (o : Option Bytes). elim o [ None ↦ e.1 | Some x ↦ x ]) it in
          (λ i. (sym (exact_bytes k e.0 is) i, value i) ∷ es) ∙ ap (λ r. (k, v) ∷ cond (is_eq r) es (e ∷ es)) (sym is)
      | Greater ↦ λ is there. ap (λ es. e ∷ es) (stands_between k v es there)
    ] refl there

pub stands : (k v : Bytes) (es : Entries) → value_first k (from k es) ≡ Some v
    → packed es ≡ packed (below k es) ++ (word k ++ (word v ++ packed (past k (from k es))))
stands k v es there = ap packed (stands_between k v es there) ∙ packed-append (below k es) ((k, v) ∷ past k (from k es))

-- a pair taken out
taken_between : (k v : Bytes) (es : Entries) → value_first k (from k es) ≡ Some v → remove_entry (is_at (byte_cmp k)) es ≡ below k es ++ past k (from k es)
taken_between k v [] there = refl
taken_between k v (e ∷ es) there =
    elim (byte_cmp k e.0) as (λ r. byte_cmp k e.0 ≡ r → value_first k (cond (is_gt r) (from k es) (e ∷ es)) ≡ Some v → cond (is_eq r) es (e ∷ remove_entry (is_at (byte_cmp k)) es)
    ≡ cond (is_gt r) (e ∷ below k es) [] ++ past k (cond (is_gt r) (from k es) (e ∷ es))) [
      | Less ↦ λ is there. let none : None ≡ Some v = ap (λ r. cond (is_eq r) (Some e.1) None) (sym is) ∙ there in cc
      | Equal ↦ λ is there. ap (λ r. cond (is_eq r) es (e ∷ es)) (sym is)
      | Greater ↦ λ is there. ap (λ es. e ∷ es) (taken_between k v es there)
    ] refl there

pub removed : (k v : Bytes) (es : Entries) → value_first k (from k es) ≡ Some v
    → packed (below k es) ++ packed (past k (from k es)) ≡ packed (remove_entry (is_at (byte_cmp k)) es)
removed k v es there = sym (packed-append (below k es) (past k (from k es))) ∙ ap packed (sym (taken_between k v es there))

-- where all fields are above one it is not there
none_above : (k : Bytes) (es : Entries) → AllByRecursion (λ y. byte_cmp k y ≡ Less) (keys_of es) → lookup (is_at (byte_cmp k)) es ≡ None
none_above k [] all = refl
none_above k (e ∷ es) all = ap (λ r. cond (is_eq r) (Some e.1) (lookup (is_at (byte_cmp k)) es)) all.0 ∙ none_above k es all.1

above_too : (k x : Bytes) (ys : List Bytes) → byte_cmp k x ≡ Less → AllByRecursion (λ y. byte_cmp x y ≡ Less) ys → AllByRecursion (λ y. byte_cmp k y ≡ Less) ys
above_too k x [] less all = all
above_too k x (y ∷ ys) less all = (nat_list_cmp_total.trans k x y less all.0, above_too k x ys less all.1)

-- a field is looked for at its place alone
pub found : (k : Bytes) (es : Entries) → IsStrictlySortedBy byte_cmp (keys_of es) → value_first k (from k es) ≡ lookup (is_at (byte_cmp k)) es
unfolding IsStrictlySortedBy
found k [] rises = refl
found k (e ∷ es) rises =
    elim (byte_cmp k e.0) as (λ r. byte_cmp k e.0 ≡ r → value_first k (cond (is_gt r) (from k es) (e ∷ es)) ≡ cond (is_eq r) (Some e.1) (lookup (is_at (byte_cmp k)) es)) [
      | Less ↦ λ is. ap (λ r. cond (is_eq r) (Some e.1) None) is ∙ sym (none_above k es (above_too k e.0 (keys_of es) is rises.0))
      | Equal ↦ λ is. ap (λ r. cond (is_eq r) (Some e.1) None) is
      | Greater ↦ λ is. found k es rises.1
    ] refl

-- what a pair put at its place makes of their number
pub length_insert : (k v : Bytes) (es : Entries) → length (insert_entry byte_cmp es k v) ≡ length es + cond (is_none (value_first k (from k es))) 1 0
length_insert k v [] = refl
length_insert k v (e ∷ es) =
    elim (byte_cmp k e.0) as (λ r. byte_cmp k e.0 ≡ r → length (match_ordering r ((k, v) ∷ e ∷ es) ((e.0, v) ∷ es) (e ∷ insert_entry byte_cmp es k v))
    ≡ length (e ∷ es) + cond (is_none (value_first k (cond (is_gt r) (from k es) (e ∷ es)))) 1 0) [
      | Less ↦ λ is. sym (ap (λ r. length (e ∷ es) + cond (is_none (cond (is_eq r) (Some e.1) None)) 1 0) is ∙ omega arith)
      | Equal ↦ λ is. sym (ap (λ r. length (e ∷ es) + cond (is_none (cond (is_eq r) (Some e.1) None)) 1 0) is ∙ omega arith)
      | Greater ↦ λ is. let rest = length_insert k v es in omega arith
    ] refl

pub length_remove : (k v : Bytes) (es : Entries) → lookup (is_at (byte_cmp k)) es ≡ Some v → length (remove_entry (is_at (byte_cmp k)) es) + 1 ≡ length es
length_remove k v [] there = cc
length_remove k v (e ∷ es) there =
    elim (is_at (byte_cmp k) e.0) as (λ b. cond b (Some e.1) (lookup (is_at (byte_cmp k)) es) ≡ Some v → length (cond b es (e ∷ remove_entry (is_at (byte_cmp k)) es)) + 1 ≡ length (e ∷ es)) [
      | true ↦ λ there. omega arith
      | false ↦ λ there. let rest = length_remove k v es there in omega arith
    ] there

pub short_insert : (k v : Bytes) (es : Entries) → length k ≤ 255 → length v ≤ 255 → AreShort es → AreShort (insert_entry byte_cmp es k v)
short_insert k v [] field value short = (field, value, tt)
short_insert k v (e ∷ es) field value short =
    elim (byte_cmp k e.0) as (λ r. AreShort (match_ordering r ((k, v) ∷ e ∷ es) ((e.0, v) ∷ es) (e ∷ insert_entry byte_cmp es k v))) [
      | Less ↦ (field, value, short)
      | Equal ↦ (short.0, value, short.2)
      | Greater ↦ (short.0, short.1, short_insert k v es field value short.2)
    ]

pub short_remove : (k : Bytes) (es : Entries) → AreShort es → AreShort (remove_entry (is_at (byte_cmp k)) es)
short_remove k [] short = short
short_remove k (e ∷ es) short =
    elim (is_at (byte_cmp k) e.0) as (λ b. AreShort (cond b es (e ∷ remove_entry (is_at (byte_cmp k)) es))) [ true ↦ short.2 | false ↦ (short.0, short.1, short_remove k es short.2) ]

-- where it isn't there nothing is taken out
pub nothing_removed : (k : Bytes) (es : Entries) → lookup (is_at (byte_cmp k)) es ≡ None → remove_entry (is_at (byte_cmp k)) es ≡ es
nothing_removed k [] none = refl
nothing_removed k (e ∷ es) none =
    elim (is_at (byte_cmp k) e.0) as (λ b. cond b (Some e.1) (lookup (is_at (byte_cmp k)) es) ≡ None → cond b es (e ∷ remove_entry (is_at (byte_cmp k)) es) ≡ e ∷ es) [
      | true ↦ λ none. cc
      | false ↦ λ none. ap (λ es. e ∷ es) (nothing_removed k es none)
    ] none

below_insert : (x k v : Bytes) (es : Entries) → byte_cmp x k ≡ Less → AllByRecursion (λ y. byte_cmp x y ≡ Less) (keys_of es)
    → AllByRecursion (λ y. byte_cmp x y ≡ Less) (keys_of (insert_entry byte_cmp es k v))
below_insert x k v [] less all = (less, tt)
below_insert x k v (e ∷ es) less all =
    elim (byte_cmp k e.0) as (λ r. AllByRecursion (λ y. byte_cmp x y ≡ Less) (keys_of (match_ordering r ((k, v) ∷ e ∷ es) ((e.0, v) ∷ es) (e ∷ insert_entry byte_cmp es k v)))) [
      | Less ↦ (less, all)
      | Equal ↦ all
      | Greater ↦ (all.0, below_insert x k v es less all.1)
    ]

-- the order stays
pub rises_insert : (k v : Bytes) (es : Entries) → IsStrictlySortedBy byte_cmp (keys_of es) → IsStrictlySortedBy byte_cmp (keys_of (insert_entry byte_cmp es k v))
unfolding IsStrictlySortedBy
rises_insert k v [] rises = (tt, tt)
rises_insert k v (e ∷ es) rises =
    elim (byte_cmp k e.0) as (λ r. byte_cmp k e.0 ≡ r
    → IsStrictlySortedBy byte_cmp (keys_of (match_ordering r ((k, v) ∷ e ∷ es) ((e.0, v) ∷ es) (e ∷ insert_entry byte_cmp es k v)))) [
      | Less ↦ λ is. ((is, above_too k e.0 (keys_of es) is rises.0), rises)
      | Equal ↦ λ is. rises
      | Greater ↦ λ is. (below_insert e.0 k v es (nat_list_cmp_total.antisymm e.0 k ∙ ap ordering_reverse is) rises.0, rises_insert k v es rises.1)
    ] refl

below_remove : (x : Bytes) (test : Bytes → Bool) (es : Entries) → AllByRecursion (λ y. byte_cmp x y ≡ Less) (keys_of es)
    → AllByRecursion (λ y. byte_cmp x y ≡ Less) (keys_of (remove_entry test es))
below_remove x test [] all = all
below_remove x test (e ∷ es) all =
    elim (test e.0) as (λ b. AllByRecursion (λ y. byte_cmp x y ≡ Less) (keys_of (cond b es (e ∷ remove_entry test es)))) [ true ↦ all.1 | false ↦ (all.0, below_remove x test es all.1) ]

pub rises_remove : (test : Bytes → Bool) (es : Entries) → IsStrictlySortedBy byte_cmp (keys_of es) → IsStrictlySortedBy byte_cmp (keys_of (remove_entry test es))
unfolding IsStrictlySortedBy
rises_remove test [] rises = rises
rises_remove test (e ∷ es) rises =
    elim (test e.0) as (λ b. IsStrictlySortedBy byte_cmp (keys_of (cond b es (e ∷ remove_entry test es)))) [
      | true ↦ rises.1
      | false ↦ (below_remove e.0 test es rises.0, rises_remove test es rises.1)
    ]
