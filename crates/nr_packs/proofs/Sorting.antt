-- Rows sorted by their numbers, and where these are the same by their fields, are the pairs of a finite map in order.
use Rattle.std.proofs.Common.{◌≡◌, ◌≢◌, ℕ, ◌+◌, ◌<◌, drop, take, true, false, cond, Option, Some, None, is_some, List, [], ◌∷◌, ◌++◌, length, get_or, is_lt, refl, ap, sym, ◌∙◌, subst, arith, true≢false}
use Rattle.std.specs.List.{IsDistinct, AllByRecursion, dedup, dedup_from, list_any}
use Rattle.std.specs.List.Sorted.{IsSorted, IsPermutation, IsStrictlySortedBy}
use Rattle.std.specs.Map.{keys_of}
use Rattle.std.specs.Ordering.{eq_by_cmp, nat_cmp, ordering_then, MatchOrdering}
use Rattle.std.specs.declared.cmp.Ordering.{Ordering}
use Rattle.std.specs.declared.cmp.Ordering.TheVariants.{Less, Equal, Greater}
use Rattle.std.specs.Cmp.{eq_by_cmp_equiv, ranks}
use Rattle.std.specs.Cmp.Lexicographic.{nat_list_cmp_total, slice_cmp}
use Rattle.std.specs.FinMap as finmap
use Rattle.std.specs.FinMap.Entries as entries
use Rattle.std.proofs.lemmas.List.{append-nil, drop_all, take_all, length-map, get_or-map}
use Rattle.std.proofs.lemmas.List.Elements.{All-from_recursion, recursion_from_All}
use Rattle.std.proofs.lemmas.List.Kept.{IsStrictlySortedBy-dedup}
use Rattle.std.proofs.lemmas.List.Sorted.{IsPermutation-map, list_any-IsPermutation, All-permutation}
use Rattle.std.proofs.lemmas.Map.Keys.{IsDistinct-IsPermutation}
use Rattle.std.proofs.lemmas.Map.Lookups.{exact_bytes}
use Rattle.nr_model.specs.Bytes.{Bytes}
use Rattle.nr_model.specs.Keyspace.{byte_cmp}
use Rattle.nr_packs.specs.Packed.{Entries}
use Rattle.nr_packs.specs.Rows.{Row, row_cmp, pair_of, pairs_in, AreApart, AreBytes, head, IsHeaded, Begins, AreNumbered}
use Rattle.nr_packs.specs.Tables.{held}
use Rattle.nr_packs.proofs.Looked.{is_same, same_field, found, rising}
use Rattle.nr_packs.proofs.Apart.{same_self}
use Rattle.nr_packs.proofs.Headed.{settled_behind}

not_less : (r s t : Ordering) (one other : ℕ) → nat_cmp one other ≡ r → MatchOrdering r (one < other) (one ≡ other) (other < one) → (one ≢ other → s ≡ nat_cmp one other)
    → is_lt (ordering_then (ordering_then r s) t) ≡ false → is_lt s ≡ false
not_less Less s t one other at l settles passes = absurd (true≢false passes)
not_less Equal Less t one other at l settles passes = absurd (true≢false passes)
not_less Equal Equal t one other at l settles passes = refl
not_less Equal Greater t one other at l settles passes = refl
not_less Greater s t one other at l settles passes = let over : other < one = l in ap is_lt (settles (λ is. absurd (omega (arith, is, over))) ∙ at)

-- what does not stand below by the row does not by the field
above : (x y : Row) → (x.0 ≢ y.0 → byte_cmp x.1.now y.1.now ≡ nat_cmp x.0 y.0) → is_lt (row_cmp x y) ≡ false → is_lt (byte_cmp x.1.now y.1.now) ≡ false
above x y settles passes = not_less (nat_cmp x.0 y.0) (byte_cmp x.1.now y.1.now) (slice_cmp nat_cmp x.2.now y.2.now) x.0 y.0 refl (ranks x.0 y.0) settles passes

both_settled : (skip : ℕ) (front : Bytes) (x y : Row) → length front ≡ skip → IsHeaded skip x → IsHeaded skip y → Begins front (pair_of x) → Begins front (pair_of y)
    → x.0 ≢ y.0 → byte_cmp x.1.now y.1.now ≡ nat_cmp x.0 y.0
both_settled skip front x y long x_head y_head x_begins y_begins differ =
    (λ i. byte_cmp (x_begins.is i) (y_begins.is i))
    ∙ settled_behind front x_begins.rest y_begins.rest x.0 y.0 (subst AreBytes x_begins.is x_head.bytes) (subst AreBytes y_begins.is y_head.bytes)
    (x_head.number ∙ (λ i. head (sym long i) (x_begins.is i))) (y_head.number ∙ (λ i. head (sym long i) (y_begins.is i))) differ

sorted_fields : (rows : List Row) → AreNumbered rows → IsSorted row_cmp rows → IsSorted byte_cmp (keys_of (pairs_in rows))
sorted_fields rows numbered sorted k d low below =
    let within : k + 1 < length rows = subst (λ n. k + 1 < n) (length-map (pairs_in rows) (λ e. e.0) ∙ length-map rows pair_of) below in
    let before : k < length rows = omega (arith, within) in
    let blank : Row = (0, record { ref_ptr = (0, 0); now = d }, record { ref_ptr = (0, 0); now = d }) in
    let at : (j : ℕ) → j < length rows → get_or (keys_of (pairs_in rows)) j d ≡ (get_or rows j blank).1.now = λ j here.
    get_or-map (λ (e : Bytes × Bytes). e.0) (pairs_in rows) j (d, d) d (subst (λ n. j < n) (sym (length-map rows pair_of)) here)
    ∙ ap (λ (e : Bytes × Bytes). e.0) (get_or-map pair_of rows j blank (d, d) here) in
    let begins : (j : ℕ) → j < length rows → Begins numbered.fronts.front (pair_of (get_or rows j blank)) = λ j here.
    subst (Begins numbered.fronts.front) (get_or-map pair_of rows j blank (d, d) here) (numbered.fronts.begin j (d, d) (subst (λ n. j < n) (sym (length-map rows pair_of)) here)) in
    (λ i. is_lt (byte_cmp (at (k + 1) within i) (at k before i)))
    ∙ above (get_or rows (k + 1) blank) (get_or rows k blank)
    (both_settled numbered.skip numbered.fronts.front (get_or rows (k + 1) blank) (get_or rows k blank) numbered.fronts.long (numbered.heads (k + 1) blank within) (numbered.heads k blank before)
    (begins (k + 1) within) (begins k before))
    (sorted k blank low within)

-- fields that differ stay as they are where repeats are left out
undoubled_from : (name : Bytes) (names : List Bytes) → IsDistinct (eq_by_cmp byte_cmp) (name ∷ names) → dedup_from (eq_by_cmp byte_cmp) name names ≡ name ∷ names
unfolding IsDistinct
undoubled_from name [] distinct = refl
undoubled_from name (other ∷ names) distinct =
    ap (λ b. cond b (dedup_from (eq_by_cmp byte_cmp) name names) (name ∷ dedup_from (eq_by_cmp byte_cmp) other names))
    ((eq_by_cmp_equiv nat_list_cmp_total).symm other name ∙ distinct.0.0)
    ∙ ap (λ left. name ∷ left) (undoubled_from other names distinct.1)

undoubled : (names : List Bytes) → IsDistinct (eq_by_cmp byte_cmp) names → dedup (eq_by_cmp byte_cmp) names ≡ names
undoubled [] distinct = refl
undoubled (name ∷ names) distinct = undoubled_from name names distinct

strictly : (names : List Bytes) → IsSorted byte_cmp names → IsDistinct (eq_by_cmp byte_cmp) names → IsStrictlySortedBy byte_cmp names
strictly names sorted distinct =
    subst (IsStrictlySortedBy byte_cmp) (undoubled names distinct)
    (IsStrictlySortedBy-dedup nat_list_cmp_total {E = eq_by_cmp byte_cmp} (λ x y. refl) names sorted)

-- ---- what is held in the same pairs in another order
held_behind : (e : Bytes × Bytes) (es all : Entries) → AllByRecursion (λ y. is_same e.0 y ≡ false) (keys_of es) → AllByRecursion (λ (x : Bytes × Bytes). held x.0 all ≡ Some x.1) es
    → AllByRecursion (λ (x : Bytes × Bytes). held x.0 (e ∷ all) ≡ Some x.1) es
held_behind e [] all differ hold = tt
held_behind e (x ∷ es) all differ hold =
    (ap (λ b. cond b (Some e.1) (held x.0 all)) ((eq_by_cmp_equiv nat_list_cmp_total).symm x.0 e.0 ∙ differ.0) ∙ hold.0, held_behind e es all differ.1 hold.1)

all_held : (es : Entries) → AreApart es → AllByRecursion (λ (x : Bytes × Bytes). held x.0 es ≡ Some x.1) es
unfolding IsDistinct
all_held [] apart = tt
all_held (e ∷ es) apart = (ap (λ b. cond b (Some e.1) (held e.0 es)) (same_self e.0), held_behind e es es apart.0 (all_held es apart.1))

nothing : {A : Type 0} (o : Option A) → false ≡ is_some o → None ≡ o
nothing None is = refl
nothing (Some x) is = cc

held_so : (q : Bytes) (es out : Entries) → AllByRecursion (λ (x : Bytes × Bytes). held x.0 es ≡ Some x.1) out → is_some (held q out) ≡ is_some (held q es) → held q out ≡ held q es
held_so q es [] hold same = nothing (held q es) same
held_so q es (x ∷ out) hold same =
    elim (is_same q x.0) as (λ b. is_same q x.0 ≡ b → is_some (cond b (Some x.1) (held q out)) ≡ is_some (held q es) → cond b (Some x.1) (held q out) ≡ held q es) [
      | true ↦ λ is same. sym hold.0 ∙ ap (λ k. held k es) (sym (same_field q x.0 is))
      | false ↦ λ is same. held_so q es out hold.1 same
    ] refl same

some_held : (q : Bytes) (es : Entries) → is_some (held q es) ≡ list_any (eq_by_cmp byte_cmp q) (keys_of es)
some_held q es = ap is_some (sym (found es q)) ∙ entries.is_some-find byte_cmp q es

held_permuted : (q : Bytes) (es out : Entries) → AreApart es → IsPermutation es out → held q out ≡ held q es
held_permuted q es out apart moved =
    held_so q es out
    (recursion_from_All (λ (x : Bytes × Bytes). held x.0 es ≡ Some x.1) out
    (All-permutation (λ (x : Bytes × Bytes). held x.0 es ≡ Some x.1) es out moved (All-from_recursion (λ (x : Bytes × Bytes). held x.0 es ≡ Some x.1) es (all_held es apart))))
    (some_held q out ∙ sym (list_any-IsPermutation (eq_by_cmp byte_cmp q) (keys_of es) (keys_of out) (IsPermutation-map (λ (e : Bytes × Bytes). e.0) es out moved)) ∙ sym (some_held q es))

-- ---- all of it
pub listed : (es : Entries) (rows sorted : List Row) → pairs_in rows ≡ es → AreApart es → AreNumbered rows → IsPermutation rows sorted → IsSorted row_cmp sorted
    → pairs_in sorted ≡ finmap.entries {R = byte_cmp} (finmap.from_entries es)
listed es rows sorted are apart numbered moved rises =
    let out = pairs_in sorted in
    let reordered : IsPermutation es out = subst (λ (before : Entries). IsPermutation before out) are (IsPermutation-map pair_of rows sorted moved) in
    let numbered_too : AreNumbered sorted = record {
      skip = numbered.skip;
      fronts = record {
        front = numbered.fronts.front;
        long = numbered.fronts.long;
        begin = All-permutation (Begins numbered.fronts.front) (pairs_in rows) out (IsPermutation-map pair_of rows sorted moved) numbered.fronts.begin;
      };
      heads = All-permutation (IsHeaded numbered.skip) rows sorted moved numbered.heads;
    } in
    let differ : AreApart out = IsDistinct-IsPermutation (eq_by_cmp byte_cmp) (λ x y. (eq_by_cmp_equiv nat_list_cmp_total).symm x y) (keys_of es) (keys_of out)
    (IsPermutation-map (λ (e : Bytes × Bytes). e.0) es out reordered) apart in
    let order = rising out (strictly (keys_of out) (sorted_fields sorted numbered_too rises) differ) in
    sym (finmap.entries-from_sorted byte_cmp out order)
    ∙ ap (λ m. finmap.entries m) (finmap.same_map nat_list_cmp_total exact_bytes (finmap.from_sorted out) (finmap.from_entries es) (λ q.
    finmap.get-from_sorted byte_cmp out q order ∙ found out q ∙ held_permuted q es out apart reordered ∙ sym (found es q)
    ∙ sym (finmap.get-from_entries nat_list_cmp_total es q)))

-- a slice of as many rows takes the place of all
pub written_back : (n : ℕ) (new old : List Row) → length old ≡ n → pairs_in new ≡ pairs_in old → take n (new ++ drop (length new) old) ≡ new
written_back n new old count same =
    let long : length new ≡ length old = sym (length-map new pair_of) ∙ ap length same ∙ length-map old pair_of in
    let whole : new ++ drop (length new) old ≡ new = ap (λ rest. new ++ rest) (drop_all (length new) old (omega arith)) ∙ append-nil new in
    ap (take n) whole ∙ take_all n new (omega arith)
