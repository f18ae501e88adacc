-- The names that a walk over the entries takes, and what they are in order.
use Rattle.std.proofs.Common.{◌≡◌, ℕ, Bool, true, false, cond, ◌||◌, ◌&&◌, Option, Some, None, List, [], ◌∷◌, ◌++◌, ◌+◌, ◌<◌, map, is_some, is_lt, refl, ap, sym, ◌∙◌, length, subst, arith}
use Rattle.std.specs.Prelude.{filter}
use Rattle.std.specs.List.{IsDistinct, AllByRecursion, dedup, dedup_from}
use Rattle.std.specs.List.Sorted.{IsSorted, IsPermutation, IsStrictlySortedBy}
use Rattle.std.specs.Map.{keys_of}
use Rattle.std.specs.Map.Iter.{deref}
use Rattle.std.specs.Ordering.{eq_by_cmp}
use Rattle.std.specs.BTreeSet.{BTreeSet}
use Rattle.std.specs.Cmp.{eq_by_cmp_equiv}
use Rattle.std.specs.Cmp.Lexicographic.{nat_list_cmp_total, texts_ties, bytes_decides}
use Rattle.std.specs.FinMap as finmap
use Rattle.std.proofs.lemmas.List.{append-nil, length-map, get_or-map}
use Rattle.std.proofs.lemmas.List.Kept.{IsStrictlySortedBy-dedup, IsStrictlySortedBy-filter}
use Rattle.std.proofs.lemmas.List.Sorted.{IsPermutation-map, list_any-IsPermutation}
use Rattle.std.proofs.lemmas.Map.Keys.{IsDistinct-tail, IsDistinct-IsPermutation}
use Rattle.std.proofs.lemmas.Map.Made.{IsDistinct-keys_filter}
use Rattle.std.proofs.lemmas.Map.Lookups.{exact_bytes, btree_set_from_contains}
use Rattle.nr_model.specs.Bytes.{Bytes}
use Rattle.nr_model.specs.Patterns.{matches}
use Rattle.nr_model.specs.Keyspace.{byte_cmp, Stored, is_live_at, only_live}
use Rattle.nr_model.proofs.Ordered.{has, has-filter}
use Rattle.nr_keyspace.specs.Names.{live_store}
use Rattle.nr_keyspace.specs.Stores.{Store, stored_of, bytes_of, store_of}
use Rattle.nr_keyspace.specs.declared.database.KeyEntry.{KeyEntry}
use Rattle.nr_keyspace.proofs.Named.{same_name}
use Rattle.nr_keyspace.proofs.Names.{get-live_store, keys_rise}
use Rattle.nr_keyspace.proofs.Changes.{Entries}
use Rattle.nr_keyspace.proofs.Copied.{only_once}
use denote.Ref.{Bor}

-- whether an entry is live, and its name matches
abbrev pub is_wanted : ℕ → Bytes → Bytes × KeyEntry → Bool
is_wanted now pattern e = is_live_at now e.1.deadline && matches pattern e.0

-- the names of the entries that are wanted
abbrev pub wanted_names : ℕ → Bytes → Entries → List Bytes
wanted_names now pattern entries = keys_of (filter (is_wanted now pattern) entries)

-- what was taken, with what is wanted of nothing, is all
pub all_taken : (now : ℕ) (pattern : Bytes) (names : List Bytes) (left walked entries : Entries)
    → names ++ wanted_names now pattern left ≡ wanted_names now pattern walked → left ≡ [] → walked ≡ entries → names ≡ wanted_names now pattern entries
all_taken now pattern names left walked entries whole none all =
    sym (append-nil names) ∙ ap (λ (rest : Entries). names ++ wanted_names now pattern rest) (sym none) ∙ whole ∙ ap (wanted_names now pattern) all

none_has : (b : Bool) → false ≡ (b && false)
none_has true = refl
none_has false = refl

-- at the name of the first entry: the others have none of it
at_head : (takes live matches' : Bool) (stored : Stored) (rest : Bool) → takes ≡ (live && matches') → rest ≡ false
    → cond takes (true || rest) rest ≡ (matches' && is_some (cond live (Some stored) None))
at_head true true true stored rest is none = refl
at_head true true false stored rest is none = absurd (cc is)
at_head true false m stored rest is none = absurd (cc is)
at_head false true true stored rest is none = absurd (cc is)
at_head false true false stored rest is none = none
at_head false false true stored rest is none = none
at_head false false false stored rest is none = none

beside_head : (takes : Bool) (rest : Bool) → cond takes (false || rest) rest ≡ rest
beside_head true rest = refl
beside_head false rest = refl

-- a name is wanted if it matches and is live
has-wanted : (now : ℕ) (pattern : Bytes) (entries : Entries) → IsDistinct (same_name bytes_of) (keys_of entries) → (q : Bytes)
    → has byte_cmp q (wanted_names now pattern entries) ≡ (matches pattern q && is_some (only_live now (finmap.get (store_of bytes_of entries) q)))
has-wanted now pattern [] distinct q =
    none_has (matches pattern q) ∙ ap (λ (o : Option Stored). matches pattern q && is_some (only_live now o)) (sym (finmap.get-empty byte_cmp q))
has-wanted now pattern (e ∷ left) distinct q =
    let more = has-wanted now pattern left (IsDistinct-tail (same_name bytes_of) e.0 (keys_of left) distinct) q in
    let takes = is_wanted now pattern e in
    let stored = finmap.get (store_of bytes_of left) q in
    let shape : has byte_cmp q (wanted_names now pattern (e ∷ left))
    ≡ cond takes (eq_by_cmp byte_cmp q e.0 || has byte_cmp q (wanted_names now pattern left)) (has byte_cmp q (wanted_names now pattern left)) =
    elim takes as (λ b. has byte_cmp q (keys_of (cond b (e ∷ filter (is_wanted now pattern) left) (filter (is_wanted now pattern) left)))
    ≡ cond b (eq_by_cmp byte_cmp q e.0 || has byte_cmp q (wanted_names now pattern left)) (has byte_cmp q (wanted_names now pattern left))) [ true ↦ refl | false ↦ refl ] in
    shape
    ∙ ap (λ rest. cond takes (eq_by_cmp byte_cmp q e.0 || rest) rest) more
    ∙ elim (eq_by_cmp byte_cmp q e.0) as (λ t. eq_by_cmp byte_cmp q e.0 ≡ t
    → cond takes (t || (matches pattern q && is_some (only_live now stored))) (matches pattern q && is_some (only_live now stored))
    ≡ (matches pattern q && is_some (only_live now (cond t (Some (stored_of e.1)) stored)))) [
      | true ↦ λ here.
          let named : q ≡ e.0 = (bytes_decides q e.0).0 (texts_ties q e.0 ∙ here) in
          let none : (matches pattern q && is_some (only_live now stored)) ≡ false =
          ap (λ (o : Option Stored). matches pattern q && is_some (only_live now o)) (only_once e left distinct q named) ∙ sym (none_has (matches pattern q)) in
          at_head takes (is_live_at now e.1.deadline) (matches pattern q) (stored_of e.1) _ (ap (λ n. is_live_at now e.1.deadline && matches pattern n) (sym named)) none
      | false ↦ λ _. beside_head takes (matches pattern q && is_some (only_live now stored))
    ] refl
    ∙ ap (λ (o : Option Stored). matches pattern q && is_some (only_live now o)) (sym (finmap.get-insert nat_list_cmp_total (store_of bytes_of left) e.0 (stored_of e.1) q))

-- what is lent in order is in order as bytes
sorted_bytes : (lent : List (Bor Bytes)) → IsSorted (λ (x : Bor Bytes) y. byte_cmp x.now y.now) lent → IsSorted byte_cmp (map deref lent)
sorted_bytes lent rising k d low below =
    let within : k + 1 < length lent = subst (λ n. k + 1 < n) (length-map lent deref) below in
    let blank : Bor Bytes = record { ref_ptr = (0, 0); now = d } in
    (λ i. is_lt (byte_cmp (get_or-map deref lent (k + 1) blank d within i) (get_or-map deref lent k blank d (omega (arith, within)) i)))
    ∙ rising k blank low within

-- names that differ stay as they are where repeats are left out
undoubled_from : (name : Bytes) (names : List Bytes) → IsDistinct (eq_by_cmp byte_cmp) (name ∷ names) → dedup_from (eq_by_cmp byte_cmp) name names ≡ name ∷ names
unfolding IsDistinct
undoubled_from name [] distinct = refl
undoubled_from name (other ∷ names) distinct =
    ap (λ b. cond b (dedup_from (eq_by_cmp byte_cmp) name names) (name ∷ dedup_from (eq_by_cmp byte_cmp) other names))
    ((eq_by_cmp_equiv nat_list_cmp_total).symm other name ∙ distinct.0.0)
    ∙ ap (λ left. name ∷ left) (undoubled_from other names distinct.1)

undoubled : (names : List Bytes) → IsDistinct (eq_by_cmp byte_cmp) names → dedup (eq_by_cmp byte_cmp) names ≡ names
undoubled [] distinct = refl
undoubled (name ∷ names) distinct = undoubled_from name names distinct

strictly : (names : List Bytes) → IsSorted byte_cmp names → IsDistinct (eq_by_cmp byte_cmp) names → IsStrictlySortedBy byte_cmp names
strictly names rising distinct =
    subst (IsStrictlySortedBy byte_cmp) (undoubled names distinct)
    (IsStrictlySortedBy-dedup nat_list_cmp_total {E = eq_by_cmp byte_cmp} (λ x y. refl) names rising)

all_ties : (x : Bytes) (names : List Bytes) → AllByRecursion (λ y. same_name bytes_of x y ≡ false) names → AllByRecursion (λ y. eq_by_cmp byte_cmp x y ≡ false) names
all_ties x [] differ = tt
all_ties x (y ∷ names) differ = (sym (texts_ties x y) ∙ differ.0, all_ties x names differ.1)

ties_distinct : (names : List Bytes) → IsDistinct (same_name bytes_of) names → IsDistinct (eq_by_cmp byte_cmp) names
unfolding IsDistinct
ties_distinct [] distinct = tt
ties_distinct (x ∷ names) distinct = (all_ties x names distinct.0, ties_distinct names distinct.1)

abbrev set_of : List Bytes → BTreeSet Bytes
set_of names = record { keys = names }

has-live : (now : ℕ) (all : Store) (q : Bytes) → is_some (only_live now (finmap.get all q)) ≡ has byte_cmp q (finmap.keys (live_store all now))
has-live now all q = ap is_some (sym (get-live_store all now q)) ∙ finmap.contains_key-keys (live_store all now) q

-- all that were taken, in order
pub listed_all : (now : ℕ) (pattern : Bytes) (all : Store) (entries : Entries) (taken lent : List (Bor Bytes))
    → store_of bytes_of entries ≡ all → IsDistinct (same_name bytes_of) (keys_of entries) → map deref taken ≡ wanted_names now pattern entries
    → IsPermutation taken lent → IsSorted (λ (x : Bor Bytes) y. byte_cmp x.now y.now) lent
    → map deref lent ≡ filter (matches pattern) (finmap.keys (live_store all now))
listed_all now pattern all entries taken lent seen distinct whole moved rising =
    let names = map deref lent in
    let wanted = filter (matches pattern) (finmap.keys (live_store all now)) in
    let reordered : IsPermutation (wanted_names now pattern entries) names =
    subst (λ (before : List Bytes). IsPermutation before names) whole (IsPermutation-map deref taken lent moved) in
    let differ : IsDistinct (eq_by_cmp byte_cmp) names =
    IsDistinct-IsPermutation (eq_by_cmp byte_cmp) (λ x y. (eq_by_cmp_equiv nat_list_cmp_total).symm x y) (wanted_names now pattern entries) names reordered
    (ties_distinct (wanted_names now pattern entries) (IsDistinct-keys_filter (same_name bytes_of) (is_wanted now pattern) entries distinct)) in
    btree_set_from_contains nat_list_cmp_total (set_of names) (set_of wanted) (strictly names (sorted_bytes lent rising) differ)
    (IsStrictlySortedBy-filter byte_cmp (matches pattern) (finmap.keys (live_store all now)) (keys_rise (live_store all now)))
    (λ q.
    sym (list_any-IsPermutation (eq_by_cmp byte_cmp q) (wanted_names now pattern entries) names reordered)
    ∙ has-wanted now pattern entries distinct q
    ∙ ap (λ (store : Store). matches pattern q && is_some (only_live now (finmap.get store q))) seen
    ∙ ap (λ b. matches pattern q && b) (has-live now all q)
    ∙ sym (has-filter byte_cmp nat_list_cmp_total exact_bytes q (matches pattern) (finmap.keys (live_store all now))))
    exact_bytes
