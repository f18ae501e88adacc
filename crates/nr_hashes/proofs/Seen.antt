-- Entries in byte order, as the finite map that they are seen as.
use Rattle.std.proofs.Common.{◌≡◌, cond, not, Option, Some, None, is_some, is_none, List, [], length, refl, ap, sym, ◌∙◌, subst}
use Rattle.std.specs.Prelude.{map as each}
use Rattle.std.specs.Ordering.{eq_by_cmp}
use Rattle.std.specs.Cmp.{eq_by_cmp_equiv}
use Rattle.std.specs.Cmp.Lexicographic.{nat_list_cmp_total}
use Rattle.std.specs.List.Sorted.{IsStrictlySortedBy}
use Rattle.std.specs.Map.{keys_of, values_of, lookup, remove_entry}
use Rattle.std.specs.BTreeMap.{insert_entry, is_at}
use Rattle.std.specs.FinMap as map
use Rattle.std.specs.FinMap.Entries as entries
use Rattle.std.proofs.lemmas.List.{nil_from_length}
use Rattle.std.proofs.lemmas.Map.{lookup-remove_entry}
use Rattle.std.proofs.lemmas.Map.Keys.{IsDistinct-from_sorted}
use Rattle.std.proofs.lemmas.Map.Lookups.{exact_bytes}
use Rattle.nr_model.specs.Bytes.{Bytes}
use Rattle.nr_model.specs.Keyspace.{byte_cmp}
use Rattle.nr_model.specs.Hashes.{Hash}
use Rattle.nr_packs.proofs.Looked.{found, placed, rising, tests_one}
use Rattle.nr_packs.proofs.Placed.{rises_remove}

abbrev pub Entries : Type 0
Entries = List (Bytes × Bytes)

abbrev pub seen : Entries → Hash
seen es = map.from_sorted es

pub entries_seen : (es : Entries) → IsStrictlySortedBy byte_cmp (keys_of es) → map.entries (seen es) ≡ es
entries_seen es rises = map.entries-from_sorted byte_cmp es (rising es rises)

pub keys_seen : (es : Entries) → IsStrictlySortedBy byte_cmp (keys_of es) → map.keys (seen es) ≡ keys_of es
keys_seen es rises = ap (each (λ (e : Bytes × Bytes). e.0)) (entries_seen es rises)

pub values_seen : (es : Entries) → IsStrictlySortedBy byte_cmp (keys_of es) → map.values (seen es) ≡ values_of es
values_seen es rises = ap (each (λ (e : Bytes × Bytes). e.1)) (entries_seen es rises)

pub len_seen : (es : Entries) → IsStrictlySortedBy byte_cmp (keys_of es) → map.len (seen es) ≡ length es
len_seen es rises = map.len-entries (seen es) ∙ ap length (entries_seen es rises)

pub get_seen : (es : Entries) → IsStrictlySortedBy byte_cmp (keys_of es) → (q : Bytes) → map.get (seen es) q ≡ lookup (is_at (byte_cmp q)) es
get_seen es rises q = map.get-from_sorted byte_cmp es q (rising es rises) ∙ found es q

pub no_entries : map.entries (map.empty {X = Bytes} {R = byte_cmp}) ≡ []
no_entries = nil_from_length _ (sym (map.len-entries map.empty) ∙ map.len-empty byte_cmp Bytes)

pub none_seen : (es : Entries) → es ≡ [] → seen es ≡ map.empty
none_seen es none = map.same_entries_map _ _ (ap (λ (es : Entries). map.entries (seen es)) none ∙ map.entries-from_sorted byte_cmp [] tt ∙ sym no_entries)

pub seen_none : (es : Entries) → IsStrictlySortedBy byte_cmp (keys_of es) → seen es ≡ map.empty → length es ≡ 0
seen_none es rises none = sym (len_seen es rises) ∙ ap map.len none ∙ map.len-empty byte_cmp Bytes

-- a value put at a field
pub inserted_seen : (old new : Entries) (k v : Bytes) → IsStrictlySortedBy byte_cmp (keys_of old) → IsStrictlySortedBy byte_cmp (keys_of new)
    → new ≡ insert_entry byte_cmp old k v → seen new ≡ map.insert (seen old) k v
inserted_seen old new k v rises too is = map.same_entries_map _ _
    (entries_seen new too ∙ is ∙ sym (map.entries-insert nat_list_cmp_total (seen old) k v ∙ ap (entries.put byte_cmp k v) (entries_seen old rises) ∙ placed old k v))

-- a field taken out
pub removed_seen : (old new : Entries) (k : Bytes) → IsStrictlySortedBy byte_cmp (keys_of old) → new ≡ remove_entry (is_at (byte_cmp k)) old → seen new ≡ map.remove (seen old) k
removed_seen old new k rises is =
    let too : IsStrictlySortedBy byte_cmp (keys_of new) = subst (λ (es : Entries). IsStrictlySortedBy byte_cmp (keys_of es)) (sym is) (rises_remove (is_at (byte_cmp k)) old rises) in
    map.same_map nat_list_cmp_total exact_bytes _ _ (λ q.
    get_seen new too q ∙ ap (lookup (is_at (byte_cmp q))) is
    ∙ lookup-remove_entry (eq_by_cmp_equiv nat_list_cmp_total) (is_at (byte_cmp k)) (tests_one k) q old (IsDistinct-from_sorted byte_cmp (keys_of old) rises)
    ∙ ap (λ b. cond b None (lookup (is_at (byte_cmp q)) old)) ((eq_by_cmp_equiv nat_list_cmp_total).symm k q)
    ∙ sym (map.get-remove nat_list_cmp_total (seen old) k q ∙ ap (cond (eq_by_cmp byte_cmp q k) None) (get_seen old rises q)))

-- a field is new where it is not found
pub is_new : {A : Type 0} (o : Option A) → is_none o ≡ not (is_some o)
is_new None = refl
is_new (Some x) = refl
