-- The calls of a table in the words of its entries.
use Rattle.std.proofs.Common.{◌≡◌, Bool, true, false, cond, T, None, [], ◌∷◌, refl, ap, sym, ◌∙◌}
use Rattle.std.specs.Cmp.Lexicographic.{nat_list_cmp_total}
use Rattle.std.specs.Prelude.{◌&&◌}
use Rattle.std.specs.declared.cmp.Ordering.{Ordering}
use Rattle.std.specs.declared.cmp.Ordering.TheVariants.{Less, Equal, Greater}
use Rattle.std.specs.Ordering.{is_lt}
use Rattle.std.specs.List.{AllByRecursion}
use Rattle.std.specs.List.Sorted.{IsStrictlySortedBy}
use Rattle.std.specs.Map.{keys_of, lookup, remove_entry}
use Rattle.std.specs.BTreeMap.{insert_entry, is_at}
use Rattle.std.specs.FinMap as map
use Rattle.std.specs.FinMap.Entries as entries
use Rattle.std.proofs.lemmas.List.{nil_from_length}
use Rattle.std.proofs.lemmas.Map.Lookups.{exact_bytes}
use Rattle.nr_model.specs.Bytes.{Bytes}
use Rattle.nr_model.specs.Keyspace.{byte_cmp}
use Rattle.nr_model.specs.Hashes.{Hash}
use Rattle.nr_packs.specs.Packed.{Entries}
use Rattle.nr_packs.specs.Orders.{AreInOrder}
use Rattle.nr_packs.proofs.Looked.{found, placed, rising, is_same, held-remove}
use Rattle.nr_packs.proofs.Placed.{rises_remove}

pub no_entries : map.entries (map.empty {X = Bytes} {R = byte_cmp}) ≡ []
no_entries = nil_from_length _ (sym (map.len-entries map.empty) ∙ map.len-empty byte_cmp Bytes)

pub get_large : (table : Hash) (k : Bytes) → map.get table k ≡ lookup (is_at (byte_cmp k)) (map.entries table)
get_large table k = map.get-entries table k ∙ found (map.entries table) k

pub put_large : (table : Hash) (k v : Bytes) → map.entries (map.insert table k v) ≡ insert_entry byte_cmp (map.entries table) k v
put_large table k v = map.entries-insert nat_list_cmp_total table k v ∙ placed (map.entries table) k v

less : (r : Ordering) → T (is_lt r) → r ≡ Less
less Less p = refl
less Equal p = absurd p
less Greater p = absurd p

first : (a b : Bool) → T (a && b) → T a
first true b p = tt
first false b p = absurd p

second : (a b : Bool) → T (a && b) → T b
second true b p = p
second false b p = absurd p

below : (x : Bytes) (es : Entries) → T (entries.below_all byte_cmp x es) → AllByRecursion (λ y. byte_cmp x y ≡ Less) (keys_of es)
below x [] all = tt
below x (e ∷ es) all = (less (byte_cmp x e.0) (first _ _ all), below x es (second _ _ all))

rises : (es : Entries) → T (entries.is_sorted byte_cmp es) → IsStrictlySortedBy byte_cmp (keys_of es)
unfolding IsStrictlySortedBy
rises [] sorted = tt
rises (e ∷ es) sorted = (below e.0 es (first _ _ sorted), rises es (second _ _ sorted))

rises_large : (table : Hash) → AreInOrder (map.entries table)
rises_large table = rises (map.entries table) (map.entries_sorted table)

-- a table of what is left is the table without the field
pub remove_large : (table : Hash) (k : Bytes) → map.entries (map.remove table k) ≡ remove_entry (is_at (byte_cmp k)) (map.entries table)
remove_large table k =
    let es = map.entries table in
    let new = remove_entry (is_at (byte_cmp k)) es in
    let sorted = rising new (rises_remove (is_at (byte_cmp k)) es (rises_large table)) in
    ap (λ (table : Hash). map.entries table) (map.same_map nat_list_cmp_total exact_bytes (map.remove table k) (map.from_sorted new) (λ q.
    map.get-remove nat_list_cmp_total table k q ∙ ap (cond (is_same q k) None) (get_large table q)
    ∙ sym (map.get-from_sorted byte_cmp new q sorted ∙ found new q ∙ held-remove k q es (rises_large table))))
    ∙ map.entries-from_sorted byte_cmp new sorted
