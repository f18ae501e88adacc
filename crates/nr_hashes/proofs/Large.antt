-- The calls of a table in the words of its entries.
use Rattle.std.proofs.Common.{◌≡◌, Bool, true, false, T, [], ◌∷◌, refl, ap, sym, ◌∙◌}
use Rattle.std.specs.Cmp.Lexicographic.{nat_list_cmp_total}
use Rattle.std.specs.Prelude.{◌&&◌}
use Rattle.std.specs.declared.cmp.Ordering.{Ordering}
use Rattle.std.specs.declared.cmp.Ordering.TheVariants.{Less, Equal, Greater}
use Rattle.std.specs.Ordering.{is_lt}
use Rattle.std.specs.List.{AllByRecursion}
use Rattle.std.specs.List.Sorted.{IsStrictlySortedBy}
use Rattle.std.specs.Map.{keys_of, lookup, remove_entry}
use Rattle.std.specs.BTreeMap.{insert_entry, is_at}
use Rattle.std.specs.FinMap as map
use Rattle.std.specs.FinMap.Entries as entries
use Rattle.nr_model.specs.Bytes.{Bytes}
use Rattle.nr_model.specs.Keyspace.{byte_cmp}
use Rattle.nr_model.specs.Hashes.{Hash}
use Rattle.nr_packs.specs.Packed.{Entries}
use Rattle.nr_packs.specs.Orders.{AreInOrder}
use Rattle.nr_packs.proofs.Looked.{found, placed}
use Rattle.nr_packs.proofs.Placed.{rises_remove}
use Rattle.nr_hashes.proofs.Seen.{seen, entries_seen, removed_seen}

pub get_large : (hash : Hash) (k : Bytes) → map.get hash k ≡ lookup (is_at (byte_cmp k)) (map.entries hash)
get_large hash k = map.get-entries hash k ∙ found (map.entries hash) k

pub put_large : (hash : Hash) (k v : Bytes) → map.entries (map.insert hash k v) ≡ insert_entry byte_cmp (map.entries hash) k v
put_large hash k v = map.entries-insert nat_list_cmp_total hash k v ∙ placed (map.entries hash) k v

less : (r : Ordering) → T (is_lt r) → r ≡ Less
less Less p = refl
less Equal p = absurd p
less Greater p = absurd p

first : (a b : Bool) → T (a && b) → T a
first true b p = tt
first false b p = absurd p

second : (a b : Bool) → T (a && b) → T b
second true b p = p
second false b p = absurd p

below : (x : Bytes) (es : Entries) → T (entries.below_all byte_cmp x es) → AllByRecursion (λ y. byte_cmp x y ≡ Less) (keys_of es)
below x [] all = tt
below x (e ∷ es) all = (less (byte_cmp x e.0) (first _ _ all), below x es (second _ _ all))

rises : (es : Entries) → T (entries.is_sorted byte_cmp es) → IsStrictlySortedBy byte_cmp (keys_of es)
unfolding IsStrictlySortedBy
rises [] sorted = tt
rises (e ∷ es) sorted = (below e.0 es (first _ _ sorted), rises es (second _ _ sorted))

-- its entries are in order
pub rises_large : (hash : Hash) → AreInOrder (map.entries hash)
rises_large hash = rises (map.entries hash) (map.entries_sorted hash)

whole : (hash : Hash) → seen (map.entries hash) ≡ hash
whole hash = map.same_entries_map _ _ (map.entries-from_sorted byte_cmp (map.entries hash) (map.entries_sorted hash))

pub remove_large : (hash : Hash) (k : Bytes) → map.entries (map.remove hash k) ≡ remove_entry (is_at (byte_cmp k)) (map.entries hash)
remove_large hash k =
    let es = map.entries hash in
    let new = remove_entry (is_at (byte_cmp k)) es in
    ap (λ (hash : Hash). map.entries (map.remove hash k)) (sym (whole hash))
    ∙ ap (λ (hash : Hash). map.entries hash) (sym (removed_seen es new k (rises_large hash) refl))
    ∙ entries_seen new (rises_remove (is_at (byte_cmp k)) es (rises_large hash))
