-- How many names are live.
use Rattle.std.proofs.Common.{◌≡◌, ℕ, pos, ◌+◌, ◌-◌, ◌≤◌, suc, true, false, cond, not, Option, List, [], ◌∷◌, length, is_some, refl, ap, sym, ◌∙◌, arith, add-zero}
use Rattle.std.specs.Prelude.{filter, int_lt}
use Rattle.std.specs.Cmp.Lexicographic.{nat_list_cmp_total}
use Rattle.std.specs.List.{IsDistinct}
use Rattle.std.specs.Map.{keys_of}
use Rattle.std.specs.FinMap as map
use Rattle.std.proofs.lemmas.Map.Lookups.{exact_bytes}
use Rattle.std.proofs.lemmas.Map.Keys.{IsDistinct-tail}
use Rattle.nr_model.specs.Bytes.{Bytes}
use Rattle.nr_model.specs.Keyspace.{byte_cmp, Stored, only_live}
use Rattle.nr_ordered.specs.Lists.{Item}
use Rattle.nr_zsets.proofs.Sorted.{Rises}
use Rattle.nr_keyspace.specs.Deadlines.{due_of, item_cmp, dues_of}
use Rattle.nr_keyspace.specs.Names.{live_store}
use Rattle.nr_keyspace.specs.Stores.{Store, IsIndexed, stored_of, bytes_of, store_of}
use Rattle.nr_keyspace.proofs.Ordered.{is_expired, parted_expired, taken_set, first_is, still_live, none_found}
use Rattle.nr_keyspace.proofs.Indexed.{sweep_step, all_live}
use Rattle.nr_keyspace.proofs.Named.{same_name}
use Rattle.nr_keyspace.proofs.Names.{get-live_store}
use Rattle.nr_keyspace.proofs.Changes.{Entries}
use Rattle.nr_keyspace.proofs.Copied.{only_once}

one_more : (n : ℕ) → n + 1 ≡ suc n
one_more n = omega arith

one_out : (live expired fewer all : ℕ) → live + expired ≡ fewer → suc fewer ≡ all → live + suc expired ≡ all
one_out live expired fewer all rest one = omega arith

-- as many names as entries
pub len_entries : (entries : Entries) → IsDistinct (same_name bytes_of) (keys_of entries) → map.len (store_of bytes_of entries) ≡ length entries
len_entries [] distinct = map.len-empty byte_cmp Stored
len_entries (e ∷ entries) distinct =
    map.len-insert nat_list_cmp_total (store_of bytes_of entries) (bytes_of e.0) (stored_of e.1)
    ∙ ap (λ (o : Option Stored). cond (is_some o) (map.len (store_of bytes_of entries)) (map.len (store_of bytes_of entries) + 1))
    (only_once e entries distinct (bytes_of e.0) refl)
    ∙ ap (λ n. n + 1) (len_entries entries (IsDistinct-tail (same_name bytes_of) e.0 (keys_of entries) distinct))
    ∙ one_more (length entries)

all_left : (store : Store) (now : ℕ) → ((q : Bytes) → only_live now (map.get store q) ≡ map.get store q) → map.len (live_store store now) + 0 ≡ map.len store
all_left store now live = add-zero (map.len (live_store store now))
    ∙ ap map.len (map.same_map nat_list_cmp_total exact_bytes (live_store store now) store (λ q. get-live_store store now q ∙ live q))

-- those whose deadline is not after the moment are what is not live
pub counted : (now : ℕ) (items : List Item) (store : Store) → Rises item_cmp items → IsIndexed store (dues_of items)
    → map.len (live_store store now) + length (filter (is_expired now) items) ≡ map.len store
counted now [] store rise indexed =
    all_left store now (all_live now store (dues_of []) indexed (λ deadline name found. none_found [] (dues_of []) refl refl (deadline, name) found))
counted now (x ∷ items) store rise indexed =
    let behind = filter (is_expired now) items in
    let first = first_is (x ∷ items) x (dues_of (x ∷ items)) rise refl refl in
    elim (int_lt (pos now) x.1) as (λ b. int_lt (pos now) x.1 ≡ b → map.len (live_store store now) + length (cond (not b) (x ∷ behind) behind) ≡ map.len store) [
      | true ↦ λ live.
          ap (λ (ys : List Item). map.len (live_store store now) + length ys) ((parted_expired now (x ∷ items) rise).0 (ap not live))
          ∙ all_left store now (all_live now store (dues_of (x ∷ items)) indexed (still_live now (due_of x) (dues_of (x ∷ items)) first live))
      | false ↦ λ expired.
          let fewer = map.remove store x.0 in
          let gone = taken_set (x ∷ items) items x 0 (dues_of (x ∷ items)) rise refl refl refl in
          let step = sweep_step now store (dues_of (x ∷ items)) (dues_of items) x.0 indexed (x.1, expired, first.there, gone) in
          let rest = counted now items fewer rise.1 step.indexed in
          let same : live_store fewer now ≡ live_store store now =
          map.same_map nat_list_cmp_total exact_bytes _ _ (λ q. get-live_store fewer now q ∙ step.same_live q ∙ sym (get-live_store store now q)) in
          one_out (map.len (live_store store now)) (length behind) (map.len fewer) (map.len store)
          (ap (λ m. map.len m + length behind) (sym same) ∙ rest) step.one
    ] refl

pub count_within : (live count all entries len : ℕ) → live + count ≡ all → all ≡ entries → len ≡ entries → count ≤ len
count_within live count all entries len parts same is = omega arith

pub others : (live count all entries len : ℕ) → live + count ≡ all → all ≡ entries → len ≡ entries → len - count ≡ live
others live count all entries len parts same is = omega arith
