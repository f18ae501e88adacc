-- A copy by one insertion after another.
use Rattle.std.proofs.Common.{◌≡◌, true, false, cond, Option, Some, None, [], ◌∷◌, refl, ap, sym, ◌∙◌}
use Rattle.std.specs.List.{IsDistinct}
use Rattle.std.specs.Map.{lookup, keys_of}
use Rattle.std.specs.Option.{option_map, option_or}
use Rattle.std.specs.Ordering.{eq_by_cmp}
use Rattle.std.specs.Cmp.Lexicographic.{nat_list_cmp_total, nat_list_eq_equiv, texts_ties, bytes_decides, on_texts_equal}
use Rattle.std.specs.FinMap as map
use Rattle.std.proofs.lemmas.Map.{lookup-none}
use Rattle.std.proofs.lemmas.Map.Entries.{none_past_head}
use Rattle.std.proofs.lemmas.Map.Keys.{IsDistinct-tail}
use Rattle.std.proofs.lemmas.Map.Lookups.{exact_bytes}
use Rattle.nr_model.specs.Bytes.{Bytes}
use Rattle.nr_model.specs.Keyspace.{byte_cmp, Stored}
use Rattle.nr_keyspace.specs.Stores.{Store, stored_of, bytes_of, store_of}
use Rattle.nr_keyspace.specs.declared.database.KeyEntry.{KeyEntry}
use Rattle.nr_keyspace.proofs.Named.{is_name, same_name, get-store}
use Rattle.nr_keyspace.proofs.Changes.{Entries}

-- what is copied and what is left are all
pub record IsCopied (all : Store) (copy : Store) (left : Entries) : Type 0 where
  pub distinct : IsDistinct (same_name bytes_of) (keys_of left)
  pub found : (q : Bytes) → option_or (map.get (store_of bytes_of left) q) (map.get copy q) ≡ map.get all q

or_none : {A : Type 0} (o : Option A) → option_or o None ≡ o
or_none None = refl
or_none (Some x) = refl

pub copied_none : (all : Store) (entries : Entries) → store_of bytes_of entries ≡ all → IsDistinct (same_name bytes_of) (keys_of entries)
    → IsCopied all map.empty entries
copied_none all entries seen distinct = record {
  distinct = distinct;
  found = λ q. ap (option_or (map.get (store_of bytes_of entries) q)) (map.get-empty byte_cmp q) ∙ or_none (map.get (store_of bytes_of entries) q)
      ∙ ap (λ m. map.get m q) seen;
}

pub only_once : (e : Bytes × KeyEntry) (left : Entries) → IsDistinct (same_name bytes_of) (keys_of (e ∷ left)) → (q : Bytes) → q ≡ bytes_of e.0
    → map.get (store_of bytes_of left) q ≡ None
only_once e left distinct q named =
    get-store bytes_of left q
    ∙ ap (λ n. option_map stored_of (lookup (is_name bytes_of n) left)) named
    ∙ ap (option_map stored_of) (lookup-none (same_name bytes_of e.0) left
    (none_past_head (on_texts_equal bytes_of) e.0 e left distinct (nat_list_eq_equiv.refl (bytes_of e.0))))

pub copied_more : (all copy : Store) (e : Bytes × KeyEntry) (left : Entries) → IsCopied all copy (e ∷ left)
    → IsCopied all (map.insert copy (bytes_of e.0) (stored_of e.1)) left
copied_more all copy e left so_far = record {
  distinct = IsDistinct-tail (same_name bytes_of) e.0 (keys_of left) so_far.distinct;
  found = λ q.
      ap (option_or (map.get (store_of bytes_of left) q)) (map.get-insert nat_list_cmp_total copy (bytes_of e.0) (stored_of e.1) q)
      ∙ elim (eq_by_cmp byte_cmp q (bytes_of e.0)) as (λ t. eq_by_cmp byte_cmp q (bytes_of e.0) ≡ t
      → option_or (map.get (store_of bytes_of left) q) (cond t (Some (stored_of e.1)) (map.get copy q))
      ≡ option_or (cond t (Some (stored_of e.1)) (map.get (store_of bytes_of left) q)) (map.get copy q)) [
        | true ↦ λ here. ap (λ (o : Option Stored). option_or o (Some (stored_of e.1)))
            (only_once e left so_far.distinct q ((bytes_decides q (bytes_of e.0)).0 (texts_ties q (bytes_of e.0) ∙ here)))
        | false ↦ λ _. refl
      ] refl
      ∙ ap (λ (o : Option Stored). option_or o (map.get copy q))
      (sym (map.get-insert nat_list_cmp_total (store_of bytes_of left) (bytes_of e.0) (stored_of e.1) q))
      ∙ so_far.found q;
}

pub copied_all : (all copy : Store) → IsCopied all copy [] → copy ≡ all
copied_all all copy whole = map.same_map nat_list_cmp_total exact_bytes _ _ (λ q.
    sym (ap (λ (o : Option Stored). option_or o (map.get copy q)) (map.get-empty byte_cmp q)) ∙ whole.found q)
