-- What a change of the entries is on the finite map that they make.
use Rattle.std.proofs.Common.{◌≡◌, Bool, true, false, cond, not, true≢false, Option, Some, None, List, [], ◌∷◌, refl, ap, sym, ◌∙◌}
use Rattle.std.specs.Prelude.{filter}
use Rattle.std.specs.Option.{option_map}
use Rattle.std.specs.Str.{bytes_eq}
use Rattle.std.specs.Ordering.{eq_by_cmp}
use Rattle.std.specs.Cmp.Lexicographic.{nat_list_cmp_total, nat_list_eq_equiv, texts_ties, bytes_decides}
use Rattle.std.specs.Map.{lookup, KeepsOthers}
use Rattle.std.specs.FinMap as map
use Rattle.std.proofs.lemmas.Map.Lookups.{exact_bytes}
use Rattle.std.proofs.lemmas.Map.Entries.{place_from_lookup}
use Rattle.nr_model.specs.Bytes.{Bytes}
use Rattle.nr_model.specs.Keyspace.{byte_cmp}
use Rattle.nr_keyspace.specs.Stores.{Store, bytes_of, stored_of, stored_entries, store_of}
use Rattle.nr_keyspace.specs.declared.database.KeyEntry.{KeyEntry}

cond-map : (b : Bool) (e : KeyEntry) (o : Option KeyEntry) → option_map stored_of (cond b (Some e) o) ≡ cond b (Some (stored_of e)) (option_map stored_of o)
cond-map true e o = refl
cond-map false e o = refl

cond-put : (b : Bool) (w o : Option KeyEntry) → option_map stored_of (cond b w o) ≡ cond b (option_map stored_of w) (option_map stored_of o)
cond-put true w o = refl
cond-put false w o = refl

module _ {Name : Type 0} (bytes : Name → Bytes) where
  -- whether a stored name is this
  abbrev pub is_name : Bytes → Name → Bool
  is_name q k = bytes_eq q (bytes k)

  abbrev pub same_name : Name → Name → Bool
  same_name a b = bytes_eq (bytes a) (bytes b)

  find-stored : (q : Bytes) (entries : List (Name × KeyEntry))
      → map.find byte_cmp q (stored_entries bytes entries) ≡ option_map stored_of (lookup (is_name q) entries)
  find-stored q [] = refl
  find-stored q (e ∷ entries) =
      ap (λ b. cond b (Some (stored_of e.1)) (map.find byte_cmp q (stored_entries bytes entries))) (sym (texts_ties q (bytes e.0)))
      ∙ ap (cond (is_name q e.0) (Some (stored_of e.1))) (find-stored q entries)
      ∙ sym (cond-map (is_name q e.0) e.1 (lookup (is_name q) entries))

  pub get-store : (entries : List (Name × KeyEntry)) (q : Bytes) → map.get (store_of bytes entries) q ≡ option_map stored_of (lookup (is_name q) entries)
  get-store entries q = map.get-from_entries nat_list_cmp_total (stored_entries bytes entries) q ∙ find-stored q entries

  pub get-found : (entries : List (Name × KeyEntry)) (store : Store) (name : Bytes) (found : Option KeyEntry) → store_of bytes entries ≡ store
      → found ≡ lookup (is_name name) entries → map.get store name ≡ option_map stored_of found
  get-found entries store name found seen is = ap (λ m. map.get m name) (sym seen) ∙ get-store entries name ∙ ap (option_map stored_of) (sym is)

  -- after a change at one name, any other is found as before
  changed : (old new : List (Name × KeyEntry)) (name : Bytes) (w : Option KeyEntry) → lookup (is_name name) new ≡ w → KeepsOthers same_name (is_name name) old new
      → (q : Bytes) → map.get (store_of bytes new) q ≡ cond (eq_by_cmp byte_cmp q name) (option_map stored_of w) (map.get (store_of bytes old) q)
  unfolding KeepsOthers
  changed old new name w at_name others q =
      let found : lookup (is_name q) new ≡ cond (bytes_eq q name) w (lookup (is_name q) old) =
      elim (bytes_eq q name) as (λ t. bytes_eq q name ≡ t → lookup (is_name q) new ≡ cond t w (lookup (is_name q) old)) [
        | true ↦ λ t. ap (λ n. lookup (is_name n) new) ((bytes_decides q name).0 t) ∙ at_name
        | false ↦ λ t. others (is_name q)
            (λ x y same. nat_list_eq_equiv.congr q (bytes x) (bytes y) same)
            (λ k same. ap (bytes_eq q) (sym ((bytes_decides name (bytes k)).0 same)) ∙ t)
      ] refl in
      get-store new q ∙ ap (option_map stored_of) found ∙ cond-put (bytes_eq q name) w (lookup (is_name q) old)
      ∙ ap (λ b. cond b (option_map stored_of w) (option_map stored_of (lookup (is_name q) old))) (texts_ties q name)
      ∙ ap (cond (eq_by_cmp byte_cmp q name) (option_map stored_of w)) (sym (get-store old q))

  pub inserted : (old new : List (Name × KeyEntry)) (name : Bytes) (entry : KeyEntry) → lookup (is_name name) new ≡ Some entry
      → KeepsOthers same_name (is_name name) old new
      → store_of bytes new ≡ map.insert (store_of bytes old) name (stored_of entry)
  inserted old new name entry at_name others = map.same_map nat_list_cmp_total exact_bytes _ _ (λ q.
      changed old new name (Some entry) at_name others q ∙ sym (map.get-insert nat_list_cmp_total (store_of bytes old) name (stored_of entry) q))

  pub removed : (old new : List (Name × KeyEntry)) (name : Bytes) → lookup (is_name name) new ≡ None → KeepsOthers same_name (is_name name) old new
      → store_of bytes new ≡ map.remove (store_of bytes old) name
  removed old new name at_name others = map.same_map nat_list_cmp_total exact_bytes _ _ (λ q.
      changed old new name None at_name others q ∙ sym (map.get-remove nat_list_cmp_total (store_of bytes old) name q))

  found_at : (entries fewer : List (Name × KeyEntry)) → ((k : Name) → lookup (same_name k) fewer ≡ lookup (same_name k) entries) → (q : Bytes) (entry : KeyEntry)
      → lookup (is_name q) entries ≡ Some entry → lookup (is_name q) fewer ≡ lookup (is_name q) entries
  found_at entries fewer same q entry found =
      let at = place_from_lookup (is_name q) entries entry found in
      let named : q ≡ bytes at.1 = (bytes_decides q (bytes at.1)).0 at.3 in
      ap (λ n. lookup (is_name n) fewer) named ∙ same at.1 ∙ ap (λ n. lookup (is_name n) entries) (sym named)

  -- entries at which each stored name finds the same make one map
  pub reordered : (old new : List (Name × KeyEntry)) → ((k : Name) → lookup (same_name k) new ≡ lookup (same_name k) old) → store_of bytes new ≡ store_of bytes old
  reordered old new same = map.same_map nat_list_cmp_total exact_bytes _ _ (λ q.
      get-store new q
      ∙ ap (option_map stored_of) (
      elim (lookup (is_name q) old) as (λ o. lookup (is_name q) old ≡ o → lookup (is_name q) new ≡ lookup (is_name q) old) [
        | Some entry ↦ λ found. found_at old new same q entry found
        | None ↦ λ none. elim (lookup (is_name q) new) as (λ o. lookup (is_name q) new ≡ o → lookup (is_name q) new ≡ lookup (is_name q) old) [
          | Some entry ↦ λ found. sym (found_at new old (λ k. sym (same k)) q entry found)
          | None ↦ λ too. too ∙ sym none
        ] refl
      ] refl)
      ∙ sym (get-store old q))

none_either : (b : Bool) → let none : Option KeyEntry = None in none ≡ cond b None none
none_either true = refl
none_either false = refl

left_without : (own same found : Bool) (entry : KeyEntry) (behind left : Option KeyEntry) → (own ≡ true → found ≡ same) → (same ≡ true → found ≡ own)
    → left ≡ cond same None behind → cond own left (cond found (Some entry) left) ≡ cond same None (cond found (Some entry) behind)
left_without true true found entry behind left here there is = is
left_without true false true entry behind left here there is = absurd (true≢false (here refl))
left_without true false false entry behind left here there is = is
left_without false true true entry behind left here there is = absurd (true≢false (there refl))
left_without false true false entry behind left here there is = is
left_without false false found entry behind left here there is = ap (cond found (Some entry)) is

-- whether an entry is at another name
abbrev pub is_elsewhere : Bytes → Bytes × KeyEntry → Bool
is_elsewhere name entry = not (bytes_eq entry.0 name)

lookup-kept : (own : Bool) (q : Bytes) (entry : Bytes × KeyEntry) (kept : List (Bytes × KeyEntry))
    → lookup (bytes_eq q) (cond (not own) (entry ∷ kept) kept) ≡ cond own (lookup (bytes_eq q) kept) (cond (bytes_eq q entry.0) (Some entry.1) (lookup (bytes_eq q) kept))
lookup-kept true q entry kept = refl
lookup-kept false q entry kept = refl

lookup-elsewhere : (name q : Bytes) (entries : List (Bytes × KeyEntry))
    → lookup (bytes_eq q) (filter (is_elsewhere name) entries) ≡ cond (bytes_eq q name) None (lookup (bytes_eq q) entries)
lookup-elsewhere name q [] = none_either (bytes_eq q name)
lookup-elsewhere name q (e ∷ entries) =
    lookup-kept (bytes_eq e.0 name) q e (filter (is_elsewhere name) entries)
    ∙ left_without (bytes_eq e.0 name) (bytes_eq q name) (bytes_eq q e.0) e.1 (lookup (bytes_eq q) entries) (lookup (bytes_eq q) (filter (is_elsewhere name) entries))
    (λ own. ap (bytes_eq q) ((bytes_decides e.0 name).0 own))
    (λ same. ap (λ n. bytes_eq n e.0) ((bytes_decides q name).0 same) ∙ nat_list_eq_equiv.symm name e.0)
    (lookup-elsewhere name q entries)

-- the entries at other names are those without what is stored at one
pub others_left : (entries kept : List (Bytes × KeyEntry)) (name : Bytes) → kept ≡ filter (is_elsewhere name) entries
    → store_of bytes_of kept ≡ map.remove (store_of bytes_of entries) name
others_left entries kept name is = map.same_map nat_list_cmp_total exact_bytes _ _ (λ q.
    get-store bytes_of kept q
    ∙ ap (λ es. option_map stored_of (lookup (bytes_eq q) es)) is
    ∙ ap (option_map stored_of) (lookup-elsewhere name q entries)
    ∙ cond-put (bytes_eq q name) None (lookup (bytes_eq q) entries)
    ∙ ap (λ b. cond b None (option_map stored_of (lookup (bytes_eq q) entries))) (texts_ties q name)
    ∙ ap (cond (eq_by_cmp byte_cmp q name) None) (sym (get-store bytes_of entries q))
    ∙ sym (map.get-remove nat_list_cmp_total (store_of bytes_of entries) name q))
