-- A field put into a table, and taken out.
use Rattle.std.proofs.Common.{inl, inr, ◌≡◌, ℕ, ◌<◌, Bool, true, false, cond, not, ◌&&◌, Option, Some, None, is_some, is_none, List, length, set, refl, ap, sym, ◌∙◌, subst}
use Rattle.std.specs.Prelude.{◌⊎◌, ◌||◌, [], slice_index_or}
use Rattle.std.specs.Cmp.Lexicographic.{nat_list_cmp_total}
use Rattle.std.specs.Option.{option_or}
use Rattle.std.specs.Map.{remove_entry}
use Rattle.std.specs.BTreeMap.{is_at}
use Rattle.std.specs.FinMap as map
use Rattle.std.specs.declared.random_state.RandomState.{RandomState}
use Rattle.std.proofs.lemmas.List.{get_or_default}
use Rattle.std.proofs.lemmas.Map.Lookups.{exact_bytes}
use Rattle.nr_model.specs.Bytes.{Bytes}
use Rattle.nr_model.specs.Keyspace.{byte_cmp}
use Rattle.nr_packs.specs.Packed.{Entries}
use Rattle.nr_packs.specs.Orders.{AreInOrder}
use Rattle.nr_packs.specs.Puts.{IsPut}
use Rattle.nr_packs.specs.Tables.{held, hash, slot, pack_at, pairs_of, seen, IsStored}
use Rattle.nr_packs.proofs.Placed.{rises_insert, rises_remove}
use Rattle.nr_packs.proofs.Looked.{is_same, held-insert, held-remove}
use Rattle.nr_packs.proofs.Moved.{slot_within}
use Rattle.nr_packs.proofs.Spread.{get_seen, held_spread, spread_set, others_none, held_set}

-- what a field has is in its block, or beside the blocks
pub get_stored : (keys : RandomState) (level : ℕ) (packs : List Entries) (long : Entries) (k : Bytes) → IsStored keys level packs long
    → map.get (seen packs long) k ≡ option_or (held k (pack_at packs (slot level (length packs) (hash keys k)))) (held k long)
get_stored keys level packs long k stored = get_seen packs long k ∙ ap (λ o. option_or o (held k long)) (held_spread keys level packs k stored.spread)

two_conds : {A : Type 0} (b : Bool) (v w x y : Option A) → option_or (cond b v x) (cond b w y) ≡ cond b (option_or v w) (option_or x y)
two_conds true v w x y = refl
two_conds false v w x y = refl

one_none : {A : Type 0} (b : Bool) (v w x y : Option A) → (v ≡ None) ⊎ (w ≡ None) → (x ≡ None) ⊎ (y ≡ None) → (cond b v x ≡ None) ⊎ (cond b w y ≡ None)
one_none true v w x y new old = new
one_none false v w x y new old = old

-- one field changed in its block, and beside the blocks
module _ (keys : RandomState) (level : ℕ) (packs : List Entries) (long es new_long : Entries) (k : Bytes) (v w : Option Bytes) (stored : IsStored keys level packs long)
    (rises : AreInOrder es) (long_rises : AreInOrder new_long)
    (change : (q : Bytes) → held q es ≡ cond (is_same q k) v (held q (pack_at packs (slot level (length packs) (hash keys k)))))
    (long_change : (q : Bytes) → held q new_long ≡ cond (is_same q k) w (held q long)) where
  abbrev here : ℕ
  here = slot level (length packs) (hash keys k)

  within : here < length packs
  within = slot_within level (length packs) (hash keys k) stored.spread.some stored.spread.least

  in_packs : (q : Bytes) → held q (pairs_of (set packs here es)) ≡ cond (is_same q k) v (held q (pairs_of packs))
  in_packs q = held_set keys level packs here es stored.spread within k v refl change rises q

  pub stored_changed : (v ≡ None) ⊎ (w ≡ None) → IsStored keys level (set packs here es) new_long
  stored_changed one = record {
    spread = spread_set keys level packs here es stored.spread within rises (others_none keys level packs here es stored.spread within k v refl change);
    ordered = long_rises;
    apart = λ q. subst (λ o. (o ≡ None) ⊎ (held q new_long ≡ None)) (sym (in_packs q))
        (subst (λ o. (cond (is_same q k) v (held q (pairs_of packs)) ≡ None) ⊎ (o ≡ None)) (sym (long_change q))
        (one_none (is_same q k) v w (held q (pairs_of packs)) (held q long) one (stored.apart q)));
  }

  pub get_changed : (q : Bytes) → map.get (seen (set packs here es) new_long) q ≡ cond (is_same q k) (option_or v w) (map.get (seen packs long) q)
  get_changed q =
      get_seen (set packs here es) new_long q ∙ (λ i. option_or (in_packs q i) (long_change q i))
      ∙ two_conds (is_same q k) v w (held q (pairs_of packs)) (held q long) ∙ ap (cond (is_same q k) (option_or v w)) (sym (get_seen packs long q))

-- a value put at a field
module _ (keys : RandomState) (level : ℕ) (packs : List Entries) (long es new_long : Entries) (k v : Bytes) (stored : IsStored keys level packs long)
    (put : IsPut k v (pack_at packs (slot level (length packs) (hash keys k))) long es new_long) where
  abbrev there : ℕ
  there = slot level (length packs) (hash keys k)

  pub put_done : IsStored keys level (set packs there es) new_long × (seen (set packs there es) new_long ≡ map.insert (seen packs long) k v)
  put_done = elim put [
    | inl is ↦
        let rises : AreInOrder es = subst AreInOrder (sym is.0) (rises_insert k v (pack_at packs there) (stored.spread.ordered there)) in
        let long_rises : AreInOrder new_long = subst AreInOrder (sym is.1) (rises_remove (is_at (byte_cmp k)) long stored.ordered) in
        let change : (q : Bytes) → held q es ≡ cond (is_same q k) (Some v) (held q (pack_at packs there)) = λ q. ap (held q) is.0 ∙ held-insert k v q (pack_at packs there) in
        let long_change : (q : Bytes) → held q new_long ≡ cond (is_same q k) None (held q long) = λ q. ap (held q) is.1 ∙ held-remove k q long stored.ordered in (
          stored_changed keys level packs long es new_long k (Some v) None stored rises long_rises change long_change (inr refl),
          map.same_map nat_list_cmp_total exact_bytes _ _ (λ q. get_changed keys level packs long es new_long k (Some v) None stored rises long_rises change long_change q
              ∙ sym (map.get-insert nat_list_cmp_total (seen packs long) k v q)),
        )
    | inr is ↦
        let rises : AreInOrder es = subst AreInOrder (sym is.0) (rises_remove (is_at (byte_cmp k)) (pack_at packs there) (stored.spread.ordered there)) in
        let long_rises : AreInOrder new_long = subst AreInOrder (sym is.1) (rises_insert k v long stored.ordered) in
        let change : (q : Bytes) → held q es ≡ cond (is_same q k) None (held q (pack_at packs there)) =
        λ q. ap (held q) is.0 ∙ held-remove k q (pack_at packs there) (stored.spread.ordered there) in
        let long_change : (q : Bytes) → held q new_long ≡ cond (is_same q k) (Some v) (held q long) = λ q. ap (held q) is.1 ∙ held-insert k v q long in (
          stored_changed keys level packs long es new_long k None (Some v) stored rises long_rises change long_change (inl refl),
          map.same_map nat_list_cmp_total exact_bytes _ _ (λ q. get_changed keys level packs long es new_long k None (Some v) stored rises long_rises change long_change q
              ∙ sym (map.get-insert nat_list_cmp_total (seen packs long) k v q)),
        )
  ]

-- a field taken out of both
module _ (keys : RandomState) (level : ℕ) (packs : List Entries) (long es new_long : Entries) (k : Bytes) (stored : IsStored keys level packs long)
    (is : es ≡ remove_entry (is_at (byte_cmp k)) (pack_at packs (slot level (length packs) (hash keys k)))) (long_is : new_long ≡ remove_entry (is_at (byte_cmp k)) long) where
  abbrev from_there : ℕ
  from_there = slot level (length packs) (hash keys k)

  pub taken_done : IsStored keys level (set packs from_there es) new_long × (seen (set packs from_there es) new_long ≡ map.remove (seen packs long) k)
  taken_done =
      let rises : AreInOrder es = subst AreInOrder (sym is) (rises_remove (is_at (byte_cmp k)) (pack_at packs from_there) (stored.spread.ordered from_there)) in
      let long_rises : AreInOrder new_long = subst AreInOrder (sym long_is) (rises_remove (is_at (byte_cmp k)) long stored.ordered) in
      let change : (q : Bytes) → held q es ≡ cond (is_same q k) None (held q (pack_at packs from_there)) =
      λ q. ap (held q) is ∙ held-remove k q (pack_at packs from_there) (stored.spread.ordered from_there) in
      let long_change : (q : Bytes) → held q new_long ≡ cond (is_same q k) None (held q long) = λ q. ap (held q) long_is ∙ held-remove k q long stored.ordered in (
        stored_changed keys level packs long es new_long k None None stored rises long_rises change long_change (inl refl),
        map.same_map nat_list_cmp_total exact_bytes _ _ (λ q. get_changed keys level packs long es new_long k None None stored rises long_rises change long_change q
            ∙ sym (map.get-remove nat_list_cmp_total (seen packs long) k q)),
      )

pub none_of_two : {A : Type 0} (x y : Option A) → (is_none x && is_none y) ≡ not (is_some (option_or x y))
none_of_two None None = refl
none_of_two None (Some y) = refl
none_of_two (Some x) y = refl

pub one_of_two : {A : Type 0} (x y : Option A) → (is_some x || is_some y) ≡ is_some (option_or x y)
one_of_two None y = refl
one_of_two (Some x) y = refl

-- as it is done: the block is looked up by a count and a field that are these
module _ (keys : RandomState) (level count place : ℕ) (packs : List Entries) (long pack : Entries) where
  where_it_is : (k bytes : Bytes) → IsStored keys level packs long → bytes ≡ k → count ≡ length packs → place ≡ slot level count (hash keys bytes)
      → pack ≡ slice_index_or packs place pack
      → (place ≡ slot level (length packs) (hash keys k)) × (pack ≡ pack_at packs (slot level (length packs) (hash keys k)))
  where_it_is k bytes stored same is at read =
      let here : place ≡ slot level (length packs) (hash keys k) = at ∙ (λ i. slot level (is i) (hash keys (same i))) in
      let within : slot level (length packs) (hash keys k) < length packs = slot_within level (length packs) (hash keys k) stored.spread.some stored.spread.least in
      (here, read ∙ ap (λ n. slice_index_or packs n pack) here ∙ sym (get_or_default packs (slot level (length packs) (hash keys k)) [] pack within))

  pub found_at : (k bytes : Bytes) → IsStored keys level packs long → bytes ≡ k → count ≡ length packs → place ≡ slot level count (hash keys bytes)
      → pack ≡ slice_index_or packs place pack → option_or (held k pack) (held k long) ≡ map.get (seen packs long) k
  found_at k bytes stored same is at read =
      ap (λ es. option_or (held k es) (held k long)) (where_it_is k bytes stored same is at read).1 ∙ sym (get_stored keys level packs long k stored)

  module _ (new_pack new_long : Entries) where
    pub taken_at : (k bytes : Bytes) → IsStored keys level packs long → bytes ≡ k → count ≡ length packs → place ≡ slot level count (hash keys bytes)
        → pack ≡ slice_index_or packs place pack → new_pack ≡ remove_entry (is_at (byte_cmp k)) pack → new_long ≡ remove_entry (is_at (byte_cmp k)) long
        → IsStored keys level (set packs place new_pack) new_long × (seen (set packs place new_pack) new_long ≡ map.remove (seen packs long) k)
    taken_at k bytes stored same is at read taken long_taken =
        let there = where_it_is k bytes stored same is at read in
        subst (λ n. IsStored keys level (set packs n new_pack) new_long × (seen (set packs n new_pack) new_long ≡ map.remove (seen packs long) k)) (sym there.0)
        (taken_done keys level packs long new_pack new_long k stored (taken ∙ ap (remove_entry (is_at (byte_cmp k))) there.1) long_taken)

    pub put_at : (k bytes v : Bytes) → IsStored keys level packs long → bytes ≡ k → count ≡ length packs → place ≡ slot level count (hash keys bytes)
        → pack ≡ slice_index_or packs place pack → IsPut k v pack long new_pack new_long
        → IsStored keys level (set packs place new_pack) new_long × (seen (set packs place new_pack) new_long ≡ map.insert (seen packs long) k v)
    put_at k bytes v stored same is at read put =
        let there = where_it_is k bytes stored same is at read in
        subst (λ n. IsStored keys level (set packs n new_pack) new_long × (seen (set packs n new_pack) new_long ≡ map.insert (seen packs long) k v)) (sym there.0)
        (put_done keys level packs long new_pack new_long k v stored (subst (λ es. IsPut k v es long new_pack new_long) there.1 put))
