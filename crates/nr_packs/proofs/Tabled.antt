-- A table and its count before and after a change.
use Rattle.std.proofs.Common.{inl, OnErr, Result, Ok, Err, ◌≡◌, ℕ, zero, suc, ◌+◌, ◌-◌, ◌≤◌, ◌<◌, ◌^◌, Bool, true, false, cond, not, Option, None, is_some, List, [], ◌∷◌, refl, ap, sym, ◌∙◌, subst, arith, true≢false}
use Rattle.std.specs.Prelude.{◌⊎◌}
use Rattle.std.specs.Cmp.Lexicographic.{nat_list_cmp_total}
use Rattle.std.specs.List.Sorted.{IsStrictlySortedBy}
use Rattle.std.specs.Option.{option_or}
use Rattle.std.specs.FinMap as map
use Rattle.std.specs.declared.random_state.RandomState.{RandomState}
use Rattle.std.proofs.lemmas.Map.Lookups.{exact_bytes}
use Rattle.nr_model.specs.Bytes.{Bytes}
use Rattle.nr_model.specs.Keyspace.{byte_cmp}
use Rattle.nr_packs.specs.Packed.{Entries}
use Rattle.nr_packs.specs.Orders.{AreInOrder}
use Rattle.nr_packs.specs.Tables.{held, pack_at, pairs_of, seen, IsSpread, IsStored, IsTable}
use Rattle.nr_packs.proofs.Spread.{get_seen}

empty_at : (place : ℕ) → pack_at ([] ∷ []) place ≡ []
empty_at zero = refl
empty_at (suc place) = refl

none_rise : (es : Entries) → es ≡ [] → AreInOrder es
unfolding IsStrictlySortedBy
none_rise es none = subst AreInOrder (sym none) tt

seen_none : seen ([] ∷ []) [] ≡ map.empty
seen_none = map.same_map nat_list_cmp_total exact_bytes _ _ (λ q. get_seen ([] ∷ []) [] q ∙ sym (map.get-empty byte_cmp q))

-- no pairs, in one block
pub table_none : (keys : RandomState) (packs : List Entries) (long : Entries) → packs ≡ [] ∷ [] → long ≡ [] → IsTable keys 1 packs long 0 × (seen packs long ≡ map.empty)
table_none keys packs long is none =
    subst (λ all. IsTable keys 1 all long 0 × (seen all long ≡ map.empty)) (sym is)
    (subst (λ all. IsTable keys 1 ([] ∷ []) all 0 × (seen ([] ∷ []) all ≡ map.empty)) (sym none) (
      record {
        stored = record {
          spread = record {
            some = omega arith;
            least = omega arith;
            most = omega arith;
            ordered = λ place. none_rise (pack_at ([] ∷ []) place) (empty_at place);
            placed = λ place q _. ap (held q) (empty_at place);
          };
          ordered = none_rise [] refl;
          apart = λ q. inl refl;
        };
        counted = sym (ap map.len seen_none ∙ map.len-empty byte_cmp Bytes);
        few = omega arith;
      },
      seen_none,
    ))

-- blocks in which each field has what it had
pub table_grown : (keys : RandomState) (level new_level count : ℕ) (packs new : List Entries) (long : Entries) → IsTable keys level packs long count → IsSpread keys new_level new
    → ((q : Bytes) → held q (pairs_of new) ≡ held q (pairs_of packs)) → IsTable keys new_level new long count × (seen new long ≡ seen packs long)
table_grown keys level new_level count packs new long table spread same =
    let is : seen new long ≡ seen packs long =
    map.same_map nat_list_cmp_total exact_bytes _ _ (λ q. get_seen new long q ∙ ap (λ o. option_or o (held q long)) (same q) ∙ sym (get_seen packs long q)) in (
      record {
        stored = record {
          spread = spread;
          ordered = table.stored.ordered;
          apart = λ q. subst (λ (o : Option Bytes). (o ≡ None) ⊎ (held q long ≡ None)) (sym (same q)) (table.stored.apart q);
        };
        counted = table.counted ∙ ap map.len (sym is);
        few = table.few;
      },
      is,
    )

counted_put : (b is_new : Bool) (len count more : ℕ) → is_new ≡ not b → count ≡ len → more ≡ count + 1 → cond is_new more count ≡ cond b len (len + 1)
counted_put true true len count more new is one = cc
counted_put true false len count more new is one = is
counted_put false true len count more new is one = one ∙ ap (λ n. n + 1) is
counted_put false false len count more new is one = cc

few_put : (is_new : Bool) (count more : ℕ) → count < 2 ^ 63 → more < 2 ^ 63 → cond is_new more count < 2 ^ 63
few_put true count more few one = one
few_put false count more few one = few

-- a value put at a field
pub table_put : (keys : RandomState) (level count more : ℕ) (packs new : List Entries) (long new_long : Entries) (k v : Bytes) (is_new : Bool) → IsTable keys level packs long count
    → IsStored keys level new new_long → seen new new_long ≡ map.insert (seen packs long) k v → is_new ≡ not (map.contains_key (seen packs long) k) → more ≡ count + 1 → more < 2 ^ 63
    → IsTable keys level new new_long (cond is_new more count)
table_put keys level count more packs new long new_long k v is_new table stored is newness one few = record {
  stored = stored;
  counted = counted_put (map.contains_key (seen packs long) k) is_new (map.len (seen packs long)) count more newness table.counted one
      ∙ sym (map.len-insert nat_list_cmp_total (seen packs long) k v) ∙ ap map.len (sym is);
  few = few_put is_new count more table.few few;
}

-- where a field is there, there is one at least
pub some_counted : (keys : RandomState) (level count : ℕ) (packs : List Entries) (long : Entries) (k : Bytes) → IsTable keys level packs long count
    → map.contains_key (seen packs long) k ≡ true → 1 ≤ count
some_counted keys level zero packs long k table there =
    let none : seen packs long ≡ map.empty = map.empty_of_len (seen packs long) (sym table.counted) in
    absurd (true≢false (sym there ∙ ap (λ hash. map.contains_key hash k) none ∙ ap is_some (map.get-empty byte_cmp k)))
some_counted keys level (suc count) packs long k table there = omega arith

counted_taken : (b there : Bool) (len count : ℕ) → there ≡ b → count ≡ len → cond there (count - 1) count ≡ cond b (len - 1) len
counted_taken b there len count same is = λ i. cond (same i) (is i - 1) (is i)

few_taken : (there : Bool) (count : ℕ) → count < 2 ^ 63 → cond there (count - 1) count < 2 ^ 63
few_taken true count few = omega arith
few_taken false count few = few

-- a field taken out
pub table_taken : (keys : RandomState) (level count : ℕ) (packs new : List Entries) (long new_long : Entries) (k : Bytes) (there : Bool) → IsTable keys level packs long count
    → IsStored keys level new new_long → seen new new_long ≡ map.remove (seen packs long) k → there ≡ map.contains_key (seen packs long) k
    → IsTable keys level new new_long (cond there (count - 1) count)
table_taken keys level count packs new long new_long k there table stored is same = record {
  stored = stored;
  counted = counted_taken (map.contains_key (seen packs long) k) there (map.len (seen packs long)) count same table.counted
      ∙ sym (map.len-remove nat_list_cmp_total (seen packs long) k) ∙ ap map.len (sym is);
  few = few_taken there count table.few;
}

pub none_counted : (keys : RandomState) (level count : ℕ) (packs : List Entries) (long : Entries) → IsTable keys level packs long count → count ≡ 0 → seen packs long ≡ map.empty
none_counted keys level count packs long table none = map.empty_of_len (seen packs long) (sym table.counted ∙ none)

pub on_err : {A E P : Type 0} (result : Result A E) → P → OnErr result P
on_err (Ok x) p = tt
on_err (Err x) p = p
