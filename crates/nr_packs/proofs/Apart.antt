-- No field stands twice in a table.
use Rattle.std.proofs.Common.{inl, inr, ◌≡◌, ◌≢◌, ℕ, suc, ◌+◌, true, false, cond, eqb, Option, Some, None, List, [], ◌∷◌, ◌++◌, length, refl, ap, sym, ◌∙◌, arith}
use Rattle.std.specs.Prelude.{◌⊎◌}
use Rattle.std.specs.List.{IsDistinct, AllByRecursion}
use Rattle.std.specs.Map.{keys_of}
use Rattle.std.specs.Cmp.{eq_by_cmp_equiv}
use Rattle.std.specs.Cmp.Lexicographic.{nat_list_cmp_total}
use Rattle.std.specs.Option.{option_or}
use Rattle.std.specs.declared.random_state.RandomState.{RandomState}
use Rattle.std.proofs.lemmas.Map.Keys.{IsDistinct-from_sorted}
use Rattle.nr_model.specs.Bytes.{Bytes}
use Rattle.nr_model.specs.Keyspace.{byte_cmp}
use Rattle.nr_packs.specs.Packed.{Entries}
use Rattle.nr_packs.specs.Orders.{AreInOrder}
use Rattle.nr_packs.specs.Rows.{AreApart}
use Rattle.nr_packs.specs.Tables.{held, hash, slot, pack_at, pairs_of, IsStored}
use Rattle.nr_packs.proofs.Looked.{is_same, held-append}
use Rattle.nr_packs.proofs.Spread.{same_number, other_number}

pub same_self : (q : Bytes) → is_same q q ≡ true
same_self q = (eq_by_cmp_equiv nat_list_cmp_total).refl q

-- what is not held differs from all
differs : (q : Bytes) (es : Entries) → held q es ≡ None → AllByRecursion (λ y. is_same q y ≡ false) (keys_of es)
differs q [] none = tt
differs q (e ∷ es) none = elim (is_same q e.0) as (λ b. is_same q e.0 ≡ b → cond b (Some e.1) (held q es) ≡ None → AllByRecursion (λ y. is_same q y ≡ false) (keys_of (e ∷ es))) [
  | true ↦ λ is none. absurd (cc none)
  | false ↦ λ is none. (is, differs q es none)
] refl none

differs_both : (q : Bytes) (es others : Entries) → AllByRecursion (λ y. is_same q y ≡ false) (keys_of es) → AllByRecursion (λ y. is_same q y ≡ false) (keys_of others)
    → AllByRecursion (λ y. is_same q y ≡ false) (keys_of (es ++ others))
differs_both q [] others here there = there
differs_both q (e ∷ es) others here there = (here.0, differs_both q es others here.1 there)

first_held : (e : Bytes × Bytes) (es : Entries) → held e.0 (e ∷ es) ≡ Some e.1
first_held e es = ap (λ b. cond b (Some e.1) (held e.0 es)) (same_self e.0)

rest_none : (q : Bytes) (e : Bytes × Bytes) (es : Entries) → held q (e ∷ es) ≡ None → held q es ≡ None
rest_none q e es none = elim (is_same q e.0) as (λ b. cond b (Some e.1) (held q es) ≡ None → held q es ≡ None) [
  | true ↦ λ none. absurd (cc none)
  | false ↦ λ none. none
] none

not_none : {A : Type 0} (x : A) (o : Option A) → o ≡ Some x → o ≢ None
not_none x o some none = absurd (cc (sym some ∙ none))

-- two lists that have no field in common
pub apart_both : (es others : Entries) → AreApart es → AreApart others → ((q : Bytes) → (held q es ≡ None) ⊎ (held q others ≡ None)) → AreApart (es ++ others)
unfolding IsDistinct
apart_both [] others here there either = there
apart_both (e ∷ es) others here there either =
    let none : held e.0 others ≡ None = elim (either e.0) [
      | inl none ↦ absurd (not_none e.1 (held e.0 (e ∷ es)) (first_held e es) none)
      | inr none ↦ none
    ] in (
      differs_both e.0 es others here.0 (differs e.0 others none),
      apart_both es others here.1 there (λ q. elim (either q) [
        | inl none ↦ inl (rest_none q e es none)
        | inr none ↦ inr none
      ]),
    )

apart_ordered : (es : Entries) → AreInOrder es → AreApart es
apart_ordered es rises = IsDistinct-from_sorted byte_cmp (keys_of es) rises

none_of : (q : Bytes) (packs : List Entries) → ((place : ℕ) → held q (pack_at packs place) ≡ None) → held q (pairs_of packs) ≡ None
none_of q [] none = refl
none_of q (es ∷ packs) none = held-append q es (pairs_of packs) ∙ ap (λ o. option_or o (held q (pairs_of packs))) (none 0) ∙ none_of q packs (λ place. none (suc place))

apart_packs : (at : Bytes → ℕ) (first : ℕ) (packs : List Entries) → ((place : ℕ) → AreInOrder (pack_at packs place))
    → ((place : ℕ) (q : Bytes) → at q ≢ first + place → held q (pack_at packs place) ≡ None) → AreApart (pairs_of packs)
unfolding IsDistinct
apart_packs at first [] rise placed = tt
apart_packs at first (es ∷ packs) rise placed =
    apart_both es (pairs_of packs) (apart_ordered es (rise 0))
    (apart_packs at (suc first) packs (λ place. rise (suc place)) (λ place q apart. placed (suc place) q (λ is. apart (omega (arith, is)))))
    (λ q. elim (eqb (at q) first) as (λ b. eqb (at q) first ≡ b → (held q es ≡ None) ⊎ (held q (pairs_of packs) ≡ None)) [
      | true ↦ λ is. inr (none_of q packs (λ place. placed (suc place) q (λ other. absurd (omega (arith, other, same_number (at q) first is)))))
      | false ↦ λ is. inl (placed 0 q (λ here. other_number (at q) first is (omega (arith, here))))
    ] refl)

pub apart_stored : (keys : RandomState) (level : ℕ) (packs : List Entries) (long : Entries) → IsStored keys level packs long → AreApart (pairs_of packs ++ long)
apart_stored keys level packs long stored =
    apart_both (pairs_of packs) long
    (apart_packs (λ q. slot level (length packs) (hash keys q)) 0 packs stored.spread.ordered (λ place q apart. stored.spread.placed place q (λ is. apart (omega (arith, is)))))
    (apart_ordered long stored.ordered) stored.apart
