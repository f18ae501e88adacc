-- What is held at a field of a list of pairs.
use Rattle.std.proofs.Common.{◌≡◌, Bool, true, false, cond, T, Option, Some, None, [], ◌∷◌, ◌++◌, refl, ap, sym, ◌∙◌, subst}
use Rattle.std.specs.Prelude.{◌&&◌}
use Rattle.std.specs.List.{AllByRecursion}
use Rattle.std.specs.List.Sorted.{IsStrictlySortedBy}
use Rattle.std.specs.declared.cmp.Ordering.{Ordering}
use Rattle.std.specs.declared.cmp.Ordering.TheVariants.{Less, Equal, Greater}
use Rattle.std.specs.Ordering.{is_eq, is_lt, eq_by_cmp, match_ordering}
use Rattle.std.specs.Cmp.{eq_by_cmp_equiv}
use Rattle.std.specs.Cmp.Lexicographic.{nat_list_cmp_total}
use Rattle.std.specs.Option.{option_or}
use Rattle.std.specs.Map.{keys_of, remove_entry}
use Rattle.std.specs.BTreeMap.{insert_entry, is_at}
use Rattle.std.specs.FinMap.Entries as entries
use Rattle.std.proofs.lemmas.Map.{lookup-remove_entry}
use Rattle.std.proofs.lemmas.Map.Keys.{IsDistinct-from_sorted}
use Rattle.std.proofs.lemmas.Map.Lookups.{exact_bytes}
use Rattle.nr_model.specs.Bytes.{Bytes}
use Rattle.nr_model.specs.Keyspace.{byte_cmp}
use Rattle.nr_packs.specs.Packed.{Entries}
use Rattle.nr_packs.specs.Orders.{AreInOrder}
use Rattle.nr_packs.specs.Tables.{held}

abbrev pub is_same : Bytes → Bytes → Bool
is_same q k = eq_by_cmp byte_cmp q k

pub at_equal : (r : Ordering) → is_eq r ≡ true → r ≡ Equal
at_equal Less is = cc
at_equal Equal is = refl
at_equal Greater is = cc

pub same_field : (q k : Bytes) → is_same q k ≡ true → q ≡ k
same_field q k is = exact_bytes q k (at_equal (byte_cmp q k) is)

pub tests_one : (k x y : Bytes) → is_at (byte_cmp k) x ≡ true → is_at (byte_cmp k) y ≡ is_same x y
tests_one k x y is = ap (λ (q : Bytes). is_same q y) (same_field k x is)

-- as a finite map finds it
pub found : (es : Entries) (q : Bytes) → entries.find byte_cmp q es ≡ held q es
found [] q = refl
found (e ∷ es) q = ap (cond (is_at (byte_cmp q) e.0) (Some e.1)) (found es q)

-- and puts it
pub placed : (es : Entries) (k v : Bytes) → entries.put byte_cmp k v es ≡ insert_entry byte_cmp es k v
placed [] k v = refl
placed (e ∷ es) k v =
    elim (byte_cmp k e.0) as (λ r. entries.by_order r ((k, v) ∷ e ∷ es) ((e.0, v) ∷ es) (e ∷ entries.put byte_cmp k v es)
    ≡ match_ordering r ((k, v) ∷ e ∷ es) ((e.0, v) ∷ es) (e ∷ insert_entry byte_cmp es k v)) [
      | Less ↦ refl
      | Equal ↦ refl
      | Greater ↦ ap (λ ys. e ∷ ys) (placed es k v)
    ]

append_or : {A : Type 0} (b : Bool) (x : A) (o p : Option A) → cond b (Some x) (option_or o p) ≡ option_or (cond b (Some x) o) p
append_or true x o p = refl
append_or false x o p = refl

pub held-append : (q : Bytes) (es others : Entries) → held q (es ++ others) ≡ option_or (held q es) (held q others)
held-append q [] others = refl
held-append q (e ∷ es) others =
    ap (cond (is_at (byte_cmp q) e.0) (Some e.1)) (held-append q es others) ∙ append_or (is_at (byte_cmp q) e.0) e.1 (held q es) (held q others)

-- a value put at a field
pub held-insert : (k v q : Bytes) (es : Entries) → held q (insert_entry byte_cmp es k v) ≡ cond (is_same q k) (Some v) (held q es)
held-insert k v q es =
    sym (found (insert_entry byte_cmp es k v) q) ∙ ap (entries.find byte_cmp q) (sym (placed es k v))
    ∙ entries.find-put byte_cmp nat_list_cmp_total q k v es ∙ ap (cond (is_same q k) (Some v)) (found es q)

-- a field taken out
pub held-remove : (k q : Bytes) (es : Entries) → AreInOrder es → held q (remove_entry (is_at (byte_cmp k)) es) ≡ cond (is_same q k) None (held q es)
held-remove k q es rises =
    lookup-remove_entry (eq_by_cmp_equiv nat_list_cmp_total) (is_at (byte_cmp k)) (tests_one k) q es (IsDistinct-from_sorted byte_cmp (keys_of es) rises)
    ∙ ap (λ b. cond b None (held q es)) ((eq_by_cmp_equiv nat_list_cmp_total).symm k q)

both : (a b : Bool) → T a → T b → T (a && b)
both true b p q = q
both false b p q = p

below : (x : Bytes) (es : Entries) → AllByRecursion (λ y. byte_cmp x y ≡ Less) (keys_of es) → T (entries.below_all byte_cmp x es)
below x [] all = tt
below x (e ∷ es) all = both (is_lt (byte_cmp x e.0)) _ (subst (λ r. T (is_lt r)) (sym all.0) tt) (below x es all.1)

-- strictly in order, as a finite map tests it
pub rising : (es : Entries) → IsStrictlySortedBy byte_cmp (keys_of es) → T (entries.is_sorted byte_cmp es)
unfolding IsStrictlySortedBy
rising [] rises = tt
rising (e ∷ es) rises = both (entries.below_all byte_cmp e.0 es) _ (below e.0 es rises.0) (rising es rises.1)
