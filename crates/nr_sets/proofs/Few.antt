-- Whether a block takes one member more.
use Rattle.std.proofs.Common.{◌≡◌, ◌+◌, ◌≤◌, ◌⊎◌, inl, inr, ℕ, suc, Bool, true, false, cond, leb, ltb, Option, Some, None, is_some, is_none, [], length, refl, ap, sym, ◌∙◌, arith}
use Rattle.std.proofs.lemmas.Bool.{le-leb}
use Rattle.std.proofs.lemmas.Bool.Decides.{leb_tells}
use Rattle.std.specs.Map.{lookup}
use Rattle.std.specs.BTreeMap.{insert_entry, is_at}
use Rattle.nr_model.specs.Bytes.{Bytes}
use Rattle.nr_model.specs.Keyspace.{byte_cmp}
use Rattle.nr_packs.specs.Packed.{Entries}
use Rattle.nr_packs.specs.Orders.{AreInOrder}
use Rattle.nr_packs.proofs.Placed.{found, length_insert}

-- it is counted where it is new
counted : (k v : Bytes) (es : Entries) → AreInOrder es → length (insert_entry byte_cmp es k v) ≡ length es + cond (is_none (lookup (is_at (byte_cmp k)) es)) 1 0
counted k v es rises = length_insert k v es ∙ ap (λ o. length es + cond (is_none o) 1 0) (found k es rises)

alike : (a b c d : ℕ) → (a ≤ b → c ≤ d) → (c ≤ d → a ≤ b) → leb a b ≡ leb c d
alike a b c d forth back = elim (leb_tells a b) [
  | inl so ↦ so.0 ∙ sym (le-leb c d (forth so.1))
  | inr not ↦ elim (leb_tells c d) [ inl also ↦ absurd (omega (arith, not.1, back also.1)) | inr neither ↦ not.0 ∙ sym neither.0 ]
]

in_full : {A : Type 0} (n m : ℕ) (o : Option A) → n ≡ 32 → m ≡ n + cond (is_none o) 1 0 → is_some o ≡ leb m 32
in_full n m None full is = elim (leb_tells m 32) [ inl so ↦ absurd (omega (arith, full, is, so.1)) | inr not ↦ sym not.0 ]
in_full n m (Some x) full is = sym (le-leb m 32 (omega (arith, full, is)))

in_other : {A : Type 0} (n m : ℕ) (o : Option A) → (n ≡ 32 → ⊥) → m ≡ n + cond (is_none o) 1 0 → ltb n 32 ≡ leb m 32
in_other n m None other is = alike (suc n) 32 m 32 (λ few. omega (arith, is, few)) (λ few. omega (arith, is, few))
in_other n m (Some x) other is = alike (suc n) 32 m 32 (λ few. omega (arith, is, few)) (λ few. omega (arith, is, few, other))

-- where there are as many as may be, it has to be there
pub few_if_there : (k : Bytes) (es : Entries) (n : ℕ) (b : Bool) → AreInOrder es → n ≡ length es → n ≡ 32 → b ≡ is_some (lookup (is_at (byte_cmp k)) es)
    → b ≡ leb (length (insert_entry byte_cmp es k [])) 32
few_if_there k es n b rises len full there =
    there ∙ in_full (length es) _ (lookup (is_at (byte_cmp k)) es) (sym len ∙ full) (counted k [] es rises)

-- and else there have to be fewer
pub few_if_fewer : (k : Bytes) (es : Entries) (n : ℕ) → AreInOrder es → n ≡ length es → (n ≡ 32 → ⊥) → ltb n 32 ≡ leb (length (insert_entry byte_cmp es k [])) 32
few_if_fewer k es n rises len other =
    ap (λ n. ltb n 32) len ∙ in_other (length es) _ (lookup (is_at (byte_cmp k)) es) (λ full. other (len ∙ full)) (counted k [] es rises)
