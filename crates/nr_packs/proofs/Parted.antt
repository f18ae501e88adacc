-- A block parted in two.
use Rattle.std.proofs.Common.{inl, inr, ◌≡◌, ◌≢◌, ℕ, ◌+◌, ◌-◌, ◌*◌, ◌<◌, ◌≤◌, Bool, true, false, cond, eqb, Option, Some, None, List, [], ◌∷◌, ◌++◌, length, set, refl, ap, sym, ◌∙◌, subst, arith, length-append}
use Rattle.std.specs.Prelude.{◌⊎◌, slice_index_or}
use Rattle.std.specs.declared.cmp.Ordering.TheVariants.{Less}
use Rattle.std.specs.Cmp.{unsigned_Decides}
use Rattle.std.specs.List.{AllByRecursion}
use Rattle.std.specs.List.Sorted.{IsStrictlySortedBy}
use Rattle.std.specs.Map.{keys_of}
use Rattle.std.specs.declared.random_state.RandomState.{RandomState}
use Rattle.std.proofs.lemmas.List.{length-set, get_or_append_left, get_or_past, get_or_default}
use Rattle.std.proofs.Math.Seq.{get_or-append_seam}
use Rattle.nr_model.specs.Bytes.{Bytes}
use Rattle.nr_model.specs.Keyspace.{byte_cmp}
use Rattle.nr_packs.specs.Packed.{Entries, AreShort}
use Rattle.nr_packs.specs.Orders.{AreInOrder}
use Rattle.nr_packs.specs.Tables.{held, hash, slot, pack_at, pairs_of, chosen, belongs, IsSpread}
use Rattle.nr_packs.proofs.Looked.{is_same, same_field}
use Rattle.nr_packs.proofs.Moved.{low_or_high, slot_parted, slot_within, slot_raised}
use Rattle.nr_packs.proofs.Spread.{same_number, held_spread, at_same, at_other, at_or_else}

same_test : (b : Bool) (v : Bytes) (o : Option Bytes) → cond b (Some v) (cond b o None) ≡ cond b (Some v) None
same_test true v o = refl
same_test false v o = refl

same_both : (b : Bool) (p : Option Bytes) → cond b p p ≡ p
same_both true p = refl
same_both false p = refl

one_more : (test : Bytes → Bool) (q x v : Bytes) (o : Option Bytes) → cond (test x) (cond (is_same q x) (Some v) (cond (test q) o None)) (cond (test q) o None)
    ≡ cond (test q) (cond (is_same q x) (Some v) o) None
one_more test q x v o = elim (is_same q x) as (λ b. is_same q x ≡ b → cond (test x) (cond b (Some v) (cond (test q) o None)) (cond (test q) o None) ≡ cond (test q) (cond b (Some v) o) None) [
  | true ↦ λ is. subst (λ y. cond (test y) (Some v) (cond (test q) o None) ≡ cond (test q) (Some v) None) (same_field q x is) (same_test (test q) v o)
  | false ↦ λ is. same_both (test x) (cond (test q) o None)
] refl

chosen_first : (q : Bytes) (b : Bool) (e : Bytes × Bytes) (es : Entries) → held q (cond b (e ∷ es) es) ≡ cond b (cond (is_same q e.0) (Some e.1) (held q es)) (held q es)
chosen_first q true e es = refl
chosen_first q false e es = refl

-- what passes a test is held, and nothing else
pub held-chosen : (test : Bytes → Bool) (q : Bytes) (es : Entries) → held q (chosen test es) ≡ cond (test q) (held q es) None
held-chosen test q [] = sym (same_both (test q) None)
held-chosen test q (e ∷ es) =
    chosen_first q (test e.0) e (chosen test es)
    ∙ ap (λ o. cond (test e.0) (cond (is_same q e.0) (Some e.1) o) o) (held-chosen test q es) ∙ one_more test q e.0 e.1 (held q es)

above_chosen : (x : Bytes) (test : Bytes → Bool) (es : Entries) → AllByRecursion (λ y. byte_cmp x y ≡ Less) (keys_of es)
    → AllByRecursion (λ y. byte_cmp x y ≡ Less) (keys_of (chosen test es))
above_chosen x test [] all = all
above_chosen x test (e ∷ es) all = elim (test e.0) as (λ b. AllByRecursion (λ y. byte_cmp x y ≡ Less) (keys_of (cond b (e ∷ chosen test es) (chosen test es)))) [
  | true ↦ (all.0, above_chosen x test es all.1)
  | false ↦ above_chosen x test es all.1
]

pub rises_chosen : (test : Bytes → Bool) (es : Entries) → AreInOrder es → AreInOrder (chosen test es)
unfolding IsStrictlySortedBy
rises_chosen test [] rises = rises
rises_chosen test (e ∷ es) rises = elim (test e.0) as (λ b. IsStrictlySortedBy byte_cmp (keys_of (cond b (e ∷ chosen test es) (chosen test es)))) [
  | true ↦ (above_chosen e.0 test es rises.0, rises_chosen test es rises.1)
  | false ↦ rises_chosen test es rises.1
]

pub short_chosen : (test : Bytes → Bool) (es : Entries) → AreShort es → AreShort (chosen test es)
short_chosen test [] short = short
short_chosen test (e ∷ es) short = elim (test e.0) as (λ b. AreShort (cond b (e ∷ chosen test es) (chosen test es))) [
  | true ↦ (short.0, short.1, short_chosen test es short.2)
  | false ↦ short_chosen test es short.2
]

pub fewer_chosen : (test : Bytes → Bool) (es : Entries) → length (chosen test es) ≤ length es
fewer_chosen test [] = omega arith
fewer_chosen test (e ∷ es) =
    let less = fewer_chosen test es in
    elim (test e.0) as (λ b. length (cond b (e ∷ chosen test es) (chosen test es)) ≤ length (e ∷ es)) [ true ↦ omega arith | false ↦ omega arith ]

is_number : (a b : ℕ) → a ≡ b → eqb a b ≡ true
is_number a b is = (unsigned_Decides a b).1 is

no_number : (a b : ℕ) → a ≢ b → eqb a b ≡ false
no_number a b apart = elim (eqb a b) as (λ t. eqb a b ≡ t → t ≡ false) [ true ↦ λ e. absurd (apart (same_number a b e)) | false ↦ λ _. refl ] refl

-- the blocks then: the one that was parted, and a new one behind all others
module _ (keys : RandomState) (level : ℕ) (packs : List Entries) (stays goes : Entries) (spread : IsSpread keys level packs) (below : length packs < 2 * level)
    (stays_is : stays ≡ chosen (belongs keys level (length packs + 1) (length packs - level)) (pack_at packs (length packs - level)))
    (goes_is : goes ≡ chosen (belongs keys level (length packs + 1) (length packs)) (pack_at packs (length packs - level))) where
  abbrev count : ℕ
  count = length packs

  abbrev old_place : ℕ
  old_place = length packs - level

  abbrev before : Bytes → ℕ
  before q = slot level count (hash keys q)

  abbrev after : Bytes → ℕ
  after q = slot level (count + 1) (hash keys q)

  abbrev parts : List Entries
  parts = set (packs ++ goes ∷ []) old_place stays

  longer : length (packs ++ goes ∷ []) ≡ count + 1
  longer = length-append packs (goes ∷ [])

  long : length parts ≡ count + 1
  long = length-set (packs ++ goes ∷ []) old_place stays ∙ longer

  old_low : old_place < length (packs ++ goes ∷ [])
  old_low = omega (arith, longer, spread.some, spread.least)

  at_old : pack_at parts old_place ≡ stays
  at_old = at_same (packs ++ goes ∷ []) old_place stays old_low

  old_not_new : count ≢ old_place
  old_not_new is = absurd (omega (arith, is, spread.some, spread.least))

  at_new : pack_at parts count ≡ goes
  at_new = at_other (packs ++ goes ∷ []) old_place count stays old_not_new ∙ get_or-append_seam packs goes [] []

  omega_more : (place : ℕ) → count ≤ place → place ≢ count → length (packs ++ goes ∷ []) ≤ place
  omega_more place high apart = elim (low_or_high count place) [
    | inl more ↦ omega (arith, longer, more)
    | inr less ↦ absurd (apart (omega (arith, high, less)))
  ]

  at_rest : (place : ℕ) → place ≢ old_place → place ≢ count → pack_at parts place ≡ pack_at packs place
  at_rest place not_old not_new =
      at_other (packs ++ goes ∷ []) old_place place stays not_old
      ∙ elim (low_or_high place count) [
        | inl low ↦ get_or_append_left packs (goes ∷ []) [] place low
        | inr high ↦ get_or_past (packs ++ goes ∷ []) place [] (omega_more place high not_new) ∙ sym (get_or_past packs place [] high)
      ]

  part_none : (place : ℕ) (q : Bytes) → after q ≢ place → held q (chosen (belongs keys level (count + 1) place) (pack_at packs old_place)) ≡ None
  part_none place q apart =
      held-chosen (belongs keys level (count + 1) place) q (pack_at packs old_place)
      ∙ ap (λ b. cond b (held q (pack_at packs old_place)) None) (no_number (after q) place apart)

  part_all : (place : ℕ) (q : Bytes) → after q ≡ place → held q (chosen (belongs keys level (count + 1) place) (pack_at packs old_place)) ≡ held q (pack_at packs old_place)
  part_all place q is =
      held-chosen (belongs keys level (count + 1) place) q (pack_at packs old_place)
      ∙ ap (λ b. cond b (held q (pack_at packs old_place)) None) (is_number (after q) place is)

  moved : (q : Bytes) → ((after q ≡ count) × (before q ≡ old_place)) ⊎ (after q ≡ before q)
  moved q = slot_parted level count (hash keys q) spread.least

  placed : (place : ℕ) (q : Bytes) → after q ≢ place → held q (pack_at parts place) ≡ None
  placed place q = at_or_else (λ place. after q ≢ place → held q (pack_at parts place) ≡ None) place old_place
      (λ apart. ap (held q) (at_old ∙ stays_is) ∙ part_none old_place q apart)
      (λ not_old. at_or_else (λ place. place ≢ old_place → after q ≢ place → held q (pack_at parts place) ≡ None) place count
      (λ _ apart. ap (held q) (at_new ∙ goes_is) ∙ part_none count q apart)
      (λ not_new _ apart. ap (held q) (at_rest place not_old not_new) ∙ spread.placed place q (elim (moved q) [
        | inl is ↦ λ here. not_old (sym here ∙ is.1)
        | inr is ↦ λ here. apart (is ∙ here)
      ]))
      not_old)

  pub spread_parted : IsSpread keys level parts
  spread_parted = record {
    some = spread.some;
    least = omega (arith, long, spread.least);
    most = omega (arith, long, below);
    ordered = λ place. at_or_else (λ place. AreInOrder (pack_at parts place)) place old_place
        (subst AreInOrder (sym (at_old ∙ stays_is)) (rises_chosen (belongs keys level (count + 1) old_place) (pack_at packs old_place) (spread.ordered old_place)))
        (λ not_old. at_or_else (λ place. place ≢ old_place → AreInOrder (pack_at parts place)) place count
        (λ _. subst AreInOrder (sym (at_new ∙ goes_is)) (rises_chosen (belongs keys level (count + 1) count) (pack_at packs old_place) (spread.ordered old_place)))
        (λ not_new _. subst AreInOrder (sym (at_rest place not_old not_new)) (spread.ordered place))
        not_old);
    placed = λ place q apart. placed place q (subst (λ n. slot level n (hash keys q) ≢ place) long apart);
  }

  not_last : (q : Bytes) → after q ≡ before q → after q ≢ count
  not_last q is new = let low = slot_within level count (hash keys q) spread.some spread.least in absurd (omega (arith, low, is, new))

  stayed : (q : Bytes) → after q ≡ before q → held q (pack_at parts (after q)) ≡ held q (pack_at packs (before q))
  stayed q is =
      at_or_else (λ place. after q ≡ place → held q (pack_at parts place) ≡ held q (pack_at packs place)) (after q) old_place
      (λ here. ap (held q) (at_old ∙ stays_is) ∙ part_all old_place q here)
      (λ not_old _. ap (held q) (at_rest (after q) not_old (not_last q is)))
      refl
      ∙ ap (λ place. held q (pack_at packs place)) is

  pub held_parted : (q : Bytes) → held q (pairs_of parts) ≡ held q (pairs_of packs)
  held_parted q =
      held_spread keys level parts q spread_parted ∙ ap (λ n. held q (pack_at parts (slot level n (hash keys q)))) long
      ∙ elim (moved q) [
        | inl is ↦ ap (λ place. held q (pack_at parts place)) is.0 ∙ ap (held q) (at_new ∙ goes_is) ∙ part_all count q is.0 ∙ ap (λ place. held q (pack_at packs place)) (sym is.1)
        | inr is ↦ stayed q is
      ]
      ∙ sym (held_spread keys level packs q spread)

-- the next level, where there are as many blocks
pub spread_raised : (keys : RandomState) (level new : ℕ) (packs : List Entries) → IsSpread keys level packs
    → ((new ≡ level) × (length packs < 2 * level)) ⊎ ((new ≡ length packs) × (length packs ≡ 2 * level)) → IsSpread keys new packs × (length packs < 2 * new)
spread_raised keys level new packs spread (inl is) = (subst (λ n. IsSpread keys n packs) (sym is.0) spread, subst (λ n. length packs < 2 * n) (sym is.0) is.1)
spread_raised keys level new packs spread (inr is) =
    let twice : new ≡ 2 * level = is.0 ∙ is.1 in
    let some = spread.some in (
      record {
        some = omega (arith, twice, some);
        least = omega (arith, is.0);
        most = omega (arith, is.0);
        ordered = spread.ordered;
        placed = λ place q apart. spread.placed place q (λ here. apart (
            (λ i. slot (twice i) (is.1 i) (hash keys q)) ∙ slot_raised level (hash keys q) some ∙ sym (ap (λ n. slot level n (hash keys q)) is.1) ∙ here));
      },
      omega (arith, is.0, is.1, some),
    )

-- as it is done
pub parted_so : (keys : RandomState) (level count : ℕ) (packs new : List Entries) (stays goes pack other : Entries) → IsSpread keys level packs → length packs < 2 * level
    → count ≡ length packs → pack ≡ slice_index_or packs (count - level) pack → other ≡ slice_index_or packs (count - level) other
    → stays ≡ chosen (belongs keys level (count + 1) (count - level)) pack → goes ≡ chosen (belongs keys level (count + 1) count) other → new ≡ packs ++ goes ∷ []
    → IsSpread keys level (set new (count - level) stays) × ((q : Bytes) → held q (pairs_of (set new (count - level) stays)) ≡ held q (pairs_of packs))
parted_so keys level count packs new stays goes pack other spread below is at at_too stays_is goes_is pushed =
    let low : length packs - level < length packs = omega (arith, spread.some, spread.least) in
    let here : pack ≡ pack_at packs (length packs - level) =
    at ∙ ap (λ n. slice_index_or packs (n - level) pack) is ∙ sym (get_or_default packs (length packs - level) [] pack low) in
    let here_too : other ≡ pack_at packs (length packs - level) =
    at_too ∙ ap (λ n. slice_index_or packs (n - level) other) is ∙ sym (get_or_default packs (length packs - level) [] other low) in
    let first = stays_is ∙ (λ i. chosen (belongs keys level (is i + 1) (is i - level)) (here i)) in
    let second = goes_is ∙ (λ i. chosen (belongs keys level (is i + 1) (is i)) (here_too i)) in
    let blocks : set (packs ++ goes ∷ []) (length packs - level) stays ≡ set new (count - level) stays = λ i. set (sym pushed i) (sym is i - level) stays in
    subst (λ all. IsSpread keys level all × ((q : Bytes) → held q (pairs_of all) ≡ held q (pairs_of packs))) blocks
    (spread_parted keys level packs stays goes spread below first second, held_parted keys level packs stays goes spread below first second)
