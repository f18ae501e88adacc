-- Where a hash stands among one block more.
use Rattle.std.proofs.Common.{inl, inr, ◌≡◌, ℕ, ◌+◌, ◌-◌, ◌*◌, ◌≤◌, ◌<◌, true, false, cond, ltb, refl, ap, sym, ◌∙◌, subst, arith, ltb-false}
use Rattle.std.specs.Prelude.{◌%◌, ◌⊎◌}
use Rattle.std.proofs.lemmas.Bool.{lt-ltb, ltb-true, le-ltb}
use Rattle.std.proofs.Math.Nat.{mod-lt, mod-eq_of_lt, mod-mod_of_dvd, dvd-mul_left, mod-eq-sub-mod}
use Rattle.nr_packs.specs.Tables.{slot}

-- where what is left of a hash stands
abbrev pub stands : ℕ → ℕ → ℕ → ℕ
stands level count left = cond (ltb left count) left (left - level)

stands_low : (level count left : ℕ) → left < count → stands level count left ≡ left
stands_low level count left low = ap (λ b. cond b left (left - level)) (lt-ltb left count low)

stands_high : (level count left : ℕ) → count ≤ left → stands level count left ≡ left - level
stands_high level count left high = ap (λ b. cond b left (left - level)) (le-ltb left count high)

pub low_or_high : (left count : ℕ) → (left < count) ⊎ (count ≤ left)
low_or_high left count = elim (ltb left count) as (λ b. ltb left count ≡ b → (left < count) ⊎ (count ≤ left)) [
  | true ↦ λ is. inl (ltb-true left count is)
  | false ↦ λ is. inr (ltb-false left count is)
] refl

pub left_below : (level h : ℕ) → 0 < level → h % (2 * level) < 2 * level
left_below level h some = mod-lt h (omega arith)

stands_within : (level count left : ℕ) → 0 < level → level ≤ count → left < 2 * level → stands level count left < count
stands_within level count left some least below = elim (low_or_high left count) [
  | inl low ↦ subst (λ n. n < count) (sym (stands_low level count left low)) low
  | inr high ↦ subst (λ n. n < count) (sym (stands_high level count left high)) (omega arith)
]

-- there is such a block
pub slot_within : (level count h : ℕ) → 0 < level → level ≤ count → slot level count h < count
slot_within level count h some least = stands_within level count (h % (2 * level)) some least (left_below level h some)

same_or_last : (left count : ℕ) → count ≤ left → (left ≡ count) ⊎ (count + 1 ≤ left)
same_or_last left count high = elim (low_or_high count left) [
  | inl more ↦ inr (omega arith)
  | inr less ↦ inl (omega arith)
]

-- what one block more changes: what goes there comes from one block alone
parted : (level count left : ℕ) → level ≤ count
    → ((stands level (count + 1) left ≡ count) × (stands level count left ≡ count - level)) ⊎ (stands level (count + 1) left ≡ stands level count left)
parted level count left least = elim (low_or_high left count) [
  | inl low ↦ inr (stands_low level (count + 1) left (omega arith) ∙ sym (stands_low level count left low))
  | inr high ↦ elim (same_or_last left count high) [
    | inl is ↦ inl (stands_low level (count + 1) left (omega arith) ∙ is, stands_high level count left high ∙ ap (λ n. n - level) is)
    | inr more ↦ inr (stands_high level (count + 1) left more ∙ sym (stands_high level count left high))
  ]
]

pub slot_parted : (level count h : ℕ) → level ≤ count
    → ((slot level (count + 1) h ≡ count) × (slot level count h ≡ count - level)) ⊎ (slot level (count + 1) h ≡ slot level count h)
slot_parted level count h least = parted level count (h % (2 * level)) least

-- with twice as many blocks as the level they go on from the next level
pub slot_raised : (level h : ℕ) → 0 < level → slot (2 * level) (2 * level) h ≡ slot level (2 * level) h
slot_raised level h some =
    let all = 2 * level in
    let left = h % (2 * all) in
    let below : left < 2 * all = mod-lt h (omega arith) in
    let here : h % all < all = left_below level h some in
    let part : left % all ≡ h % all = mod-mod_of_dvd all h (dvd-mul_left all 2) in
    elim (low_or_high left all) [
      | inl low ↦ stands_low all all left low ∙ sym (mod-eq_of_lt low) ∙ part ∙ sym (stands_low level all (h % all) here)
      | inr high ↦ stands_high all all left high ∙ sym (mod-eq_of_lt {n = left - all} {m = all} (omega arith)) ∙ sym (mod-eq-sub-mod high) ∙ part ∙ sym (stands_low level all (h % all) here)
    ]
