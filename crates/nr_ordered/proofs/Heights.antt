-- How many items a balanced tree of blocks has at least: as many as nodes.
use Rattle.std.proofs.Common.{◌≡◌, inl, inr, ℕ, zero, suc, ◌+◌, ◌*◌, ◌/◌, ◌^◌, ◌≤◌, ◌<◌, max, arith, refl}
use Rattle.std.proofs.Math.Pow.{pow_mono}
use Rattle.std.proofs.Math.Nat.{two-pow-succ}
use Rattle.std.proofs.lemmas.Bool.{cases_lt}
use Rattle.nr_ordered.specs.Trees.{DifferByAtMost, IsFull}

half_more : (m : ℕ) → (m + 2) / 2 ≡ suc (m / 2)
half_more m = omega arith

half_below : (h m : ℕ) → h ≤ m + 1 → h / 2 ≤ (m + 1) / 2
half_below h m le = omega arith

-- one level above sides that are full and even, with some items between them
pub full_more : (l r a k b : ℕ) → DifferByAtMost 1 l r → IsFull l a → IsFull r b → 0 < k → IsFull (max l r + 1) (a + k + b)
full_more l r a k b even full_l full_r some =
    let h = max l r in
    let left : 2 ^ (h / 2) ≤ a + 1 = omega (arith, full_l, pow_mono {i = h / 2} {j = (l + 1) / 2} (half_below h l (omega (arith, even.1)))) in
    let right : 2 ^ (h / 2) ≤ b + 1 = omega (arith, full_r, pow_mono {i = h / 2} {j = (r + 1) / 2} (half_below h r (omega (arith, even.0)))) in
    let half : (h + 1 + 1) / 2 ≡ suc (h / 2) = omega arith in
    rw half (rw (two-pow-succ (h / 2)) (omega (arith, left, right, some)))

-- a full tree of fewer than 2^64 items is low
pub full_low : (h n : ℕ) → IsFull h n → n < 2 ^ 64 → h ≤ 128
full_low h n full few =
    elim (cases_lt h 129) [
      | inl low ↦ omega (arith, low)
      | inr high ↦
          let tall : 2 ^ 65 ≤ 2 ^ ((h + 1) / 2) = pow_mono {i = 65} {j = (h + 1) / 2} (omega (arith, high)) in
          absurd (omega (arith, tall, full, few))
    ]

-- of fewer than 2^d items it has at most 2 d levels
pub few_levels : (h n d : ℕ) → IsFull h n → n < 2 ^ d → h ≤ 2 * d
few_levels h n d full few =
    elim (cases_lt (2 * d) h) [
      | inl more ↦
          let half : suc d ≤ (h + 1) / 2 = omega (arith, more) in
          let great : 2 ^ suc d ≤ 2 ^ ((h + 1) / 2) = pow_mono {i = suc d} {j = (h + 1) / 2} half in
          absurd (omega (arith, full, few, rw (two-pow-succ d) at great))
      | inr low ↦ low
    ]

pub few_ticks : (h n len d old new : ℕ) → IsFull h n → n ≡ len → new ≤ old + h → len < 2 ^ d → new ≤ old + 2 * d
few_ticks h n len d old new full size cost few = let low = few_levels h n d full (rw size few) in omega (arith, low, cost)

-- no items, no levels
pub none_low : (h : ℕ) → IsFull h 0 → h ≡ 0
none_low zero full = refl
none_low (suc h) full =
    let two : 2 ^ 1 ≤ 2 ^ ((suc h + 1) / 2) = pow_mono {i = 1} {j = (suc h + 1) / 2} (omega arith) in
    absurd (omega (arith, two, full))
