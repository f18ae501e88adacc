-- No two cells in use share a word or a slot.
use Rattle.std.proofs.Common.{◌≡◌, ◌≢◌, ℕ, suc, ◌+◌, ◌*◌, ◌/◌, ◌%◌, ◌<◌, ◌≤◌, sym, ap, ◌∙◌, subst, le_of_lt, mod-lt, mul-le-mul_right, suc-mul, lt_of_not-le, arith}
use mathlib.Core.Logic.{dite}
use native.Mathlib.Decide.{dec_le}
use lib.Arith.{digits_div, digits_mod}
use Rattle.atomic_table.proofs.Lists.{one_turn}
use Rattle.nr_oplog.specs.Layout.{passed_word, stamp_word, slot_of, words_of, slots_of}

-- a number of two digits has one first digit and one last
digits : (w a b c d : ℕ) → b < w → d < w → a * w + b ≡ c * w + d → (a ≡ c) × (b ≡ d)
digits w a b c d hb hd e = (sym (digits_div a hb) ∙ ap (λ z. z / w) e ∙ digits_div c hd, sym (digits_mod a hb) ∙ ap (λ z. z % w) e ∙ digits_mod c hd)

row_fits : (n w a b : ℕ) → a < n → b < w → a * w + b < n * w
row_fits n w a b near small = let m : suc a * w ≤ n * w = mul-le-mul_right w near in omega (arith, suc-mul a w)

-- two numbers that are in one round, and in one place
pub one_cell : (p places x y : ℕ) → p ≤ x → x < p + places → p ≤ y → y < p + places → x % places ≡ y % places → x ≡ y
one_cell p places x y a b c d e = dite (dec_le x y) (λ le. one_turn x y places le (omega arith) e)
    (λ not. let lt : y < x = lt_of_not-le not in sym (one_turn y x places (le_of_lt lt) (omega arith) (sym e)))

module _ (nodes places : ℕ) (some_place : 0 < places) where
  pub slot_one : (r x t y : ℕ) → slot_of places r x ≡ slot_of places t y → (r ≡ t) × (x % places ≡ y % places)
  slot_one r x t y e = digits places r (x % places) t (y % places) (mod-lt x some_place) (mod-lt y some_place) e

  pub stamp_one : (r x t y : ℕ) → stamp_word nodes places r x ≡ stamp_word nodes places t y → (r ≡ t) × (x % places ≡ y % places)
  stamp_one r x t y e =
      let hx : x % places < places = mod-lt x some_place in let hy : y % places < places = mod-lt y some_place in
      let a : ℕ = r * (places + 16) in let b : ℕ = t * (places + 16) in let u : ℕ = x % places in let v : ℕ = y % places in
      let whole : 16 * nodes + 16 + (a + u) ≡ 16 * nodes + 16 + (b + v) = e in
      let same : a + u ≡ b + v = omega arith in digits (places + 16) r u t v (omega arith) (omega arith) same

  pub slot_there : (r x : ℕ) → r < nodes → slot_of places r x < slots_of nodes places
  slot_there r x near = row_fits nodes places r (x % places) near (mod-lt x some_place)

  pub stamp_there : (r x : ℕ) → r < nodes → stamp_word nodes places r x < words_of nodes places
  stamp_there r x near =
      let h : x % places < places = mod-lt x some_place in
      let m : r * (places + 16) + x % places < nodes * (places + 16) = row_fits nodes (places + 16) r (x % places) near (omega arith) in
      let a : ℕ = r * (places + 16) + x % places in let b : ℕ = nodes * (places + 16) in let m' : a < b = m in
      let g : 16 * nodes + 16 + a < 16 * nodes + 16 + b = omega arith in g

  pub stamp_high : (r x : ℕ) → 16 * nodes + 16 ≤ stamp_word nodes places r x
  stamp_high r x = let a : ℕ = r * (places + 16) + x % places in let g : 16 * nodes + 16 ≤ 16 * nodes + 16 + a = omega arith in g

  pub passed_there : (r : ℕ) → r < nodes → passed_word r < words_of nodes places
  passed_there r near = let b : ℕ = nodes * (places + 16) in let g : 16 * r + 16 < 16 * nodes + 16 + b = omega arith in g

  -- the cells of two numbers, each in its node's round
  module _ (passed : ℕ → ℕ) (r x t a : ℕ) (low : passed r ≤ x) (high : x < passed r + places) (low' : passed t ≤ a) (high' : a < passed t + places) (other : r ≡ t → x ≡ a → ⊥) where
    one : (r ≡ t) × (x % places ≡ a % places) → ⊥
    one e = let q : passed r ≤ a = subst (λ k. passed k ≤ a) (sym e.0) low' in let q' : a < passed r + places = subst (λ k. a < passed k + places) (sym e.0) high' in
        other e.0 (one_cell (passed r) places x a low high q q' e.1)

    pub slot_apart : slot_of places r x ≢ slot_of places t a
    slot_apart e = one (slot_one r x t a e)

    pub stamp_apart : stamp_word nodes places r x ≢ stamp_word nodes places t a
    stamp_apart e = one (stamp_one r x t a e)
