-- int_value reads exactly the texts that signed_decimal writes.
use Rattle.std.proofs.Common.{◌≡◌, ℕ, zero, suc, ◌+◌, ◌-◌, ◌*◌, ◌^◌, ◌<◌, ◌≤◌, Bool, true, false, ◌&&◌, cond, eqb, ltb, leb, [], ◌∷◌, length, get_or, Some, None, ℤ, pos, negsuc, ◌⊎◌, inl, inr, fold, refl, sym, ap, ◌∙◌, subst, arith, rules, decimal}
use Rattle.std.specs.Prelude.{bytes_eq, FitsSigned}
use Rattle.std.specs.Int.{w64}
use Rattle.std.specs.Fmt.{signed_decimal}
use Rattle.std.specs.List.{list_all}
use Rattle.std.proofs.lemmas.Bool.{and_parts, and_from, ltb-true, lt-ltb, le-leb, eqb-true, ne_eqb}
use Rattle.std.proofs.lemmas.Str.Parse.{IsNumeralModel, numerals_by_fold}
use Rattle.std.proofs.lemmas.Slice.Eq.{bytes_eq-Decides}
use Rattle.std.proofs.lemmas.Fmt.{decimal_digit, decimal_nonempty, first_decimal, digits_decimal, digits_value-decimal, decimal-digits_value}
use Rattle.nr_model.specs.Bytes.{Bytes}
use Rattle.nr_model.specs.Numbers.{is_digit, is_numeral, digits_value, in_i64, int_value}

pub own : IsNumeralModel (λ ds. list_all is_digit ds ≡ true) digits_value
own = numerals_by_fold _ (search rules) (λ n ds. fold (λ n d. 10 * n + (d - 48)) n ds) (search rules)

pub numeral_parts : (ds : Bytes) → is_numeral ds ≡ true → (list_all is_digit ds ≡ true) × (0 < length ds) × (48 < get_or ds 0 0)
numeral_parts [] h = cc
numeral_parts (d ∷ ds) h =
    let first = and_parts _ _ h in
    let others = and_parts _ _ first.1 in
    let above : 48 < d = ltb-true 48 d first.0 in
    (and_from _ _ (and_from (leb 48 d) (leb d 57) (le-leb 48 d (omega arith)) others.0) others.1, omega arith, above)

numeral_from : (ds : Bytes) → list_all is_digit ds ≡ true → 0 < length ds → 48 < get_or ds 0 0 → is_numeral ds ≡ true
numeral_from [] all some above = absurd (omega arith)
numeral_from (d ∷ ds) all some above =
    let parts = and_parts _ _ all in
    and_from _ _ (lt-ltb 48 d above) (and_from _ _ ((and_parts (leb 48 d) (leb d 57) parts.0).1) parts.1)

decimal_numeral : (n : ℕ) → 0 < n → n < 2 ^ 64 → is_numeral (decimal n) ≡ true
decimal_numeral n some fits = numeral_from (decimal n) (digits_decimal own n fits) (decimal_nonempty n fits) (first_decimal n some fits)

numeral_decimal : (ds : Bytes) → is_numeral ds ≡ true → digits_value ds < 2 ^ 64 → decimal (digits_value ds) ≡ ds
numeral_decimal ds h fits =
    let parts = numeral_parts ds h in
    decimal-digits_value own ds parts.0 parts.1 (λ e. absurd (omega (arith, parts.2, e))) fits

value_ge : (n : ℕ) (ds : Bytes) → n ≤ fold (λ m d. 10 * m + (d - 48)) n ds
value_ge n [] = omega arith
value_ge n (d ∷ ds) = omega (arith, value_ge (10 * n + (d - 48)) ds)

-- digits that begin with 1 to 9 write no 0
pub positive : (ds : Bytes) → 48 < get_or ds 0 0 → 0 < digits_value ds
positive [] h = absurd (omega arith)
positive (d ∷ ds) h = omega (arith, value_ge (0 + (d - 48)) ds)

pub numeral_above : (ds : Bytes) → is_numeral ds ≡ true → 0 < digits_value ds
numeral_above ds h = positive ds (numeral_parts ds h).2

not_zero_text : (ds : Bytes) → is_numeral ds ≡ true → bytes_eq ds (48 ∷ []) ≡ false
not_zero_text [] h = cc
not_zero_text (d ∷ ds) h = ap (λ b. b && bytes_eq ds []) (ne_eqb d 48 (λ e. omega (arith, (numeral_parts (d ∷ ds) h).2, e)))

pub of_numeral : (ds : Bytes) → is_numeral ds ≡ true → int_value ds ≡ in_i64 (pos (digits_value ds))
of_numeral [] h = cc
of_numeral (c ∷ t) h =
    ap (λ b. cond b (Some (pos 0)) (cond (is_numeral (c ∷ t)) (in_i64 (pos (digits_value (c ∷ t))))
    (cond (eqb c 45 && is_numeral t) (in_i64 (negsuc (digits_value t - 1))) None))) (not_zero_text (c ∷ t) h)
    ∙ ap (λ b. cond b (in_i64 (pos (digits_value (c ∷ t)))) (cond (eqb c 45 && is_numeral t) (in_i64 (negsuc (digits_value t - 1))) None)) h

pub of_minus : (ds : Bytes) → is_numeral ds ≡ true → int_value (45 ∷ ds) ≡ in_i64 (negsuc (digits_value ds - 1))
of_minus ds h = ap (λ b. cond b (in_i64 (negsuc (digits_value ds - 1))) None) h

-- the text of each number of 64 bits is read as that number
pub value_of_text : (z : ℤ) → FitsSigned w64 z → int_value (signed_decimal z) ≡ Some z
value_of_text (pos zero) fits = ap int_value (decimal_digit 0 (omega arith))
value_of_text (pos (suc n)) fits =
    let small : suc n < 2 ^ 63 = fits.sfits in
    of_numeral (decimal (suc n)) (decimal_numeral (suc n) (omega arith) (omega arith))
    ∙ ap (λ m. in_i64 (pos m)) (digits_value-decimal own (suc n) (omega arith))
    ∙ ap (λ b. cond b (Some (pos (suc n))) None) (lt-ltb (suc n) (2 ^ 63) small)
value_of_text (negsuc n) fits =
    let small : n < 2 ^ 63 = fits.sfits in
    let back : suc n - 1 ≡ n = omega arith in
    of_minus (decimal (suc n)) (decimal_numeral (suc n) (omega arith) (omega arith))
    ∙ ap (λ m. in_i64 (negsuc (m - 1))) (digits_value-decimal own (suc n) (omega arith))
    ∙ ap (λ m. in_i64 (negsuc m)) back
    ∙ ap (λ b. cond b (Some (negsuc n)) None) (lt-ltb n (2 ^ 63) small)

-- a choice of two by a test, and what it gave
pub chosen : {A : Type 0} (b : Bool) (x y z : A) → cond b x y ≡ z → ((b ≡ true) × (x ≡ z)) ⊎ ((b ≡ false) × (y ≡ z))
chosen true x y z e = inl (refl, e)
chosen false x y z e = inr (refl, e)

none_some : (z : ℤ) → None ≡ Some z → ⊥
none_some z e = cc

pos_text : (ds : Bytes) (z : ℤ) → is_numeral ds ≡ true → in_i64 (pos (digits_value ds)) ≡ Some z → FitsSigned w64 z × (ds ≡ signed_decimal z)
pos_text ds z h e =
    elim (chosen (ltb (digits_value ds) (2 ^ 63)) (Some (pos (digits_value ds))) None (Some z) e) [
      | inl here ↦
          let small : digits_value ds < 2 ^ 63 = ltb-true (digits_value ds) (2 ^ 63) here.0 in
          let is : pos (digits_value ds) ≡ z = cc (here.1) in
          let fits : FitsSigned w64 (pos (digits_value ds)) = record { sfits = small } in
          subst (λ z. FitsSigned w64 z × (ds ≡ signed_decimal z)) is (fits, sym (numeral_decimal ds h (omega arith)))
      | inr there ↦ absurd (none_some z there.1)
    ]

neg_text : (ds : Bytes) (z : ℤ) → is_numeral ds ≡ true → in_i64 (negsuc (digits_value ds - 1)) ≡ Some z → FitsSigned w64 z × (45 ∷ ds ≡ signed_decimal z)
neg_text ds z h e =
    elim (chosen (ltb (digits_value ds - 1) (2 ^ 63)) (Some (negsuc (digits_value ds - 1))) None (Some z) e) [
      | inl here ↦
          let small : digits_value ds - 1 < 2 ^ 63 = ltb-true (digits_value ds - 1) (2 ^ 63) here.0 in
          let is : negsuc (digits_value ds - 1) ≡ z = cc (here.1) in
          let fits : FitsSigned w64 (negsuc (digits_value ds - 1)) = record { sfits = small } in
          let above : 0 < digits_value ds = numeral_above ds h in
          let same : digits_value ds ≡ suc (digits_value ds - 1) = omega arith in
          let text : ds ≡ decimal (suc (digits_value ds - 1)) = sym (numeral_decimal ds h (omega arith)) ∙ ap decimal same in
          subst (λ z. FitsSigned w64 z × (45 ∷ ds ≡ signed_decimal z)) is (fits, ap (λ s. 45 ∷ s) text)
      | inr there ↦ absurd (none_some z there.1)
    ]

-- what is read is the text of the number
pub text_of_value : (t : Bytes) (z : ℤ) → int_value t ≡ Some z → FitsSigned w64 z × (t ≡ signed_decimal z)
text_of_value [] z e = absurd (none_some z e)
text_of_value (c ∷ t) z e =
    elim (chosen (bytes_eq (c ∷ t) (48 ∷ [])) (Some (pos 0)) _ (Some z) e) [
      | inl nought ↦
          let is : pos 0 ≡ z = cc (nought.1) in
          let fits : FitsSigned w64 (pos 0) = record { sfits = omega arith } in
          subst (λ z. FitsSigned w64 z × (c ∷ t ≡ signed_decimal z)) is
          (fits, (bytes_eq-Decides (c ∷ t) (48 ∷ [])).0 nought.0 ∙ sym (decimal_digit 0 (omega arith)))
      | inr more ↦ elim (chosen (is_numeral (c ∷ t)) (in_i64 (pos (digits_value (c ∷ t)))) _ (Some z) more.1) [
        | inl whole ↦ pos_text (c ∷ t) z whole.0 whole.1
        | inr others ↦ elim (chosen (eqb c 45 && is_numeral t) (in_i64 (negsuc (digits_value t - 1))) None (Some z) others.1) [
          | inl minus ↦
              let parts = and_parts (eqb c 45) (is_numeral t) minus.0 in
              let mark : c ≡ 45 = eqb-true c 45 parts.0 in
              let found = neg_text t z parts.1 minus.1 in
              (found.0, ap (λ d. d ∷ t) mark ∙ found.1)
          | inr there ↦ absurd (none_some z there.1)
        ]
      ]
    ]

pub all_digits_text : (n : ℕ) → n < 2 ^ 64 → list_all is_digit (decimal n) ≡ true
all_digits_text n fits = digits_decimal own n fits
