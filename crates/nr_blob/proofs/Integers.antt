-- What std's parse gives at a text that begins as an integer's does.
use Rattle.std.proofs.Common.{◌≡◌, ℕ, ◌-◌, ◌^◌, ◌<◌, ◌≤◌, zero, suc, Bool, true, false, [], ◌∷◌, length, get_or, drop, Option, Some, None, Result, Ok, Err, ℤ, pos, negsuc, take, cond, arith, refl, sym, ap, ◌∙◌, subst, ◌⊎◌, inl, inr}
use Rattle.std.specs.Prelude.{if◌then◌else◌, IsUtf8, IsAscii}
use lib.IntN.{neg_ℤ}
use Rattle.std.specs.Result.{MatchResult, OkIff, result_ok}
use Rattle.std.specs.List.{list_all}
use Rattle.std.specs.Int.{w64}
use Rattle.std.specs.Str.Parse.{ParsesSigned}
use Rattle.std.proofs.lemmas.Str.Parse.{digits_value_short, parse_signed_plain, parse_signed_minus}
use Rattle.std.proofs.lemmas.Bool.Decides.{nat_tests}
use Rattle.std.proofs.lemmas.Bool.{cases_lt}
use Rattle.std.proofs.lemmas.List.{get_or_past, length-take, take_all}
use Rattle.std.proofs.lemmas.Grind.{get_or_after_one}
use Rattle.std.proofs.lemmas.Fmt.{IsAscii-from_digits}
use Rattle.std.proofs.lemmas.Str.{IsUtf8-from_ascii}
use Rattle.nr_model.specs.Bytes.{Bytes}
use Rattle.nr_model.specs.Numbers.{is_digit, is_numeral, digits_value, in_i64, int_value}
use Rattle.nr_model.proofs.IntegerTexts.{own, positive}
use Rattle.nr_blob.specs.Integers.{is_leading_digit, begins_nonzero, short_value}

-- where `d` says that a text is digits alone, behind its sign, std's parse answers by the range
plain_gives : {E : Type 0} (r : Result ℤ E) (d : Bool) (k n : ℕ) → 0 < k → OkIff r ((d ≡ true) × (0 < k) × (n < 2 ^ 63)) (pos n)
    → result_ok r ≡ (if d then in_i64 (pos n) else None)
plain_gives (Ok x) true k n some h = let small : n < 2 ^ 63 = h.0.2 in let same : x ≡ pos n = h.1 in grind (arith, nat_tests)
plain_gives (Ok x) false k n some h = absurd (cc (h.0.0))
plain_gives (Err e) true k n some h = elim (cases_lt n (2 ^ 63)) [ inl small ↦ absurd (h (refl, some, small)) | inr large ↦ grind (arith, nat_tests) ]
plain_gives (Err e) false k n some h = refl

minus_gives : {E : Type 0} (r : Result ℤ E) (d : Bool) (k n : ℕ) → 0 < k → OkIff r ((d ≡ true) × (0 < k) × (suc n ≤ 2 ^ 63)) (negsuc n)
    → result_ok r ≡ (if d then in_i64 (negsuc n) else None)
minus_gives (Ok x) true k n some h = let small : n < 2 ^ 63 = omega (arith, h.0.2) in let same : x ≡ negsuc n = h.1 in grind (arith, nat_tests)
minus_gives (Ok x) false k n some h = absurd (cc (h.0.0))
minus_gives (Err e) true k n some h = elim (cases_lt n (2 ^ 63)) [ inl small ↦ absurd (h (refl, some, omega arith)) | inr large ↦ grind (arith, nat_tests) ]
minus_gives (Err e) false k n some h = refl

-- behind a digit from 1 to 9, digits are a numeral
numeral_is : (ds : Bytes) → is_leading_digit (get_or ds 0 0) ≡ true → is_numeral ds ≡ list_all is_digit ds
numeral_is [] e = absurd (cc e)
numeral_is (d ∷ ds) e = grind (arith, nat_tests)

leading_within : (text : Bytes) (i : ℕ) → is_leading_digit (get_or text i 0) ≡ true → i < length text
leading_within text i e =
    elim (cases_lt i (length text)) [
      | inl within ↦ within
      | inr past ↦ absurd
          (let nothing : get_or text i 0 ≡ 0 = get_or_past text i 0 past in cc (e, nothing))
    ]

-- what a text's value is, by how it begins
plain_value : (text : Bytes) → is_leading_digit (get_or text 0 0) ≡ true
    → int_value text ≡ (if list_all is_digit text then in_i64 (pos (digits_value text)) else None)
plain_value [] e = absurd (cc e)
plain_value (c ∷ t) e = rw (← numeral_is (c ∷ t) e) (grind (arith, nat_tests))

signed_value : (t : Bytes) → is_leading_digit (get_or t 0 0) ≡ true
    → int_value (45 ∷ t) ≡ (if list_all is_digit t then in_i64 (negsuc (digits_value t - 1)) else None)
signed_value t e = rw (← numeral_is t e) refl

minus_value : (text : Bytes) → get_or text 0 0 ≡ 45 → is_leading_digit (get_or text 1 0) ≡ true
    → int_value text ≡ (if list_all is_digit (drop 1 text) then in_i64 (negsuc (digits_value (drop 1 text) - 1)) else None)
minus_value [] minus e = absurd (cc minus)
minus_value (c ∷ t) minus e = let is : c ≡ 45 = minus in rw is (signed_value t e)

by_plain : {E : Type 0} (text : Bytes) (r : Result ℤ E) → is_leading_digit (get_or text 0 0) ≡ true → ParsesSigned w64 10 text r → result_ok r ≡ int_value text
by_plain text r e h =
    plain_gives r (list_all is_digit text) (length text) (digits_value text) (leading_within text 0 e)
    (parse_signed_plain own w64 text r h (grind (arith, nat_tests)) (grind (arith, nat_tests)))
    ∙ sym (plain_value text e)

by_minus : {E : Type 0} (text : Bytes) (r : Result ℤ E) → get_or text 0 0 ≡ 45 → is_leading_digit (get_or text 1 0) ≡ true → ParsesSigned w64 10 text r
    → result_ok r ≡ int_value text
by_minus text r minus e h =
    let t : Bytes = drop 1 text in
    let first : is_leading_digit (get_or t 0 0) ≡ true = subst (λ d. is_leading_digit d ≡ true) (sym (get_or_after_one text 0 0)) e in
    let n : ℕ = digits_value t - 1 in
    let whole : digits_value t ≡ suc n = omega (arith, positive t (grind (arith, nat_tests))) in
    minus_gives r (list_all is_digit t) (length t) n (leading_within t 0 first)
    (subst (λ v. OkIff r ((list_all is_digit t ≡ true) × (0 < length t) × (v ≤ 2 ^ 63)) (neg_ℤ (pos v))) whole (parse_signed_minus own w64 text r h minus))
    ∙ sym (minus_value text minus e)

-- the two together, and a text that is none to std
begins_cases : (text : Bytes) → begins_nonzero text ≡ true
    → (is_leading_digit (get_or text 0 0) ≡ true) ⊎ ((get_or text 0 0 ≡ 45) × (is_leading_digit (get_or text 1 0) ≡ true))
begins_cases text e = grind (arith, nat_tests)

pub parse_is_value : {E : Type 0} (text : Bytes) (r : Result ℤ E) → begins_nonzero text ≡ true → ParsesSigned w64 10 text r → result_ok r ≡ int_value text
parse_is_value text r e h =
    elim (begins_cases text e) [ inl plain ↦ by_plain text r plain h | inr minus ↦ by_minus text r minus.0 minus.1 h ]

ascii_behind : (c : ℕ) (t : Bytes) → c < 128 → IsAscii t → IsAscii (c ∷ t)
ascii_behind c t small rest zero = small
ascii_behind c t small rest (suc i) = rest i

-- a text that is no UTF-8 has no value
digits_ascii : (ds : Bytes) → list_all is_digit ds ≡ true → IsAscii ds
digits_ascii ds all = IsAscii-from_digits ds (own.to ds all)

minus_utf8 : (text : Bytes) → get_or text 0 0 ≡ 45 → list_all is_digit (drop 1 text) ≡ true → IsUtf8 text
minus_utf8 [] minus all = absurd (cc minus)
minus_utf8 (c ∷ t) minus all = IsUtf8-from_ascii (c ∷ t) (ascii_behind c t (omega arith) (digits_ascii t all))

unless : (b : Bool) (x : Option ℤ) → (b ≡ true → ⊥) → None ≡ (if b then x else None)
unless true x never = absurd (never refl)
unless false x never = refl

pub no_value : (text : Bytes) → begins_nonzero text ≡ true → (IsUtf8 text → ⊥) → None ≡ int_value text
no_value text e none =
    elim (begins_cases text e) [
      | inl plain ↦ unless _ _ (λ all. none (IsUtf8-from_ascii text (digits_ascii text all))) ∙ sym (plain_value text plain)
      | inr minus ↦ unless _ _ (λ all. none (minus_utf8 text minus.0 all)) ∙ sym (minus_value text minus.0 minus.1)
    ]

-- what a call ensured, behind its `ok()`
pub of_some : {T E : Type 0} (r : Result T E) (x : T) (P : T → Type 0) (Q : E → Type 0) → MatchResult r P Q → Some x ≡ result_ok r → P x
of_some (Ok y) x P Q h is = let same : y ≡ x = cc is in subst P same h
of_some (Err e) x P Q h is = absurd (cc is)

pub of_none : {T E : Type 0} (r : Result T E) (P : T → Type 0) (Q : E → Type 0) → MatchResult r P Q → None ≡ result_ok r → (e : E) × Q e
of_none (Ok y) P Q h is = absurd (cc is)
of_none (Err e) P Q h is = (e, h)

-- digits one by one: what the first ones write is small, and at the last one it is the value
pub first_digits : (ds : Bytes) (i k : ℕ) → list_all is_digit (take i ds) ≡ true → i ≤ k → digits_value (take i ds) < 10 ^ k
first_digits ds i k all le = digits_value_short own (take i ds) k all (omega (arith, length-take i ds))

pub short_is : (ds : Bytes) (i : ℕ) → list_all is_digit (take i ds) ≡ true → length ds ≤ i → Some (pos (digits_value (take i ds))) ≡ short_value ds
short_is ds i all le =
    let whole : take i ds ≡ ds = take_all i ds le in
    let digits : list_all is_digit ds ≡ true = subst (λ text. list_all is_digit text ≡ true) whole all in
    ap (λ text. Some (pos (digits_value text))) whole ∙ sym (ap (λ b. cond b (Some (pos (digits_value ds))) None) digits)
