-- Where lines end, and what they say.
use Rattle.std.proofs.Common.{◌≡◌, ℕ, suc, ◌+◌, ◌*◌, ◌-◌, ◌<◌, ◌≢◌, ◌≤◌, Bool, true, false, cond, eqb, leb, [], ◌∷◌, ◌++◌, length, take, drop, get_or, Option, Some, None, ℤ, refl, sym, ap, ◌∙◌, subst, arith, append_assoc, length-append, decimal}
use Rattle.std.specs.Prelude.{FitsSigned, Ok, unwrap_or}
use Rattle.std.specs.Int.{w64}
use Rattle.std.specs.Fmt.{signed_decimal}
use Rattle.std.specs.Char.{is_ascii_digit}
use Rattle.std.specs.List.{list_all}
use Rattle.std.proofs.lemmas.List.{take_rest, get_or-take, take-append-drop, length-take-le, drop_more, append-nil}
use Rattle.std.proofs.lemmas.List.Folds.{list_any-append}
use Rattle.std.proofs.lemmas.Bool.{and_from, and_parts, or_from, eqb-true, eqb-false, leb-true, lt-ltb, le-ltb, le-leb}
use Rattle.std.proofs.lemmas.Fmt.{decimal_digit, decimal-digits_value}
use Rattle.nr_model.specs.declared.fault.Fault.{Fault}
use Rattle.nr_model.specs.Bytes.{Bytes, crlf}
use Rattle.nr_model.specs.Numbers.{is_digit, digits_value, int_value}
use Rattle.nr_model.specs.Requests.{Whole, Faulty, Partial, line_at, without_last}
use Rattle.nr_model.specs.Requests.Laws.{Extends}
use Rattle.nr_model.proofs.Fronts.{is_lf, line_of_open, line_of_line, line_extends}
use Rattle.nr_model.proofs.IntegerTexts.{own, text_of_value}
use Rattle.nr_model.proofs.Spellings.{cr_ends, last_gone}
use Rattle.memchr.specs.Find.{Nowhere, Passes, IsFirstByte, is_byte}
use Rattle.nr_resp.specs.Lines.{has_lf, begins, IsLineFront, IsFirstLf, IsTooLong, IsShortHeader, Ends, Says}

ends_not : (b : Bool) → (b ≡ true → ⊥) → b ≡ false
ends_not true h = absurd (h refl)
ends_not false h = refl

pub no_lf_by_place : (bytes : Bytes) → ((k : ℕ) → k < length bytes → eqb (get_or bytes k 0) 10 ≡ true → ⊥) → has_lf bytes ≡ false
no_lf_by_place [] h = refl
no_lf_by_place (c ∷ bytes) h = or_from _ _ (ends_not (eqb c 10) (h 0 (omega arith))) (no_lf_by_place bytes (λ k lt. h (suc k) (omega arith)))

pub no_lf_before : (bytes : Bytes) (n : ℕ) → n ≤ length bytes → Nowhere (Passes (is_byte 10) bytes) 0 n → has_lf (take n bytes) ≡ false
no_lf_before bytes n le none =
    let size : length (take n bytes) ≡ n = length-take-le n bytes le in
    no_lf_by_place (take n bytes) (λ k lt is. none k (omega arith) (omega arith) (ap (λ c. eqb c 10) (sym (get_or-take n bytes k 0 (omega arith))) ∙ is))

pub no_lf_at_all : (bytes : Bytes) → Nowhere (Passes (is_byte 10) bytes) 0 (length bytes) → has_lf bytes ≡ false
no_lf_at_all bytes none = no_lf_by_place bytes (λ k lt is. none k (omega arith) lt is)

-- a whole header line that says a number is its mark, the number's text and CR
pub text_said : (fits : ℤ → Bool) (mark : ℕ) (bytes : Bytes) (n : ℕ) → eqb mark 13 ≡ false → (says : Says fits (mark ∷ bytes) n)
    → FitsSigned w64 says.number × (mark ∷ bytes ≡ mark ∷ (signed_decimal says.number ++ 13 ∷ []))
text_said fits mark bytes n other says =
    let ended = cr_ends (mark ∷ bytes) says.ended in
    let split = mark_first ended.0 ended.1 in
    let whole : mark ∷ bytes ≡ mark ∷ (split.0 ++ 13 ∷ []) = ended.1 ∙ ap (λ front. front ++ 13 ∷ []) split.1 in
    let text : drop 1 (without_last (mark ∷ bytes)) ≡ split.0 = ap (λ line. drop 1 (without_last line)) whole ∙ ap (drop 1) (last_gone (mark ∷ split.0) 13) in
    let read = text_of_value split.0 says.number (ap int_value (sym text) ∙ says.read) in
    (read.0, whole ∙ ap (λ t. mark ∷ (t ++ 13 ∷ [])) read.1)
  where
    mark_first : (front : Bytes) → mark ∷ bytes ≡ front ++ 13 ∷ [] → (text : Bytes) × (front ≡ mark ∷ text)
    mark_first [] e = absurd (eqb-false mark 13 other (ap (λ s. get_or s 0 0) e))
    mark_first (c ∷ front) e = (front, ap (λ d. d ∷ front) (sym (ap (λ s. get_or s 0 0) e)))

-- a line that is too long is its fault, whatever follows
pub line_too_long : (most : ℕ) (fault : Fault) (bytes : Bytes) → IsTooLong most bytes → line_at most fault bytes ≡ Faulty fault
line_too_long most fault bytes is =
    let here : line_at most fault is.front ≡ Faulty fault = line_of_open most fault is.front is.one_line ∙ ap (λ b. cond b (Faulty fault) Partial) (lt-ltb most (length is.front) is.long) in
    ap (line_at most fault) is.split ∙ subst (λ front. Extends front is.back (line_at most fault (is.front ++ is.back))) here (line_extends most fault is.front is.back)

pub line_unfinished : (most : ℕ) (fault : Fault) (bytes : Bytes) → IsLineFront most bytes → line_at most fault bytes ≡ Partial
line_unfinished most fault bytes is = line_of_open most fault bytes is.one_line ∙ ap (λ b. cond b (Faulty fault) Partial) (le-ltb most (length bytes) is.short)

pub line_whole : (most : ℕ) (fault : Fault) (line left : Bytes) → IsLineFront most line → line_at most fault (line ++ 10 ∷ left) ≡ Whole line left
line_whole most fault line left is = line_of_line most fault line left is.one_line ∙ ap (λ b. cond b (Faulty fault) (Whole line left)) (le-ltb most (length line) is.short)

-- the bytes that are held of a line, with the next ones
pub still_front : (most : ℕ) (held piece : Bytes) → IsLineFront most held → IsLineFront (most - length held) piece → IsLineFront most (held ++ piece)
still_front most held piece a b =
    let short_a = a.short in
    let short_b = b.short in
    record { one_line = list_any-append is_lf held piece ∙ or_from _ _ a.one_line b.one_line; short = omega (arith, length-append held piece) }

pub now_long : (most : ℕ) (held piece : Bytes) → IsLineFront most held → IsTooLong (most - length held) piece → IsTooLong most (held ++ piece)
now_long most held piece a b =
    let long = b.long in
    record {
      front = held ++ b.front;
      back = b.back;
      split = ap (λ bs. held ++ bs) b.split ∙ sym (append_assoc held b.front b.back);
      one_line = list_any-append is_lf held b.front ∙ or_from _ _ a.one_line b.one_line;
      long = omega (arith, length-append held b.front);
    }

pub now_whole : (most end : ℕ) (held piece : Bytes) → IsLineFront most held → IsFirstLf end piece → end ≤ most - length held → IsLineFront most (held ++ take end piece)
now_whole most end held piece a b le =
    let inside = b.inside in
    let size : length (take end piece) ≡ end = length-take-le end piece (omega arith) in
    still_front most held (take end piece) a (record { one_line = b.one_line; short = omega arith })

pub split_at_lf : (end : ℕ) (held piece : Bytes) → IsFirstLf end piece → held ++ piece ≡ (held ++ take end piece) ++ 10 ∷ drop (end + 1) piece
split_at_lf end held piece is =
    let inside = is.inside in
    let back : drop end piece ≡ 10 ∷ drop (end + 1) piece = drop_more piece end 0 inside ∙ ap (λ c. c ∷ drop (end + 1) piece) is.lf in
    ap (λ bs. held ++ bs) (sym (take-append-drop end piece) ∙ ap (λ bs. take end piece ++ bs) back) ∙ sym (append_assoc held (take end piece) (10 ∷ drop (end + 1) piece))

-- whether bytes begin with a mark is seen at their first byte
pub begins_held : (mark : ℕ) (held piece : Bytes) → 0 < length held → begins mark (held ++ piece) ≡ begins mark held
begins_held mark [] piece some = absurd (omega arith)
begins_held mark (c ∷ held) piece some = refl

-- a line begins as it does with its LF and more behind it, where its mark is no LF
pub begins_line : (mark : ℕ) (line left : Bytes) → eqb 10 mark ≡ false → begins mark (line ++ 10 ∷ left) ≡ begins mark line
begins_line mark [] left other = other
begins_line mark (c ∷ line) left other = refl

-- where a line ends, by the first LF that a search found
pub ends_by_search : (room : ℕ) (fault : Fault) (bytes : Bytes) (end : Option ℕ) → IsFirstByte (is_byte 10) bytes end → unwrap_or end (length bytes) ≤ room → Ends room fault bytes (Ok end)
ends_by_search room fault bytes None none le = record { one_line = no_lf_at_all bytes none; short = le }
ends_by_search room fault bytes (Some end) found le =
    let inside = found.0.high in
    (record { inside = inside; one_line = no_lf_before bytes end (omega arith) found.0.before; lf = eqb-true _ 10 found.1 }, le)

pub long_by_search : (room : ℕ) (bytes : Bytes) (end : Option ℕ) → IsFirstByte (is_byte 10) bytes end → room < unwrap_or end (length bytes) → IsTooLong room bytes
long_by_search room bytes None none long = record { front = bytes; back = []; split = sym (append-nil bytes); one_line = no_lf_at_all bytes none; long = long }
long_by_search room bytes (Some end) found long =
    let inside = found.0.high in
    let size : length (take end bytes) ≡ end = length-take-le end bytes (omega arith) in
    record { front = take end bytes; back = drop end bytes; split = sym (take-append-drop end bytes); one_line = no_lf_before bytes end (omega arith) found.0.before; long = omega arith }

-- a header of one digit, and of two
short_one : (piece left : Bytes) (number : ℕ) → 5 ≤ length piece → 48 ≤ get_or piece 1 0 → get_or piece 1 0 ≤ 57 → number ≡ get_or piece 1 0 - 48
    → get_or piece 2 0 ≡ 13 → get_or piece 3 0 ≡ 10 → left ≡ drop 4 piece → IsShortHeader (get_or piece 0 0) piece number left
short_one [] left number long low high is cr lf behind = absurd (omega arith)
short_one (m ∷ []) left number long low high is cr lf behind = absurd (omega arith)
short_one (m ∷ a ∷ []) left number long low high is cr lf behind = absurd (omega arith)
short_one (m ∷ a ∷ c ∷ []) left number long low high is cr lf behind = absurd (omega arith)
short_one (m ∷ a ∷ c ∷ d ∷ piece) left number long low high is cr lf behind =
    let whole : a ≡ 48 + number = omega arith in
    record {
      low = omega arith;
      split = ap (λ c. m ∷ a ∷ c ∷ d ∷ piece) cr
          ∙ ap (λ d. m ∷ a ∷ 13 ∷ d ∷ piece) lf
          ∙ ap (λ piece. m ∷ a ∷ 13 ∷ 10 ∷ piece) (sym behind)
          ∙ ap (λ a. m ∷ a ∷ 13 ∷ 10 ∷ left) whole
          ∙ ap (λ text. (m ∷ text ++ crlf) ++ left) (sym (decimal_digit number (omega arith)));
    }

two_digits : (a b : ℕ) → 48 < a → a ≤ 57 → 48 ≤ b → b ≤ 57 → decimal (10 * (a - 48) + (b - 48)) ≡ a ∷ b ∷ []
two_digits a b a_low a_high b_low b_high =
    let digits : list_all is_digit (a ∷ b ∷ []) ≡ true =
    and_from _ _ (and_from _ _ (le-leb 48 a (omega arith)) (le-leb a 57 a_high)) (and_from _ _ (and_from _ _ (le-leb 48 b b_low) (le-leb b 57 b_high)) refl) in
    let value : digits_value (a ∷ b ∷ []) ≡ 10 * (a - 48) + (b - 48) = omega arith in
    ap decimal (sym value) ∙ decimal-digits_value own (a ∷ b ∷ []) digits (omega arith) (λ e. absurd (omega (arith, e))) (omega arith)

short_two : (piece left : Bytes) (number : ℕ) → 5 ≤ length piece → 48 < get_or piece 1 0 → get_or piece 1 0 ≤ 57 → 48 ≤ get_or piece 2 0 → get_or piece 2 0 ≤ 57
    → number ≡ 10 * (get_or piece 1 0 - 48) + (get_or piece 2 0 - 48) → get_or piece 3 0 ≡ 13 → get_or piece 4 0 ≡ 10 → left ≡ drop 5 piece → IsShortHeader (get_or piece 0 0) piece number left
short_two [] left number long a_low a_high b_low b_high is cr lf behind = absurd (omega arith)
short_two (m ∷ []) left number long a_low a_high b_low b_high is cr lf behind = absurd (omega arith)
short_two (m ∷ a ∷ []) left number long a_low a_high b_low b_high is cr lf behind = absurd (omega arith)
short_two (m ∷ a ∷ b ∷ []) left number long a_low a_high b_low b_high is cr lf behind = absurd (omega arith)
short_two (m ∷ a ∷ b ∷ c ∷ []) left number long a_low a_high b_low b_high is cr lf behind = absurd (omega arith)
short_two (m ∷ a ∷ b ∷ c ∷ d ∷ piece) left number long a_low a_high b_low b_high is cr lf behind =
    record {
      low = omega arith;
      split = ap (λ c. m ∷ a ∷ b ∷ c ∷ d ∷ piece) cr
          ∙ ap (λ d. m ∷ a ∷ b ∷ 13 ∷ d ∷ piece) lf
          ∙ ap (λ piece. m ∷ a ∷ b ∷ 13 ∷ 10 ∷ piece) (sym behind)
          ∙ ap (λ text. (m ∷ text ++ crlf) ++ left) (sym (ap decimal is ∙ two_digits a b a_low a_high b_low b_high));
    }

-- the same, as the code tests and cuts
digit_range : (c : ℕ) → is_ascii_digit c ≡ true → (48 ≤ c) × (c ≤ 57)
digit_range c holds =
    let both = and_parts (leb 48 c) (leb c 57) holds in
    (leb-true 48 c both.0, leb-true c 57 both.1)

pub one_digit_read : (piece : Bytes) (number : ℕ) → 5 ≤ length piece → is_ascii_digit (get_or piece 1 0) ≡ true → number ≡ get_or piece 1 0 - 48 → get_or piece 2 0 ≡ 13 → get_or piece 3 0 ≡ 10
    → IsShortHeader (get_or piece 0 0) piece number (take (length piece - 4) (drop 4 piece))
one_digit_read piece number long digit is cr lf =
    let range = digit_range (get_or piece 1 0) digit in
    short_one piece _ number long range.0 range.1 is cr lf (take_rest piece 4)

pub two_digits_read : (piece : Bytes) (tens ones : ℕ) → 5 ≤ length piece → get_or piece 1 0 ≢ 48 → is_ascii_digit (get_or piece 1 0) ≡ true → is_ascii_digit (get_or piece 2 0) ≡ true
    → tens ≡ get_or piece 1 0 - 48 → ones ≡ get_or piece 2 0 - 48 → get_or piece 3 0 ≡ 13 → get_or piece 4 0 ≡ 10
    → IsShortHeader (get_or piece 0 0) piece (10 * tens + ones) (take (length piece - 5) (drop 5 piece))
two_digits_read piece tens ones long nonzero first second tens_is ones_is cr lf =
    let a = digit_range (get_or piece 1 0) first in
    let b = digit_range (get_or piece 2 0) second in
    short_two piece _ (10 * tens + ones) long (omega (arith, a.0, nonzero)) a.1 b.0 b.1 (omega (arith, tens_is, ones_is)) cr lf (take_rest piece 5)
