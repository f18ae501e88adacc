-- Each spelling of a request is found, and what is found is spelled.
use Rattle.std.proofs.Common.{◌≡◌, ℕ, zero, suc, ◌^◌, ◌<◌, ◌≤◌, Bool, true, false, ◌&&◌, cond, eqb, ltb, leb, List, [], ◌∷◌, ◌++◌, length, take, drop, get_or, Option, Some, None, ℤ, pos, negsuc, inl, inr, refl, sym, ap, ◌∙◌, subst, arith, append_assoc, length-append, decimal}
use Rattle.std.specs.Prelude.{FitsSigned, ◌≤ℤ◌, flat_map}
use Rattle.std.specs.Int.{w64}
use Rattle.std.specs.Fmt.{signed_decimal}
use Rattle.std.specs.List.{list_any, list_all, AllByRecursion}
use Rattle.std.proofs.lemmas.List.{take_at, drop_at, take-append-drop, length-take-le}
use Rattle.std.proofs.lemmas.List.Folds.{list_any-append}
use Rattle.std.proofs.lemmas.Bool.{and_parts, or_from, ltb-false, leb-true, eqb-true, eqb-false, le-ltb, le-leb, ne_eqb}
use Rattle.std.proofs.lemmas.Int.{ints}
use Rattle.std.proofs.lemmas.Fmt.{length_signed_le}
use Rattle.nr_model.specs.declared.fault.Fault.{Fault}
use Rattle.nr_model.specs.declared.fault.Fault.TheVariants.{Count, Length, Dollar, Inline, LineEnd, Quotes}
use Rattle.nr_model.specs.Bytes.{Bytes, crlf}
use Rattle.nr_model.specs.Numbers.{int_value, is_digit}
use Rattle.nr_model.specs.Requests.{Front, Whole, Faulty, Partial, front_then, most_words, most_word_bytes, most_header_bytes, most_inline_bytes, line_at, number_or, header_at, is_count, is_length, how_many, ending_at, word_at, bulk_at, bulks_at, array_at, inline_at, request_at, ends_with_cr, without_last, without_cr, words_of, is_quote, bulk_text, array_text, IsInlineLine, Spells, array, empty_array, inline}
use Rattle.nr_model.specs.Requests.Laws.{EachIsFound, EachIsSpelled}
use Rattle.nr_model.proofs.Fronts.{is_lf, lines, line_of_open, line_of_line}
use Rattle.nr_model.proofs.IntegerTexts.{value_of_text, text_of_value, chosen, all_digits_text}

-- a front in two parts was found in both
then_whole : {A B : Type 0} (front : Front A) (next : A → Bytes → Front B) (b : B) (rest : Bytes) → front_then front next ≡ Whole b rest
    → (a : A) × (mid : Bytes) × (front ≡ Whole a mid) × (next a mid ≡ Whole b rest)
then_whole (Whole a mid) next b rest e = (a, mid, refl, e)
then_whole (Faulty fault) next b rest e = absurd (faulty_whole fault b rest e)
  where
    faulty_whole : {B : Type 0} (fault : Fault) (b : B) (rest : Bytes) → Faulty fault ≡ Whole b rest → ⊥
    faulty_whole fault b rest e = cc
then_whole Partial next b rest e = absurd (partial_whole b rest e)
  where
    partial_whole : {B : Type 0} (b : B) (rest : Bytes) → Partial ≡ Whole b rest → ⊥
    partial_whole b rest e = cc

ends_cr : (xs : Bytes) → ends_with_cr (xs ++ 13 ∷ []) ≡ true
ends_cr [] = refl
ends_cr (x ∷ []) = refl
ends_cr (x ∷ y ∷ xs) = ends_cr (y ∷ xs)

pub cr_ends : (xs : Bytes) → ends_with_cr xs ≡ true → (front : Bytes) × (xs ≡ front ++ 13 ∷ [])
cr_ends [] e = cc
cr_ends (x ∷ []) e = ([], ap (λ c. c ∷ []) (eqb-true x 13 e))
cr_ends (x ∷ y ∷ xs) e = let found = cr_ends (y ∷ xs) e in (x ∷ found.0, ap (λ cs. x ∷ cs) found.1)

pub last_gone : (xs : Bytes) (c : ℕ) → without_last (xs ++ c ∷ []) ≡ xs
last_gone xs c = take_at xs (c ∷ []) _ (omega (arith, length-append xs (c ∷ [])))

digits_no_lf : (ds : Bytes) → list_all is_digit ds ≡ true → list_any is_lf ds ≡ false
digits_no_lf [] h = refl
digits_no_lf (d ∷ ds) h =
    let parts = and_parts _ _ h in
    let low : 48 ≤ d = leb-true 48 d ((and_parts (leb 48 d) (leb d 57) parts.0).0) in
    or_from _ _ (ne_eqb d 10 (λ e. omega arith)) (digits_no_lf ds parts.1)

signed_no_lf : (z : ℤ) → FitsSigned w64 z → list_any is_lf (signed_decimal z) ≡ false
signed_no_lf (pos n) fits = let small : n < 2 ^ 63 = fits.sfits in digits_no_lf (decimal n) (all_digits_text n (omega arith))
signed_no_lf (negsuc n) fits = let small : n < 2 ^ 63 = fits.sfits in digits_no_lf (decimal (suc n)) (all_digits_text (suc n) (omega arith))

signed_short : (z : ℤ) → FitsSigned w64 z → length (signed_decimal z) ≤ 21
signed_short z fits = length_signed_le 20 z (omega (arith, fits.sfits)) fits.sfits

-- what a header's line says
abbrev said : Fault → (ℤ → Bool) → Bytes → Bytes → Front ℤ
said fault fits line rest = cond (ends_with_cr line) (number_or fault fits (int_value (drop 1 (without_last line))) rest) (Faulty LineEnd)

said_of : (fault : Fault) (fits : ℤ → Bool) (mark : ℕ) (text rest : Bytes)
    → said fault fits (mark ∷ (text ++ 13 ∷ [])) rest ≡ number_or fault fits (int_value text) rest
said_of fault fits mark text rest =
    ap (λ b. cond b (number_or fault fits (int_value (drop 1 (without_last (mark ∷ (text ++ 13 ∷ []))))) rest) (Faulty LineEnd)) (ends_cr (mark ∷ text))
    ∙ ap (λ line. number_or fault fits (int_value (drop 1 line)) rest) (last_gone (mark ∷ text) 13)

pub header_only : (fault : Fault) (fits : ℤ → Bool) (mark : ℕ) (z : ℤ) (rest : Bytes) → eqb mark 10 ≡ false → FitsSigned w64 z → fits z ≡ true
    → header_at fault fits (mark ∷ (signed_decimal z ++ 13 ∷ 10 ∷ rest)) ≡ Whole z rest
header_only fault fits mark z rest other small fit =
    let text = signed_decimal z in
    let line : Bytes = mark ∷ (text ++ 13 ∷ []) in
    let no_lf : list_any is_lf line ≡ false = or_from _ _ other (list_any-append is_lf text (13 ∷ []) ∙ or_from _ _ (signed_no_lf z small) refl) in
    let split : mark ∷ (text ++ 13 ∷ 10 ∷ rest) ≡ line ++ 10 ∷ rest = ap (λ bs. mark ∷ bs) (sym (append_assoc text (13 ∷ []) (10 ∷ rest))) in
    let short : ltb most_header_bytes (length line) ≡ false = le-ltb 64 (length line) (omega (arith, length-append text (13 ∷ []), signed_short z small)) in
    let found : line_at most_header_bytes fault (mark ∷ (text ++ 13 ∷ 10 ∷ rest)) ≡ Whole line rest =
    ap (line_at most_header_bytes fault) split ∙ line_of_line most_header_bytes fault line rest no_lf
    ∙ ap (λ b. cond b (Faulty fault) (Whole line rest)) short in
    ap (λ front. front_then front (said fault fits)) found
    ∙ said_of fault fits mark text rest
    ∙ ap (λ number. number_or fault fits number rest) (value_of_text z small)
    ∙ ap (λ b. cond b (Whole z rest) (Faulty fault)) fit

line_found : (most : ℕ) (fault : Fault) (bytes line rest : Bytes) → line_at most fault bytes ≡ Whole line rest
    → (list_any is_lf line ≡ false) × (length line ≤ most) × (bytes ≡ line ++ 10 ∷ rest)
line_found most fault bytes line rest e =
    elim (lines bytes) [
      | inl none ↦
          elim (chosen (ltb most (length bytes)) (Faulty fault) Partial (Whole line rest) (sym (line_of_open most fault bytes none) ∙ e)) [
            | inl here ↦ absurd (faulty_whole here.1)
            | inr there ↦ absurd (partial_whole there.1)
          ]
      | inr found ↦
          elim (chosen (ltb most (length found.0)) (Faulty fault) (Whole found.0 found.1) (Whole line rest)
          (sym (ap (line_at most fault) found.3 ∙ line_of_line most fault found.0 found.1 found.2) ∙ e)) [
            | inl here ↦ absurd (faulty_whole here.1)
            | inr there ↦
                let same_line : found.0 ≡ line = cc (there.1) in
                let same_rest : found.1 ≡ rest = cc (there.1) in
                let short : length found.0 ≤ most = ltb-false most (length found.0) there.0 in (
                  ap (list_any is_lf) (sym same_line) ∙ found.2,
                  subst (λ l. length l ≤ most) same_line short,
                  found.3 ∙ ap (λ l. l ++ 10 ∷ found.1) same_line
                      ∙ ap (λ bs. line ++ 10 ∷ bs) same_rest,
                )
          ]
    ]
  where
    faulty_whole : Faulty fault ≡ Whole line rest → ⊥
    faulty_whole e = cc

    partial_whole : Partial ≡ Whole line rest → ⊥
    partial_whole e = cc

number_found : (fault : Fault) (fits : ℤ → Bool) (number : Option ℤ) (mid rest : Bytes) (z : ℤ) → number_or fault fits number mid ≡ Whole z rest
    → (number ≡ Some z) × (fits z ≡ true) × (mid ≡ rest)
number_found fault fits None mid rest z e = absurd (faulty_whole e)
  where
    faulty_whole : Faulty fault ≡ Whole z rest → ⊥
    faulty_whole e = cc
number_found fault fits (Some number) mid rest z e =
    elim (chosen (fits number) (Whole number mid) (Faulty fault) (Whole z rest) e) [
      | inl here ↦
          let same : number ≡ z = cc (here.1) in
          (ap Some same, ap fits (sym same) ∙ here.0, cc (here.1))
      | inr there ↦ absurd (faulty_whole there.1)
    ]
  where
    faulty_whole : Faulty fault ≡ Whole z rest → ⊥
    faulty_whole e = cc

-- the line of a header is its mark, the number's text and CR
header_line : (mark : ℕ) (bytes front rest : Bytes) → eqb mark 13 ≡ false → mark ∷ bytes ≡ (front ++ 13 ∷ []) ++ 10 ∷ rest
    → (text : Bytes) × (front ≡ mark ∷ text) × (bytes ≡ text ++ 13 ∷ 10 ∷ rest)
header_line mark bytes [] rest other e = absurd (eqb-false mark 13 other (ap (λ s. get_or s 0 0) e))
header_line mark bytes (c ∷ front) rest other e =
    let same : c ≡ mark = sym (ap (λ s. get_or s 0 0) e) in
    (front, ap (λ d. d ∷ front) same, ap (drop 1) e ∙ append_assoc front (13 ∷ []) (10 ∷ rest))

header_found : (fault : Fault) (fits : ℤ → Bool) (mark : ℕ) (bytes : Bytes) (z : ℤ) (rest : Bytes) → eqb mark 13 ≡ false
    → header_at fault fits (mark ∷ bytes) ≡ Whole z rest
    → FitsSigned w64 z × (fits z ≡ true) × (bytes ≡ signed_decimal z ++ 13 ∷ 10 ∷ rest)
header_found fault fits mark bytes z rest other e =
    let parts = then_whole (line_at most_header_bytes fault (mark ∷ bytes)) (said fault fits) z rest e in
    let line = parts.0 in
    let mid = parts.1 in
    let found = line_found most_header_bytes fault (mark ∷ bytes) line mid parts.2 in
    elim (chosen (ends_with_cr line) _ (Faulty LineEnd) (Whole z rest) parts.3) [
      | inl here ↦
          let front = cr_ends line here.0 in
          let split = header_line mark bytes front.0 mid other (found.2 ∙ ap (λ l. l ++ 10 ∷ mid) front.1) in
          let text = split.0 in
          let whole : line ≡ mark ∷ (text ++ 13 ∷ []) = front.1 ∙ ap (λ l. l ++ 13 ∷ []) split.1 in
          let number = number_found fault fits (int_value text) mid rest z
          (sym (said_of fault fits mark text mid) ∙ ap (λ l. said fault fits l mid) (sym whole) ∙ parts.3) in
          let read = text_of_value text z number.0 in
          (read.0, number.1, split.2 ∙ ap (λ t. t ++ 13 ∷ 10 ∷ mid) read.1 ∙ ap (λ bs. signed_decimal z ++ 13 ∷ 10 ∷ bs) number.2)
      | inr there ↦ absurd (faulty_whole there.1)
    ]
  where
    faulty_whole : Faulty LineEnd ≡ Whole z rest → ⊥
    faulty_whole e = cc

pub word_only : (word more : Bytes) → word_at (length word) (word ++ 13 ∷ 10 ∷ more) ≡ Whole word more
word_only word more =
    let bytes : Bytes = word ++ 13 ∷ 10 ∷ more in
    let enough : ltb (length bytes) (length word) ≡ false = le-ltb (length bytes) (length word) (omega (arith, length-append word (13 ∷ 10 ∷ more))) in
    ap (λ b. cond b Partial (ending_at (take (length word) bytes) (drop (length word) bytes))) enough
    ∙ ap (λ w. ending_at w (drop (length word) bytes)) (take_at word (13 ∷ 10 ∷ more) (length word) refl)
    ∙ ap (ending_at word) (drop_at word (13 ∷ 10 ∷ more) (length word) refl)

ending_found : (here bytes word rest : Bytes) → ending_at here bytes ≡ Whole word rest → (here ≡ word) × (bytes ≡ 13 ∷ 10 ∷ rest)
ending_found here [] word rest e = absurd (partial_whole e)
  where
    partial_whole : Partial ≡ Whole word rest → ⊥
    partial_whole e = cc
ending_found here (c ∷ []) word rest e =
    elim (chosen (eqb c 13) Partial (Faulty LineEnd) (Whole word rest) e) [ inl is ↦ absurd (partial_whole is.1) | inr is ↦ absurd (faulty_whole is.1) ]
  where
    partial_whole : Partial ≡ Whole word rest → ⊥
    partial_whole e = cc

    faulty_whole : Faulty LineEnd ≡ Whole word rest → ⊥
    faulty_whole e = cc
ending_found here (c ∷ d ∷ mid) word rest e =
    elim (chosen (eqb c 13 && eqb d 10) (Whole here mid) (Faulty LineEnd) (Whole word rest) e) [
      | inl is ↦
          let tests = and_parts (eqb c 13) (eqb d 10) is.0 in
          let first : c ≡ 13 = eqb-true c 13 tests.0 in
          let second : d ≡ 10 = eqb-true d 10 tests.1 in
          let same : mid ≡ rest = cc (is.1) in
          (cc (is.1), ap (λ c'. c' ∷ d ∷ mid) first ∙ ap (λ d'. 13 ∷ d' ∷ mid) second ∙ ap (λ bs. 13 ∷ 10 ∷ bs) same)
      | inr is ↦ absurd (faulty_whole is.1)
    ]
  where
    faulty_whole : Faulty LineEnd ≡ Whole word rest → ⊥
    faulty_whole e = cc

word_found : (len : ℕ) (bytes word rest : Bytes) → word_at len bytes ≡ Whole word rest → (length word ≡ len) × (bytes ≡ word ++ 13 ∷ 10 ∷ rest)
word_found len bytes word rest e =
    elim (chosen (ltb (length bytes) len) Partial _ (Whole word rest) e) [
      | inl here ↦ absurd (partial_whole here.1)
      | inr there ↦
          let enough : len ≤ length bytes = ltb-false (length bytes) len there.0 in
          let parts = ending_found (take len bytes) (drop len bytes) word rest there.1 in (
            ap length (sym parts.0) ∙ length-take-le len bytes enough,
            sym (take-append-drop len bytes) ∙ ap (λ w. w ++ drop len bytes) parts.0
                ∙ ap (λ bs. word ++ bs) parts.1,
          )
    ]
  where
    partial_whole : Partial ≡ Whole word rest → ⊥
    partial_whole e = cc

-- a bulk's text with what follows it, as its parts are read
bulk_split : (word more : Bytes) → bulk_text word ++ more ≡ 36 ∷ (signed_decimal (pos (length word)) ++ 13 ∷ 10 ∷ (word ++ 13 ∷ 10 ∷ more))
bulk_split word more =
    let text = decimal (length word) in
    ap (λ bs. 36 ∷ bs)
    (append_assoc (text ++ crlf ++ word) crlf more ∙ append_assoc (text ++ crlf) word (crlf ++ more) ∙ append_assoc text crlf (word ++ (crlf ++ more)))

pub fits_low : (n : ℕ) → n < 2 ^ 63 → FitsSigned w64 (pos n)
fits_low n low = record { sfits = low }

pub bulk_only : (word more : Bytes) → length word ≤ most_word_bytes → bulk_at (bulk_text word ++ more) ≡ Whole word more
bulk_only word more short =
    ap bulk_at (bulk_split word more)
    ∙ ap (λ front. front_then front (λ len rest. word_at (how_many len) rest))
    (header_only Length is_length 36 (pos (length word)) (word ++ 13 ∷ 10 ∷ more) refl (fits_low (length word) (omega arith))
    (le-leb (length word) most_word_bytes short))
    ∙ word_only word more

bulk_found : (bytes word rest : Bytes) → bulk_at bytes ≡ Whole word rest → (length word ≤ most_word_bytes) × (bytes ≡ bulk_text word ++ rest)
bulk_found [] word rest e = absurd (partial_whole e)
  where
    partial_whole : Partial ≡ Whole word rest → ⊥
    partial_whole e = cc
bulk_found (c ∷ bytes) word rest e =
    elim (chosen (eqb c 36) _ (Faulty (Dollar c)) (Whole word rest) e) [
      | inl here ↦
          let mark : c ≡ 36 = eqb-true c 36 here.0 in
          let whole : bulk_at (36 ∷ bytes) ≡ Whole word rest = ap (λ d. bulk_at (d ∷ bytes)) (sym mark) ∙ e in
          let found = behind_mark bytes whole in
          (found.0, ap (λ d. d ∷ bytes) mark ∙ found.1)
      | inr there ↦ absurd (faulty_whole there.1)
    ]
  where
    faulty_whole : Faulty (Dollar c) ≡ Whole word rest → ⊥
    faulty_whole e = cc

    of_length : (bytes : Bytes) (z : ℤ) (mid : Bytes) → is_length z ≡ true → bytes ≡ signed_decimal z ++ 13 ∷ 10 ∷ mid
        → word_at (how_many z) mid ≡ Whole word rest → (length word ≤ most_word_bytes) × (36 ∷ bytes ≡ bulk_text word ++ rest)
    of_length bytes (pos n) mid fit split at =
        let low : n ≤ most_word_bytes = leb-true n most_word_bytes fit in
        let parts = word_found n mid word rest at in (
          omega (arith, parts.0),
          ap (λ bs. 36 ∷ bs) (split ∙ ap (λ bs. decimal n ++ 13 ∷ 10 ∷ bs) parts.1 ∙ ap (λ m. decimal m ++ 13 ∷ 10 ∷ (word ++ 13 ∷ 10 ∷ rest)) (sym parts.0))
              ∙ sym (bulk_split word rest),
        )
    of_length bytes (negsuc n) mid fit split at = cc

    behind_mark : (bytes : Bytes) → bulk_at (36 ∷ bytes) ≡ Whole word rest → (length word ≤ most_word_bytes) × (36 ∷ bytes ≡ bulk_text word ++ rest)
    behind_mark bytes e =
        let parts = then_whole (header_at Length is_length (36 ∷ bytes)) (λ len mid. word_at (how_many len) mid) word rest e in
        let header = header_found Length is_length 36 bytes parts.0 parts.1 refl parts.2 in
        of_length bytes parts.0 parts.1 header.1 header.2 parts.3

abbrev AreShort : List Bytes → Type 0
AreShort words = AllByRecursion (λ word. length word ≤ most_word_bytes) words

bulks_only : (words : List Bytes) (more : Bytes) → AreShort words → bulks_at (length words) (flat_map bulk_text words ++ more) ≡ Whole words more
bulks_only [] more short = refl
bulks_only (word ∷ words) more short =
    ap (bulks_at (suc (length words))) (append_assoc (bulk_text word) (flat_map bulk_text words) more)
    ∙ ap (λ front. front_then front (behind (length words))) (bulk_only word (flat_map bulk_text words ++ more) short.0)
    ∙ ap (λ front. front_then front (λ words' rest'. Whole (word ∷ words') rest')) (bulks_only words more short.1)
  where
    behind : ℕ → Bytes → Bytes → Front (List Bytes)
    behind n word' rest = front_then (bulks_at n rest) (λ words' rest'. Whole (word' ∷ words') rest')

bulks_found : (n : ℕ) (bytes : Bytes) (words : List Bytes) (rest : Bytes) → bulks_at n bytes ≡ Whole words rest
    → (length words ≡ n) × AreShort words × (bytes ≡ flat_map bulk_text words ++ rest)
bulks_found zero bytes words rest e = of_none words (cc e) (cc e)
  where
    of_none : (words : List Bytes) → [] ≡ words → bytes ≡ rest → (length words ≡ 0) × AreShort words × (bytes ≡ flat_map bulk_text words ++ rest)
    of_none [] e same = (refl, tt, same)
    of_none (word ∷ words) e same = cc
bulks_found (suc n) bytes words rest e =
    let first = then_whole (bulk_at bytes) (λ word mid. front_then (bulks_at n mid) (λ words' rest'. Whole (word ∷ words') rest')) words rest e in
    let others = then_whole (bulks_at n first.1) (λ words' rest'. Whole (first.0 ∷ words') rest') words rest first.3 in
    let bulk = bulk_found bytes first.0 first.1 first.2 in
    let bulks = bulks_found n first.1 others.0 others.1 others.2 in
    let same : first.0 ∷ others.0 ≡ words = cc (others.3) in
    let same_rest : others.1 ≡ rest = cc (others.3) in
    subst (λ ws. (length ws ≡ suc n) × AreShort ws × (bytes ≡ flat_map bulk_text ws ++ rest)) same (
      ap suc bulks.0,
      (bulk.0, bulks.1),
      bulk.1 ∙ ap (λ bs. bulk_text first.0 ++ bs) (bulks.2 ∙ ap (λ bs. flat_map bulk_text others.0 ++ bs) same_rest)
          ∙ sym (append_assoc (bulk_text first.0) (flat_map bulk_text others.0) rest),
    )

header_split : (z : ℤ) (body more : Bytes) → 42 ∷ signed_decimal z ++ crlf ++ body ++ more ≡ 42 ∷ (signed_decimal z ++ 13 ∷ 10 ∷ (body ++ more))
header_split z body more = ap (λ bs. 42 ∷ bs) (append_assoc (signed_decimal z ++ crlf) body more ∙ append_assoc (signed_decimal z) crlf (body ++ more))

-- an array's header, and then the bulks
array_by : (z : ℤ) (rest : Bytes) → FitsSigned w64 z → is_count z ≡ true → request_at (42 ∷ (signed_decimal z ++ 13 ∷ 10 ∷ rest)) ≡ bulks_at (how_many z) rest
array_by z rest fits fit = ap (λ front. front_then front (λ count mid. bulks_at (how_many count) mid)) (header_only Count is_count 42 z rest refl fits fit)

array_only : (words : List Bytes) (more : Bytes) → length words ≤ most_words → AreShort words → request_at (array_text words ++ more) ≡ Whole words more
array_only words more few short =
    ap request_at (header_split (pos (length words)) (flat_map bulk_text words) more)
    ∙ array_by (pos (length words)) (flat_map bulk_text words ++ more) (fits_low (length words) (omega arith)) (le-leb (length words) most_words few)
    ∙ bulks_only words more short

empty_only : (z : ℤ) (more : Bytes) → FitsSigned w64 z → z ≤ℤ pos 0 → request_at (42 ∷ signed_decimal z ++ crlf ++ more) ≡ Whole [] more
empty_only z more fits low =
    ap request_at (ap (λ bs. 42 ∷ bs) (append_assoc (signed_decimal z) crlf more))
    ∙ array_by z more fits (counts z low)
    ∙ ap (λ n. bulks_at n more) (none z low)
  where
    counts : (z : ℤ) → z ≤ℤ pos 0 → is_count z ≡ true
    counts (pos n) low = le-leb n most_words (omega (arith, ints))
    counts (negsuc n) low = refl

    none : (z : ℤ) → z ≤ℤ pos 0 → how_many z ≡ 0
    none (pos n) low = omega (arith, ints)
    none (negsuc n) low = refl

-- what an inline line says
abbrev inline_said : Bytes → Bytes → Front (List Bytes)
inline_said line rest = cond (list_any is_quote line) (Faulty Quotes) (Whole (words_of (without_cr line)) rest)

inline_line : (line more : Bytes) → length line ≤ most_inline_bytes → list_any is_lf line ≡ false → list_any is_quote line ≡ false
    → inline_at (line ++ 10 ∷ more) ≡ Whole (words_of (without_cr line)) more
inline_line line more short one unquoted =
    ap (λ front. front_then front inline_said)
    (line_of_line most_inline_bytes Inline line more one ∙ ap (λ b. cond b (Faulty Inline) (Whole line more)) (le-ltb most_inline_bytes (length line) short))
    ∙ ap (λ b. cond b (Faulty Quotes) (Whole (words_of (without_cr line)) more)) unquoted

inline_only : (line more : Bytes) → IsInlineLine line → request_at (line ++ 10 ∷ more) ≡ Whole (words_of (without_cr line)) more
inline_only [] more is = inline_line [] more is.short is.one_line is.unquoted
inline_only (c ∷ line) more is =
    ap (λ b. cond b (array_at (c ∷ (line ++ 10 ∷ more))) (inline_at (c ∷ (line ++ 10 ∷ more)))) (ne_eqb c 42 (λ e. is.first (ap (λ d. d ∷ []) e)))
    ∙ inline_line (c ∷ line) more is.short is.one_line is.unquoted

pub each_is_found : EachIsFound
each_is_found words text (array ws some few short) more = array_only words more few short
each_is_found words text (empty_array z fits low) more = empty_only z more fits low
each_is_found words text (inline line is) more = ap request_at (append_assoc line (10 ∷ []) more) ∙ inline_only line more is

abbrev IsSpelled : Bytes → List Bytes → Bytes → Type 0
IsSpelled bytes words rest = (text : Bytes) × Spells words text × (bytes ≡ text ++ rest)

array_found : (bytes : Bytes) (words : List Bytes) (rest : Bytes) → array_at (42 ∷ bytes) ≡ Whole words rest → IsSpelled (42 ∷ bytes) words rest
array_found bytes words rest e =
    let parts = then_whole (header_at Count is_count (42 ∷ bytes)) (λ count mid. bulks_at (how_many count) mid) words rest e in
    let header = header_found Count is_count 42 bytes parts.0 parts.1 refl parts.2 in
    of_count parts.0 parts.1 header.0 header.1 header.2 parts.3
  where
    of_none : (z : ℤ) (mid : Bytes) → FitsSigned w64 z → z ≤ℤ pos 0 → bytes ≡ signed_decimal z ++ 13 ∷ 10 ∷ mid → Whole [] mid ≡ Whole words rest
        → IsSpelled (42 ∷ bytes) words rest
    of_none z mid fits low split same =
        let none : [] ≡ words = cc same in
        let left : mid ≡ rest = cc same in
        subst (λ ws. IsSpelled (42 ∷ bytes) ws rest) none (
          42 ∷ signed_decimal z ++ crlf,
          empty_array z fits low,
          ap (λ bs. 42 ∷ bs) (split ∙ ap (λ bs. signed_decimal z ++ 13 ∷ 10 ∷ bs) left ∙ sym (append_assoc (signed_decimal z) crlf rest)),
        )

    of_count : (z : ℤ) (mid : Bytes) → FitsSigned w64 z → is_count z ≡ true → bytes ≡ signed_decimal z ++ 13 ∷ 10 ∷ mid
        → bulks_at (how_many z) mid ≡ Whole words rest → IsSpelled (42 ∷ bytes) words rest
    of_count (negsuc n) mid fits fit split at = of_none (negsuc n) mid fits (omega (arith, ints)) split at
    of_count (pos zero) mid fits fit split at = of_none (pos 0) mid fits (omega (arith, ints)) split at
    of_count (pos (suc n)) mid fits fit split at =
        let few : suc n ≤ most_words = leb-true (suc n) most_words fit in
        let found = bulks_found (suc n) mid words rest at in (
          array_text words,
          array words (omega (arith, found.0)) (omega (arith, found.0)) found.1,
          ap (λ bs. 42 ∷ bs) (split ∙ ap (λ bs. decimal (suc n) ++ 13 ∷ 10 ∷ bs) found.2
              ∙ ap (λ m. decimal m ++ 13 ∷ 10 ∷ (flat_map bulk_text words ++ rest)) (sym found.0))
              ∙ sym (header_split (pos (length words)) (flat_map bulk_text words) rest),
        )

inline_found : (c : ℕ) (bytes : Bytes) (words : List Bytes) (rest : Bytes) → eqb c 42 ≡ false → inline_at (c ∷ bytes) ≡ Whole words rest
    → IsSpelled (c ∷ bytes) words rest
inline_found c bytes words rest other e =
    let parts = then_whole (line_at most_inline_bytes Inline (c ∷ bytes)) inline_said words rest e in
    let line = parts.0 in
    let found = line_found most_inline_bytes Inline (c ∷ bytes) line parts.1 parts.2 in
    elim (chosen (list_any is_quote line) (Faulty Quotes) _ (Whole words rest) parts.3) [
      | inl here ↦ absurd (faulty_whole here.1)
      | inr there ↦
          let same : words_of (without_cr line) ≡ words = cc (there.1) in
          let left : parts.1 ≡ rest = cc (there.1) in
          let is : IsInlineLine line = record { first = no_star line parts.1 found.2; short = found.1; one_line = found.0; unquoted = there.0 } in
          subst (λ ws. IsSpelled (c ∷ bytes) ws rest) same
          (line ++ 10 ∷ [], inline line is, found.2 ∙ ap (λ bs. line ++ 10 ∷ bs) left ∙ sym (append_assoc line (10 ∷ []) rest))
    ]
  where
    faulty_whole : Faulty Quotes ≡ Whole words rest → ⊥
    faulty_whole e = cc

    no_star : (line mid : Bytes) → c ∷ bytes ≡ line ++ 10 ∷ mid → take 1 line ≡ 42 ∷ [] → ⊥
    no_star [] mid split star = cc
    no_star (d ∷ line) mid split star = eqb-false c 42 other (ap (λ s. get_or s 0 0) split ∙ ap (λ s. get_or s 0 0) star)

pub each_is_spelled : EachIsSpelled
each_is_spelled [] rest words e = absurd (partial_whole e)
  where
    partial_whole : Partial ≡ Whole words rest → ⊥
    partial_whole e = cc
each_is_spelled (c ∷ bytes) rest words e =
    elim (chosen (eqb c 42) (array_at (c ∷ bytes)) (inline_at (c ∷ bytes)) (Whole words rest) e) [
      | inl here ↦
          let star : c ≡ 42 = eqb-true c 42 here.0 in
          subst (λ d. IsSpelled (d ∷ bytes) words rest) (sym star) (array_found bytes words rest (ap (λ d. array_at (d ∷ bytes)) (sym star) ∙ here.1))
      | inr there ↦ inline_found c bytes words rest there.0 there.1
    ]
