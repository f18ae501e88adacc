-- What stands at the front of bytes stays there when more bytes come, and leaves less of them.
use Rattle.std.proofs.Common.{◌≡◌, ℕ, zero, suc, ◌+◌, ◌<◌, ◌≤◌, Bool, true, false, not, ◌&&◌, cond, eqb, ltb, List, [], ◌∷◌, ◌++◌, length, take, drop, Option, Some, None, ℤ, ◌⊎◌, inl, inr, refl, sym, ap, ◌∙◌, subst, arith, append_assoc, length-append}
use Rattle.std.proofs.lemmas.List.{append-nil, drop_at, take-append-le, drop-append-le, length-drop}
use Rattle.std.proofs.lemmas.List.Sums.{take_while-cons}
use Rattle.std.proofs.lemmas.List.Folds.{list_any-append}
use Rattle.std.proofs.lemmas.Bool.{cases_Bool, or_parts, or_from, ltb-true, ltb-false, eqb-true, lt-ltb, le-ltb, eq-eqb, ne_eqb}
use Rattle.std.specs.List.{list_any, take_while}
use Rattle.nr_model.specs.declared.fault.Fault.{Fault}
use Rattle.nr_model.specs.declared.fault.Fault.TheVariants.{Count, Length, Dollar, Inline, LineEnd, Quotes}
use Rattle.nr_model.specs.Bytes.{Bytes}
use Rattle.nr_model.specs.Numbers.{int_value}
use Rattle.nr_model.specs.Requests.{Front, Whole, Faulty, Partial, front_then, most_header_bytes, most_inline_bytes, line_at, number_or, header_at, is_count, is_length, how_many, ending_at, word_at, bulk_at, bulks_at, array_at, inline_at, request_at, ends_with_cr, without_last, without_cr, words_of, is_quote}
use Rattle.nr_model.specs.Requests.Laws.{Extends}

-- LF
abbrev pub is_lf : ℕ → Bool
is_lf c = eqb c 10

-- what is left satisfies P
abbrev pub Leaves : {A : Type 0} → (Bytes → Type 0) → Front A → Type 0
Leaves P (Whole a rest) = P rest
Leaves P (Faulty fault) = Unit {0}
Leaves P Partial = Unit {0}

pub then_extends : {A B : Type 0} (front front' : Front A) (next : A → Bytes → Front B) (more : Bytes) → Extends front more front'
    → ((a : A) (rest : Bytes) → Extends (next a rest) more (next a (rest ++ more))) → Extends (front_then front next) more (front_then front' next)
then_extends (Whole a rest) front' next more e each = subst (λ f. Extends (next a rest) more (front_then f next)) (sym e) (each a rest)
then_extends (Faulty fault) front' next more e each = ap (λ f. front_then f next) e
then_extends Partial front' next more e each = tt

pub then_leaves : {A B : Type 0} (P Q : Bytes → Type 0) (front : Front A) (next : A → Bytes → Front B) → Leaves P front
    → ((a : A) (rest : Bytes) → P rest → Leaves Q (next a rest)) → Leaves Q (front_then front next)
then_leaves P Q (Whole a rest) next left each = each a rest left
then_leaves P Q (Faulty fault) next left each = tt
then_leaves P Q Partial next left each = tt

-- bytes have no LF, or a line and what is behind its LF
pub lines : (bytes : Bytes) → (list_any is_lf bytes ≡ false) ⊎ ((line : Bytes) × (rest : Bytes) × (list_any is_lf line ≡ false) × (bytes ≡ line ++ 10 ∷ rest))
lines [] = inl refl
lines (c ∷ bytes) =
    elim (cases_Bool (is_lf c)) [
      | inl e ↦ inr ([], bytes, refl, ap (λ d. d ∷ bytes) (eqb-true c 10 e))
      | inr e ↦ elim (lines bytes) [
        | inl none ↦ inl (or_from (is_lf c) (list_any is_lf bytes) e none)
        | inr found ↦ inr (c ∷ found.0, found.1, or_from (is_lf c) (list_any is_lf found.0) e found.2, ap (λ bs. c ∷ bs) found.3)
      ]
    ]

pub before_lf : (line rest : Bytes) → list_any is_lf line ≡ false
    → take_while (λ c. not (is_lf c)) (line ++ rest) ≡ line ++ take_while (λ c. not (is_lf c)) rest
before_lf [] rest none = refl
before_lf (c ∷ line) rest none =
    let parts = or_parts (is_lf c) (list_any is_lf line) none in
    take_while-cons (λ c. not (is_lf c)) c (line ++ rest)
    ∙ ap (λ b. cond (not b) (c ∷ take_while (λ c. not (is_lf c)) (line ++ rest)) []) parts.0
    ∙ ap (λ bs. c ∷ bs) (before_lf line rest parts.1)

-- line_at where the line is known
abbrev pub pick : ℕ → Fault → Bytes → Bytes → Front Bytes
pick most fault bytes line =
    cond (ltb most (length line)) (Faulty fault) (cond (eqb (length line) (length bytes)) Partial (Whole line (drop (length line + 1) bytes)))

pub line_of_open : (most : ℕ) (fault : Fault) (bytes : Bytes) → list_any is_lf bytes ≡ false
    → line_at most fault bytes ≡ cond (ltb most (length bytes)) (Faulty fault) Partial
line_of_open most fault bytes none =
    let all : take_while (λ c. not (is_lf c)) bytes ≡ bytes =
    ap (take_while (λ c. not (is_lf c))) (sym (append-nil bytes)) ∙ before_lf bytes [] none ∙ append-nil bytes in
    ap (pick most fault bytes) all
    ∙ ap (λ b. cond (ltb most (length bytes)) (Faulty fault) (cond b Partial (Whole bytes (drop (length bytes + 1) bytes))))
    (eq-eqb (length bytes) (length bytes) refl)

pub line_of_line : (most : ℕ) (fault : Fault) (line rest : Bytes) → list_any is_lf line ≡ false
    → line_at most fault (line ++ 10 ∷ rest) ≡ cond (ltb most (length line)) (Faulty fault) (Whole line rest)
line_of_line most fault line rest none =
    let bytes : Bytes = line ++ 10 ∷ rest in
    let front : take_while (λ c. not (is_lf c)) bytes ≡ line = before_lf line (10 ∷ rest) none ∙ append-nil line in
    let size : length bytes ≡ length line + suc (length rest) = length-append line (10 ∷ rest) in
    let some_left : eqb (length line) (length bytes) ≡ false = ne_eqb (length line) (length bytes) (λ e. omega (arith, size, e)) in
    let behind : drop (length line + 1) bytes ≡ rest =
    ap (drop (length line + 1)) (sym (append_assoc line (10 ∷ []) rest)) ∙ drop_at (line ++ 10 ∷ []) rest (length line + 1) (length-append line (10 ∷ [])) in
    ap (pick most fault bytes) front
    ∙ ap (λ b. cond (ltb most (length line)) (Faulty fault) (cond b Partial (Whole line (drop (length line + 1) bytes)))) some_left
    ∙ ap (λ bs. cond (ltb most (length line)) (Faulty fault) (Whole line bs)) behind

two_ways : (most : ℕ) (fault : Fault) (a b : ℕ) (bytes : Bytes) (front : Front Bytes) → a ≤ b
    → Extends (cond (ltb most a) (Faulty fault) Partial) bytes (cond (ltb most b) (Faulty fault) front)
two_ways most fault a b bytes front le =
    elim (cases_Bool (ltb most a)) [
      | inl e ↦
          let more : ltb most b ≡ true = lt-ltb most b (let h = ltb-true most a e in omega arith) in
          let here : cond (ltb most b) (Faulty fault) front ≡ Faulty fault = ap (λ b. cond b (Faulty fault) front) more in
          subst (λ b'. Extends (cond b' (Faulty fault) Partial) bytes (cond (ltb most b) (Faulty fault) front)) (sym e) here
      | inr e ↦ subst (λ b'. Extends (cond b' (Faulty fault) Partial) bytes (cond (ltb most b) (Faulty fault) front)) (sym e) tt
    ]

pub line_extends : (most : ℕ) (fault : Fault) (bytes more : Bytes) → Extends (line_at most fault bytes) more (line_at most fault (bytes ++ more))
line_extends most fault bytes more =
    elim (lines bytes) [
      | inl none ↦
          let target : (front : Front Bytes) → Type 0 = λ front. Extends front more (line_at most fault (bytes ++ more)) in
          subst target (sym (line_of_open most fault bytes none)) (open_extends most fault bytes more none)
      | inr found ↦
          let line = found.0 in
          let rest = found.1 in
          let here : line_at most fault bytes ≡ cond (ltb most (length line)) (Faulty fault) (Whole line rest) =
          ap (line_at most fault) found.3 ∙ line_of_line most fault line rest found.2 in
          let there : line_at most fault (bytes ++ more) ≡ cond (ltb most (length line)) (Faulty fault) (Whole line (rest ++ more)) =
          ap (λ bs. line_at most fault (bs ++ more)) found.3 ∙ ap (line_at most fault) (append_assoc line (10 ∷ rest) more)
          ∙ line_of_line most fault line (rest ++ more) found.2 in
          rw (here, there) (pick_extends fault line rest more (ltb most (length line)))
    ]
  where
    pick_extends : (fault : Fault) (line rest more : Bytes) (b : Bool)
        → Extends (cond b (Faulty fault) (Whole line rest)) more (cond b (Faulty fault) (Whole line (rest ++ more)))
    pick_extends fault line rest more true = refl
    pick_extends fault line rest more false = refl

    open_extends : (most : ℕ) (fault : Fault) (bytes more : Bytes) → list_any is_lf bytes ≡ false
        → Extends (cond (ltb most (length bytes)) (Faulty fault) Partial) more (line_at most fault (bytes ++ more))
    open_extends most fault bytes more none =
        elim (lines more) [
          | inl none' ↦
              let no_lf : list_any is_lf (bytes ++ more) ≡ false = list_any-append is_lf bytes more ∙ or_from _ _ none none' in
              rw (line_of_open most fault (bytes ++ more) no_lf)
              (two_ways most fault (length bytes) (length (bytes ++ more)) more Partial (omega (arith, length-append bytes more)))
          | inr found ↦
              let line : Bytes = bytes ++ found.0 in
              let no_lf : list_any is_lf line ≡ false = list_any-append is_lf bytes found.0 ∙ or_from _ _ none found.2 in
              let split : bytes ++ more ≡ line ++ 10 ∷ found.1 = ap (λ bs. bytes ++ bs) found.3 ∙ sym (append_assoc bytes found.0 (10 ∷ found.1)) in
              let there : line_at most fault (bytes ++ more) ≡ cond (ltb most (length line)) (Faulty fault) (Whole line found.1) =
              ap (line_at most fault) split ∙ line_of_line most fault line found.1 no_lf in
              rw there (two_ways most fault (length bytes) (length line) more (Whole line found.1) (omega (arith, length-append bytes found.0)))
        ]

closed_leaves : (fault : Fault) (n : ℕ) (b : Bool) → Leaves {A = Bytes} (λ rest. length rest < n) (cond b (Faulty fault) Partial)
closed_leaves fault n true = tt
closed_leaves fault n false = tt

picked_leaves : (fault : Fault) (n : ℕ) (line rest : Bytes) → length rest < n → (b : Bool)
    → Leaves {A = Bytes} (λ rest. length rest < n) (cond b (Faulty fault) (Whole line rest))
picked_leaves fault n line rest less true = tt
picked_leaves fault n line rest less false = less

pub line_leaves : (most : ℕ) (fault : Fault) (bytes : Bytes) → Leaves (λ rest. length rest < length bytes) (line_at most fault bytes)
line_leaves most fault bytes =
    elim (lines bytes) [
      | inl none ↦ rw (line_of_open most fault bytes none) (closed_leaves fault (length bytes) (ltb most (length bytes)))
      | inr found ↦
          let here : line_at most fault bytes ≡ cond (ltb most (length found.0)) (Faulty fault) (Whole found.0 found.1) =
          ap (line_at most fault) found.3 ∙ line_of_line most fault found.0 found.1 found.2 in
          let less : length found.1 < length bytes = rw found.3 (omega (arith, length-append found.0 (10 ∷ found.1))) in
          rw here (picked_leaves fault (length bytes) found.0 found.1 less (ltb most (length found.0)))
    ]

-- what follows a line says nothing of what is behind it
number_extends : (fault : Fault) (fits : ℤ → Bool) (number : Option ℤ) (rest more : Bytes)
    → Extends (number_or fault fits number rest) more (number_or fault fits number (rest ++ more))
number_extends fault fits None rest more = refl
number_extends fault fits (Some number) rest more = by_test (fits number)
  where
    by_test : (b : Bool) → Extends {A = ℤ} (cond b (Whole number rest) (Faulty fault)) more (cond b (Whole number (rest ++ more)) (Faulty fault))
    by_test true = refl
    by_test false = refl

number_leaves : (P : Bytes → Type 0) (fault : Fault) (fits : ℤ → Bool) (number : Option ℤ) (rest : Bytes) → P rest → Leaves P (number_or fault fits number rest)
number_leaves P fault fits None rest left = tt
number_leaves P fault fits (Some number) rest left = by_test (fits number)
  where
    by_test : (b : Bool) → Leaves {A = ℤ} P (cond b (Whole number rest) (Faulty fault))
    by_test true = left
    by_test false = tt

test_extends : {A : Type 0} (front front' : Front A) (fault : Fault) (more : Bytes) → Extends front more front' → (b : Bool)
    → Extends (cond b front (Faulty fault)) more (cond b front' (Faulty fault))
test_extends front front' fault more e true = e
test_extends front front' fault more e false = refl

test_leaves : {A : Type 0} (P : Bytes → Type 0) (front : Front A) (fault : Fault) → Leaves P front → (b : Bool) → Leaves P (cond b front (Faulty fault))
test_leaves P front fault left true = left
test_leaves P front fault left false = tt

pub header_extends : (fault : Fault) (fits : ℤ → Bool) (bytes more : Bytes) → Extends (header_at fault fits bytes) more (header_at fault fits (bytes ++ more))
header_extends fault fits bytes more =
    then_extends (line_at most_header_bytes fault bytes) (line_at most_header_bytes fault (bytes ++ more)) _ more
    (line_extends most_header_bytes fault bytes more)
    (λ line rest. test_extends _ _ LineEnd more (number_extends fault fits (int_value (drop 1 (without_last line))) rest more) (ends_with_cr line))

pub header_leaves : (fault : Fault) (fits : ℤ → Bool) (bytes : Bytes) → Leaves (λ rest. length rest < length bytes) (header_at fault fits bytes)
header_leaves fault fits bytes =
    let P : Bytes → Type 0 = λ rest. length rest < length bytes in
    then_leaves P P (line_at most_header_bytes fault bytes) _ (line_leaves most_header_bytes fault bytes)
    (λ line rest left. test_leaves P _ LineEnd (number_leaves P fault fits (int_value (drop 1 (without_last line))) rest left) (ends_with_cr line))

ending_extends : (word bytes more : Bytes) → Extends (ending_at word bytes) more (ending_at word (bytes ++ more))
ending_extends word [] more = tt
ending_extends word (c ∷ []) [] = by_test (eqb c 13)
  where
    by_test : (b : Bool) → Extends {A = Bytes} (cond b Partial (Faulty LineEnd)) [] (cond b Partial (Faulty LineEnd))
    by_test true = tt
    by_test false = refl
ending_extends word (c ∷ []) (d ∷ more) = by_test (eqb c 13)
  where
    by_test : (b : Bool) → Extends {A = Bytes} (cond b Partial (Faulty LineEnd)) (d ∷ more) (cond (b && eqb d 10) (Whole word more) (Faulty LineEnd))
    by_test true = tt
    by_test false = refl
ending_extends word (c ∷ d ∷ rest) more = test_extends (Whole word rest) (Whole word (rest ++ more)) LineEnd more refl (eqb c 13 && eqb d 10)

ending_leaves : (word bytes : Bytes) → Leaves (λ rest. length rest ≤ length bytes) (ending_at word bytes)
ending_leaves word [] = tt
ending_leaves word (c ∷ []) = by_test (eqb c 13)
  where
    by_test : (b : Bool) → Leaves {A = Bytes} (λ rest. length rest ≤ length (c ∷ [])) (cond b Partial (Faulty LineEnd))
    by_test true = tt
    by_test false = tt
ending_leaves word (c ∷ d ∷ rest) = test_leaves (λ rest'. length rest' ≤ length (c ∷ d ∷ rest)) (Whole word rest) LineEnd
    (let h : length rest ≤ length (c ∷ d ∷ rest) = omega arith in h) (eqb c 13 && eqb d 10)

word_extends : (len : ℕ) (bytes more : Bytes) → Extends (word_at len bytes) more (word_at len (bytes ++ more))
word_extends len bytes more =
    elim (cases_Bool (ltb (length bytes) len)) [
      | inl e ↦ subst (λ b. Extends (cond b Partial (ending_at (take len bytes) (drop len bytes))) more (word_at len (bytes ++ more))) (sym e) tt
      | inr e ↦
          let enough : len ≤ length bytes = ltb-false (length bytes) len e in
          let here : word_at len bytes ≡ ending_at (take len bytes) (drop len bytes) =
          ap (λ b. cond b Partial (ending_at (take len bytes) (drop len bytes))) e in
          let longer : ltb (length (bytes ++ more)) len ≡ false = le-ltb (length (bytes ++ more)) len (omega (arith, length-append bytes more)) in
          let there : word_at len (bytes ++ more) ≡ ending_at (take len bytes) (drop len bytes ++ more) =
          ap (λ b. cond b Partial (ending_at (take len (bytes ++ more)) (drop len (bytes ++ more)))) longer
          ∙ ap (λ word. ending_at word (drop len (bytes ++ more))) (take-append-le len bytes more enough)
          ∙ ap (ending_at (take len bytes)) (drop-append-le len bytes more enough) in
          rw (here, there) (ending_extends (take len bytes) (drop len bytes) more)
    ]

leaves_under : {A : Type 0} (P Q : Bytes → Type 0) (front : Front A) → ((rest : Bytes) → P rest → Q rest) → Leaves P front → Leaves Q front
leaves_under P Q (Whole a rest) each left = each rest left
leaves_under P Q (Faulty fault) each left = tt
leaves_under P Q Partial each left = tt

word_leaves : (len : ℕ) (bytes : Bytes) → Leaves (λ rest. length rest ≤ length bytes) (word_at len bytes)
word_leaves len bytes =
    by_test (leaves_under (λ rest. length rest ≤ length (drop len bytes)) (λ rest. length rest ≤ length bytes) (ending_at (take len bytes) (drop len bytes))
    (λ rest h. omega (arith, length-drop len bytes)) (ending_leaves (take len bytes) (drop len bytes)))
    (ltb (length bytes) len)
  where
    by_test : Leaves (λ rest. length rest ≤ length bytes) (ending_at (take len bytes) (drop len bytes)) → (b : Bool)
        → Leaves {A = Bytes} (λ rest. length rest ≤ length bytes) (cond b Partial (ending_at (take len bytes) (drop len bytes)))
    by_test left true = tt
    by_test left false = left

pub bulk_extends : (bytes more : Bytes) → Extends (bulk_at bytes) more (bulk_at (bytes ++ more))
bulk_extends [] more = tt
bulk_extends (c ∷ bytes) more =
    test_extends _ _ (Dollar c) more
    (then_extends (header_at Length is_length (c ∷ bytes)) (header_at Length is_length (c ∷ bytes ++ more)) _ more
    (header_extends Length is_length (c ∷ bytes) more)
    (λ len rest. word_extends (how_many len) rest more)) (eqb c 36)

pub bulk_leaves : (bytes : Bytes) → Leaves (λ rest. length rest < length bytes) (bulk_at bytes)
bulk_leaves [] = tt
bulk_leaves (c ∷ bytes) =
    let P : Bytes → Type 0 = λ rest. length rest < length (c ∷ bytes) in
    test_leaves P _ (Dollar c)
    (then_leaves P P (header_at Length is_length (c ∷ bytes)) _ (header_leaves Length is_length (c ∷ bytes))
    (λ len rest left. leaves_under (λ rest'. length rest' ≤ length rest) P (word_at (how_many len) rest) (λ rest' h. omega arith)
    (word_leaves (how_many len) rest))) (eqb c 36)

pub bulks_extends : (n : ℕ) (bytes more : Bytes) → Extends (bulks_at n bytes) more (bulks_at n (bytes ++ more))
bulks_extends zero bytes more = refl
bulks_extends (suc n) bytes more =
    then_extends (bulk_at bytes) (bulk_at (bytes ++ more)) _ more (bulk_extends bytes more)
    (λ word rest. then_extends (bulks_at n rest) (bulks_at n (rest ++ more)) _ more (bulks_extends n rest more) (λ words rest'. refl))

pub bulks_leaves : (n : ℕ) (bytes : Bytes) → Leaves (λ rest. length rest ≤ length bytes) (bulks_at n bytes)
bulks_leaves zero bytes = let h : length bytes ≤ length bytes = omega arith in h
bulks_leaves (suc n) bytes =
    let P : Bytes → Type 0 = λ rest. length rest < length bytes in
    let Q : Bytes → Type 0 = λ rest. length rest ≤ length bytes in
    then_leaves P Q (bulk_at bytes) _ (bulk_leaves bytes)
    (λ word rest left. then_leaves Q Q (bulks_at n rest) _
    (leaves_under (λ rest'. length rest' ≤ length rest) Q (bulks_at n rest) (λ rest' h. omega arith) (bulks_leaves n rest)) (λ words rest' h. h))

array_extends : (bytes more : Bytes) → Extends (array_at bytes) more (array_at (bytes ++ more))
array_extends bytes more =
    then_extends (header_at Count is_count bytes) (header_at Count is_count (bytes ++ more)) _ more (header_extends Count is_count bytes more)
    (λ count rest. bulks_extends (how_many count) rest more)

array_leaves : (bytes : Bytes) → Leaves (λ rest. length rest < length bytes) (array_at bytes)
array_leaves bytes =
    let P : Bytes → Type 0 = λ rest. length rest < length bytes in
    then_leaves P P (header_at Count is_count bytes) _ (header_leaves Count is_count bytes)
    (λ count rest left. leaves_under (λ rest'. length rest' ≤ length rest) P (bulks_at (how_many count) rest) (λ rest' h. omega arith)
    (bulks_leaves (how_many count) rest))

quotes_extend : (words : List Bytes) (rest more : Bytes) (b : Bool)
    → Extends (cond b (Faulty Quotes) (Whole words rest)) more (cond b (Faulty Quotes) (Whole words (rest ++ more)))
quotes_extend words rest more true = refl
quotes_extend words rest more false = refl

quotes_leave : (P : Bytes → Type 0) (words : List Bytes) (rest : Bytes) → P rest → (b : Bool)
    → Leaves {A = List Bytes} P (cond b (Faulty Quotes) (Whole words rest))
quotes_leave P words rest left true = tt
quotes_leave P words rest left false = left

inline_extends : (bytes more : Bytes) → Extends (inline_at bytes) more (inline_at (bytes ++ more))
inline_extends bytes more =
    then_extends (line_at most_inline_bytes Inline bytes) (line_at most_inline_bytes Inline (bytes ++ more)) _ more
    (line_extends most_inline_bytes Inline bytes more)
    (λ line rest. quotes_extend (words_of (without_cr line)) rest more (list_any is_quote line))

inline_leaves : (bytes : Bytes) → Leaves (λ rest. length rest < length bytes) (inline_at bytes)
inline_leaves bytes =
    let P : Bytes → Type 0 = λ rest. length rest < length bytes in
    then_leaves P P (line_at most_inline_bytes Inline bytes) _ (line_leaves most_inline_bytes Inline bytes)
    (λ line rest left. quotes_leave P (words_of (without_cr line)) rest left (list_any is_quote line))

pub request_extends : (bytes more : Bytes) → Extends (request_at bytes) more (request_at (bytes ++ more))
request_extends [] more = tt
request_extends (c ∷ bytes) more = by_test (eqb c 42)
  where
    by_test : (b : Bool) → Extends {A = List Bytes} (cond b (array_at (c ∷ bytes)) (inline_at (c ∷ bytes))) more
        (cond b (array_at (c ∷ bytes ++ more)) (inline_at (c ∷ bytes ++ more)))
    by_test true = array_extends (c ∷ bytes) more
    by_test false = inline_extends (c ∷ bytes) more

pub request_leaves : (bytes : Bytes) → Leaves (λ rest. length rest < length bytes) (request_at bytes)
request_leaves [] = tt
request_leaves (c ∷ bytes) = by_test (eqb c 42)
  where
    by_test : (b : Bool) → Leaves {A = List Bytes} (λ rest. length rest < length (c ∷ bytes)) (cond b (array_at (c ∷ bytes)) (inline_at (c ∷ bytes)))
    by_test true = array_leaves (c ∷ bytes)
    by_test false = inline_leaves (c ∷ bytes)
