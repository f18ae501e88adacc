-- The words of a line, read byte by byte: what a reader has when it stops at a blank or at the end.
use Rattle.std.proofs.Common.{◌≡◌, ℕ, suc, ◌+◌, ◌-◌, ◌<◌, ◌≤◌, ◌≢◌, Bool, true, false, ◌&&◌, cond, eqb, List, [], ◌∷◌, ◌++◌, length, take, drop, get_or, Option, Some, None, refl, sym, ap, ◌∙◌, arith}
use Rattle.std.specs.Prelude.{bytes_eq, Vec, vec_len}
use Rattle.std.specs.List.{list_any}
use Rattle.std.specs.Option.{MatchOption}
use Rattle.std.specs.Borrow.{Bor}
use Rattle.std.specs.declared.alloc.Global.{Global}
use Rattle.std.proofs.lemmas.List.{drop_more, drop_all, append-nil, append_assoc}
use Rattle.std.proofs.lemmas.List.Folds.{list_any-append}
use Rattle.std.proofs.lemmas.Bool.{or_parts, or_from, eqb-true, eqb-false}
use Rattle.nr_model.specs.Bytes.{Bytes}
use Rattle.nr_model.specs.Requests.{Front, Whole, front_then, ends_with_cr, without_last, is_blank, begins_blank, onto_first, words_of}

-- a CR at the end, by the line's last byte
pub ends_by_suffix : (line : Bytes) → ends_with_cr line ≡ bytes_eq (drop (length line - 1) line) (13 ∷ [])
ends_by_suffix [] = refl
ends_by_suffix (c ∷ []) = elim (eqb c 13) as (λ b. b ≡ (b && true)) [ true ↦ refl | false ↦ refl ]
ends_by_suffix (c ∷ d ∷ line) =
    let size : suc (suc (length line)) - 1 ≡ suc (suc (length line) - 1) = omega arith in
    ends_by_suffix (d ∷ line) ∙ ap (λ n. bytes_eq (drop n (c ∷ d ∷ line)) (13 ∷ [])) (sym size)

pub cr_by_suffix : (line : Bytes) (r : Option (Bor (List ℕ)))
    → MatchOption r (bytes_eq (drop (length line - 1) line) (13 ∷ []) ≡ false)
    (λ x. (bytes_eq (drop (length line - 1) line) (13 ∷ []) ≡ true) × (x.now ≡ take (length line - 1) line) × (length x.now + 1 ≡ length line))
    → MatchOption r (ends_with_cr line ≡ false) (λ front. (ends_with_cr line ≡ true) × (front.now ≡ without_last line))
cr_by_suffix line None h = ends_by_suffix line ∙ h
cr_by_suffix line (Some front) h = (ends_by_suffix line ∙ h.0, h.1)

-- words that were read before, and those that are still read
abbrev pub with_front : List Bytes → Front (List Bytes) → Front (List Bytes)
with_front front read = front_then read (λ words rest. Whole (front ++ words) rest)

-- a word ends before a blank
word_before : (c : ℕ) (word rest : Bytes) → list_any is_blank (c ∷ word) ≡ false → begins_blank rest ≡ true
    → words_of (c ∷ word ++ rest) ≡ (c ∷ word) ∷ words_of rest
word_before c [] rest none blank =
    let first = or_parts (is_blank c) false none in
    ap (λ b. cond b (words_of rest) (cond (begins_blank rest) ((c ∷ []) ∷ words_of rest) (onto_first c (words_of rest)))) first.0
    ∙ ap (λ b. cond b ((c ∷ []) ∷ words_of rest) (onto_first c (words_of rest))) blank
word_before c (d ∷ word) rest none blank =
    let first = or_parts (is_blank c) (list_any is_blank (d ∷ word)) none in
    let second = or_parts (is_blank d) (list_any is_blank word) first.1 in
    let ws = words_of (d ∷ word ++ rest) in
    ap (λ b. cond b ws (cond (is_blank d) ((c ∷ []) ∷ ws) (onto_first c ws))) first.0
    ∙ ap (λ b. cond b ((c ∷ []) ∷ ws) (onto_first c ws)) second.0
    ∙ ap (onto_first c) (word_before d word rest first.1 blank)

blank_step : (c : ℕ) (rest : Bytes) → is_blank c ≡ true → words_of (c ∷ rest) ≡ words_of rest
blank_step c rest blank = ap (λ b. cond b (words_of rest) (cond (begins_blank rest) ((c ∷ []) ∷ words_of rest) (onto_first c (words_of rest)))) blank

pub blank_behind : (words : List Bytes) (word : Bytes) (c : ℕ) (rest : Bytes) (total : List Bytes) → list_any is_blank word ≡ false
    → is_blank c ≡ true → 0 < length word
    → words ++ words_of (word ++ c ∷ rest) ≡ total → (words ++ word ∷ []) ++ words_of rest ≡ total
blank_behind words [] c rest total none blank some so_far = absurd (omega arith)
blank_behind words (d ∷ word) c rest total none blank some so_far =
    append_assoc words ((d ∷ word) ∷ []) (words_of rest)
    ∙ ap (λ ws. words ++ (d ∷ word) ∷ ws) (sym (blank_step c rest blank))
    ∙ ap (λ ws. words ++ ws) (sym (word_before d word (c ∷ rest) none blank))
    ∙ so_far

pub blank_alone : (words : List Bytes) (word : Bytes) (c : ℕ) (rest : Bytes) (total : List Bytes) → is_blank c ≡ true → length word ≡ 0
    → words ++ words_of (word ++ c ∷ rest) ≡ total → words ++ words_of (word ++ rest) ≡ total
blank_alone words [] c rest total blank none so_far = ap (λ ws. words ++ ws) (sym (blank_step c rest blank)) ∙ so_far
blank_alone words (d ∷ word) c rest total blank none so_far = absurd (omega arith)

pub word_at_end : (words : List Bytes) (word : Bytes) (total : List Bytes) → list_any is_blank word ≡ false → 0 < length word
    → words ++ words_of (word ++ []) ≡ total → words ++ word ∷ [] ≡ total
word_at_end words [] total none some so_far = absurd (omega arith)
word_at_end words (d ∷ word) total none some so_far = ap (λ ws. words ++ ws) (sym (word_before d word [] none refl)) ∙ so_far

pub no_word_at_end : (words : List Bytes) (word : Bytes) (total : List Bytes) → length word ≡ 0 → words ++ words_of (word ++ []) ≡ total → words ≡ total
no_word_at_end words [] total none so_far = sym (append-nil words) ∙ so_far
no_word_at_end words (d ∷ word) total none so_far = absurd (omega arith)

-- the words so far, with the next byte apart, and with it in the open word
pub byte_apart : (words : List Bytes) (word line : Bytes) (i : ℕ) (total : List Bytes) → i < length line → words ++ words_of (word ++ drop i line) ≡ total
    → words ++ words_of (word ++ get_or line i 0 ∷ drop (i + 1) line) ≡ total
byte_apart words word line i total lt so_far = ap (λ rest. words ++ words_of (word ++ rest)) (sym (drop_more line i 0 lt)) ∙ so_far

pub byte_joined : (words : List Bytes) (word line : Bytes) (i : ℕ) (total : List Bytes) → i < length line → words ++ words_of (word ++ drop i line) ≡ total
    → words ++ words_of ((word ++ get_or line i 0 ∷ []) ++ drop (i + 1) line) ≡ total
byte_joined words word line i total lt so_far =
    ap (λ bs. words ++ words_of bs) (append_assoc word (get_or line i 0 ∷ []) (drop (i + 1) line)) ∙ byte_apart words word line i total lt so_far

pub still_unparted : (word : Bytes) (c : ℕ) → list_any is_blank word ≡ false → is_blank c ≡ false → list_any is_blank (word ++ c ∷ []) ≡ false
still_unparted word c none other = list_any-append is_blank word (c ∷ []) ∙ or_from _ _ none (or_from _ _ other refl)

pub at_end : (words : List Bytes) (word line : Bytes) (i : ℕ) (total : List Bytes) → length line ≤ i → words ++ words_of (word ++ drop i line) ≡ total
    → words ++ words_of (word ++ []) ≡ total
at_end words word line i total le so_far = ap (λ rest. words ++ words_of (word ++ rest)) (sym (drop_all i line le)) ∙ so_far

-- what `is_empty` says of a Vec
pub vec_some : {X : Type 0} (v : Vec X Global) (b : Bool) → b ≡ eqb (vec_len v) 0 → b ≡ false → 0 < length v.items
vec_some v b e test = let ne : vec_len v ≢ 0 = eqb-false (vec_len v) 0 (sym e ∙ test) in omega (arith, v.ok.0)

pub vec_none : {X : Type 0} (v : Vec X Global) (b : Bool) → b ≡ eqb (vec_len v) 0 → b ≡ true → length v.items ≡ 0
vec_none v b e test = let is : vec_len v ≡ 0 = eqb-true (vec_len v) 0 (sym e ∙ test) in omega (arith, v.ok.0)
