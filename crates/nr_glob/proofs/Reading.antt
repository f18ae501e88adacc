-- The steps of reading a pattern.
use Rattle.std.proofs.Common.{◌≡◌, ◌≢◌, ℕ, ◌-◌, ◌<◌, ◌≤◌, Bool, true, false, ◌==◌, List, [], ◌∷◌, ◌++◌, length, get_or, take, drop, refl, sym, ap, subst, ◌∙◌, inl, inr, append_assoc, arith}
use Rattle.std.proofs.lemmas.Bool.{ne_eqb, eqb-true, eqb-false, cases_Bool}
use Rattle.std.proofs.lemmas.List.{append-nil}
use Rattle.nr_model.specs.Patterns.{Mark, Star, AnyByte, Byte, Class, NotClass, Outside, Opened, Inside, escaped, plain, class_part, one_part, parts_from}
use Rattle.nr_glob.specs.Classes.{class_marks, class_rest, IsMarkFront}
use Rattle.nr_glob.proofs.Cuts.{first_and_behind}
use Rattle.nr_glob.proofs.Marks.{mark_plain, escaped_front, closed}

-- outside of classes

pub outside-star : (rest : List ℕ) → parts_from Outside (42 ∷ rest) ≡ Star ∷ parts_from Outside rest
unfolding parts_from
outside-star [] = refl
outside-star (d ∷ rest) = refl

outside-escaped : (d : ℕ) (rest : List ℕ) → parts_from Outside (92 ∷ d ∷ rest) ≡ Byte d ∷ parts_from Outside rest
unfolding parts_from
outside-escaped d rest = refl

outside-opening : (rest : List ℕ) → parts_from Outside (91 ∷ rest) ≡ parts_from Opened rest
unfolding parts_from
outside-opening [] = refl
outside-opening (d ∷ rest) = refl

pub outside-other : (c : ℕ) (rest : List ℕ) → c ≢ 91 → c ≢ 92 → parts_from Outside (c ∷ rest) ≡ one_part c ∷ parts_from Outside rest
unfolding parts_from
outside-other c [] opening escape = rw (ne_eqb c 91 opening) refl
outside-other c (d ∷ rest) opening escape = rw (ne_eqb c 92 escape, ne_eqb c 91 opening, parts_from) refl

pub outside-byte : (c : ℕ) (rest : List ℕ) → c ≢ 42 → c ≢ 63 → c ≢ 91 → c ≢ 92 → parts_from Outside (c ∷ rest) ≡ Byte c ∷ parts_from Outside rest
outside-byte c rest star any opening escape = outside-other c rest opening escape ∙ rw (ne_eqb c 42 star, ne_eqb c 63 any) refl

any_byte : (rest : List ℕ) → parts_from Outside (63 ∷ rest) ≡ AnyByte ∷ parts_from Outside rest
unfolding parts_from
any_byte [] = refl
any_byte (d ∷ rest) = refl

pub outside-any : (c : ℕ) (rest : List ℕ) → c ≡ 63 → parts_from Outside (c ∷ rest) ≡ AnyByte ∷ parts_from Outside rest
outside-any c rest is = ap (λ (b : ℕ). parts_from Outside (b ∷ rest)) is ∙ any_byte rest

pub part_escaped : (behind : List ℕ) → 1 ≤ length behind
    → parts_from Outside (92 ∷ behind) ≡ Byte (get_or behind 0 0) ∷ parts_from Outside (take (length behind - 1) (drop 1 behind))
part_escaped behind h =
    ap (λ (t : List ℕ). parts_from Outside (92 ∷ t)) (first_and_behind behind h)
    ∙ outside-escaped (get_or behind 0 0) (take (length behind - 1) (drop 1 behind))

pub part_ending : (behind : List ℕ) → length behind < 1 → parts_from Outside (92 ∷ behind) ≡ Byte 92 ∷ parts_from Outside behind
unfolding parts_from
part_ending [] h = refl
part_ending (b ∷ bs) h = absurd (omega arith)

pub part_opening : (byte : ℕ) (behind : List ℕ) → byte ≡ 91 → parts_from Outside (byte ∷ behind) ≡ parts_from Opened behind
part_opening byte behind is = ap (λ (b : ℕ). parts_from Outside (b ∷ behind)) is ∙ outside-opening behind

-- inside a class, behind some marks

inside-closing : (negated : Bool) (marks : List Mark) (rest : List ℕ)
    → parts_from (Inside negated marks) (93 ∷ rest) ≡ class_part negated marks ∷ parts_from Outside rest
unfolding parts_from
inside-closing negated marks [] = refl
inside-closing negated marks (d ∷ rest) = refl

inside-escaped : (negated : Bool) (marks : List Mark) (d : ℕ) (rest : List ℕ)
    → parts_from (Inside negated marks) (92 ∷ d ∷ rest) ≡ parts_from (Inside negated (marks ++ escaped d ∷ [])) rest
unfolding parts_from
inside-escaped negated marks d rest = refl

inside-ending : (negated : Bool) (marks : List Mark) (c : ℕ) → c ≢ 93
    → parts_from (Inside negated marks) (c ∷ []) ≡ parts_from (Inside negated (marks ++ plain c ∷ [])) []
unfolding parts_from
inside-ending negated marks c ne = rw (ne_eqb c 93 ne) refl

inside-other : (negated : Bool) (marks : List Mark) (c d : ℕ) (rest : List ℕ) → c ≢ 93 → c ≢ 92
    → parts_from (Inside negated marks) (c ∷ d ∷ rest) ≡ parts_from (Inside negated (marks ++ plain c ∷ [])) (d ∷ rest)
unfolding parts_from
inside-other negated marks c d rest closing escape = rw (ne_eqb c 93 closing, ne_eqb c 92 escape, parts_from) refl

-- ---- a whole class

-- what reading a class comes to, behind some marks
abbrev pub IsRead : Bool → List Mark → List ℕ → Type 0
IsRead negated marks bytes = parts_from (Inside negated marks) bytes ≡ class_part negated (marks ++ class_marks bytes) ∷ parts_from Outside (class_rest bytes)

read_end : (negated : Bool) (marks : List Mark) (bytes behind : List ℕ)
    → parts_from (Inside negated marks) bytes ≡ class_part negated marks ∷ parts_from Outside behind
    → class_marks bytes ≡ []
    → class_rest bytes ≡ behind
    → IsRead negated marks bytes
read_end negated marks bytes behind read none rest =
    let same : marks ≡ marks ++ class_marks bytes = sym (append-nil marks) ∙ ap (λ (ms : List Mark). marks ++ ms) (sym none) in
    read ∙ ap (λ (ms : List Mark). class_part negated ms ∷ parts_from Outside behind) same
    ∙ ap (λ (r : List ℕ). class_part negated (marks ++ class_marks bytes) ∷ parts_from Outside r) (sym rest)

read_on : (negated : Bool) (marks : List Mark) (bytes after : List ℕ) (mark : Mark)
    → parts_from (Inside negated marks) bytes ≡ parts_from (Inside negated (marks ++ mark ∷ [])) after
    → IsMarkFront bytes mark after
    → IsRead negated (marks ++ mark ∷ []) after
    → IsRead negated marks bytes
read_on negated marks bytes after mark step front read =
    let same : (marks ++ mark ∷ []) ++ class_marks after ≡ marks ++ class_marks bytes =
    append_assoc marks (mark ∷ []) (class_marks after) ∙ ap (λ (ms : List Mark). marks ++ ms) (sym front.marks)
    in
    step ∙ read ∙ ap (λ (ms : List Mark). class_part negated ms ∷ parts_from Outside (class_rest after)) same
    ∙ ap (λ (r : List ℕ). class_part negated (marks ++ class_marks bytes) ∷ parts_from Outside r) (sym front.rest)

read_nothing : (negated : Bool) (marks : List Mark) → IsRead negated marks []
unfolding parts_from class_marks class_rest
read_nothing negated marks = read_end negated marks [] [] refl refl refl

read_closing : (negated : Bool) (marks : List Mark) (c : ℕ) (rest : List ℕ) → c ≡ 93 → IsRead negated marks (c ∷ rest)
read_closing negated marks c rest is =
    let end = closed rest in
    subst (λ (n : ℕ). IsRead negated marks (n ∷ rest)) (sym is) (read_end negated marks (93 ∷ rest) rest (inside-closing negated marks rest) end.marks end.rest)

pub class_read : (negated : Bool) (marks : List Mark) (bytes : List ℕ) → IsRead negated marks bytes
class_read negated marks [] = read_nothing negated marks
class_read negated marks (c ∷ []) =
    elim (cases_Bool (c == 93)) [
      | inl closing ↦ read_closing negated marks c [] (eqb-true c 93 closing)
      | inr other ↦
          read_on negated marks (c ∷ []) [] (plain c) (inside-ending negated marks c (eqb-false c 93 other))
          (mark_plain c [] (eqb-false c 93 other) (inl (omega arith))) (read_nothing negated (marks ++ plain c ∷ []))
    ]
class_read negated marks (c ∷ d ∷ rest) =
    elim (cases_Bool (c == 93)) [
      | inl closing ↦ read_closing negated marks c (d ∷ rest) (eqb-true c 93 closing)
      | inr other ↦ elim (cases_Bool (c == 92)) [
        | inl escape ↦
            subst (λ (n : ℕ). IsRead negated marks (n ∷ d ∷ rest)) (sym (eqb-true c 92 escape))
            (read_on negated marks (92 ∷ d ∷ rest) rest (escaped d) (inside-escaped negated marks d rest) (escaped_front d rest)
            (class_read negated (marks ++ escaped d ∷ []) rest))
        | inr unescaped ↦
            read_on negated marks (c ∷ d ∷ rest) (d ∷ rest) (plain c) (inside-other negated marks c d rest (eqb-false c 93 other) (eqb-false c 92 unescaped))
            (mark_plain c (d ∷ rest) (eqb-false c 93 other) (inr (eqb-false c 92 unescaped))) (class_read negated (marks ++ plain c ∷ []) (d ∷ rest))
      ]
    ]

-- ---- right behind a `[`

opened-negated : (rest : List ℕ) → parts_from Opened (94 ∷ rest) ≡ parts_from (Inside true []) rest
unfolding parts_from
opened-negated [] = refl
opened-negated (d ∷ rest) = refl

opened-other : (c : ℕ) (rest : List ℕ) → c ≢ 94 → parts_from Opened (c ∷ rest) ≡ parts_from (Inside false []) (c ∷ rest)
unfolding parts_from
opened-other c [] ne = rw (ne_eqb c 94 ne) refl
opened-other c (d ∷ rest) ne = rw (ne_eqb c 94 ne, parts_from) refl

pub opens_nothing : (bytes : List ℕ) → length bytes < 1 → parts_from Opened bytes ≡ Class (class_marks bytes) ∷ parts_from Outside bytes
unfolding parts_from class_marks
opens_nothing [] h = refl
opens_nothing (b ∷ bs) h = absurd (omega arith)

pub opens_negated : (bytes rest : List ℕ) → 1 ≤ length bytes → get_or bytes 0 0 ≡ 94 → rest ≡ class_rest (take (length bytes - 1) (drop 1 bytes))
    → parts_from Opened bytes ≡ NotClass (class_marks (take (length bytes - 1) (drop 1 bytes))) ∷ parts_from Outside rest
opens_negated bytes rest h is is_rest =
    let class = take (length bytes - 1) (drop 1 bytes) in
    ap (parts_from Opened) (first_and_behind bytes h ∙ ap (λ (b : ℕ). b ∷ class) is) ∙ opened-negated class ∙ class_read true [] class
    ∙ ap (λ (r : List ℕ). NotClass (class_marks class) ∷ parts_from Outside r) (sym is_rest)

pub opens_plain : (bytes rest : List ℕ) → 1 ≤ length bytes → get_or bytes 0 0 ≢ 94 → rest ≡ class_rest bytes
    → parts_from Opened bytes ≡ Class (class_marks bytes) ∷ parts_from Outside rest
opens_plain [] rest h ne is_rest = absurd (omega arith)
opens_plain (b ∷ bs) rest h ne is_rest =
    opened-other b bs ne ∙ class_read false [] (b ∷ bs) ∙ ap (λ (r : List ℕ). Class (class_marks (b ∷ bs)) ∷ parts_from Outside r) (sym is_rest)
