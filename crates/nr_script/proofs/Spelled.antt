-- What is read from a text is what it spells, and the other way round.
use Rattle.std.proofs.Common.{◌≡◌, ℕ, ◌+◌, ◌*◌, ◌/◌, ◌%◌, ◌<◌, ◌≢◌, ◌⊎◌, true, false, leb, [], ◌∷◌, ◌++◌, Option, Some, None, refl, sym, ap, ◌∙◌, subst, arith, inl, inr, eq-eqb}
use Rattle.std.specs.Prelude.{◌==◌, ◌&&◌}
use Rattle.std.specs.List.{AllByRecursion}
use Rattle.std.proofs.lemmas.Bool.{cases_Bool, eqb-true}
use Rattle.std.proofs.lemmas.Bool.Decides.{nat_tests}
use Rattle.nr_model.specs.Bytes.{Bytes}
use Rattle.nr_script.specs.Texts.{Place, Between, Escape, Hex, Digit, text_from, text_of, put_before, hex_value, escaped_value, hex_digit, shown_byte, shown}
use Rattle.nr_script.specs.Spellings.{SpellsByte, itself, escape, hex, Spells}
use Rattle.nr_script.proofs.Texts.{plain_byte, behind_backslash, escape_x, escape_byte, hex_first, digit_second, between_choice, escape_choice, hex_choice, digit_choice}

no_x : (c byte : ℕ) → escaped_value c ≡ Some byte → c ≢ 120
no_x c byte is x = let none : escaped_value 120 ≡ Some byte = subst (λ c. escaped_value c ≡ Some byte) x is in cc none

piece_read : (byte : ℕ) (piece rest : Bytes) → SpellsByte byte piece → text_of (piece ++ rest) ≡ put_before (byte ∷ []) (text_of rest)
piece_read byte _ rest (itself other) = plain_byte byte rest other
piece_read byte _ rest (escape c is) = behind_backslash 92 (c ∷ rest) refl ∙ escape_byte c byte rest (no_x c byte is) (sym is)
piece_read byte _ rest (hex c d high low is_high is_low is) =
    behind_backslash 92 (120 ∷ c ∷ d ∷ rest) refl
    ∙ escape_x 120 (c ∷ d ∷ rest) refl
    ∙ hex_first c high (d ∷ rest) (sym is_high)
    ∙ digit_second high d low rest (sym is_low)
    ∙ ap (λ (byte : ℕ). put_before (byte ∷ []) (text_of rest)) is

nothing_read : text_of [] ≡ Some []
unfolding text_of text_from
nothing_read = refl

spelled : (bytes text : Bytes) → Spells text bytes → text_of text ≡ Some bytes
spelled [] text is = ap text_of is ∙ nothing_read
spelled (byte ∷ bytes) text h =
    ap text_of h.2 ∙ piece_read byte h.0 h.1 h.3 ∙ ap (put_before (byte ∷ [])) (spelled bytes h.1 h.4)

pub spelled_read : (text bytes : Bytes) → Spells text bytes → text_of text ≡ Some bytes
spelled_read text bytes h = spelled bytes text h

-- bytes as they are shown
hex_value-hex_digit : (n : ℕ) → n < 16 → hex_value (hex_digit n) ≡ Some n
hex_value-hex_digit n small = grind (arith, nat_tests)

not_backslash : (c : ℕ) → (c == 92) ≡ false → c ≢ 92
not_backslash c e is = let yes : (c == 92) ≡ true = eq-eqb c 92 is in cc (e, yes)

shown_piece : (c : ℕ) → c < 256 → SpellsByte c (shown_byte c)
shown_piece c small =
    elim (cases_Bool (c == 13)) [
      | inl return ↦ rw return (escape 114 (ap Some (sym (eqb-true c 13 return))))
      | inr other ↦ rw other (elim (cases_Bool (c == 10)) [
        | inl newline ↦ rw newline (escape 110 (ap Some (sym (eqb-true c 10 newline))))
        | inr other' ↦ rw other' (elim (cases_Bool (c == 92)) [
          | inl backslash ↦ rw backslash (escape 92 (ap Some (sym (eqb-true c 92 backslash))))
          | inr other'' ↦ rw other'' (elim (cases_Bool (leb 32 c && leb c 126)) [
            | inl printed ↦ rw printed (itself (not_backslash c other''))
            | inr not_printed ↦ rw not_printed (hex (hex_digit (c / 16)) (hex_digit (c % 16)) (c / 16) (c % 16)
                (hex_value-hex_digit (c / 16) (omega arith)) (hex_value-hex_digit (c % 16) (omega arith)) (omega arith))
          ])
        ])
      ])
    ]

pub shown_spelled : (bytes : Bytes) → AllByRecursion (λ c. c < 256) bytes → Spells (shown bytes) bytes
shown_spelled [] all = refl
shown_spelled (c ∷ bytes) all = (shown_byte c, shown bytes, refl, shown_piece c all.0, shown_spelled bytes all.1)

-- what was read, with what stands before it
SpelledFrom : Place → Bytes → Bytes → Type 0
SpelledFrom Between text bytes = Spells text bytes
SpelledFrom Escape text bytes = Spells (92 ∷ text) bytes
SpelledFrom Hex text bytes = Spells (92 ∷ 120 ∷ text) bytes
SpelledFrom (Digit high) text bytes = (c : ℕ) → hex_value c ≡ Some high → Spells (92 ∷ 120 ∷ c ∷ text) bytes

put_some : (byte : ℕ) (others : Option Bytes) (bytes : Bytes) → put_before (byte ∷ []) others ≡ Some bytes
    → (rest : Bytes) × (others ≡ Some rest) × (byte ∷ rest ≡ bytes)
put_some byte None bytes is = absurd (cc is)
put_some byte (Some rest) bytes is = (rest, refl, cc is)

-- a byte that a piece spells, and the others behind it
one_read : (byte : ℕ) (piece rest : Bytes) (bytes : Bytes) → SpellsByte byte piece → put_before (byte ∷ []) (text_from Between rest) ≡ Some bytes
    → ((bytes : Bytes) → text_from Between rest ≡ Some bytes → Spells rest bytes) → Spells (piece ++ rest) bytes
one_read byte piece rest bytes spells is others =
    let parts = put_some byte (text_from Between rest) bytes is in
    subst (Spells (piece ++ rest)) parts.2 (piece, rest, refl, spells, others parts.0 parts.1)

cases_Option : (o : Option ℕ) → (o ≡ None) ⊎ ((x : ℕ) × (o ≡ Some x))
cases_Option None = inl refl
cases_Option (Some x) = inr (x, refl)

no_bytes : (bytes : Bytes) → None ≡ Some bytes → ⊥
no_bytes bytes is = cc is

read_from : (place : Place) (text bytes : Bytes) → text_from place text ≡ Some bytes → SpelledFrom place text bytes
unfolding text_from SpelledFrom between_choice escape_choice hex_choice digit_choice
read_from Between [] bytes is = let same : [] ≡ bytes = cc is in subst (Spells []) same refl
read_from Between (c ∷ rest) bytes is =
    elim (cases_Bool (c == 92)) [
      | inl backslash ↦ subst (λ c. Spells (c ∷ rest) bytes) (sym (eqb-true c 92 backslash)) (read_from Escape rest bytes (sym (ap (between_choice rest c) backslash) ∙ is))
      | inr other ↦ one_read c (c ∷ []) rest bytes (itself (not_backslash c other)) (sym (ap (between_choice rest c) other) ∙ is) (read_from Between rest)
    ]
read_from Escape [] bytes is = absurd (cc is)
read_from Escape (c ∷ rest) bytes is =
    elim (cases_Bool (c == 120)) [
      | inl x ↦ subst (λ c. Spells (92 ∷ c ∷ rest) bytes) (sym (eqb-true c 120 x))
          (read_from Hex rest bytes (sym (ap (λ b. escape_choice rest b (escaped_value c)) x) ∙ is))
      | inr other ↦
          let escaped : escape_choice rest false (escaped_value c) ≡ Some bytes = sym (ap (λ b. escape_choice rest b (escaped_value c)) other) ∙ is in
          elim (cases_Option (escaped_value c)) [
            | inl none ↦ absurd (no_bytes bytes (sym (ap (escape_choice rest false) none) ∙ escaped))
            | inr some ↦ one_read some.0 (92 ∷ c ∷ []) rest bytes (escape c some.1) (sym (ap (escape_choice rest false) some.1) ∙ escaped) (read_from Between rest)
          ]
    ]
read_from Hex [] bytes is = absurd (cc is)
read_from Hex (c ∷ rest) bytes is =
    elim (cases_Option (hex_value c)) [
      | inl none ↦ absurd (no_bytes bytes (sym (ap (hex_choice rest) none) ∙ is))
      | inr high ↦ read_from (Digit high.0) rest bytes (sym (ap (hex_choice rest) high.1) ∙ is) c high.1
    ]
read_from (Digit high) [] bytes is = absurd (cc is)
read_from (Digit high) (d ∷ rest) bytes is =
    λ c first. elim (cases_Option (hex_value d)) [
      | inl none ↦ absurd (no_bytes bytes (sym (ap (digit_choice high rest) none) ∙ is))
      | inr low ↦ one_read (16 * high + low.0) (92 ∷ 120 ∷ c ∷ d ∷ []) rest bytes (hex c d high low.0 first low.1 refl)
          (sym (ap (digit_choice high rest) low.1) ∙ is) (read_from Between rest)
    ]

pub read_spelled : (text bytes : Bytes) → text_of text ≡ Some bytes → Spells text bytes
unfolding text_of SpelledFrom
read_spelled text bytes is = read_from Between text bytes is
