-- How the bytes that a text spells follow from its first bytes.
use Rattle.std.proofs.Common.{◌≡◌, ℕ, ◌+◌, ◌*◌, ◌≢◌, Bool, true, false, [], ◌∷◌, ◌++◌, length, Option, Some, None, refl, sym, ap, ◌∙◌, arith, append_assoc, append-nil, eq-eqb}
use Rattle.std.proofs.lemmas.Bool.{ne_eqb}
use Rattle.nr_model.specs.Bytes.{Bytes}
use Rattle.nr_script.specs.Texts.{Between, Escape, Hex, Digit, text_from, text_of, put_before, hex_value, escaped_value}

-- a byte that is no backslash is itself
unfoldable pub between_choice : Bytes → ℕ → Bool → Option Bytes
unfolding text_from
between_choice rest c b = elim b [ true ↦ text_from Escape rest | false ↦ put_before (c ∷ []) (text_from Between rest) ]

pub plain_byte : (c : ℕ) (rest : Bytes) → c ≢ 92 → text_of (c ∷ rest) ≡ put_before (c ∷ []) (text_of rest)
unfolding text_of text_from between_choice
plain_byte c rest other = ap (between_choice rest c) (ne_eqb c 92 other)

pub behind_backslash : (c : ℕ) (rest : Bytes) → c ≡ 92 → text_of (c ∷ rest) ≡ text_from Escape rest
unfolding text_of text_from between_choice
behind_backslash c rest is = ap (between_choice rest c) (eq-eqb c 92 is)

unfoldable pub escape_choice : Bytes → Bool → Option ℕ → Option Bytes
unfolding text_from
escape_choice rest b byte =
    elim b [
      | true ↦ text_from Hex rest
      | false ↦ elim byte [ Some byte ↦ put_before (byte ∷ []) (text_from Between rest) | None ↦ None ]
    ]

pub no_escape : (rest : Bytes) → length rest ≡ 0 → text_from Escape rest ≡ None
unfolding text_from
no_escape [] none = refl
no_escape (c ∷ rest) none = absurd (omega arith)

pub escape_x : (c : ℕ) (rest : Bytes) → c ≡ 120 → text_from Escape (c ∷ rest) ≡ text_from Hex rest
unfolding text_from escape_choice
escape_x c rest is = ap (λ b. escape_choice rest b (escaped_value c)) (eq-eqb c 120 is)

pub escape_byte : (c byte : ℕ) (rest : Bytes) → c ≢ 120 → Some byte ≡ escaped_value c → text_from Escape (c ∷ rest) ≡ put_before (byte ∷ []) (text_of rest)
unfolding text_of text_from escape_choice
escape_byte c byte rest other is =
    ap (λ b. escape_choice rest b (escaped_value c)) (ne_eqb c 120 other) ∙ ap (escape_choice rest false) (sym is)

pub escape_other : (c : ℕ) (rest : Bytes) → c ≢ 120 → None ≡ escaped_value c → text_from Escape (c ∷ rest) ≡ None
unfolding text_from escape_choice
escape_other c rest other is =
    ap (λ b. escape_choice rest b (escaped_value c)) (ne_eqb c 120 other) ∙ ap (escape_choice rest false) (sym is)

unfoldable pub hex_choice : Bytes → Option ℕ → Option Bytes
unfolding text_from
hex_choice rest high = elim high [ Some high ↦ text_from (Digit high) rest | None ↦ None ]

unfoldable pub digit_choice : ℕ → Bytes → Option ℕ → Option Bytes
unfolding text_from
digit_choice high rest low = elim low [ Some low ↦ put_before ((16 * high + low) ∷ []) (text_from Between rest) | None ↦ None ]

pub hex_other : (c : ℕ) (rest : Bytes) → None ≡ hex_value c → text_from Hex (c ∷ rest) ≡ None
unfolding text_from hex_choice
hex_other c rest is = ap (hex_choice rest) (sym is)

pub hex_first : (c high : ℕ) (rest : Bytes) → Some high ≡ hex_value c → text_from Hex (c ∷ rest) ≡ text_from (Digit high) rest
unfolding text_from hex_choice
hex_first c high rest is = ap (hex_choice rest) (sym is)

pub digit_other : (high c : ℕ) (rest : Bytes) → None ≡ hex_value c → text_from (Digit high) (c ∷ rest) ≡ None
unfolding text_from digit_choice
digit_other high c rest is = ap (digit_choice high rest) (sym is)

pub digit_second : (high c low : ℕ) (rest : Bytes) → Some low ≡ hex_value c → text_from (Digit high) (c ∷ rest) ≡ put_before ((16 * high + low) ∷ []) (text_of rest)
unfolding text_of text_from digit_choice
digit_second high c low rest is = ap (digit_choice high rest) (sym is)

pub no_digit : (rest : Bytes) → length rest ≡ 0 → text_from Hex rest ≡ None
unfolding text_from
no_digit [] none = refl
no_digit (c ∷ rest) none = absurd (omega arith)

pub no_second : (high : ℕ) (rest : Bytes) → length rest ≡ 0 → text_from (Digit high) rest ≡ None
unfolding text_from
no_second high [] none = refl
no_second high (c ∷ rest) none = absurd (omega arith)

put_before-put_before : (front more : Bytes) (others : Option Bytes) → put_before front (put_before more others) ≡ put_before (front ++ more) others
put_before-put_before front more None = refl
put_before-put_before front more (Some others) = ap Some (sym (append_assoc front more others))

-- a byte more was read, and in the end all
pub one_more : (text bytes rest behind : Bytes) (byte : ℕ) → text_of text ≡ put_before bytes (text_of rest)
    → text_of rest ≡ put_before (byte ∷ []) (text_of behind) → text_of text ≡ put_before (bytes ++ byte ∷ []) (text_of behind)
one_more text bytes rest behind byte before is =
    before ∙ ap (put_before bytes) is ∙ put_before-put_before bytes (byte ∷ []) (text_of behind)

pub read_all : (text bytes rest : Bytes) → text_of text ≡ put_before bytes (text_of rest) → length rest ≡ 0 → text_of text ≡ Some bytes
unfolding text_of text_from
read_all text bytes [] before none = before ∙ ap Some (append-nil bytes)
read_all text bytes (c ∷ rest) before none = absurd (omega arith)
