-- Lines that say steps are read as those steps.
use Rattle.std.proofs.Common.{◌≡◌, ℕ, ◌<◌, ◌≤◌, ◌^◌, ◌≢◌, Bool, true, leb, cond, [], ◌∷◌, ◌++◌, Option, Some, None, pos, refl, ap, ◌∙◌, arith, decimal, append-nil}
use Rattle.std.specs.Prelude.{option_map, codes, FitsSigned}
use Rattle.std.specs.Option.{option_and_then}
use Rattle.std.specs.Int.{w64}
use Rattle.std.specs.List.{list_all}
use Rattle.std.proofs.lemmas.Bool.{and_parts, ne_eqb, leb-true}
use Rattle.std.proofs.lemmas.Fmt.{digits_decimal}
use Rattle.nr_model.specs.Bytes.{Bytes}
use Rattle.nr_model.specs.Numbers.{is_digit}
use Rattle.nr_model.proofs.IntegerTexts.{own, value_of_text}
use Rattle.nr_script.specs.declared.line.Line.{Line}
use Rattle.nr_script.specs.declared.line.Line.TheVariants as lines
use Rattle.nr_script.specs.Lines.{parted, natural, number_of, number_then, two_numbers, setup_of, feed_of, of_two, of_one, numbered, line_of}
use Rattle.nr_script.specs.Texts.{text_of}
use Rattle.nr_script.specs.Said.{SaysStep, numbers_before}
use Rattle.nr_script.proofs.Spelled.{spelled_read}

-- a digit is no space
no_space : (d : ℕ) → is_digit d ≡ true → d ≢ 32
no_space d h is = let above : 48 ≤ d = leb-true 48 d ((and_parts (leb 48 d) (leb d 57) h).0) in absurd (omega arith)

further : ℕ → Bytes → Option (Bytes × Bytes) → Bool → Option (Bytes × Bytes)
further d rest others b = cond b (Some ([], rest)) (option_map (λ (x : Bytes × Bytes). (d ∷ x.0, x.1)) others)

parted_digits : (ds rest : Bytes) → list_all is_digit ds ≡ true → parted 32 (ds ++ 32 ∷ rest) ≡ Some (ds, rest)
unfolding further
parted_digits [] rest all = refl
parted_digits (d ∷ ds) rest all =
    let parts = and_parts (is_digit d) (list_all is_digit ds) all in
    ap (further d (ds ++ 32 ∷ rest) (parted 32 (ds ++ 32 ∷ rest))) (ne_eqb d 32 (no_space d parts.0))
    ∙ ap (λ o. option_map (λ (x : Bytes × Bytes). (d ∷ x.0, x.1)) o) (parted_digits ds rest parts.1)

unparted_digits : (ds : Bytes) → list_all is_digit ds ≡ true → parted 32 ds ≡ None
unfolding further
unparted_digits [] all = refl
unparted_digits (d ∷ ds) all =
    let parts = and_parts (is_digit d) (list_all is_digit ds) all in
    ap (further d ds (parted 32 ds)) (ne_eqb d 32 (no_space d parts.0))
    ∙ ap (λ o. option_map (λ (x : Bytes × Bytes). (d ∷ x.0, x.1)) o) (unparted_digits ds parts.1)

digits_of : (n : ℕ) → n < 2 ^ 63 → list_all is_digit (decimal n) ≡ true
digits_of n fits = digits_decimal own n (omega arith)

number_read : (n : ℕ) → n < 2 ^ 63 → number_of (decimal n) ≡ Some n
number_read n fits =
    let range : FitsSigned w64 (pos n) = record { sfits = fits } in
    ap (option_and_then natural) (value_of_text (pos n) range)

first_read : (n : ℕ) (rest : Bytes) → n < 2 ^ 63 → number_then (decimal n ++ 32 ∷ rest) ≡ Some (n, rest)
first_read n rest fits =
    ap (λ o. option_and_then (λ (x : Bytes × Bytes). option_map (λ (n : ℕ). (n, x.1)) (number_of x.0)) o) (parted_digits (decimal n) rest (digits_of n fits))
    ∙ ap (λ o. option_map (λ (n : ℕ). (n, rest)) o) (number_read n fits)

two_read : (a b : ℕ) → a < 2 ^ 63 → b < 2 ^ 63 → two_numbers (decimal a ++ 32 ∷ decimal b) ≡ Some (a, b)
two_read a b fits fits' =
    ap (λ o. option_and_then (λ (x : ℕ × Bytes). option_map (λ (n : ℕ). (x.0, n)) (number_of x.1)) o) (first_read a (decimal b) fits)
    ∙ ap (λ o. option_map (λ (n : ℕ). (a, n)) o) (number_read b fits')

no_two_read : (n : ℕ) → n < 2 ^ 63 → two_numbers (decimal n) ≡ None
no_two_read n fits =
    ap (λ o. option_and_then (λ (x : ℕ × Bytes). option_map (λ (m : ℕ). (x.0, m)) (number_of x.1))
    (option_and_then (λ (x : Bytes × Bytes). option_map (λ (m : ℕ). (m, x.1)) (number_of x.0)) o)) (unparted_digits (decimal n) (digits_of n fits))

-- what a step of numbers is, by what its numbers are read as
by_numbers : Bytes → Bytes → Option (ℕ × ℕ) → Option Line
by_numbers name rest o = elim o [ Some x ↦ of_two name x.0 x.1 | None ↦ option_and_then (of_one name) (number_of rest) ]

numbered_two : (name : Bytes) (a b : ℕ) → a < 2 ^ 63 → b < 2 ^ 63 → numbered name (decimal a ++ 32 ∷ decimal b) ≡ of_two name a b
unfolding by_numbers
numbered_two name a b fits fits' = ap (by_numbers name (decimal a ++ 32 ∷ decimal b)) (two_read a b fits fits')

numbered_one : (name : Bytes) (n : ℕ) → n < 2 ^ 63 → numbered name (decimal n) ≡ of_one name n
unfolding by_numbers
numbered_one name n fits =
    ap (by_numbers name (decimal n)) (no_two_read n fits) ∙ ap (option_and_then (of_one name)) (number_read n fits)

setup_read : (a b c d : ℕ) → a < 2 ^ 63 → b < 2 ^ 63 → c < 2 ^ 63 → d < 2 ^ 63
    → setup_of (decimal a ++ 32 ∷ (decimal b ++ 32 ∷ (decimal c ++ 32 ∷ decimal d))) ≡ Some (lines.Setup a b c d)
setup_read a b c d fit_a fit_b fit_c fit_d =
    let last : Bytes = decimal c ++ 32 ∷ decimal d in
    ap (λ o. option_and_then (λ (nodes : ℕ × Bytes).
    option_and_then (λ (places : ℕ × Bytes).
    option_map (λ (last : ℕ × ℕ). lines.Setup nodes.0 places.0 last.0 last.1) (two_numbers places.1)) (number_then nodes.1)) o) (first_read a (decimal b ++ 32 ∷ last) fit_a)
    ∙ ap (λ o. option_and_then (λ (places : ℕ × Bytes).
    option_map (λ (last : ℕ × ℕ). lines.Setup a places.0 last.0 last.1) (two_numbers places.1)) o) (first_read b last fit_b)
    ∙ ap (λ o. option_map (λ (last : ℕ × ℕ). lines.Setup a b last.0 last.1) o) (two_read c d fit_c fit_d)

feed_read : (c m : ℕ) (text bytes : Bytes) → c < 2 ^ 63 → m < 2 ^ 63 → text_of text ≡ Some bytes
    → feed_of (decimal c ++ 32 ∷ (decimal m ++ 32 ∷ text)) ≡ Some (lines.Feed c m bytes)
feed_read c m text bytes fit_c fit_m is =
    ap (λ o. option_and_then (λ (connection : ℕ × Bytes).
    option_and_then (λ (moment : ℕ × Bytes).
    option_map (λ bytes. lines.Feed connection.0 moment.0 bytes) (text_of moment.1)) (number_then connection.1)) o) (first_read c (decimal m ++ 32 ∷ text) fit_c)
    ∙ ap (λ o. option_and_then (λ (moment : ℕ × Bytes).
    option_map (λ bytes. lines.Feed c moment.0 bytes) (text_of moment.1)) o) (first_read m text fit_m)
    ∙ ap (λ o. option_map (λ bytes. lines.Feed c m bytes) o) is

-- the line of a step, by how many numbers it has
one_line : (name line : Bytes) (n : ℕ) (rest : Bytes) → line ≡ name ++ numbers_before (n ∷ []) rest → rest ≡ [] → line ≡ name ++ 32 ∷ decimal n
one_line name line n rest is none =
    is ∙ ap (λ rest. name ++ numbers_before (n ∷ []) rest) none ∙ ap (λ text. name ++ 32 ∷ text) (append-nil (decimal n))

two_line : (name line : Bytes) (a b : ℕ) (rest : Bytes) → line ≡ name ++ numbers_before (a ∷ b ∷ []) rest → rest ≡ []
    → line ≡ name ++ 32 ∷ (decimal a ++ 32 ∷ decimal b)
two_line name line a b rest is none =
    is
    ∙ ap (λ rest. name ++ numbers_before (a ∷ b ∷ []) rest) none
    ∙ ap (λ text. name ++ 32 ∷ (decimal a ++ 32 ∷ text)) (append-nil (decimal b))

four_line : (name line : Bytes) (a b c d : ℕ) (rest : Bytes) → line ≡ name ++ numbers_before (a ∷ b ∷ c ∷ d ∷ []) rest → rest ≡ []
    → line ≡ name ++ 32 ∷ (decimal a ++ 32 ∷ (decimal b ++ 32 ∷ (decimal c ++ 32 ∷ decimal d)))
four_line name line a b c d rest is none =
    is
    ∙ ap (λ rest. name ++ numbers_before (a ∷ b ∷ c ∷ d ∷ []) rest) none
    ∙ ap (λ text. name ++ 32 ∷ (decimal a ++ 32 ∷ (decimal b ++ 32 ∷ (decimal c ++ 32 ∷ text)))) (append-nil (decimal d))

pub said_read : (step : Line) (line : Bytes) → SaysStep step line → line_of line ≡ Some (Some step)
said_read (lines.Setup a b c d) line says =
    ap line_of (four_line (codes "setup") line a b c d says.rest says.is says.ends)
    ∙ ap (option_map Some) (setup_read a b c d says.fit.0 says.fit.1.0 says.fit.1.1.0 says.fit.1.1.1.0)
said_read (lines.Feed c m bytes) line says =
    let ends = says.ends in
    ap line_of (says.is ∙ ap (λ rest. codes "feed" ++ numbers_before (c ∷ m ∷ []) rest) ends.1)
    ∙ ap (option_map Some) (feed_read c m ends.0 bytes says.fit.0 says.fit.1.0 (spelled_read ends.0 bytes ends.2))
said_read (lines.Open a b) line says =
    ap line_of (two_line (codes "open") line a b says.rest says.is says.ends)
    ∙ ap (option_map Some) (numbered_two (codes "open") a b says.fit.0 says.fit.1.0)
said_read (lines.Close a b) line says =
    ap line_of (two_line (codes "close") line a b says.rest says.is says.ends)
    ∙ ap (option_map Some) (numbered_two (codes "close") a b says.fit.0 says.fit.1.0)
said_read (lines.Fill a b) line says =
    ap line_of (two_line (codes "fill") line a b says.rest says.is says.ends)
    ∙ ap (option_map Some) (numbered_two (codes "fill") a b says.fit.0 says.fit.1.0)
said_read (lines.Revive a b) line says =
    ap line_of (two_line (codes "revive") line a b says.rest says.is says.ends)
    ∙ ap (option_map Some) (numbered_two (codes "revive") a b says.fit.0 says.fit.1.0)
said_read (lines.Post a b) line says =
    ap line_of (two_line (codes "post") line a b says.rest says.is says.ends)
    ∙ ap (option_map Some) (numbered_two (codes "post") a b says.fit.0 says.fit.1.0)
said_read (lines.Lift a b) line says =
    ap line_of (two_line (codes "lift") line a b says.rest says.is says.ends)
    ∙ ap (option_map Some) (numbered_two (codes "lift") a b says.fit.0 says.fit.1.0)
said_read (lines.Answer a b) line says =
    ap line_of (two_line (codes "answer") line a b says.rest says.is says.ends)
    ∙ ap (option_map Some) (numbered_two (codes "answer") a b says.fit.0 says.fit.1.0)
said_read (lines.Collect a b) line says =
    ap line_of (two_line (codes "collect") line a b says.rest says.is says.ends)
    ∙ ap (option_map Some) (numbered_two (codes "collect") a b says.fit.0 says.fit.1.0)
said_read (lines.Reserve n) line says =
    ap line_of (one_line (codes "reserve") line n says.rest says.is says.ends) ∙ ap (option_map Some) (numbered_one (codes "reserve") n says.fit.0)
said_read (lines.Fetch n) line says =
    ap line_of (one_line (codes "fetch") line n says.rest says.is says.ends) ∙ ap (option_map Some) (numbered_one (codes "fetch") n says.fit.0)
said_read (lines.Apply n) line says =
    ap line_of (one_line (codes "apply") line n says.rest says.is says.ends) ∙ ap (option_map Some) (numbered_one (codes "apply") n says.fit.0)
said_read (lines.Look n) line says =
    ap line_of (one_line (codes "look") line n says.rest says.is says.ends) ∙ ap (option_map Some) (numbered_one (codes "look") n says.fit.0)
said_read (lines.Refuse n) line says =
    ap line_of (one_line (codes "refuse") line n says.rest says.is says.ends) ∙ ap (option_map Some) (numbered_one (codes "refuse") n says.fit.0)
said_read lines.Settle line says = ap line_of (says.is ∙ ap (λ rest. codes "settle" ++ rest) says.ends)
