-- A line that is read as a step says that step.
use Rattle.std.proofs.Common.{◌≡◌, ℕ, ◌<◌, ◌^◌, ◌⊎◌, true, cond, ◌==◌, List, [], ◌∷◌, ◌++◌, Option, Some, None, ℤ, pos, negsuc, refl, sym, ap, ◌∙◌, subst, decimal, inl, inr, eqb-true, append-nil}
use Rattle.std.specs.Prelude.{option_map, codes, bytes_eq}
use Rattle.std.specs.Option.{option_and_then}
use Rattle.std.specs.List.{AllByRecursion}
use Rattle.std.proofs.lemmas.Slice.Eq.{bytes_eq-Decides}
use Rattle.nr_model.specs.Bytes.{Bytes}
use Rattle.nr_model.specs.Numbers.{int_value}
use Rattle.nr_model.proofs.IntegerTexts.{chosen, text_of_value}
use Rattle.nr_script.specs.declared.line.Line.{Line}
use Rattle.nr_script.specs.declared.line.Line.TheVariants as lines
use Rattle.nr_script.specs.Lines.{parted, natural, number_of, number_then, two_numbers, setup_of, feed_of, of_two, of_one, numbered, plain_step, named_step, bare_step, step_of, is_skipped, line_of}
use Rattle.nr_script.specs.Texts.{text_of}
use Rattle.nr_script.specs.Said.{SaysStep, step_name, step_numbers, EndsStep, numbers_before}
use Rattle.nr_script.proofs.Spelled.{read_spelled}

-- what an answer came from
map_some : {A B : Type 0} (f : A → B) (o : Option A) (y : B) → option_map f o ≡ Some y → (x : A) × (o ≡ Some x) × (f x ≡ y)
map_some f None y is = absurd (cc is)
map_some f (Some x) y is = (x, refl, cc is)

then_some : {A B : Type 0} (f : A → Option B) (o : Option A) (y : B) → option_and_then f o ≡ Some y → (x : A) × (o ≡ Some x) × (f x ≡ Some y)
then_some f None y is = absurd (cc is)
then_some f (Some x) y is = (x, refl, is)

some_same : {A : Type 0} (x y : A) → Some x ≡ Some y → x ≡ y
some_same x y is = cc is

none_some : {A B : Type 0} (y : A) → None ≡ Some y → B
none_some y is = absurd (cc is)

same_name : (name text : Bytes) → bytes_eq name text ≡ true → name ≡ text
same_name name text is = (bytes_eq-Decides name text).0 is

-- two parts, with what parts them, are the text
together : ℕ → Bytes × Bytes → Bytes
together mark x = x.0 ++ mark ∷ x.1

parted_back : (mark : ℕ) (text : Bytes) (x : Bytes × Bytes) → parted mark text ≡ Some x → text ≡ x.0 ++ mark ∷ x.1
parted_back mark [] x is = none_some x is
parted_back mark (c ∷ rest) x is =
    elim (chosen (c == mark) (Some ([], rest)) (option_map (λ (x : Bytes × Bytes). (c ∷ x.0, x.1)) (parted mark rest)) (Some x) is) [
      | inl here ↦
          let same : ([], rest) ≡ x = some_same ([], rest) x here.1 in
          ap (λ c. c ∷ rest) (eqb-true c mark here.0) ∙ ap (λ (x : Bytes × Bytes). x.0 ++ mark ∷ x.1) same
      | inr there ↦
          let others = map_some (λ (x : Bytes × Bytes). (c ∷ x.0, x.1)) (parted mark rest) x there.1 in
          ap (λ rest. c ∷ rest) (parted_back mark rest others.0 others.1) ∙ ap (λ (x : Bytes × Bytes). x.0 ++ mark ∷ x.1) others.2
    ]

natural_back : (z : ℤ) (n : ℕ) → natural z ≡ Some n → z ≡ pos n
natural_back (pos m) n is = ap pos (some_same m n is)
natural_back (negsuc m) n is = none_some n is

number_back : (word : Bytes) (n : ℕ) → number_of word ≡ Some n → (word ≡ decimal n) × (n < 2 ^ 63)
number_back word n is =
    let read = then_some natural (int_value word) n is in
    let value : int_value word ≡ Some (pos n) = read.1 ∙ ap Some (natural_back read.0 n read.2) in
    let text = text_of_value word (pos n) value in
    (text.1, text.0.sfits)

first_back : (text : Bytes) (x : ℕ × Bytes) → number_then text ≡ Some x → (text ≡ decimal x.0 ++ 32 ∷ x.1) × (x.0 < 2 ^ 63)
first_back text x is =
    let parts = then_some (λ (x : Bytes × Bytes). option_map (λ (n : ℕ). (n, x.1)) (number_of x.0)) (parted 32 text) x is in
    let number = map_some (λ (n : ℕ). (n, parts.0.1)) (number_of parts.0.0) x parts.2 in
    let word = number_back parts.0.0 number.0 number.1 in
    let back : text ≡ decimal number.0 ++ 32 ∷ parts.0.1 = parted_back 32 text parts.0 parts.1 ∙ ap (λ word. word ++ 32 ∷ parts.0.1) word.0 in
    subst (λ (x : ℕ × Bytes). (text ≡ decimal x.0 ++ 32 ∷ x.1) × (x.0 < 2 ^ 63)) number.2 (back, word.1)

two_back : (text : Bytes) (x : ℕ × ℕ) → two_numbers text ≡ Some x → (text ≡ decimal x.0 ++ 32 ∷ decimal x.1) × (x.0 < 2 ^ 63) × (x.1 < 2 ^ 63)
two_back text x is =
    let parts = then_some (λ (x : ℕ × Bytes). option_map (λ (n : ℕ). (x.0, n)) (number_of x.1)) (number_then text) x is in
    let number = map_some (λ (n : ℕ). (parts.0.0, n)) (number_of parts.0.1) x parts.2 in
    let first = first_back text parts.0 parts.1 in
    let second = number_back parts.0.1 number.0 number.1 in
    let back : text ≡ decimal parts.0.0 ++ 32 ∷ decimal number.0 = first.0 ∙ ap (λ rest. decimal parts.0.0 ++ 32 ∷ rest) second.0 in
    subst (λ (x : ℕ × ℕ). (text ≡ decimal x.0 ++ 32 ∷ decimal x.1) × (x.0 < 2 ^ 63) × (x.1 < 2 ^ 63)) number.2 (back, first.1, second.1)

-- a step with these numbers and nothing behind them
IsPlain : Bytes → List ℕ → Line → Type 0
IsPlain name numbers step = (name ≡ step_name step) × (step_numbers step ≡ numbers) × EndsStep step []

of_two_back : (name : Bytes) (a b : ℕ) (step : Line) → of_two name a b ≡ Some step → IsPlain name (a ∷ b ∷ []) step
unfolding IsPlain
of_two_back name a b step is =
    elim (chosen (bytes_eq name (codes "open")) (Some (lines.Open a b)) (cond (bytes_eq name (codes "close")) (Some (lines.Close a b)) (cond (bytes_eq name (codes "fill")) (Some (lines.Fill a b)) (cond (bytes_eq name (codes "post")) (Some (lines.Post a b)) (cond (bytes_eq name (codes "lift")) (Some (lines.Lift a b)) (cond (bytes_eq name (codes "answer")) (Some (lines.Answer a b)) (cond (bytes_eq name (codes "collect")) (Some (lines.Collect a b)) (cond (bytes_eq name (codes "revive")) (Some (lines.Revive a b)) None))))))) (Some step) is) [
      | inl here ↦ subst (IsPlain name (a ∷ b ∷ [])) (some_same _ step here.1) (same_name name (codes "open") here.0, refl, refl)
      | inr there ↦ elim (chosen (bytes_eq name (codes "close")) (Some (lines.Close a b)) (cond (bytes_eq name (codes "fill")) (Some (lines.Fill a b)) (cond (bytes_eq name (codes "post")) (Some (lines.Post a b)) (cond (bytes_eq name (codes "lift")) (Some (lines.Lift a b)) (cond (bytes_eq name (codes "answer")) (Some (lines.Answer a b)) (cond (bytes_eq name (codes "collect")) (Some (lines.Collect a b)) (cond (bytes_eq name (codes "revive")) (Some (lines.Revive a b)) None)))))) (Some step) there.1) [
        | inl here ↦ subst (IsPlain name (a ∷ b ∷ [])) (some_same _ step here.1) (same_name name (codes "close") here.0, refl, refl)
        | inr there ↦ elim (chosen (bytes_eq name (codes "fill")) (Some (lines.Fill a b)) (cond (bytes_eq name (codes "post")) (Some (lines.Post a b)) (cond (bytes_eq name (codes "lift")) (Some (lines.Lift a b)) (cond (bytes_eq name (codes "answer")) (Some (lines.Answer a b)) (cond (bytes_eq name (codes "collect")) (Some (lines.Collect a b)) (cond (bytes_eq name (codes "revive")) (Some (lines.Revive a b)) None))))) (Some step) there.1) [
          | inl here ↦ subst (IsPlain name (a ∷ b ∷ [])) (some_same _ step here.1) (same_name name (codes "fill") here.0, refl, refl)
          | inr there ↦ elim (chosen (bytes_eq name (codes "post")) (Some (lines.Post a b)) (cond (bytes_eq name (codes "lift")) (Some (lines.Lift a b)) (cond (bytes_eq name (codes "answer")) (Some (lines.Answer a b)) (cond (bytes_eq name (codes "collect")) (Some (lines.Collect a b)) (cond (bytes_eq name (codes "revive")) (Some (lines.Revive a b)) None)))) (Some step) there.1) [
            | inl here ↦ subst (IsPlain name (a ∷ b ∷ [])) (some_same _ step here.1) (same_name name (codes "post") here.0, refl, refl)
            | inr there ↦ elim (chosen (bytes_eq name (codes "lift")) (Some (lines.Lift a b)) (cond (bytes_eq name (codes "answer")) (Some (lines.Answer a b)) (cond (bytes_eq name (codes "collect")) (Some (lines.Collect a b)) (cond (bytes_eq name (codes "revive")) (Some (lines.Revive a b)) None))) (Some step) there.1) [
              | inl here ↦ subst (IsPlain name (a ∷ b ∷ [])) (some_same _ step here.1) (same_name name (codes "lift") here.0, refl, refl)
              | inr there ↦ elim (chosen (bytes_eq name (codes "answer")) (Some (lines.Answer a b)) (cond (bytes_eq name (codes "collect")) (Some (lines.Collect a b)) (cond (bytes_eq name (codes "revive")) (Some (lines.Revive a b)) None)) (Some step) there.1) [
                | inl here ↦ subst (IsPlain name (a ∷ b ∷ [])) (some_same _ step here.1) (same_name name (codes "answer") here.0, refl, refl)
                | inr there ↦ elim (chosen (bytes_eq name (codes "collect")) (Some (lines.Collect a b)) (cond (bytes_eq name (codes "revive")) (Some (lines.Revive a b)) None) (Some step) there.1) [
                  | inl here ↦ subst (IsPlain name (a ∷ b ∷ [])) (some_same _ step here.1) (same_name name (codes "collect") here.0, refl, refl)
                  | inr there ↦ elim (chosen (bytes_eq name (codes "revive")) (Some (lines.Revive a b)) None (Some step) there.1) [
                    | inl here ↦ subst (IsPlain name (a ∷ b ∷ [])) (some_same _ step here.1) (same_name name (codes "revive") here.0, refl, refl)
                    | inr there ↦ none_some step there.1
                  ]
                ]
              ]
            ]
          ]
        ]
      ]
    ]

of_one_back : (name : Bytes) (n : ℕ) (step : Line) → of_one name n ≡ Some step → IsPlain name (n ∷ []) step
unfolding IsPlain
of_one_back name n step is =
    elim (chosen (bytes_eq name (codes "reserve")) (Some (lines.Reserve n)) (cond (bytes_eq name (codes "fetch")) (Some (lines.Fetch n)) (cond (bytes_eq name (codes "apply")) (Some (lines.Apply n)) (cond (bytes_eq name (codes "look")) (Some (lines.Look n)) (cond (bytes_eq name (codes "refuse")) (Some (lines.Refuse n)) None)))) (Some step) is) [
      | inl here ↦ subst (IsPlain name (n ∷ [])) (some_same _ step here.1) (same_name name (codes "reserve") here.0, refl, refl)
      | inr there ↦ elim (chosen (bytes_eq name (codes "fetch")) (Some (lines.Fetch n)) (cond (bytes_eq name (codes "apply")) (Some (lines.Apply n)) (cond (bytes_eq name (codes "look")) (Some (lines.Look n)) (cond (bytes_eq name (codes "refuse")) (Some (lines.Refuse n)) None))) (Some step) there.1) [
        | inl here ↦ subst (IsPlain name (n ∷ [])) (some_same _ step here.1) (same_name name (codes "fetch") here.0, refl, refl)
        | inr there ↦ elim (chosen (bytes_eq name (codes "apply")) (Some (lines.Apply n)) (cond (bytes_eq name (codes "look")) (Some (lines.Look n)) (cond (bytes_eq name (codes "refuse")) (Some (lines.Refuse n)) None)) (Some step) there.1) [
          | inl here ↦ subst (IsPlain name (n ∷ [])) (some_same _ step here.1) (same_name name (codes "apply") here.0, refl, refl)
          | inr there ↦ elim (chosen (bytes_eq name (codes "look")) (Some (lines.Look n)) (cond (bytes_eq name (codes "refuse")) (Some (lines.Refuse n)) None) (Some step) there.1) [
            | inl here ↦ subst (IsPlain name (n ∷ [])) (some_same _ step here.1) (same_name name (codes "look") here.0, refl, refl)
            | inr there ↦ elim (chosen (bytes_eq name (codes "refuse")) (Some (lines.Refuse n)) None (Some step) there.1) [
              | inl here ↦ subst (IsPlain name (n ∷ [])) (some_same _ step here.1) (same_name name (codes "refuse") here.0, refl, refl)
              | inr there ↦ none_some step there.1
            ]
          ]
        ]
      ]
    ]

-- a step said by its name and numbers alone
plain_says : (name : Bytes) (numbers : List ℕ) (step : Line) (line : Bytes) → IsPlain name numbers step → line ≡ name ++ numbers_before numbers []
    → AllByRecursion (λ n. n < 2 ^ 63) numbers → SaysStep step line
unfolding IsPlain
plain_says name numbers step line plain is fit = record {
  rest = [];
  is = is ∙ ap (λ name. name ++ numbers_before numbers []) plain.0 ∙ ap (λ numbers. step_name step ++ numbers_before numbers []) (sym plain.1);
  fit = subst (AllByRecursion (λ n. n < 2 ^ 63)) (sym plain.1) fit;
  ends = plain.2;
}

by_numbers : Bytes → Bytes → Option (ℕ × ℕ) → Option Line
by_numbers name rest o = elim o [ Some x ↦ of_two name x.0 x.1 | None ↦ option_and_then (of_one name) (number_of rest) ]

cases_Option : {A : Type 0} (o : Option A) → (o ≡ None) ⊎ ((x : A) × (o ≡ Some x))
cases_Option None = inl refl
cases_Option (Some x) = inr (x, refl)

numbered_back : (name rest : Bytes) (step : Line) (line : Bytes) → numbered name rest ≡ Some step → line ≡ name ++ 32 ∷ rest → SaysStep step line
unfolding by_numbers
numbered_back name rest step line is text =
    elim (cases_Option (two_numbers rest)) [
      | inl none ↦
          let one : option_and_then (of_one name) (number_of rest) ≡ Some step = sym (ap (by_numbers name rest) none) ∙ is in
          let read = then_some (of_one name) (number_of rest) step one in
          let number = number_back rest read.0 read.1 in
          plain_says name (read.0 ∷ []) step line (of_one_back name read.0 step read.2)
          (text ∙ ap (λ rest. name ++ 32 ∷ rest) (number.0 ∙ sym (append-nil (decimal read.0))))
          (number.1, tt)
      | inr some ↦
          let two : of_two name some.0.0 some.0.1 ≡ Some step = sym (ap (by_numbers name rest) some.1) ∙ is in
          let numbers = two_back rest some.0 some.1 in
          plain_says name (some.0.0 ∷ some.0.1 ∷ []) step line (of_two_back name some.0.0 some.0.1 step two)
          (text ∙ ap (λ rest. name ++ 32 ∷ rest) (numbers.0 ∙ ap (λ text. decimal some.0.0 ++ 32 ∷ text) (sym (append-nil (decimal some.0.1)))))
          (numbers.1, (numbers.2, tt))
    ]

setup_back : (rest : Bytes) (step : Line) (line : Bytes) → setup_of rest ≡ Some step → line ≡ codes "setup" ++ 32 ∷ rest → SaysStep step line
setup_back rest step line is text =
    let nodes = then_some (λ (nodes : ℕ × Bytes).
    option_and_then (λ (places : ℕ × Bytes).
    option_map (λ (last : ℕ × ℕ). lines.Setup nodes.0 places.0 last.0 last.1) (two_numbers places.1)) (number_then nodes.1)) (number_then rest) step is in
    let places = then_some (λ (places : ℕ × Bytes).
    option_map (λ (last : ℕ × ℕ). lines.Setup nodes.0.0 places.0 last.0 last.1) (two_numbers places.1)) (number_then nodes.0.1) step nodes.2 in
    let last = map_some (λ (last : ℕ × ℕ). lines.Setup nodes.0.0 places.0.0 last.0 last.1) (two_numbers places.0.1) step places.2 in
    let first = first_back rest nodes.0 nodes.1 in
    let second = first_back nodes.0.1 places.0 places.1 in
    let others = two_back places.0.1 last.0 last.1 in
    let all : rest ≡ decimal nodes.0.0 ++ 32 ∷ (decimal places.0.0 ++ 32 ∷ (decimal last.0.0 ++ 32 ∷ (decimal last.0.1 ++ []))) =
    first.0
    ∙ ap (λ text. decimal nodes.0.0 ++ 32 ∷ text) (second.0
    ∙ ap (λ text. decimal places.0.0 ++ 32 ∷ text) (others.0
    ∙ ap (λ text. decimal last.0.0 ++ 32 ∷ text) (sym (append-nil (decimal last.0.1))))) in
    let says : SaysStep (lines.Setup nodes.0.0 places.0.0 last.0.0 last.0.1) line = record {
      rest = [];
      is = text ∙ ap (λ rest. codes "setup" ++ 32 ∷ rest) all;
      fit = (first.1, (second.1, (others.1, (others.2, tt))));
      ends = refl;
    } in
    subst (λ step. SaysStep step line) last.2 says

feed_back : (rest : Bytes) (step : Line) (line : Bytes) → feed_of rest ≡ Some step → line ≡ codes "feed" ++ 32 ∷ rest → SaysStep step line
feed_back rest step line is text =
    let connection = then_some (λ (connection : ℕ × Bytes).
    option_and_then (λ (moment : ℕ × Bytes).
    option_map (λ bytes. lines.Feed connection.0 moment.0 bytes) (text_of moment.1)) (number_then connection.1)) (number_then rest) step is in
    let moment = then_some (λ (moment : ℕ × Bytes).
    option_map (λ bytes. lines.Feed connection.0.0 moment.0 bytes) (text_of moment.1)) (number_then connection.0.1) step connection.2 in
    let bytes = map_some (λ bytes. lines.Feed connection.0.0 moment.0.0 bytes) (text_of moment.0.1) step moment.2 in
    let first = first_back rest connection.0 connection.1 in
    let second = first_back connection.0.1 moment.0 moment.1 in
    let says : SaysStep (lines.Feed connection.0.0 moment.0.0 bytes.0) line = record {
      rest = 32 ∷ moment.0.1;
      is = text ∙ ap (λ rest. codes "feed" ++ 32 ∷ rest) (first.0 ∙ ap (λ text. decimal connection.0.0 ++ 32 ∷ text) second.0);
      fit = (first.1, (second.1, tt));
      ends = (moment.0.1, refl, read_spelled moment.0.1 bytes.0 bytes.1);
    } in
    subst (λ step. SaysStep step line) bytes.2 says

named_back : (name rest : Bytes) (step : Line) (line : Bytes) → named_step name rest ≡ Some step → line ≡ name ++ 32 ∷ rest → SaysStep step line
named_back name rest step line is text =
    elim (chosen (bytes_eq name (codes "feed")) (feed_of rest) (plain_step name rest) (Some step) is) [
      | inl feed ↦ feed_back rest step line feed.1 (text ∙ ap (λ name. name ++ 32 ∷ rest) (same_name name (codes "feed") feed.0))
      | inr other ↦ elim (chosen (bytes_eq name (codes "setup")) (setup_of rest) (numbered name rest) (Some step) other.1) [
        | inl setup ↦ setup_back rest step line setup.1 (text ∙ ap (λ name. name ++ 32 ∷ rest) (same_name name (codes "setup") setup.0))
        | inr numbers ↦ numbered_back name rest step line numbers.1 text
      ]
    ]

by_parts : Bytes → Option (Bytes × Bytes) → Option Line
by_parts line o = elim o [ Some x ↦ named_step x.0 x.1 | None ↦ bare_step line ]

step_back : (line : Bytes) (step : Line) → step_of line ≡ Some step → SaysStep step line
unfolding by_parts
step_back line step is =
    elim (cases_Option (parted 32 line)) [
      | inl none ↦
          let bare : bare_step line ≡ Some step = sym (ap (by_parts line) none) ∙ is in
          elim (chosen (bytes_eq line (codes "settle")) (Some lines.Settle) None (Some step) bare) [
            | inl settle ↦
                let says : SaysStep lines.Settle line = record { rest = []; is = same_name line (codes "settle") settle.0; fit = tt; ends = refl } in
                subst (λ step. SaysStep step line) (some_same lines.Settle step settle.1) says
            | inr other ↦ none_some step other.1
          ]
      | inr parts ↦
          let named : named_step parts.0.0 parts.0.1 ≡ Some step = sym (ap (by_parts line) parts.1) ∙ is in
          named_back parts.0.0 parts.0.1 step line named (parted_back 32 line parts.0 parts.1)
    ]

pub read_said : (step : Line) (line : Bytes) → line_of line ≡ Some (Some step) → SaysStep step line
read_said step line is =
    elim (chosen (is_skipped line) (Some None) (option_map Some (step_of line)) (Some (Some step)) is) [
      | inl skipped ↦ none_some step (some_same None (Some step) skipped.1)
      | inr said ↦
          let read = map_some Some (step_of line) (Some step) said.1 in
          step_back line step (read.1 ∙ read.2)
    ]
