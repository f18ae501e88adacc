-- What the lines of a script say.
use Rattle.std.specs.Prelude.{ℕ, Bool, false, ◌||◌, ◌==◌, if◌then◌else◌, List, [], ◌∷◌, Option, Some, None, ℤ, pos, negsuc, option_map, codes, bytes_eq}
use Rattle.std.specs.Option.{option_and_then}
use Rattle.std.specs.List.{list_all}
use Rattle.nr_model.specs.Bytes.{Bytes}
use Rattle.nr_model.specs.Numbers.{int_value}
use Rattle.nr_model.specs.Requests.{onto_first}
use Rattle.nr_script.specs.declared.line.Line.{Line}
use Rattle.nr_script.specs.declared.line.Line.TheVariants as lines
use Rattle.nr_script.specs.Texts.{text_of}

-- a text in two: what stands before the first such byte, and what stands behind it
abbrev pub parted : ℕ → Bytes → Option (Bytes × Bytes)
parted mark [] = None
parted mark (c ∷ rest) = if c == mark then Some ([], rest) else option_map (λ (x : Bytes × Bytes). (c ∷ x.0, x.1)) (parted mark rest)

-- the lines of a script, without their LF: the last counts where it has none
abbrev pub lines_of : Bytes → List Bytes
lines_of [] = []
lines_of (c ∷ rest) = if c == 10 then [] ∷ lines_of rest else onto_first c (lines_of rest)

-- the lines that are left, and how many were passed
pub record Left : Type 0 where
  pub lines : List Bytes
  pub passed : ℕ

-- space, tab and CR
abbrev pub is_space : ℕ → Bool
is_space c = c == 32 || (c == 9 || c == 13)

abbrev pub begins_comment : Bytes → Bool
begins_comment [] = false
begins_comment (c ∷ rest) = c == 35

-- a line that says nothing: of spaces alone, or a comment
abbrev pub is_skipped : Bytes → Bool
is_skipped line = begins_comment line || list_all is_space line

abbrev pub natural : ℤ → Option ℕ
natural (pos n) = Some n
natural (negsuc n) = None

-- a number: an integer's text, of at least 0
abbrev pub number_of : Bytes → Option ℕ
number_of word = option_and_then natural (int_value word)

-- a number, and what stands behind the space that ends it
abbrev pub number_then : Bytes → Option (ℕ × Bytes)
number_then text = option_and_then (λ (x : Bytes × Bytes). option_map (λ n. (n, x.1)) (number_of x.0)) (parted 32 text)

abbrev pub two_numbers : Bytes → Option (ℕ × ℕ)
two_numbers text = option_and_then (λ (x : ℕ × Bytes). option_map (λ n. (x.0, n)) (number_of x.1)) (number_then text)

abbrev pub setup_of : Bytes → Option Line
setup_of text =
    option_and_then (λ (nodes : ℕ × Bytes).
    option_and_then (λ (places : ℕ × Bytes).
    option_map (λ (last : ℕ × ℕ). lines.Setup nodes.0 places.0 last.0 last.1) (two_numbers places.1)) (number_then nodes.1)) (number_then text)

abbrev pub feed_of : Bytes → Option Line
feed_of text =
    option_and_then (λ (connection : ℕ × Bytes).
    option_and_then (λ (moment : ℕ × Bytes).
    option_map (λ bytes. lines.Feed connection.0 moment.0 bytes) (text_of moment.1)) (number_then connection.1)) (number_then text)

-- a step with two numbers
abbrev pub of_two : Bytes → ℕ → ℕ → Option Line
of_two name first second =
    if bytes_eq name (codes "open") then Some (lines.Open first second)
    else if bytes_eq name (codes "close") then Some (lines.Close first second)
    else if bytes_eq name (codes "fill") then Some (lines.Fill first second)
    else if bytes_eq name (codes "post") then Some (lines.Post first second)
    else if bytes_eq name (codes "lift") then Some (lines.Lift first second)
    else if bytes_eq name (codes "answer") then Some (lines.Answer first second)
    else if bytes_eq name (codes "collect") then Some (lines.Collect first second)
    else if bytes_eq name (codes "revive") then Some (lines.Revive first second)
    else None

-- a step with one number
abbrev pub of_one : Bytes → ℕ → Option Line
of_one name node =
    if bytes_eq name (codes "reserve") then Some (lines.Reserve node)
    else if bytes_eq name (codes "fetch") then Some (lines.Fetch node)
    else if bytes_eq name (codes "apply") then Some (lines.Apply node)
    else if bytes_eq name (codes "look") then Some (lines.Look node)
    else if bytes_eq name (codes "refuse") then Some (lines.Refuse node)
    else None

abbrev pub numbered : Bytes → Bytes → Option Line
numbered name rest =
    elim (two_numbers rest) [
      | Some x ↦ of_two name x.0 x.1
      | None ↦ option_and_then (of_one name) (number_of rest)
    ]

-- a step of numbers
abbrev pub plain_step : Bytes → Bytes → Option Line
plain_step name rest = if bytes_eq name (codes "setup") then setup_of rest else numbered name rest

-- a step whose name has something behind it
abbrev pub named_step : Bytes → Bytes → Option Line
named_step name rest = if bytes_eq name (codes "feed") then feed_of rest else plain_step name rest

abbrev pub bare_step : Bytes → Option Line
bare_step line = if bytes_eq line (codes "settle") then Some lines.Settle else None

abbrev pub step_of : Bytes → Option Line
step_of line =
    elim (parted 32 line) [
      | Some x ↦ named_step x.0 x.1
      | None ↦ bare_step line
    ]

-- What a line says: nothing, a step, or, where it is no line of a script, none.
abbrev pub line_of : Bytes → Option (Option Line)
line_of line = if is_skipped line then Some None else option_map Some (step_of line)
