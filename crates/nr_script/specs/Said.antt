-- The texts of steps, said of the whole line.
use Rattle.std.specs.Prelude.{◌≡◌, ℕ, ◌<◌, ◌^◌, List, [], ◌∷◌, ◌++◌, Some, codes, decimal}
use Rattle.std.specs.List.{AllByRecursion}
use Rattle.nr_model.specs.Bytes.{Bytes}
use Rattle.nr_script.specs.declared.line.Line.{Line}
use Rattle.nr_script.specs.declared.line.Line.TheVariants as lines
use Rattle.nr_script.specs.Lines.{line_of}
use Rattle.nr_script.specs.Spellings.{Spells}

abbrev pub step_name : Line → Bytes
step_name (lines.Setup nodes places workers queue) = codes "setup"
step_name (lines.Open node worker) = codes "open"
step_name (lines.Feed connection moment bytes) = codes "feed"
step_name (lines.Close connection moment) = codes "close"
step_name (lines.Fill node to) = codes "fill"
step_name (lines.Revive node donor) = codes "revive"
step_name (lines.Post node worker) = codes "post"
step_name (lines.Lift node worker) = codes "lift"
step_name (lines.Answer node worker) = codes "answer"
step_name (lines.Collect node worker) = codes "collect"
step_name (lines.Reserve node) = codes "reserve"
step_name (lines.Fetch node) = codes "fetch"
step_name (lines.Apply node) = codes "apply"
step_name (lines.Look node) = codes "look"
step_name (lines.Refuse node) = codes "refuse"
step_name lines.Settle = codes "settle"

abbrev pub step_numbers : Line → List ℕ
step_numbers (lines.Setup nodes places workers queue) = nodes ∷ places ∷ workers ∷ queue ∷ []
step_numbers (lines.Open node worker) = node ∷ worker ∷ []
step_numbers (lines.Feed connection moment bytes) = connection ∷ moment ∷ []
step_numbers (lines.Close connection moment) = connection ∷ moment ∷ []
step_numbers (lines.Fill node to) = node ∷ to ∷ []
step_numbers (lines.Revive node donor) = node ∷ donor ∷ []
step_numbers (lines.Post node worker) = node ∷ worker ∷ []
step_numbers (lines.Lift node worker) = node ∷ worker ∷ []
step_numbers (lines.Answer node worker) = node ∷ worker ∷ []
step_numbers (lines.Collect node worker) = node ∷ worker ∷ []
step_numbers (lines.Reserve node) = node ∷ []
step_numbers (lines.Fetch node) = node ∷ []
step_numbers (lines.Apply node) = node ∷ []
step_numbers (lines.Look node) = node ∷ []
step_numbers (lines.Refuse node) = node ∷ []
step_numbers lines.Settle = []

-- what stands behind the numbers: nothing, or a space and a text that spells the bytes
abbrev pub EndsStep : Line → Bytes → Type 0
EndsStep (lines.Setup nodes places workers queue) rest = rest ≡ []
EndsStep (lines.Open node worker) rest = rest ≡ []
EndsStep (lines.Feed connection moment bytes) rest = (text : Bytes) × (rest ≡ 32 ∷ text) × Spells text bytes
EndsStep (lines.Close connection moment) rest = rest ≡ []
EndsStep (lines.Fill node to) rest = rest ≡ []
EndsStep (lines.Revive node donor) rest = rest ≡ []
EndsStep (lines.Post node worker) rest = rest ≡ []
EndsStep (lines.Lift node worker) rest = rest ≡ []
EndsStep (lines.Answer node worker) rest = rest ≡ []
EndsStep (lines.Collect node worker) rest = rest ≡ []
EndsStep (lines.Reserve node) rest = rest ≡ []
EndsStep (lines.Fetch node) rest = rest ≡ []
EndsStep (lines.Apply node) rest = rest ≡ []
EndsStep (lines.Look node) rest = rest ≡ []
EndsStep (lines.Refuse node) rest = rest ≡ []
EndsStep lines.Settle rest = rest ≡ []

-- numbers, a space before each, and what stands behind them
abbrev pub numbers_before : List ℕ → Bytes → Bytes
numbers_before [] rest = rest
numbers_before (n ∷ ns) rest = 32 ∷ (decimal n ++ numbers_before ns rest)

-- A line says a step: its name, its numbers, and what ends it.
pub record SaysStep (step : Line) (line : Bytes) : Type 0 where
  pub rest : Bytes
  pub is : line ≡ step_name step ++ numbers_before (step_numbers step) rest
  pub fit : AllByRecursion (λ n. n < 2 ^ 63) (step_numbers step)
  pub ends : EndsStep step rest

-- a line that says a step is read as that step
abbrev pub SaidIsRead : Type 0
SaidIsRead = (step : Line) (line : Bytes) → SaysStep step line → line_of line ≡ Some (Some step)

-- and no other line is
abbrev pub ReadIsSaid : Type 0
ReadIsSaid = (step : Line) (line : Bytes) → line_of line ≡ Some (Some step) → SaysStep step line
