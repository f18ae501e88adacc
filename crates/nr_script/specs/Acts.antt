-- What the steps of a script do to a server that is set up, and what they print.
use Rattle.std.specs.Prelude.{◌≡◌, ℕ, List, [], ◌∷◌, ◌++◌, length, map, Option, Some, None, codes}
use Rattle.std.specs.Option.{option_map}
use Rattle.nr_model.specs.Bytes.{Bytes}
use Rattle.nr_model.specs.Connections.{Handed}
use Rattle.nr_model.specs.Nodes.Steps as steps
use Rattle.nr_entry.specs.Jobs.{connection_of}
use Rattle.nr_world.specs.Seen.{outcome_seen, handed_seen, answer_seen}
use Rattle.nr_world.specs.WorldState.{WorldState}
use Rattle.nr_world.specs.Taken.{Steps, Takes}
use Rattle.nr_world.specs.Settles.{SettlesWorld}
use Rattle.nr_world.specs.declared.step.Happened.{Happened}
use Rattle.nr_world.specs.declared.step.StepOutcome.{StepOutcome}
use Rattle.nr_world.specs.declared.step.StepOutcome.TheVariants as outcomes
use Rattle.nr_model.specs.declared.reason.Reason.TheVariants as reasons
use Rattle.nr_script.specs.declared.line.Line.{Line}
use Rattle.nr_script.specs.declared.line.Line.TheVariants as lines
use Rattle.nr_script.specs.Printed.{opened_line, idle_line}
use Rattle.nr_script.specs.Receivers.{Received, connection_at, emptied, handed_lines}

-- what a line asks of a server that is set up: a step, a collect, or that its nodes come to rest; a step of a connection that was never opened; or a setup
pub data Asked : Type 0 where
  Step : steps.Step → Asked
  Collect : ℕ → ℕ → Asked
  Settle : Asked
  Nobody : Asked
  Setup : Asked

abbrev pub asking : Option steps.Step → Asked
asking (Some step) = Step step
asking None = Nobody

abbrev pub asked_by : List Received → Line → Asked
asked_by all (lines.Setup nodes places workers queue) = Setup
asked_by all (lines.Open node worker) = Step (steps.Open node worker)
asked_by all (lines.Feed connection moment bytes) = asking (option_map (λ c. steps.Feed c moment bytes) (connection_at connection all))
asked_by all (lines.Close connection moment) = asking (option_map (λ c. steps.Close c moment) (connection_at connection all))
asked_by all (lines.Fill node to) = Step (steps.Fill node to)
asked_by all (lines.Revive node donor) = Step (steps.Revive node donor)
asked_by all (lines.Post node worker) = Step (steps.Post node worker)
asked_by all (lines.Lift node worker) = Step (steps.Lift node worker)
asked_by all (lines.Answer node worker) = Step (steps.Answer node worker)
asked_by all (lines.Collect node worker) = Collect node worker
asked_by all (lines.Reserve node) = Step (steps.Reserve node)
asked_by all (lines.Fetch node) = Step (steps.Fetch node)
asked_by all (lines.Apply node) = Step (steps.Apply node)
asked_by all (lines.Look node) = Step (steps.Look node)
asked_by all (lines.Refuse node) = Step (steps.Refuse node)
asked_by all lines.Settle = Settle

-- the line of an outcome, where so many connections were opened before
abbrev pub outcome_line : ℕ → StepOutcome → Bytes
outcome_line count (outcomes.Opened conn) = opened_line count
outcome_line count outcomes.Done = codes "done\n"
outcome_line count (outcomes.Idle reason) = idle_line reason

-- a connection that was opened stands behind the others
abbrev pub opened_by : StepOutcome → List Received → List Received
opened_by (outcomes.Opened conn) all = all ++ record { connection = connection_of conn; bytes = [] } ∷ []
opened_by outcomes.Done all = all
opened_by (outcomes.Idle reason) all = all

-- the line of a collect
abbrev pub collected_line : StepOutcome → Bytes
collected_line (outcomes.Opened conn) = codes "done\n"
collected_line outcomes.Done = codes "done\n"
collected_line (outcomes.Idle reason) = idle_line reason

-- an outcome is shown: by its line, and a connection that was opened gets the next number
pub record IsShown (outcome : StepOutcome) (all more : List Received) (before after : Bytes) : Type 0 where
  pub opened : more ≡ opened_by outcome all
  pub printed : after ≡ before ++ outcome_line (length all) outcome

-- what was handed out is shown, behind this line: to each connection its own, and none of it is kept
pub record AreShown (line : Bytes) (handed : List Handed) (all more : List Received) (before after : Bytes) : Type 0 where
  pub taken : more ≡ map emptied all
  pub printed : after ≡ before ++ (line ++ handed_lines handed all)

pub record HasTaken (step : steps.Step) (old new : WorldState) (all more : List Received) (before after : Bytes) : Type 0 where
  pub outcome : StepOutcome
  pub takes : Steps old new step (outcome_seen outcome)
  pub shown : IsShown outcome all more before after

pub record HasCollected (n w : ℕ) (old new : WorldState) (all more : List Received) (before after : Bytes) : Type 0 where
  pub happened : Happened
  pub takes : Takes old new (steps.Collect n w) (outcome_seen happened.outcome) (map handed_seen happened.handed.items)
      (option_map answer_seen happened.answer)
  pub shown : AreShown (collected_line happened.outcome) (map handed_seen happened.handed.items) all more before after

pub record HasSettled (old new : WorldState) (all more : List Received) (before after : Bytes) : Type 0 where
  pub handed : List Handed
  pub settles : SettlesWorld old new handed
  pub shown : AreShown (codes "settled\n") handed all more before after

-- nothing happens
pub record HasMissed (old new : WorldState) (all more : List Received) (before after : Bytes) : Type 0 where
  pub still : new ≡ old
  pub shown : IsShown (outcomes.Idle reasons.NoSuch) all more before after

abbrev pub IsDone : Asked → WorldState → WorldState → List Received → List Received → Bytes → Bytes → Type 0
IsDone (Step step) old new all more before after = HasTaken step old new all more before after
IsDone (Collect n w) old new all more before after = HasCollected n w old new all more before after
IsDone Settle old new all more before after = HasSettled old new all more before after
IsDone Nobody old new all more before after = HasMissed old new all more before after
IsDone Setup old new all more before after = ⊥
