-- What a step that was taken comes to.
use Rattle.std.proofs.Common.{◌≡◌, ℕ, zero, suc, ◌≤◌, ◌<◌, ◌++◌, Option, Some, None, List, [], ◌∷◌, length, get_or, refl, ap, sym, ◌∙◌, subst, arith}
use Rattle.std.specs.Option.{option_map}
use Rattle.nr_model.specs.Bytes.{Bytes}
use Rattle.nr_model.specs.Items.{Connection}
use Rattle.nr_model.specs.Nodes.Steps as steps
use Rattle.nr_world.specs.declared.step.StepOutcome.{StepOutcome}
use Rattle.nr_world.specs.declared.step.StepOutcome.TheVariants as outcomes
use Rattle.nr_model.specs.declared.reason.Reason.TheVariants as reasons
use Rattle.nr_world.specs.Seen.{outcome_seen}
use Rattle.nr_world.specs.WorldState.{WorldState}
use Rattle.nr_world.specs.Taken.{Steps}
use Rattle.nr_script.specs.declared.line.Line.{Line}
use Rattle.nr_script.specs.Receivers.{Received, connection_at}
use Rattle.nr_script.specs.Acts.{Asked, Step, Nobody, asking, asked_by, outcome_line, opened_by, IsDone}

pub took : (asked : Asked) (step : steps.Step) (o : StepOutcome) (old new : WorldState) (all more : List Received) (before after : Bytes) → asked ≡ Step step
    → Steps old new step (outcome_seen o) → more ≡ opened_by o all → after ≡ before ++ outcome_line (length all) o
    → IsDone asked old new all more before after
took asked step o old new all more before after is takes opened printed =
    subst (λ (a : Asked). IsDone a old new all more before after) (sym is)
    (record { outcome = o; takes = takes; shown = record { opened = opened; printed = printed } })

pub missed : (asked : Asked) (old new : WorldState) (all more : List Received) (before after : Bytes) → asked ≡ Nobody → new ≡ old
    → more ≡ opened_by (outcomes.Idle reasons.NoSuch) all → after ≡ before ++ outcome_line (length all) (outcomes.Idle reasons.NoSuch)
    → IsDone asked old new all more before after
missed asked old new all more before after is still opened printed =
    subst (λ (a : Asked). IsDone a old new all more before after) (sym is) (record { still = still; shown = record { opened = opened; printed = printed } })

-- the connection that a number names
found_at : (n : ℕ) (all : List Received) (c : Connection) → n < length all → ((d : Received) → (get_or all n d).connection ≡ c) → connection_at n all ≡ Some c
found_at n [] c below is = absurd (omega arith)
found_at zero (r ∷ all) c below is = ap (λ (x : Connection). Some x) (is r)
found_at (suc n) (r ∷ all) c below is = found_at n all c (omega arith) is

none_at : (n : ℕ) (all : List Received) → length all ≤ n → connection_at n all ≡ None
none_at n [] past = refl
none_at zero (r ∷ all) past = absurd (omega arith)
none_at (suc n) (r ∷ all) past = none_at n all (omega arith)

-- what is asked of a connection that was opened, and of one that wasn't
pub asks_step : (line : Line) (f : Connection → steps.Step) (n : ℕ) (all : List Received) (c : Connection)
    → asked_by all line ≡ asking (option_map f (connection_at n all)) → n < length all → ((d : Received) → (get_or all n d).connection ≡ c)
    → asked_by all line ≡ Step (f c)
asks_step line f n all c is below at = is ∙ ap (λ (o : Option Connection). asking (option_map f o)) (found_at n all c below at)

pub asks_nobody : (line : Line) (f : Connection → steps.Step) (n : ℕ) (all : List Received) → asked_by all line ≡ asking (option_map f (connection_at n all))
    → length all ≤ n → asked_by all line ≡ Nobody
asks_nobody line f n all is past = is ∙ ap (λ (o : Option Connection). asking (option_map f o)) (none_at n all past)
