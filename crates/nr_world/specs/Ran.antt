-- What a run of steps came to: the headline.
use Rattle.std.specs.Prelude.{◌≡◌, List, [], ◌∷◌, map, option_map}
use Rattle.nr_model.specs.Connections.{Setup}
use Rattle.nr_model.specs.Nodes as nodes
use Rattle.nr_model.specs.Nodes.Steps as steps
use Rattle.nr_model.specs.Nodes.Pasts.{Event, IsPast}
use Rattle.nr_model.specs.Nodes.Explained.{Explains}
use Rattle.nr_world.specs.declared.step.Happened.{Happened}
use Rattle.nr_world.specs.Seen.{outcome_seen, handed_seen, answer_seen}
use Rattle.nr_world.specs.WorldState.{WorldState, Shows}

-- an event of a step, with what the step handed back
pub record IsOf (step : steps.Step) (happened : Happened) (e : Event) : Type 0 where
  pub step_is : e.step ≡ step
  pub outcome_is : e.outcome ≡ outcome_seen happened.outcome
  pub handed_is : e.handed ≡ map handed_seen happened.handed.items
  pub answer_is : e.answer ≡ option_map answer_seen happened.answer

abbrev pub AreOf : List steps.Step → List Happened → List Event → Type 0
AreOf [] [] [] = Unit {0}
AreOf (step ∷ steps) (happened ∷ more) (e ∷ events) = IsOf step happened e × AreOf steps more events
AreOf _ _ _ = ⊥

-- The events of these steps, with what each handed back, led to a world that is shown, and what was taken in it, in order, explains them.
pub record HasRun (setup : Setup) (steps : List steps.Step) (happened : List Happened) (v : WorldState) : Type 0 where
  pub events : List Event
  pub world : nodes.World
  pub are : AreOf steps happened events
  pub past : IsPast setup events world
  pub shows : Shows v world
  pub explains : Explains (nodes.sequence_of world) setup events world
